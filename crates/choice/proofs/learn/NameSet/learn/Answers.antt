-- `choice::learn::NameSet::learn` meets its contract: SPar(1), and then the Par(2) blocks that it announces.
-- Assumes nothing.
use mathlib.Core.Path.{refl}
use Rattle.good.proofs.OwnNames.{spars_low, names_are}
use Rattle.choice.proofs.learn.NameSet.learn.Goals as goal

pub learn_pars-requires : goal.learn_pars-requires
learn_pars-requires c = spars_low c.args.own.now c.requires c.top_behind-e.ensures

pub returns : goal.returns
returns c =
    names_are c.args.own.now c.requires c.top_behind-e.ensures c.top_behind-start.ensures c.block_bits.ensures refl c.learn_pars.ensures

pub invariant_of-self : goal.invariant_of-self
invariant_of-self c =
    record { fit = (names_are c.args.own.now c.requires c.top_behind-e.ensures c.top_behind-start.ensures c.block_bits.ensures refl c.learn_pars.ensures).fit }
