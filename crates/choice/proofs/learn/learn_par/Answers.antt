-- `choice::learn::learn_par` meets its contract: NPar(2), and then what stands behind it.
-- Assumes nothing.
use Rattle.good.proofs.Putting.{par_some}
use Rattle.choice.proofs.learn.learn_par.Goals as goal

pub returns : goal.returns
returns c =
    par_some c.args.q c.args.t.now c.args.e c.args.bits.now c.block_behind-next.ensures c.block_bits.ensures c.learn_group.ensures
