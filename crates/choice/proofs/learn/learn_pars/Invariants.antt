-- `choice::learn::learn_pars` meets its contract. The loop's invariant: what is put with the positions left is what is put with all.
-- Assumes nothing.
use mathlib.Core.Path.{◌≡◌}
use Rattle.tree.specs.Block.{numbers}
use Rattle.tree.specs.Order.{AllBelow}
use Rattle.good.specs.Learned.{pars_put}
use Rattle.choice.proofs.learn.learn_pars.Given as goal

abbrev pub invariant-loop-q : goal.invariant-loop-q
invariant-loop-q l =
    AllBelow 10 l.q-iterator × (pars_put l.q-iterator l.t l.at l.bits ≡ pars_put (numbers 7 128 0 l.t l.e) l.t l.start l.initial.bits)
