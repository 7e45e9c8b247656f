-- `choice::judge::pars_good` meets its contract. The loop's invariant: the Par(2) blocks are good exactly if those of the positions left are.
-- Assumes nothing.
use mathlib.Core.Path.{◌≡◌}
use Rattle.tree.specs.Block.{numbers}
use Rattle.good.specs.Goodness.{pars_judged}
use Rattle.choice.proofs.judge.pars_good.Given as goal

abbrev pub invariant-loop-q : goal.invariant-loop-q
invariant-loop-q l = pars_judged l.names.bits l.q-iterator l.s l.at ≡ pars_judged l.names.bits (numbers 7 128 0 l.s l.e) l.s l.start
