-- `strike::Source::put_pars` meets its contract. The loop's invariant: all but what the positions that are left give was put (`Counting`).
-- Assumes nothing.
use mathlib.Core.Path.{◌≡◌}
use lib.ListN.{length}
use Rattle.tree.specs.Block.{numbers}
use Rattle.tree.specs.Codes.{pars_behind}
use Rattle.tree.specs.Form.{Fine, pars_form}
use Rattle.strike.specs.Inner.{pars_kept}
use Rattle.strike.proofs.Going.{Counting}
use Rattle.strike.proofs.Source.put_pars.Given as goal

abbrev pub invariant-loop-q : goal.invariant-loop-q
invariant-loop-q l = Counting (λ qs f. pars_kept l.self.keep l.branch.base l.branch.places qs l.self.s.now f) (λ n f. pars_behind n l.self.s.now f) (λ n f. pars_form n l.self.s.now f ≡ Fine) (length l.self.s.now) (numbers 7 128 0 l.self.s.now l.e) l.initial.spot l.initial.out l.q-iterator l.out l.spot
