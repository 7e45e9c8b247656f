-- `strike::Source::put_subs` meets its contract. The loop's invariant: all but what the positions that are left give was put (`Counting`).
-- Assumes nothing.
use lib.ListN.{length}
use Rattle.tree.specs.Block.{numbers}
use Rattle.tree.specs.Codes.{subs_behind}
use Rattle.strike.specs.Inner.{SubsFine, subs_kept}
use Rattle.strike.proofs.Going.{Counting}
use Rattle.strike.proofs.Source.put_subs.Given as goal

abbrev pub invariant-loop-t : goal.invariant-loop-t
invariant-loop-t l = Counting (λ qs f. subs_kept l.self.keep l.branch.base l.branch.places qs l.self.s.now f) (λ n f. subs_behind n l.self.s.now f) (λ n f. SubsFine n l.self.s.now f) (length l.self.s.now) (numbers 6 64 0 l.self.s.now l.e) l.initial.spot l.initial.out l.t-iterator l.out l.spot
