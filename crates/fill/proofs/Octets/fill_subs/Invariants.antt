-- `fill::Octets::fill_subs` meets its contract. The loop's invariant: all but the codes that the octets from i on give are stored (`OctetsGoing`).
-- Assumes nothing.
use Rattle.tree.specs.Codes.{of_t, sub_codes, subs_behind}
use Rattle.fill.proofs.Rows.{Above, OctetsGoing}
use Rattle.fill.proofs.Octets.fill_subs.Given as goal

abbrev pub invariant-loop-i : goal.invariant-loop-i
invariant-loop-i g l =
    Above (λ p. OctetsGoing g.T.Item.stored (λ ts f. sub_codes l.c ts l.self.run.now f) (λ k f. subs_behind k l.self.run.now f) 6 0 l.self.run.now l.e l.initial.tally l.initial.list l.list l.tally p l.i) l.c of_t l.above
