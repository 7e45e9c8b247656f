-- `fill::Octets::fill_pars` meets its contract. The loop's invariant: all but the codes that the octets from i on give are stored (`OctetsGoing`).
-- Assumes nothing.
use Rattle.tree.specs.Codes.{of_s, par_codes, pars_behind}
use Rattle.fill.proofs.Rows.{Above, OctetsGoing}
use Rattle.fill.proofs.Octets.fill_pars.Given as goal

abbrev pub invariant-loop-i : goal.invariant-loop-i
invariant-loop-i g l =
    Above (λ p. OctetsGoing g.T.Item.stored (λ qs f. par_codes l.base qs l.self.run.now f) (λ k f. pars_behind k l.self.run.now f) 7 0 l.self.run.now l.e l.initial.tally l.initial.list l.list l.tally p l.i) l.base of_s l.above
