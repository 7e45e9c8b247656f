-- `fill::Octets::fill_pars_of` meets its contract. The loop's invariant (`BitsGoing`, at the position that the code stands above): the codes of all bits but those left are stored. The measure is the bits left, as a number.
-- Assumes nothing.
use Rattle.tree.specs.Codes.{of_s, par_codes, pars_behind}
use Rattle.fill.proofs.Rows.{BitsGoing, Above}
use Rattle.fill.proofs.Octets.fill_pars_of.Given as goal

abbrev pub invariant-loop-bits : goal.invariant-loop-bits
invariant-loop-bits g l =
    Above (BitsGoing g.T.Item.stored (λ qs e. par_codes l.base qs l.self.run.now e) (λ k e. pars_behind k l.self.run.now e) 0 l.octet l.initial.tally l.initial.list l.list l.tally l.bits) l.base of_s l.code

abbrev pub decreases-loop-bits : goal.decreases-loop-bits
decreases-loop-bits g l = l.bits
