-- `fill::Octets::fill_subs_of` meets its contract. The loop's invariant (`BitsGoing`, at the position that the code stands above): the codes of all bits but those left are stored. The measure is the bits left, as a number.
-- Assumes nothing.
use Rattle.tree.specs.Codes.{of_t, sub_codes, subs_behind}
use Rattle.fill.proofs.Rows.{BitsGoing, Above}
use Rattle.fill.proofs.Octets.fill_subs_of.Given as goal

abbrev pub invariant-loop-bits : goal.invariant-loop-bits
invariant-loop-bits g l =
    Above (BitsGoing g.T.Item.stored (λ qs e. sub_codes l.c qs l.self.run.now e) (λ k e. subs_behind k l.self.run.now e) 0 l.octet l.initial.tally l.initial.list l.list l.tally l.bits) l.c of_t l.code

abbrev pub decreases-loop-bits : goal.decreases-loop-bits
decreases-loop-bits g l = l.bits
