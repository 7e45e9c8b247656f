-- `within::has_first` meets its contract: the position is a bit of the octet at the place.
-- Assumes nothing.
use mathlib.Core.Path.{sym}
use Rattle.within.proofs.Opening.{first_long, first_low, first_high, first_bit}
use Rattle.within.proofs.has_first.Goals as goal

pub returns-then-s-gt-MOST_OCTETS : goal.returns-then-s-gt-MOST_OCTETS
returns-then-s-gt-MOST_OCTETS c = sym (first_long _ _ _ _ c.if-s-gt-MOST_OCTETS.true)

pub returns-then-q-eq0 : goal.returns-then-q-eq0
returns-then-q-eq0 c = sym (first_low _ _ _ _ c.if-q-eq0.true)

pub returns-then-q-gt7 : goal.returns-then-q-gt7
returns-then-q-gt7 c = sym (first_high _ _ _ _ c.if-q-gt7.true)

pub returns : goal.returns
returns c = rw c.octet_or_zero.ensures (sym (first_bit _ _ _ _ c.if-s-gt-MOST_OCTETS.false c.if-q-eq0.false c.if-q-gt7.false))
