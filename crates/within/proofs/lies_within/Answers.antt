-- `within::lies_within` meets its contract: by `field_within`; in more octets than a message has there are no codes.
-- Assumes nothing.
use mathlib.Core.Path.{sym}
use native.Mathlib.Omega.{arith}
use borrow.Author.Rules.{rules}
use lib.ListN.{drop, length-drop}
use Rattle.tree.specs.Fields.{all_in}
use Rattle.tree.proofs.Lowest.{codes_long}
use Rattle.tree.proofs.Wide.{fits_short, wide_short}
use Rattle.within.proofs.Beside.{within_codes, within_none}
use Rattle.within.proofs.lies_within.Goals as goal

pub returns-then-s-gt-MOST_OCTETS : goal.returns-then-s-gt-MOST_OCTETS
unfolding all_in
returns-then-s-gt-MOST_OCTETS c = let a = c.args in rw (codes_long a.field a.s.now a.i c.if-s-gt-MOST_OCTETS.true)

pub field_within-requires : goal.field_within-requires
field_within-requires c = (fits_short _ _ (search rules), fits_short _ _ (search rules))

pub returns-then-t-gt-MOST_OCTETS : goal.returns-then-t-gt-MOST_OCTETS
returns-then-t-gt-MOST_OCTETS c =
    let a = c.args in
    rw (codes_long a.field a.t.now a.j c.if-t-gt-MOST_OCTETS.true) (within_none a.field a.s.now a.i c.if-s-gt-MOST_OCTETS.false c.field_within.ensures)

pub field_within-requires-2 : goal.field_within-requires-2
field_within-requires-2 c = (fits_short _ _ (search rules), fits_short _ _ (search rules))

pub returns : goal.returns
returns c =
    let a = c.args in
    rw (sym (wide_short a.field a.t.now a.j c.if-t-gt-MOST_OCTETS.false))
    (within_codes a.field a.s.now a.i a.t.now a.j c.if-s-gt-MOST_OCTETS.false (fits_short (drop a.j a.t.now) 0 (omega (arith, length-drop a.j a.t.now, c.if-t-gt-MOST_OCTETS.false))) c.field_within-2.ensures)
