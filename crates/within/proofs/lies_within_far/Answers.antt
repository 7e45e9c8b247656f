-- `within::lies_within_far` meets its contract: by `field_within` where the other octets are more than a message has and the field in
-- them fits, else by `lies_within`, since it has the same codes then.
-- Assumes nothing.
use Prim.Native.Nat.{ℕ, ◌-◌}
use mathlib.Core.List.{List}
use mathlib.Core.Path.{◌≡◌, sym, ap, ◌∙◌}
use native.Mathlib.Nat.{le_of_eq}
use lib.ListN.{length, take, drop, length-drop}
use lib.Seq.{take_all}
use Rattle.tree.specs.Fields.{codes_in, all_in}
use Rattle.tree.specs.Wide.{codes_wide}
use Rattle.tree.proofs.Lowest.{codes_long}
use Rattle.tree.proofs.Wide.{fits_short, wide_none, wide_short}
use Rattle.within.proofs.Beside.{within_codes, within_part, wide_out}
use Rattle.within.proofs.lies_within_far.Goals as goal
use Rattle.within.proofs.lies_within_far.Goals.{then-t-gt-MOST_OCTETS+then-j-t+else-field_fits, then-t-gt-MOST_OCTETS+else-j-t, else-t-gt-MOST_OCTETS}

-- the part that is looked at
part : (t : List ℕ) (j : ℕ) → take (length t - j) (drop j t) ≡ drop j t
part t j = take_all (length t - j) (drop j t) (le_of_eq (length-drop j t))

pub returns-then-s-gt-MOST_OCTETS : goal.returns-then-s-gt-MOST_OCTETS
unfolding all_in
returns-then-s-gt-MOST_OCTETS c = let a = c.args in rw (codes_long a.field a.s.now a.i c.if-s-gt-MOST_OCTETS.true)

pub field_within-requires : goal.field_within-requires
field_within-requires c = (fits_short _ _ c.if-s-gt-MOST_OCTETS.false, sym c.field_fits.ensures ∙ c.if-field_fits.true)

pub returns-then-field_fits : goal.returns-then-field_fits
returns-then-field_fits c =
    let a = c.args in
    let p = part a.t.now a.j in
    within_codes a.field _ _ _ _ c.if-s-gt-MOST_OCTETS.false (sym (rw p at c.field_fits.ensures) ∙ c.if-field_fits.true)
    (within_part _ _ a.t.now a.j (rw p at c.field_within.ensures))

pub returns : goal.returns
returns c =
    let a = c.args in
    let p = part a.t.now a.j in
    let none = codes_long a.field a.t.now a.j in
    let same : codes_wide a.field a.t.now a.j ≡ codes_in a.field a.t.now a.j = elim c.if-t-gt-MOST_OCTETS.branch [
      | then-t-gt-MOST_OCTETS+then-j-t+else-field_fits w ↦ wide_none a.field a.t.now a.j (sym (rw p at w.field_fits.ensures) ∙ w.if-field_fits.false) ∙ sym (none w.if-t-gt-MOST_OCTETS.true)
      | then-t-gt-MOST_OCTETS+else-j-t w ↦ wide_out a.field a.t.now a.j w.if-j-t.false ∙ sym (none w.if-t-gt-MOST_OCTETS.true)
      | else-t-gt-MOST_OCTETS w ↦ wide_short a.field a.t.now a.j w.if-t-gt-MOST_OCTETS.false
    ] in
    c.lies_within.ensures ∙ ap (all_in (codes_in a.field a.s.now a.i)) (sym same)
