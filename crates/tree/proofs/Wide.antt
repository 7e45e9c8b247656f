-- Octets in which no position is above 511.
-- Assumes nothing.
use Prim.Native.Nat.{ℕ, zero, suc, ◌+◌, ◌-◌, ◌%◌, ◌<◌, ◌≤◌}
use mathlib.Core.Bool.{Bool, true, false}
use mathlib.Core.List.{List, [], ◌∷◌}
use mathlib.Core.Path.{◌≡◌, refl, ◌∙◌}
use native.Mathlib.Numerals.{add-one}
use native.Mathlib.Omega.{arith}
use borrow.Author.Tests.{lt-ltb, le-ltb, ltb-true, ltb-false, le-leb}
use lib.Dec.{ltb, leb}
use lib.ListN.{length, get_or, drop, drop_of_length-le, length-drop}
use lib.Seq.{drop-cons}
use Rattle.octets.specs.Places.{pick, both}
use Rattle.octets.proofs.Laws.{both_true}
use Rattle.tree.specs.Block.{behind}
use Rattle.tree.specs.Fields.{codes_in}
use Rattle.tree.specs.Wide.{low_octets, top_octets, octet_fits, low_fits, top_fits, field_fits, codes_wide}
use Rattle.tree.specs.declared.Field.{Field}
use Rattle.tree.proofs.Few.{block_few}
use Rattle.tree.proofs.Lowest.{codes_short}

-- ---- blocks below level 1

-- one octet more
module _ (l : List ℕ) (i k : ℕ) (h : i < length l) where
  octet_next : low_fits k (drop i l) ≡ both (octet_fits k (get_or l i 0)) (low_fits (pick (ltb (get_or l i 0) 64) (k + 1) 0) (drop (i + 1) l))
  unfolding low_fits
  octet_next = rw (drop-cons l i 0, add-one i)

  pub low_wide : octet_fits k (get_or l i 0) ≡ false → low_fits k (drop i l) ≡ false
  low_wide f = octet_next ∙ rw f

  module _ (f : octet_fits k (get_or l i 0) ≡ true) where
    pub low_on : get_or l i 0 < 64 → low_fits k (drop i l) ≡ low_fits (k + 1) (drop (i + 1) l)
    low_on a = octet_next ∙ rw (f, lt-ltb _ _ a)

    pub low_last : 64 ≤ get_or l i 0 → low_fits k (drop i l) ≡ low_fits 0 (drop (i + 1) l)
    low_last a = octet_next ∙ rw (f, le-ltb _ _ a)

-- no octet is left
pub low_out : (l : List ℕ) (i k : ℕ) → length l ≤ i → low_fits k (drop i l) ≡ true
unfolding low_fits
low_out l i k h = rw (drop_of_length-le l {i = i} h)

-- fewer octets before do no harm
octet_lower : (j k o : ℕ) → j ≤ k → octet_fits k o ≡ true → octet_fits j o ≡ true
octet_lower j k o h f = go (ltb j low_octets) (ltb k low_octets) (pick (ltb o 64) false (leb (o % 64) 1)) refl refl f
  where
    go : (a b t : Bool) → ltb j low_octets ≡ a → ltb k low_octets ≡ b → pick b true t ≡ true → pick a true t ≡ true
    go true b t d e g = refl
    go false true t d e g = absurd (omega (arith, ltb-false j low_octets d, ltb-true k low_octets e))
    go false false t d e g = g

low_lower : (j k : ℕ) (l : List ℕ) → j ≤ k → low_fits k l ≡ true → low_fits j l ≡ true
unfolding low_fits
low_lower j k [] h f = refl
low_lower j k (o ∷ l) h f = let p = both_true (octet_fits k o) _ f in rw (octet_lower j k o h p.0) (low_lower (pick (ltb o 64) (j + 1) 0) (pick (ltb o 64) (k + 1) 0) l (less (ltb o 64)) p.1)
  where
    less : (t : Bool) → pick t (j + 1) 0 ≤ pick t (k + 1) 0
    less true = omega arith
    less false = omega arith

-- so blocks may be read from any place on
pub low_drop : (e : ℕ) (l : List ℕ) → low_fits 0 l ≡ true → low_fits 0 (drop e l) ≡ true
unfolding low_fits
low_drop zero l f = f
low_drop (suc e) [] f = refl
low_drop (suc e) (o ∷ l) f = low_drop e l (low_lower 0 (pick (ltb o 64) (0 + 1) 0) l (omega arith) (both_true (octet_fits 0 o) _ f).1)

-- ---- a field

-- what is asked of it
pub fits_parts : (l : List ℕ) (at : ℕ) → field_fits l at ≡ true → (top_fits l at ≡ true) × (top_fits l (behind 128 l at) ≡ true) × (low_fits 0 l ≡ true)
unfolding field_fits
fits_parts l at h =
    let p = both_true (top_fits l at) _ h in
    let q = both_true (top_fits l (behind 128 l at)) (low_fits 0 l) p.1 in
    (p.0, q.0, q.1)

pub wide_none : (f : Field) (l : List ℕ) (at : ℕ) → field_fits (drop at l) 0 ≡ false → codes_wide f l at ≡ []
unfolding codes_wide
wide_none f l at h = rw h

-- ---- in a message's octets no position is above 511

low_few : (k : ℕ) (l : List ℕ) → k + length l ≤ low_octets → low_fits k l ≡ true
unfolding low_fits
low_few k [] h = refl
low_few k (o ∷ l) h = rw (lt-ltb k low_octets (omega arith)) (low_few (pick (ltb o 64) (k + 1) 0) l (less (ltb o 64)))
  where
    less : (t : Bool) → pick t (k + 1) 0 + length l ≤ low_octets
    less true = omega arith
    less false = omega arith

pub low_short : (l : List ℕ) → length l ≤ 64 → low_fits 0 l ≡ true
low_short l h = low_few 0 l (omega arith)

pub top_short : (l : List ℕ) (e : ℕ) → length l ≤ 64 → top_fits l e ≡ true
top_short l e h = le-leb (behind 128 l e - e) top_octets (omega (arith, (block_few 7 128 0 e (drop e l)).1, length-drop e l))

pub fits_short : (l : List ℕ) (at : ℕ) → length l ≤ 64 → field_fits l at ≡ true
unfolding field_fits
fits_short l at h = rw (top_short l at h, top_short l (behind 128 l at) h) (low_short l h)

-- so the codes are those of a message
pub wide_short : (f : Field) (l : List ℕ) (at : ℕ) → length l ≤ 64 → codes_wide f l at ≡ codes_in f l at
unfolding codes_wide
wide_short f l at h = rw (fits_short (drop at l) 0 (omega (arith, length-drop at l))) (codes_short f l at h refl)
