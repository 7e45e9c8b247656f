-- A good field is what is written of its tree: a field is good exactly if rewriting it with the named standard parameters leaves it as
-- it is.
-- Assumes nothing.
use Prim.Native.Nat.{ℕ, ◌≤◌, ◌<◌}
use mathlib.Core.Bool.{Bool, true, false}
use mathlib.Core.List.{List, [], ◌∷◌, ◌++◌, append-nil}
use mathlib.Core.Path.{◌≡◌, refl, sym, ap, ◌∙◌}
use native.Mathlib.Omega.{arith}
use borrow.Author.Tests.{le-leb, eq-eqb, le-ltb}
use lib.ListN.{length, drop, length-drop, drop_of_length-le}
use Rattle.octets.specs.Places.{pick}
use Rattle.octets.specs.Bits.{AreOctets}
use Rattle.tree.specs.Codes.{field_base, field_codes, field_behind}
use Rattle.tree.specs.Form.{is_fine}
use Rattle.tree.specs.Fields.{codes_in, form_in}
use Rattle.tree.specs.declared.Field.TheVariants as fields
use Rattle.tree.proofs.Forms.{form_in_lem, field_fits}
use Rattle.meaning.specs.Written.{written}
use Rattle.meaning.proofs.Growing.{written_tree}
use Rattle.octets.proofs.Laws.{both_true}
use Rattle.meaning.proofs.Minimals.{minimal_stands}
use Rattle.meaning.proofs.Reading.{tree_at, tree_codes_lem, tree_good}
use Rattle.meaning.proofs.RoundTrip.{field_back}
use Rattle.meaning.proofs.Trees.{tree_octets}
use Rattle.names.specs.Named.{standard_code}
use Rattle.names.specs.Masks.{only}
use Rattle.names.specs.declared.Keep.TheVariants.{Standard}
use Rattle.good.specs.Good.{most_standard, all_standard, good_field}
use Rattle.good.proofs.Parts.{GoodParts, good_parts}
use Rattle.strike.specs.Rewriting.{kept, rewritten}
use Rattle.strike.proofs.Crossing.{kept_means}

-- of codes that are all standard, all are left
pub standard_stay : (l : List ℕ) → all_standard l ≡ true → only standard_code l ≡ l
unfolding all_standard only
standard_stay [] h = refl
standard_stay (c ∷ l) h = let p = both_true (standard_code c) (all_standard l) h in rw (p.0, standard_stay l p.1)

-- a good field is the octets of its tree
pub good_tree : (t : List ℕ) → AreOctets t → GoodParts t → tree_octets (tree_at t 0) ≡ t
good_tree t o g =
    let T = tree_octets (tree_at t 0) in
    let end : drop (field_behind t 0) t ≡ [] = drop_of_length-le t {i = field_behind t 0} (omega (arith, g.whole)) in
    let stands : t ≡ T ++ [] = rw end at (minimal_stands t o 0 g.fine g.minimal) in
    sym (append-nil T) ∙ sym stands

-- so it stays as it is
pub good_stays : (t : List ℕ) → AreOctets t → good_field t ≡ true → rewritten Standard fields.Standard t 0 64 ≡ t
unfolding rewritten kept codes_in
good_stays t o h =
    let g = good_parts t h in
    let few : length t ≤ 64 = omega (arith, g.short) in
    let made = rw (tree_codes_lem (field_base 2) t 0) at (written_tree (field_base 2) (tree_at t 0) (tree_good t few 0)) in
    rw (form_in_lem t 0 few, g.fine, le-ltb 64 (length t) few, standard_stay (field_codes (field_base 2) t 0) g.standard, made) (good_tree t o g)

-- what is left is all standard
left_standard : (l : List ℕ) → all_standard (only standard_code l) ≡ true
unfolding all_standard only
left_standard [] = refl
left_standard (c ∷ l) = go (standard_code c) refl (left_standard l)
  where
    go : (t : Bool) → standard_code c ≡ t → all_standard (only standard_code l) ≡ true → all_standard (pick t (c ∷ only standard_code l) (only standard_code l)) ≡ true
    go true e h = rw e h
    go false e h = h

-- so a field that stays as it is is good
pub stays_good : (t : List ℕ) → 0 < length t → length t ≤ most_standard → rewritten Standard fields.Standard t 0 64 ≡ t → good_field t ≡ true
unfolding rewritten kept codes_in good_field
stays_good t some short h = go (is_fine (form_in t 0)) h
  where
    few : length t ≤ 64
    few = omega arith

    codes : List ℕ
    codes = field_codes (field_base 2) t 0

    go : (u : Bool) → pick u (kept Standard fields.Standard t 0) [] ≡ t → good_field t ≡ true
    go true e =
        let d : t ≡ written (field_base 2) (only standard_code codes) ++ [] = sym e ∙ rw (le-ltb 64 (length t) few) (sym (append-nil _)) in
        let b = field_back 2 (only standard_code codes) (kept_means Standard t few fields.Standard 0) t 0 [] d in
        let end = field_fits t 0 b.2 in
        let whole : field_behind t 0 ≡ length t = omega (arith, length-drop (field_behind t 0) t, ap length b.1) in
        rw (le-leb (length t) most_standard short, b.2, eq-eqb (field_behind t 0) (length t) whole, b.3, b.0) (left_standard codes)
    go false e = absurd (omega (arith, ap length e))
