-- The codes of I and of S in one list: all of them fit, and those of S are laid behind those of I.
-- Assumes nothing.
use Prim.Native.Nat.{ℕ, ◌+◌, ◌-◌, ◌≤◌}
use mathlib.Core.Path.{◌≡◌, refl, ap, ◌∙◌}
use mathlib.Core.List.{List, [], ◌∷◌, ◌++◌, append-nil}
use native.Mathlib.Omega.{arith}
use borrow.Author.Tests.{le-ltb}
use borrow.Rule.Slice.PartMut.{put_mid}
use lib.ListN.{length, take, drop, length-append, length-drop, drop_of_length-le}
use lib.Seq.{take_all}
use Rattle.octets.specs.Lay.{put, over}
use Rattle.octets.proofs.Laying.{over_fits}
use Rattle.tree.specs.Codes.{field_codes}
use Rattle.tree.specs.Fields.{base_of, codes_in, most_octets}
use Rattle.tree.specs.declared.Field.{Field}
use Rattle.tree.proofs.Few.{field_few}
use Rattle.message.specs.Reader.{list_room, standard_at}

-- in a message's octets the codes are the field's
pub codes_in_lem : (f : Field) (l : List ℕ) (at : ℕ) → length l ≤ most_octets → codes_in f l at ≡ field_codes (base_of f) l at
unfolding codes_in
codes_in_lem f l at h = rw (le-ltb 64 (length l) h)

-- the octets of a message have at most 7 codes each, so there is room for all
pub codes_fit : (b c : ℕ) (l : List ℕ) → 1 ≤ length l → length l ≤ most_octets → length (field_codes b l 1) + length (field_codes c l (standard_at l)) ≤ list_room
codes_fit b c l h k = let i = field_few b l 1 h in omega (arith, i, field_few c l (standard_at l) i.0)

-- laid over the part behind the first thing, a second one is laid behind it
over_over : (xs ys d : List ℕ) → length xs ≤ length d → take (length xs) (over xs d) ++ over ys (drop (length xs) (over xs d)) ≡ over (xs ++ ys) d
unfolding over
over_over [] ys d h = refl
over_over (x ∷ xs) ys [] h = absurd (omega arith)
over_over (x ∷ xs) ys (y ∷ d) h = ap (λ (l : List ℕ). x ∷ l) (over_over xs ys d (omega arith))

-- the same where the part is lent, `&mut d[n..]`: both are put one after the other where there is room
pub laid_behind : (xs ys d o₁ o₂ : List ℕ) (n : ℕ) → length xs + length ys ≤ length d → n ≡ length xs → o₁ ≡ over xs d
    → o₂ ≡ over ys (take (length o₁ - n) (drop n o₁)) → put_mid n (length o₁ - n) o₁ o₂ ≡ put (xs ++ ys) d
laid_behind xs ys d o₁ o₂ n h e₀ e₁ e₂ =
    let r : length (drop n o₁) ≤ length o₁ - n = omega (arith, length-drop n o₁) in
    let a : take (length o₁ - n) (drop n o₁) ≡ drop n o₁ = take_all _ _ r in
    let b : drop (length o₁ - n) (drop n o₁) ≡ [] = drop_of_length-le _ r in
    rw (e₂, a, b, append-nil, e₀, e₁) (over_over xs ys d (omega arith) ∙ over_fits (xs ++ ys) d (simp length-append (omega arith)))
