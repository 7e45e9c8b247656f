-- One list laid over the front of another.
-- Assumes nothing.
use Prim.Native.Nat.{ℕ, zero, suc, ◌+◌, ◌<◌, ◌≤◌, min}
use mathlib.Core.Path.{◌≡◌, refl, sym, ap, ◌∙◌}
use mathlib.Core.List.{List, [], ◌∷◌}
use native.Mathlib.Numerals.{add-one}
use native.Mathlib.Omega.{arith}
use lib.Seq.{take-nil}
use lib.ListN.{length, get_or, set, take}
use Rattle.octets.specs.Lay.{put, over}

-- where there is room for all of it, laying over is putting
pub over_fits : (xs d : List ℕ) → length xs ≤ length d → over xs d ≡ put xs d
unfolding over put
over_fits [] d h = refl
over_fits (x ∷ xs) [] h = absurd (omega arith)
over_fits (x ∷ xs) (y ∷ d) h = ap (λ (l : List ℕ). x ∷ l) (over_fits xs d (omega arith))

-- laying over changes no length
pub length_over : (xs d : List ℕ) → length (over xs d) ≡ length d
unfolding over
length_over [] d = refl
length_over (x ∷ xs) [] = refl
length_over (x ∷ xs) (y ∷ d) = omega (arith, length_over xs d)

-- nor does putting
pub length_put : (xs d : List ℕ) → length xs ≤ length d → length (put xs d) ≡ length d
length_put xs d h = ap length (sym (over_fits xs d h)) ∙ length_over xs d

-- putting nothing changes nothing
pub put-nil : (d : List ℕ) → put [] d ≡ d
unfolding put
put-nil d = refl

-- laid over nothing, nothing is left
over_none : (xs : List ℕ) → over xs [] ≡ []
unfolding over
over_none [] = refl
over_none (x ∷ xs) = refl

-- one element more, stored where it belongs
over_next : (s d : List ℕ) (j : ℕ) → j < length s → j < length d → set (over (take j s) d) j (get_or s j 0) ≡ over (take (suc j) s) d
unfolding over
over_next [] d j h l = absurd (omega arith)
over_next (x ∷ s) [] j h l = absurd (omega arith)
over_next (x ∷ s) (y ∷ d) zero h l = refl
over_next (x ∷ s) (y ∷ d) (suc j) h l = ap (λ (t : List ℕ). x ∷ t) (over_next s d j (omega arith) (omega arith))

-- the same, with the store in a list that is known to be what was laid so far
pub over_turn : (s d t : List ℕ) (j : ℕ) → j < length s → j < length d → t ≡ over (take j s) d → set t j (get_or s j 0) ≡ over (take (j + 1) s) d
over_turn s d t j h l e = rw (e, add-one) (over_next s d j h l)

-- what is neither there nor fits need not be laid
pub over_cut : (j c : ℕ) (s d : List ℕ) → j ≡ min c (min (length s) (length d)) → over (take j s) d ≡ over (take c s) d
unfolding over
over_cut j c [] d h = rw (take-nil j, take-nil c)
over_cut j c (x ∷ s) [] h = over_none (take j (x ∷ s)) ∙ sym (over_none (take c (x ∷ s)))
over_cut zero zero (x ∷ s) (y ∷ d) h = refl
over_cut zero (suc c) (x ∷ s) (y ∷ d) h = absurd (omega arith)
over_cut (suc j) zero (x ∷ s) (y ∷ d) h = absurd (omega arith)
over_cut (suc j) (suc c) (x ∷ s) (y ∷ d) h = ap (λ (t : List ℕ). x ∷ t) (over_cut j c s d (omega arith))
