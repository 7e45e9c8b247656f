-- A list filled number by number, whatever room it has: what is stored at a place behind its end is left out.
-- Assumes nothing.
use Prim.Native.Nat.{ℕ, suc, ◌+◌, ◌≤◌}
use mathlib.Core.Path.{◌≡◌, refl, ap, ◌∙◌}
use mathlib.Core.List.{List, [], ◌∷◌, ◌++◌}
use native.Mathlib.Omega.{arith}
use lib.ListN.{length, set}
use lib.Seq.{sets, set_out}
use Rattle.octets.specs.Lay.{over}

-- behind the first element nothing of it is seen
sets_behind : (y : ℕ) (d : List ℕ) (i : ℕ) (xs : List ℕ) → sets (y ∷ d) (suc i) xs ≡ y ∷ sets d i xs
sets_behind y d i [] = refl
sets_behind y d i (x ∷ xs) = sets_behind y (set d i x) (suc i) xs

-- where there is no room nothing is stored
pub sets_out : (d : List ℕ) (i : ℕ) (xs : List ℕ) → length d ≤ i → sets d i xs ≡ d
sets_out d i [] h = refl
sets_out d i (x ∷ xs) h = rw (set_out d i x h) (sets_out d (suc i) xs (omega arith))

-- stored one after the other from the front, numbers are laid over the list
pub sets_over : (xs d : List ℕ) → sets d 0 xs ≡ over xs d
unfolding over
sets_over [] d = refl
sets_over (x ∷ xs) [] = sets_out [] 1 xs (omega arith)
sets_over (x ∷ xs) (y ∷ d) = sets_behind x d 0 xs ∙ ap (λ (l : List ℕ). x ∷ l) (sets_over xs d)

-- two runs of numbers, one stored behind the other
pub sets_append : (d : List ℕ) (i : ℕ) (xs ys : List ℕ) → sets d i (xs ++ ys) ≡ sets (sets d i xs) (i + length xs) ys
sets_append d i [] ys = let z : i + 0 ≡ i = omega arith in rw z
sets_append d i (x ∷ xs) ys = let z : i + suc (length xs) ≡ suc i + length xs = omega arith in rw z (sets_append (set d i x) (suc i) xs ys)
