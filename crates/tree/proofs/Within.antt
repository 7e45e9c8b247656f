-- One list within another: `all_in` is membership of each of its numbers.
-- Assumes nothing.
use Prim.Native.Nat.{ℕ}
use mathlib.Core.Bool.{Bool, true, false}
use mathlib.Core.List.{List, [], ◌∷◌}
use mathlib.Core.Logic.{◌⊎◌, inl, inr, ⊎_elim}
use mathlib.Core.Path.{◌≡◌, refl}
use borrow.Author.Tests.{eq-eqb, eqb-true}
use lib.Dec.{eqb}
use Rattle.octets.specs.Places.{pick}
use Rattle.tree.specs.Fields.{is_in, all_in}

-- ---- a number and the first of a list

-- a number of a list is its first or one of the others
pub in_cases : (x y : ℕ) (l : List ℕ) → is_in x (y ∷ l) ≡ true → (y ≡ x) ⊎ (is_in x l ≡ true)
unfolding is_in
in_cases x y l h = go (eqb y x) refl h
  where
    go : (t : Bool) → eqb y x ≡ t → pick t true (is_in x l) ≡ true → (y ≡ x) ⊎ (is_in x l ≡ true)
    go true e k = inl (eqb-true y x e)
    go false e k = inr k

-- the first is one
pub in_first : (x : ℕ) (l : List ℕ) → is_in x (x ∷ l) ≡ true
unfolding is_in
in_first x l = rw (eq-eqb x x refl)

-- and so are the others
pub in_rest : (x y : ℕ) (l : List ℕ) → is_in x l ≡ true → is_in x (y ∷ l) ≡ true
unfolding is_in
in_rest x y l h = go (eqb y x)
  where
    go : (t : Bool) → pick t true (is_in x l) ≡ true
    go true = refl
    go false = h

-- ---- all numbers of a list

-- the first and the others are within
all_parts : (y : ℕ) (a m : List ℕ) → all_in (y ∷ a) m ≡ true → (is_in y m ≡ true) × (all_in a m ≡ true)
unfolding all_in
all_parts y a m h = go (is_in y m) refl h
  where
    go : (t : Bool) → is_in y m ≡ t → pick t (all_in a m) false ≡ true → (is_in y m ≡ true) × (all_in a m ≡ true)
    go true e k = (e, k)
    go false e k = (cc, cc)

-- each number of a list that is within another is in the other
pub all_in-is_in : (x : ℕ) (a m : List ℕ) → all_in a m ≡ true → is_in x a ≡ true → is_in x m ≡ true
unfolding is_in
all_in-is_in x [] m h k = cc
all_in-is_in x (y ∷ a) m h k =
    let p = all_parts y a m h in
    ⊎_elim (λ (e : y ≡ x). rw e at p.0) (λ (i : is_in x a ≡ true). all_in-is_in x a m p.1 i) (in_cases x y a k)

-- a list of which each number is in another is within the other
pub is_in-all_in : (a m : List ℕ) → ((x : ℕ) → is_in x a ≡ true → is_in x m ≡ true) → all_in a m ≡ true
unfolding all_in
is_in-all_in [] m h = refl
is_in-all_in (y ∷ a) m h = rw (h y (in_first y a)) (is_in-all_in a m (λ x i. h x (in_rest x y a i)))

-- no number is within any list
pub all_in-nil : (m : List ℕ) → all_in [] m ≡ true
unfolding all_in
all_in-nil m = refl

-- a list is within itself
pub all_in-refl : (a : List ℕ) → all_in a a ≡ true
all_in-refl a = is_in-all_in a a (λ x i. i)

-- a list within a second that is within a third is within the third
pub all_in_trans : (a m n : List ℕ) → all_in a m ≡ true → all_in m n ≡ true → all_in a n ≡ true
all_in_trans a m n h k = is_in-all_in a n (λ x i. all_in-is_in x m n k (all_in-is_in x a m h i))

-- lists with the same numbers have the same lists within them
pub all_in_same : (a m n : List ℕ) → ((x : ℕ) → is_in x m ≡ is_in x n) → all_in a m ≡ all_in a n
unfolding all_in
all_in_same [] m n h = refl
all_in_same (y ∷ a) m n h = rw (h y, all_in_same a m n h)
