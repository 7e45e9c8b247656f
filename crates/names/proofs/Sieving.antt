-- Those numbers of a list that pass a test: of two lists, of all, by one test after another, and which numbers are left.
-- Assumes nothing.
use Prim.Native.Nat.{ℕ, suc, ◌≤◌}
use mathlib.Core.Bool.{Bool, true, false}
use mathlib.Core.List.{List, [], ◌∷◌, ◌++◌}
use mathlib.Core.Path.{◌≡◌, refl, sym, ap, ◌∙◌}
use native.Mathlib.Omega.{arith}
use borrow.Author.Tests.{eq-eqb, eqb-true}
use lib.Dec.{eqb}
use lib.ListN.{length}
use Rattle.octets.specs.Bits.{num}
use Rattle.octets.specs.Places.{pick}
use Rattle.tree.specs.Fields.{is_in}
use Rattle.names.specs.Masks.{only}

-- what passes of two lists, one after the other
pub only_append : (f : ℕ → Bool) (a b : List ℕ) → only f (a ++ b) ≡ only f a ++ only f b
unfolding only
only_append f [] b = refl
only_append f (x ∷ a) b = rw (only_append f a b) (go (f x))
  where
    go : (t : Bool) → pick t (x ∷ only f a ++ only f b) (only f a ++ only f b) ≡ pick t (x ∷ only f a) (only f a) ++ only f b
    go true = refl
    go false = refl

-- two tests that agree on the numbers of a list leave the same of it
pub only_cong : (f g : ℕ → Bool) (l : List ℕ) → ((x : ℕ) → is_in x l ≡ true → f x ≡ g x) → only f l ≡ only g l
unfolding only is_in
only_cong f g [] h = refl
only_cong f g (x ∷ l) h =
    rw (h x (rw (eq-eqb x x refl)), only_cong f g l (λ y i. h y (go (eqb x y) i)))
  where
    go : {i : Bool} (t : Bool) → i ≡ true → pick t true i ≡ true
    go true e = refl
    go false e = e

-- a test that every number passes leaves them all
pub only_true : (l : List ℕ) → only (λ x. true) l ≡ l
unfolding only
only_true [] = refl
only_true (x ∷ l) = rw (only_true l)

-- so does one that the numbers of the list pass
pub only_all : (f : ℕ → Bool) (l : List ℕ) → ((x : ℕ) → is_in x l ≡ true → f x ≡ true) → only f l ≡ l
only_all f l h = only_cong f (λ x. true) l h ∙ only_true l

-- two tests, one after the other, are both at once
pub only_both : (f g : ℕ → Bool) (l : List ℕ) → only g (only f l) ≡ only (λ x. pick (f x) (g x) false) l
unfolding only
only_both f g [] = refl
only_both f g (x ∷ l) = go (f x) (g x) refl (only_both f g l)
  where
    go : {m : List ℕ} (t u : Bool) → g x ≡ u → only g (only f l) ≡ m → only g (pick t (x ∷ only f l) (only f l)) ≡ pick (pick t u false) (x ∷ m) m
    go true true p e = rw (p, e)
    go true false p e = rw (p, e)
    go false u p e = e

-- a weaker test after a stronger one strikes nothing more
pub only_weaker : (f g : ℕ → Bool) (l : List ℕ) → ((x : ℕ) → f x ≡ true → g x ≡ true) → only g (only f l) ≡ only f l
only_weaker f g l h = only_both f g l ∙ only_cong (λ x. pick (f x) (g x) false) f l (λ x i. go x (f x) refl)
  where
    go : (x : ℕ) (t : Bool) → f x ≡ t → pick t (g x) false ≡ t
    go x true e = h x e
    go x false e = refl

-- and before it, it strikes nothing that the stronger one would keep
pub only_stronger : (f g : ℕ → Bool) (l : List ℕ) → ((x : ℕ) → f x ≡ true → g x ≡ true) → only f (only g l) ≡ only f l
only_stronger f g l h = only_both g f l ∙ only_cong (λ x. pick (g x) (f x) false) f l (λ x i. go x (f x) refl (g x) refl)
  where
    go : (x : ℕ) (t : Bool) → f x ≡ t → (u : Bool) → g x ≡ u → pick u t false ≡ t
    go x true e u d = rw (sym d ∙ h x e)
    go x false e true d = refl
    go x false e false d = refl

-- the same test twice is the test
pub only_only : (f : ℕ → Bool) (l : List ℕ) → only f (only f l) ≡ only f l
only_only f l = only_weaker f f l (λ x e. e)

-- a number is left if it was there and passes
pub in_only : (f : ℕ → Bool) (x : ℕ) (l : List ℕ) → is_in x (only f l) ≡ pick (f x) (is_in x l) false
unfolding only is_in
in_only f x [] = go (f x)
  where
    go : (t : Bool) → false ≡ pick t false false
    go true = refl
    go false = refl
in_only f x (y ∷ l) = go (f y) (eqb y x) refl refl (f x) refl (in_only f x l)
  where
    go : (t u : Bool) → f y ≡ t → eqb y x ≡ u → (v : Bool) → f x ≡ v → is_in x (only f l) ≡ pick v (is_in x l) false
        → is_in x (pick t (y ∷ only f l) (only f l)) ≡ pick v (pick u true (is_in x l)) false
    go true true p q v d e = rw (q, sym d ∙ (rw (eqb-true y x q) at p))
    go true false p q v d e = rw (q, e)
    go false true p q v d e = rw (e, sym d ∙ (rw (eqb-true y x q) at p))
    go false false p q v d e = e

-- so what is left passes
pub only_passes : (f : ℕ → Bool) (x : ℕ) (l : List ℕ) → is_in x (only f l) ≡ true → f x ≡ true
only_passes f x l h = go (f x) (sym (in_only f x l) ∙ h)
  where
    go : (t : Bool) → pick t (is_in x l) false ≡ true → t ≡ true
    go true e = refl
    go false e = e

-- and was there
pub only_within : (f : ℕ → Bool) (x : ℕ) (l : List ℕ) → is_in x (only f l) ≡ true → is_in x l ≡ true
only_within f x l h = go (f x) (sym (in_only f x l) ∙ h)
  where
    go : (t : Bool) → pick t (is_in x l) false ≡ true → is_in x l ≡ true
    go true e = e
    go false e = absurd (omega (arith, ap num e))

-- no more are left than there were
pub length_only : (f : ℕ → Bool) (l : List ℕ) → length (only f l) ≤ length l
unfolding only
length_only f [] = omega arith
length_only f (x ∷ l) = go (f x) (length_only f l)
  where
    go : (t : Bool) → length (only f l) ≤ length l → length (pick t (x ∷ only f l) (only f l)) ≤ suc (length l)
    go true h = omega arith
    go false h = omega arith
