-- Lists whose numbers lie apart: what is below a bound can only be found below it, and what is not below it only behind.
-- Assumes nothing.
use Prim.Native.Nat.{ℕ, ◌+◌, ◌<◌, ◌≤◌}
use mathlib.Core.Bool.{Bool, true, false}
use mathlib.Core.List.{List, [], ◌∷◌, ◌++◌}
use mathlib.Core.Path.{◌≡◌, refl, ◌∙◌}
use native.Mathlib.Omega.{arith}
use borrow.Author.Tests.{eq-eqb, ne_eqb}
use lib.Dec.{eqb}
use Rattle.octets.specs.Places.{pick}
use Rattle.tree.specs.Order.{Ascending, AllBelow, AllFrom}
use Rattle.tree.specs.Fields.{is_in, all_in}

-- ---- bounds

-- a bound may be lower
pub from_lower : (g h : ℕ) (l : List ℕ) → g ≤ h → AllFrom h l → AllFrom g l
unfolding AllFrom
from_lower g h [] k a = tt
from_lower g h (x ∷ l) k a = (omega (arith, a.0), from_lower g h l k a.1)

-- it holds of two lists together
pub from_append : (h : ℕ) (a b : List ℕ) → AllFrom h a → AllFrom h b → AllFrom h (a ++ b)
unfolding AllFrom
from_append h [] b x y = y
from_append h (c ∷ a) b x y = (x.0, from_append h a b x.1 y)

-- what ascends from below it is not below it
pub from_ascending : (h b : ℕ) (l : List ℕ) → h ≤ b + 1 → Ascending b l → AllFrom h l
unfolding AllFrom Ascending
from_ascending h b [] k a = tt
from_ascending h b (x ∷ l) k a = (omega (arith, a.0), from_ascending h x l (omega (arith, a.0)) a.1)

-- ---- one number

-- one below the bound is not in a list that is not below it
pub in_none : (x h : ℕ) (l : List ℕ) → x < h → AllFrom h l → is_in x l ≡ false
unfolding is_in AllFrom
in_none x h [] k a = refl
in_none x h (y ∷ l) k a = rw (ne_eqb y x (λ (e : y ≡ x). omega (arith, a.0))) (in_none x h l k a.1)

-- in two lists together it is in one of them
pub in_append : (x : ℕ) (a b : List ℕ) → is_in x (a ++ b) ≡ pick (is_in x a) true (is_in x b)
unfolding is_in
in_append x [] b = refl
in_append x (y ∷ a) b = go (eqb y x) (in_append x a b)
  where
    go : (t : Bool) → is_in x (a ++ b) ≡ pick (is_in x a) true (is_in x b) → pick t true (is_in x (a ++ b)) ≡ pick (pick t true (is_in x a)) true (is_in x b)
    go true e = refl
    go false e = e

-- so with such a list behind another it is looked for in the other
pub in_front : (x h : ℕ) (a b : List ℕ) → x < h → AllFrom h b → is_in x (a ++ b) ≡ is_in x a
unfolding is_in
in_front x h [] b k f = in_none x h b k f
in_front x h (y ∷ a) b k f = rw (in_front x h a b k f)

-- and one that is not below the bound in what is behind a list below it
pub in_behind : (x h : ℕ) (a b : List ℕ) → h ≤ x → AllBelow h a → is_in x (a ++ b) ≡ is_in x b
unfolding is_in AllBelow
in_behind x h [] b k f = refl
in_behind x h (y ∷ a) b k f = rw (ne_eqb y x (λ (e : y ≡ x). omega (arith, f.0))) (in_behind x h a b k f.1)

-- ---- all numbers of a list

all_front : (h : ℕ) (s a b : List ℕ) → AllBelow h s → AllFrom h b → all_in s (a ++ b) ≡ all_in s a
unfolding all_in AllBelow
all_front h [] a b k f = refl
all_front h (x ∷ s) a b k f = rw (in_front x h a b k.0 f, all_front h s a b k.1 f)

all_behind : (h : ℕ) (s a b : List ℕ) → AllFrom h s → AllBelow h a → all_in s (a ++ b) ≡ all_in s b
unfolding all_in AllFrom
all_behind h [] a b k f = refl
all_behind h (x ∷ s) a b k f = rw (in_behind x h a b k.0 f, all_behind h s a b k.1 f)

-- of two lists together both are within
all_append : (a b m : List ℕ) → all_in (a ++ b) m ≡ pick (all_in a m) (all_in b m) false
unfolding all_in
all_append [] b m = refl
all_append (x ∷ a) b m = go (is_in x m) (all_append a b m)
  where
    go : (t : Bool) → all_in (a ++ b) m ≡ pick (all_in a m) (all_in b m) false
        → pick t (all_in (a ++ b) m) false ≡ pick (pick t (all_in a m) false) (all_in b m) false
    go true e = e
    go false e = refl

-- two tests that hold
pub both : (s t : Bool) → pick s t false ≡ true → (s ≡ true) × (t ≡ true)
both true t e = (refl, e)
both false t e = (cc, cc)

-- what is within nothing is nothing
pub none_within : (a : List ℕ) → all_in a [] ≡ true → a ≡ []
unfolding all_in is_in
none_within [] e = refl
none_within (x ∷ a) e = cc

-- the parts below the bound and the parts behind are compared each for itself
pub parts_within : (h : ℕ) (a b m n : List ℕ) → AllBelow h a → AllFrom h b → AllBelow h m → AllFrom h n
    → all_in (a ++ b) (m ++ n) ≡ pick (all_in a m) (all_in b n) false
parts_within h a b m n x y z v = all_append a b (m ++ n) ∙ rw (all_front h a m n x v, all_behind h b m n y z)

-- a number that both begin with is no matter to what is above it
pub first_within : (x : ℕ) (a m : List ℕ) → Ascending x a → Ascending x m → all_in (x ∷ a) (x ∷ m) ≡ all_in a m
unfolding all_in is_in AllBelow
first_within x a m y z =
    parts_within (x + 1) (x ∷ []) a (x ∷ []) m (omega arith, tt) (from_ascending (x + 1) x a (omega arith) y) (omega arith, tt) (from_ascending (x + 1) x m (omega arith) z)
    ∙ rw (eq-eqb x x refl)
