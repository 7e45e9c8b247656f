-- The codes that have an SPar(1): they are found by membership, and a standard field has one exactly if its SPar(1) block announces one.
-- Assumes nothing.
use Prim.Native.Nat.{ℕ, suc, ◌+◌, ◌*◌, ◌/◌, ◌%◌, ◌<◌, ◌≤◌}
use mathlib.Core.Bool.{Bool, true, false}
use mathlib.Core.List.{List, [], ◌∷◌, ◌++◌}
use mathlib.Core.Logic.{⊎_elim}
use mathlib.Core.Path.{◌≡◌, refl, sym, ◌∙◌}
use native.Mathlib.Omega.{arith}
use borrow.Author.Tests.{lt-ltb, le-ltb, ltb-true, ltb-false}
use Rattle.std.specs.Prelude.{Option, Some, None, is_some}
use lib.Dec.{ltb}
use lib.ListN.{length}
use Rattle.octets.specs.Places.{pick}
use Rattle.tree.specs.Block.{numbers, behind, announced}
use Rattle.tree.specs.Codes.{field_base, par_codes, rest_codes, field_codes, of_s}
use Rattle.tree.specs.Order.{Ascending, AllBelow}
use Rattle.tree.specs.Fields.{codes_in, is_in, has_spar}
use Rattle.tree.specs.Promises.{TellsPositions, GivesPositions, TellsSpar}
use Rattle.tree.specs.declared.Field.TheVariants.{Standard}
use Rattle.tree.specs.declared.Level.TheVariants.{Top}
use Rattle.tree.proofs.Ascending.{numbers_between}
use Rattle.tree.proofs.Within.{in_cases, in_first, in_rest}

-- ---- by membership

-- a list with such a code has an SPar(1)
pub spar_in : (x : ℕ) (l : List ℕ) → 0 < x / of_s % 512 → is_in x l ≡ true → has_spar l ≡ true
unfolding is_in has_spar
spar_in x [] h k = k
spar_in x (y ∷ l) h k = ⊎_elim
    (λ (e : y ≡ x). rw (e, lt-ltb 0 (x / of_s % 512) h))
    (λ (m : is_in x l ≡ true). second (ltb 0 (y / of_s % 512)) (spar_in x l h m))
    (in_cases x y l k)
  where
    second : (t : Bool) → has_spar l ≡ true → pick t true (has_spar l) ≡ true
    second true e = refl
    second false e = e

-- a list that has an SPar(1) has such a code
pub spar_some : (l : List ℕ) → has_spar l ≡ true → (x : ℕ) × (0 < x / of_s % 512) × (is_in x l ≡ true)
unfolding has_spar
spar_some [] h = absurd (let z : ◌≡◌ {A = ℕ} 0 1 = cc in omega arith)
spar_some (y ∷ l) h = go (ltb 0 (y / of_s % 512)) refl h (spar_some l)
  where
    go : (t : Bool) → ltb 0 (y / of_s % 512) ≡ t → pick t true (has_spar l) ≡ true
        → (has_spar l ≡ true → (x : ℕ) × (0 < x / of_s % 512) × (is_in x l ≡ true))
        → (x : ℕ) × (0 < x / of_s % 512) × (is_in x (y ∷ l) ≡ true)
    go true e k rest = (y, ltb-true 0 (y / of_s % 512) e, in_first y l)
    go false e k rest = let r = rest k in (r.0, r.1, in_rest r.0 y l r.2)

-- of two lists together either has it
pub spar_append : (a r : List ℕ) → has_spar (a ++ r) ≡ pick (has_spar a) true (has_spar r)
unfolding has_spar
spar_append [] r = refl
spar_append (y ∷ a) r = go (ltb 0 (y / of_s % 512)) (spar_append a r)
  where
    go : (t : Bool) → has_spar (a ++ r) ≡ pick (has_spar a) true (has_spar r)
        → pick t true (has_spar (a ++ r)) ≡ pick (pick t true (has_spar a)) true (has_spar r)
    go true e = refl
    go false e = e

-- ---- in a standard field

-- NPar(1) codes have none
npar_none : (b p : ℕ) (l : List ℕ) → b ≡ field_base 2 → b ≤ p → Ascending p l → AllBelow (b + 512) l → has_spar l ≡ false
unfolding has_spar Ascending AllBelow
npar_none b p [] q h k u = refl
npar_none b p (c ∷ l) q h k u =
    rw (le-ltb 0 (c / of_s % 512) (omega (arith, k.0, u.0))) (npar_none b c l q (omega (arith, k.0)) k.1 u.1)

-- the first SPar(1) code has one
spar_first : (b : ℕ) (ss l : List ℕ) (e : ℕ) → b ≡ field_base 2 → Ascending 0 ss → AllBelow (0 + 512) ss → has_spar (par_codes b ss l e) ≡ ltb 0 (length ss)
unfolding par_codes has_spar Ascending AllBelow
spar_first b [] l e q k u = refl
spar_first b (s ∷ ss) l e q k u =
    rw (lt-ltb 0 ((b + s * of_s) / of_s % 512) (omega (arith, k.0, u.0)), lt-ltb 0 (suc (length ss)) (omega arith))

-- so the field has one exactly if its SPar(1) block announces anything
pub field_spar : (b : ℕ) (l : List ℕ) (at : ℕ) → b ≡ field_base 2 → length l ≤ 64 → has_spar (field_codes b l at) ≡ ltb 0 (announced 7 128 l (behind 128 l at))
unfolding field_codes rest_codes
field_spar b l at q h =
    let n = numbers_between 7 128 b l at (omega arith) h in
    let m = numbers_between 7 128 0 l (behind 128 l at) (omega arith) h in
    spar_append (numbers 7 128 b l at) _ ∙ rw (npar_none b b (numbers 7 128 b l at) q (omega arith) n.0 n.1) (spar_first b _ l _ q m.0 m.1)

-- as the first position of that block tells, if it has one
pub spar_told : (l : List ℕ) (at : ℕ) {e : ℕ} {ss : List ℕ} (ts : List ℕ) (r : Option ℕ) → e ≡ behind 128 l at → TellsPositions l e Top ss → GivesPositions ss r ts
    → TellsSpar l at (is_some r)
unfolding codes_in has_spar
spar_told l at {e} {ss} ts r q n g = go (ltb 64 (length l)) refl
  where
    first : (r : Option ℕ) → GivesPositions ss r ts → is_some r ≡ ltb 0 (length ss)
    first None h = rw h.0
    first (Some s) h = rw (h, lt-ltb 0 (suc (length ts)) (omega arith))

    go : (t : Bool) → ltb 64 (length l) ≡ t → is_some r ≡ has_spar (codes_in Standard l at)
    go true h = rw (first r g, n, h)
    go false h = rw (first r g, n, h, q) (sym (field_spar (field_base 2) l at refl (ltb-false 64 (length l) h)))
