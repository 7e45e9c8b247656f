-- The bits of a run of octets: their number, the bit at a place, the place after it, and the bits of a part of the run.
-- Assumes nothing.
use Prim.Native.Nat.{ℕ, zero, suc, ◌+◌, ◌*◌, ◌/◌, ◌%◌, ◌^◌, ◌<◌, ◌≤◌}
use mathlib.Core.Path.{◌≡◌, refl, sym, ap}
use mathlib.Core.Bool.{Bool, true, false}
use mathlib.Core.List.{List, [], ◌∷◌, ◌++◌}
use native.Mathlib.Nat.{div-one, zero-div}
use native.Mathlib.Omega.{arith}
use borrow.Author.Tests.{ltb-true, ltb-false, lt-ltb, le-ltb}
use lib.Dec.{ltb}
use lib.ListN.{length, get_or, take, drop, get_or-eq_default}
use lib.Seq.{drop-cons}
use native.Mathlib.Numerals.{add-one}
use Rattle.octets.specs.Bits.{odd, bits}
use Rattle.std.specs.Prelude.{Some, None}
use Rattle.octets.specs.Places.{pick, is_one, bit_at, last_place, place_after, both}

-- n octets have 8 n bits
pub length_bits : (s : List ℕ) → length (bits s) ≡ length s * 8
unfolding bits
length_bits [] = refl
length_bits (x ∷ xs) = omega (arith, length_bits xs)

-- bit i of a run is bit i % 8 of its octet i / 8
pub bit_is : (s : List ℕ) (i : ℕ) → get_or (bits s) i false ≡ odd (get_or s (i / 8) 0 / 2 ^ (i % 8))
unfolding bits
bit_is [] i = sym (ap odd (zero-div (2 ^ (i % 8))))
bit_is (x ∷ xs) zero = sym (ap odd (div-one x))
bit_is (x ∷ xs) (suc zero) = refl
bit_is (x ∷ xs) (suc (suc zero)) = refl
bit_is (x ∷ xs) (suc (suc (suc zero))) = refl
bit_is (x ∷ xs) (suc (suc (suc (suc zero)))) = refl
bit_is (x ∷ xs) (suc (suc (suc (suc (suc zero))))) = refl
bit_is (x ∷ xs) (suc (suc (suc (suc (suc (suc zero)))))) = refl
bit_is (x ∷ xs) (suc (suc (suc (suc (suc (suc (suc zero))))))) = refl
bit_is (x ∷ xs) (suc (suc (suc (suc (suc (suc (suc (suc j)))))))) =
    let q : suc (suc (suc (suc (suc (suc (suc (suc j))))))) / 8 ≡ suc (j / 8) = omega arith in
    let m : suc (suc (suc (suc (suc (suc (suc (suc j))))))) % 8 ≡ j % 8 = omega arith in
    rw (q, m) (bit_is xs j)

-- a bit stands at a place where its octet is one of the run
pub in_run : (s : List ℕ) (i : ℕ) → ltb i (length (bits s)) ≡ ltb (i / 8) (length s)
in_run s i = go (ltb (i / 8) (length s)) refl
  where
    go : (t : Bool) → ltb (i / 8) (length s) ≡ t → ltb i (length (bits s)) ≡ t
    go true e = lt-ltb i (length (bits s)) (omega (arith, length_bits s, ltb-true (i / 8) (length s) e))
    go false e = le-ltb i (length (bits s)) (omega (arith, length_bits s, ltb-false (i / 8) (length s) e))

-- the bit at a place of the run
pub bit_in : (s : List ℕ) (i : ℕ) → i / 8 < length s → bit_at s i ≡ Some (odd (get_or s (i / 8) 0 / 2 ^ (i % 8)))
bit_in s i h = rw (in_run s i, lt-ltb (i / 8) (length s) h, bit_is s i)

-- behind the run is the end
pub bit_end : (s : List ℕ) (i : ℕ) → length s ≤ i / 8 → bit_at s i ≡ None
bit_end s i h = rw (in_run s i, le-ltb (i / 8) (length s) h)

-- the place after a bit of the run is the next one
pub after_in : (s : List ℕ) (i : ℕ) → i < last_place → i / 8 < length s → place_after s i ≡ i + 1
after_in s i l h = rw (lt-ltb i last_place l, in_run s i, lt-ltb (i / 8) (length s) h)

-- the end of the run stays where it is
pub after_end : (s : List ℕ) (i : ℕ) → length s ≤ i / 8 → place_after s i ≡ i
after_end s i h = go (ltb i last_place)
  where
    go : (t : Bool) → pick t (pick (ltb i (length (bits s))) (i + 1) i) i ≡ i
    go true = rw (in_run s i, le-ltb (i / 8) (length s) h)
    go false = refl

-- and so does the last place of all
pub after_last : (s : List ℕ) (i : ℕ) → last_place ≤ i → place_after s i ≡ i
after_last s i h = rw (le-ltb i last_place h)

-- a test of the bit at a place is the bit there, and no bit stands behind the end
pub one_at : (s : List ℕ) (i : ℕ) → is_one (bit_at s i) ≡ get_or (bits s) i false
one_at s i = go (ltb i (length (bits s))) refl
  where
    go : (t : Bool) → ltb i (length (bits s)) ≡ t → is_one (pick t (Some (get_or (bits s) i false)) None) ≡ get_or (bits s) i false
    go true e = refl
    go false e = sym (get_or-eq_default (bits s) false (ltb-false i (length (bits s)) e))

-- the bits of two runs, one after the other
pub bits_append : (a b : List ℕ) → bits (a ++ b) ≡ bits a ++ bits b
unfolding bits
bits_append [] b = refl
bits_append (x ∷ a) b = rw (bits_append a b)

-- the bits of the first k octets are the first 8 k bits
pub bits_take : (k : ℕ) (t : List ℕ) → bits (take k t) ≡ take (k * 8) (bits t)
unfolding bits
bits_take zero t = refl
bits_take (suc k) [] = let e : suc k * 8 ≡ suc (k * 8 + 7) = omega arith in rw e
bits_take (suc k) (x ∷ t) =
    let e : suc k * 8 ≡ suc (suc (suc (suc (suc (suc (suc (suc (k * 8)))))))) = omega arith in
    rw (e, bits_take k t)

-- the bits behind the first k octets are those behind the first 8 k bits
pub bits_drop : (k : ℕ) (t : List ℕ) → bits (drop k t) ≡ drop (k * 8) (bits t)
unfolding bits
bits_drop zero t = refl
bits_drop (suc k) [] = let e : suc k * 8 ≡ suc (k * 8 + 7) = omega arith in rw e
bits_drop (suc k) (x ∷ t) =
    let e : suc k * 8 ≡ suc (suc (suc (suc (suc (suc (suc (suc (k * 8)))))))) = omega arith in
    rw (e, bits_drop k t)

-- a run from place i on is the octet there and the run behind it
pub drop_next : (l : List ℕ) (i : ℕ) → i < length l → drop i l ≡ get_or l i 0 ∷ drop (i + 1) l
drop_next l i h = rw (add-one i) (drop-cons l i 0 h)

-- two tests hold together
pub both_true : (s t : Bool) → both s t ≡ true → (s ≡ true) × (t ≡ true)
both_true true t e = (refl, e)
both_true false t e = (e, cc)
