-- The bits of an octet, and the octets of a block, taken one after the other; the bits of one octet found in another.
-- Assumes nothing.
use Prim.Native.Nat.{ℕ, zero, suc, ◌+◌, ◌-◌, ◌*◌, ◌/◌, ◌%◌, ◌^◌, ◌≤◌, ◌<◌, min}
use mathlib.Core.Bool.{Bool, true, false}
use mathlib.Core.List.{List, [], ◌++◌}
use mathlib.Core.Path.{◌≡◌, refl, sym, ap, ◌∙◌}
use native.Mathlib.Nat.{div-one, pow-suc}
use native.Mathlib.Numerals.{add-one}
use native.Mathlib.Omega.{arith}
use borrow.Author.Tests.{lt-ltb, le-ltb, ltb-true, ltb-false, eq-eqb, ne_eqb, eqb-true, eqb-false}
use lib.Arith.{mod-mul}
use lib.Bits.{bit_and, and_step}
use lib.Count.{count_trailing_zeros, under}
use lib.Dec.{ltb, eqb}
use lib.ListN.{length, get_or, drop_of_length-le, get_or-eq_default}
use lib.Pow.{pow_pos, shr-shr}
use lib.Seq.{drop-cons}
use Rattle.octets.specs.Bits.{odd}
use Rattle.octets.specs.Places.{pick}
use Rattle.tree.specs.Block.{keep, set_bits, block_numbers, numbers}
use Rattle.tree.specs.Order.{AllBelow, AllFrom}
use Rattle.within.specs.Pairing.{next_place, one_of}
use Rattle.tree.specs.Fields.{is_in, all_in}
use Rattle.within.proofs.Apart.{from_append, from_ascending, both, none_within, parts_within}
use Rattle.tree.proofs.Ascending.{bits_between, numbers-ascending}
use Rattle.tree.proofs.Lowest.{bits_none, bits_below}

-- ---- one after the other

-- the lowest bit, and the others
bits_next : (w p d : ℕ) → set_bits (suc w) p d ≡ one_of (odd d) (p + 1) ++ set_bits w (p + 1) (d / 2)
unfolding set_bits
bits_next w p d = go (d % 2) (omega arith)
  where
    go : (b : ℕ) → b < 2 → keep b (p + 1) (set_bits w (p + 1) (d / 2)) ≡ one_of (eqb b 1) (p + 1) ++ set_bits w (p + 1) (d / 2)
    go zero k = refl
    go (suc zero) k = refl
    go (suc (suc b)) k = absurd (omega arith)

-- a block behind the octets is empty
pub numbers_out : (w m p : ℕ) (l : List ℕ) (i : ℕ) → length l ≤ i → numbers w m p l i ≡ []
unfolding block_numbers
numbers_out w m p l i h = rw (drop_of_length-le l {i = i} h)

-- the octet at a place, and those behind it
pub numbers_next : (w m p : ℕ) (l : List ℕ) (i : ℕ) → numbers w m p l i ≡ set_bits w p (get_or l i 0) ++ numbers w m (p + w) l (next_place m l i)
unfolding block_numbers next_place
numbers_next w m p l i = go (ltb i (length l)) refl
  where
    there : (t : Bool) → pick t (numbers w m (p + w) l (i + 1)) [] ≡ numbers w m (p + w) l (pick t (i + 1) (length l))
    there true = refl
    there false = sym (numbers_out w m (p + w) l (length l) (omega arith))

    go : (t : Bool) → ltb i (length l) ≡ t
        → numbers w m p l i ≡ set_bits w p (get_or l i 0) ++ numbers w m (p + w) l (pick t (pick (ltb (get_or l i 0) m) (i + 1) (length l)) (length l))
    go true e =
        let h : i < length l = ltb-true i (length l) e in
        let first : numbers w m p l i ≡ set_bits w p (get_or l i 0) ++ pick (ltb (get_or l i 0) m) (numbers w m (p + w) l (i + 1)) [] = rw (add-one i, drop-cons l i 0 h) in
        first ∙ ap (λ (n : List ℕ). set_bits w p (get_or l i 0) ++ n) (there (ltb (get_or l i 0) m))
    go false e =
        let h : length l ≤ i = ltb-false i (length l) e in
        numbers_out w m p l i h ∙ rw (get_or-eq_default l 0 h, bits_none w p) (sym (numbers_out w m (p + w) l (length l) (omega arith)))

-- the octet below its delimiter
pub numbers_below : (w m p : ℕ) (l : List ℕ) (i : ℕ) → m ≡ 2 ^ w → numbers w m p l i ≡ set_bits w p (get_or l i 0 % m) ++ numbers w m (p + w) l (next_place m l i)
numbers_below w m p l i h = numbers_next w m p l i ∙ rw (h, bits_below w p (get_or l i 0))

-- where the next octet is, and where none is
pub place_on : (m : ℕ) (l : List ℕ) (i : ℕ) → i < length l → get_or l i 0 < m → next_place m l i ≡ i + 1
unfolding next_place
place_on m l i h k = rw (lt-ltb i (length l) h, lt-ltb (get_or l i 0) m k)

pub place_end : (m : ℕ) (l : List ℕ) (i : ℕ) → m ≤ get_or l i 0 → next_place m l i ≡ length l
unfolding next_place
place_end m l i h = rw (le-ltb (get_or l i 0) m h) (go (ltb i (length l)))
  where
    go : (t : Bool) → pick t (length l) (length l) ≡ length l
    go true = refl
    go false = refl

pub place_after : (m : ℕ) (l : List ℕ) (i : ℕ) → i < length l → i < next_place m l i
unfolding next_place
place_after m l i h = rw (lt-ltb i (length l) h) (go (ltb (get_or l i 0) m))
  where
    go : (t : Bool) → i < pick t (i + 1) (length l)
    go true = omega arith
    go false = h

pub place_out : (m : ℕ) (l : List ℕ) (i : ℕ) → length l ≤ i → next_place m l i ≡ length l
unfolding next_place
place_out m l i h = rw (le-ltb i (length l) h)

-- one that ends a block stands among the octets
pub octet_there : (w m : ℕ) (l : List ℕ) (i : ℕ) → m ≡ 2 ^ w → m ≤ get_or l i 0 → i < length l
octet_there w m l i p h = go (ltb i (length l)) refl
  where
    go : (t : Bool) → ltb i (length l) ≡ t → i < length l
    go true e = ltb-true i (length l) e
    go false e = absurd (omega (arith, pow_pos w, get_or-eq_default l 0 (ltb-false i (length l) e)))

-- ---- what is left of a block

-- the last bits of an octet, numbered from p, and the octets from a place on
abbrev pub left_of : (w m bits p d : ℕ) → List ℕ → ℕ → List ℕ
left_of w m bits p d l i = set_bits bits p d ++ numbers w m (p + bits) l i

-- all of it is above p
pub left_from : (w m bits p d : ℕ) (l : List ℕ) (i : ℕ) → AllFrom (p + 1) (left_of w m bits p d l i)
left_from w m bits p d l i =
    from_append (p + 1) _ _ (from_ascending (p + 1) p _ (omega arith) (bits_between bits p d).0) (from_ascending (p + 1) (p + bits) _ (omega arith) (numbers-ascending w m (p + bits) l i))

-- the bits and the octets are compared each for itself
pub left_parts : (w m bits p a b : ℕ) (l t : List ℕ) (i j : ℕ) → all_in (left_of w m bits p a l i) (left_of w m bits p b t j)
    ≡ pick (all_in (set_bits bits p a) (set_bits bits p b)) (all_in (numbers w m (p + bits) l i) (numbers w m (p + bits) t j)) false
left_parts w m bits p a b l t i j =
    parts_within (p + bits + 1) (set_bits bits p a) _ (set_bits bits p b) _ (bits_between bits p a).1 (octets_from l i) (bits_between bits p b).1 (octets_from t j)
  where
    octets_from : (o : List ℕ) (e : ℕ) → AllFrom (p + bits + 1) (numbers w m (p + bits) o e)
    octets_from o e = from_ascending (p + bits + 1) (p + bits) _ (omega arith) (numbers-ascending w m (p + bits) o e)

pub left_both : (w m bits p a b : ℕ) (l t : List ℕ) (i j : ℕ) → all_in (left_of w m bits p a l i) (left_of w m bits p b t j) ≡ true
    → (all_in (set_bits bits p a) (set_bits bits p b) ≡ true) × (all_in (numbers w m (p + bits) l i) (numbers w m (p + bits) t j) ≡ true)
left_both w m bits p a b l t i j h = both _ _ (sym (left_parts w m bits p a b l t i j) ∙ h)

-- no bit is left of the second, and so of the first
pub left_octets : (w m bits p a : ℕ) {b : ℕ} (l t : List ℕ) (i j : ℕ) → b ≡ 0 → all_in (left_of w m bits p a l i) (left_of w m bits p b t j) ≡ true
    → (left_of w m bits p a l i ≡ numbers w m (p + bits) l i) × (left_of w m bits p b t j ≡ numbers w m (p + bits) t j)
left_octets w m bits p a {b = b} l t i j nil h =
    (rw (none_within (set_bits bits p a) (rw (nil, bits_none bits p) at (left_both w m bits p a b l t i j h).0)), rw (nil, bits_none bits p))

-- ---- one bit

-- a bit, and the bits behind it
keep_split : (b x : ℕ) (l : List ℕ) → keep b x l ≡ keep b x [] ++ l
keep_split zero x l = refl
keep_split (suc b) x l = refl

-- it alone is below the next number
keep_below : (b x : ℕ) → AllBelow (x + 1) (keep b x [])
unfolding AllBelow
keep_below zero x = tt
keep_below (suc b) x = (omega arith, tt)

-- and the bits behind it are not
rest_from : (w p d : ℕ) → AllFrom (p + 1) (set_bits w p d)
rest_from w p d = from_ascending (p + 1) p (set_bits w p d) (omega arith) (bits_between w p d).0

-- ---- the bits of one octet in another

-- two numbers are equal exactly if their lowest bits and their halves are
halves : (u v s t : ℕ) → s < 2 → t < 2 → eqb (u * 2 + s) (v * 2 + t) ≡ pick (eqb s t) (eqb u v) false
halves u v s t h k = go (eqb s t) refl (eqb u v) refl
  where
    go : (a : Bool) → eqb s t ≡ a → (b : Bool) → eqb u v ≡ b → eqb (u * 2 + s) (v * 2 + t) ≡ pick a b false
    go true e true f = eq-eqb (u * 2 + s) (v * 2 + t) (omega (arith, eqb-true s t e, eqb-true u v f))
    go true e false f = ne_eqb (u * 2 + s) (v * 2 + t) (λ (n : u * 2 + s ≡ v * 2 + t). eqb-false u v f (omega arith))
    go false e b f = ne_eqb (u * 2 + s) (v * 2 + t) (λ (n : u * 2 + s ≡ v * 2 + t). eqb-false s t e (omega arith))

-- a bit of the one is one of the other
keep_within : (a b x : ℕ) → a < 2 → b < 2 → all_in (keep a x []) (keep b x []) ≡ eqb (min a b) a
unfolding is_in all_in
keep_within zero b x h k = let z : min 0 b ≡ 0 = omega arith in rw z
keep_within (suc zero) zero x h k = refl
keep_within (suc zero) (suc zero) x h k = rw (eq-eqb x x refl)
keep_within (suc zero) (suc (suc b)) x h k = absurd (omega arith)
keep_within (suc (suc a)) b x h k = absurd (omega arith)

-- the lowest bits are compared for themselves
bits_step : (w p a b : ℕ) → all_in (set_bits (suc w) p a) (set_bits (suc w) p b)
    ≡ pick (eqb (min (a % 2) (b % 2)) (a % 2)) (all_in (set_bits w (p + 1) (a / 2)) (set_bits w (p + 1) (b / 2))) false
unfolding set_bits
bits_step w p a b =
    rw (keep_split (a % 2) (p + 1) (set_bits w (p + 1) (a / 2)), keep_split (b % 2) (p + 1) (set_bits w (p + 1) (b / 2)))
    (parts_within (p + 1 + 1) (keep (a % 2) (p + 1) []) _ (keep (b % 2) (p + 1) []) _
    (keep_below (a % 2) (p + 1)) (rest_from w (p + 1) (a / 2)) (keep_below (b % 2) (p + 1)) (rest_from w (p + 1) (b / 2))
    ∙ rw (keep_within (a % 2) (b % 2) (p + 1) (omega arith) (omega arith)))

-- all bits of an octet are set in another exactly if nothing is lost under it
pub bits_within : (w p a b : ℕ) → all_in (set_bits w p a) (set_bits w p b) ≡ eqb (bit_and (a % 2 ^ w) b) (a % 2 ^ w)
unfolding set_bits all_in
bits_within zero p a b = let z : a % 2 ^ 0 ≡ 0 = omega arith in rw z
bits_within (suc w) p a b = bits_step w p a b ∙ rw (bits_within w (p + 1) (a / 2) (b / 2)) (sym under)
  where
    whole : a % 2 ^ suc w ≡ a / 2 % 2 ^ w * 2 + a % 2
    whole = rw (pow-suc 2 w) (mod-mul a (pow_pos w) (omega arith))

    under : eqb (bit_and (a % 2 ^ suc w) b) (a % 2 ^ suc w) ≡ pick (eqb (min (a % 2) (b % 2)) (a % 2)) (eqb (bit_and (a / 2 % 2 ^ w) (b / 2)) (a / 2 % 2 ^ w)) false
    under =
        let low : a % 2 ^ suc w % 2 ≡ a % 2 = omega (arith, whole) in
        let high : a % 2 ^ suc w / 2 ≡ a / 2 % 2 ^ w = omega (arith, whole) in
        let both : bit_and (a % 2 ^ suc w) b ≡ bit_and (a / 2 % 2 ^ w) (b / 2) * 2 + min (a % 2) (b % 2) = rw (low, high) at (and_step (a % 2 ^ suc w) b) in
        rw (both, whole) (halves (bit_and (a / 2 % 2 ^ w) (b / 2)) (a / 2 % 2 ^ w) (min (a % 2) (b % 2)) (a % 2) (omega arith) (omega arith))

-- z zeros stand below the lowest bit of another octet: none is set there, and behind it all bits are set in the other again
abbrev pub Under : ℕ → ℕ → ℕ → ℕ → ℕ → Type 0
Under w p a b z =
    (set_bits w p a ≡ one_of (odd (a / 2 ^ z)) (p + (z + 1)) ++ set_bits (w - (z + 1)) (p + (z + 1)) (a / 2 ^ z / 2))
    × (all_in (set_bits (w - (z + 1)) (p + (z + 1)) (a / 2 ^ z / 2)) (set_bits (w - (z + 1)) (p + (z + 1)) (b / 2 ^ z / 2)) ≡ true)

pub under_lowest : (k w p a b : ℕ) → w ≤ k → 0 < b → b < 2 ^ w → all_in (set_bits w p a) (set_bits w p b) ≡ true → Under w p a b (count_trailing_zeros k b)
unfolding count_trailing_zeros set_bits
under_lowest k zero p a b h pos fits set = absurd (omega arith)
under_lowest zero (suc w) p a b h pos fits set = absurd (omega arith)
under_lowest (suc k) (suc w) p a b h pos fits set =
    let s = both _ _ (sym (bits_step w p a b) ∙ set) in
    go (b % 2) refl (eqb-true _ _ s.0) s.1 (λ (q : 0 < b / 2). under_lowest k w (p + 1) (a / 2) (b / 2) (omega arith) q (omega (arith, pow-suc 2 w)) s.1)
  where
    go : (d : ℕ) → b % 2 ≡ d → min (a % 2) (b % 2) ≡ a % 2 → all_in (set_bits w (p + 1) (a / 2)) (set_bits w (p + 1) (b / 2)) ≡ true
        → (0 < b / 2 → Under w (p + 1) (a / 2) (b / 2) (count_trailing_zeros k (b / 2))) → Under (suc w) p a b (under d (count_trailing_zeros k (b / 2)))
    go zero e low rest next =
        let r = next (omega arith) in
        let z = count_trailing_zeros k (b / 2) in
        let n : p + (suc z + 1) ≡ p + 1 + (z + 1) = omega arith in
        let i : suc w - (suc z + 1) ≡ w - (z + 1) = omega arith in
        let s : a / 2 ^ suc z ≡ a / 2 / 2 ^ z = sym (shr-shr a 1 z ∙ ap (λ (j : ℕ). a / 2 ^ j) (omega arith)) in
        let t : b / 2 ^ suc z ≡ b / 2 / 2 ^ z = sym (shr-shr b 1 z ∙ ap (λ (j : ℕ). b / 2 ^ j) (omega arith)) in
        let o : a % 2 ≡ 0 = omega (arith, low, e) in
        rw (o, n, i, s, t) (r.0, r.1)
    go (suc d) e low rest next = let i : suc w - 1 ≡ w = omega arith in rw (i, div-one a, div-one b) (bits_next w p a, rest)
