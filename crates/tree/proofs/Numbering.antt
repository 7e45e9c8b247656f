-- The numbers of a block: what is set in an octet, and a block numbered from further on.
-- Assumes nothing.
use Prim.Native.Nat.{ℕ, zero, suc, ◌+◌, ◌*◌, ◌/◌, ◌%◌, ◌^◌, ◌<◌}
use mathlib.Core.Bool.{Bool, true, false}
use mathlib.Core.List.{List, [], ◌∷◌, ◌++◌}
use mathlib.Core.Path.{◌≡◌, refl, ap}
use native.Mathlib.Omega.{arith}
use lib.Dec.{ltb}
use native.Mathlib.Nat.{pow-suc}
use Rattle.octets.specs.Places.{pick}
use Rattle.tree.specs.Block.{keep, set_bits, block_numbers}

-- ---- the set bits of an octet

-- a kept number stands before what follows
pub keep_append : (b x : ℕ) (s t : List ℕ) → keep b x s ++ t ≡ keep b x (s ++ t)
keep_append zero x s t = refl
keep_append (suc b) x s t = refl

-- nothing is set in 0
pub set_bits-zero : (w p : ℕ) → set_bits w p 0 ≡ []
unfolding set_bits
set_bits-zero zero p = refl
set_bits-zero (suc w) p = set_bits-zero w (p + 1)

-- a delimiter above the w lowest bits is no parameter
pub set_bits_over : (w p d k : ℕ) → set_bits w p (d + k * 2 ^ w) ≡ set_bits w p d
unfolding set_bits
set_bits_over zero p d k = refl
set_bits_over (suc w) p d k =
    let low : (d + k * 2 ^ suc w) % 2 ≡ d % 2 = rw (pow-suc 2 w) (omega arith) in
    let high : (d + k * 2 ^ suc w) / 2 ≡ d / 2 + k * 2 ^ w = rw (pow-suc 2 w) (omega arith) in
    rw (low, high, set_bits_over w (p + 1) (d / 2) k)

-- one bit more, above all that are set
pub set_bits_more : (w p a i : ℕ) → a < 2 ^ i → i < w → set_bits w p (a + 2 ^ i) ≡ set_bits w p a ++ (p + i + 1) ∷ []
unfolding set_bits
set_bits_more zero p a i h k = absurd (omega arith)
set_bits_more (suc w) p a zero h k =
    let low : (a + 1) % 2 ≡ 1 = omega arith in
    let high : (a + 1) / 2 ≡ 0 = omega arith in
    let none : a ≡ 0 = omega arith in
    let last : p + 0 + 1 ≡ p + 1 = omega arith in
    rw (low, high, none, last, set_bits-zero w (p + 1))
set_bits_more (suc w) p a (suc i) h k =
    let low : (a + 2 ^ suc i) % 2 ≡ a % 2 = rw (pow-suc 2 i) (omega arith) in
    let high : (a + 2 ^ suc i) / 2 ≡ a / 2 + 2 ^ i = rw (pow-suc 2 i) (omega arith) in
    let last : p + suc i + 1 ≡ p + 1 + i + 1 = omega arith in
    let less : a / 2 < 2 ^ i = omega (arith, rw (pow-suc 2 i) at h) in
    rw (low, high, last, keep_append (a % 2), set_bits_more w (p + 1) (a / 2) i less (omega arith))

-- ---- numbered from further on

-- each number so much higher
abbrev pub shift : ℕ → List ℕ → List ℕ
shift b [] = []
shift b (q ∷ qs) = (b + q) ∷ shift b qs

-- shifting goes number by number
shift_keep : (c b x : ℕ) (s : List ℕ) → keep b (c + x) (shift c s) ≡ shift c (keep b x s)
shift_keep c zero x s = refl
shift_keep c (suc b) x s = refl

shift_append : (c : ℕ) (s t : List ℕ) → shift c (s ++ t) ≡ shift c s ++ shift c t
shift_append c [] t = refl
shift_append c (x ∷ s) t = ap (λ (l : List ℕ). (c + x) ∷ l) (shift_append c s t)

-- numbered from further on, each number is that much higher: of one octet, and of a block
shift_set_bits : (c w p d : ℕ) → set_bits w (c + p) d ≡ shift c (set_bits w p d)
unfolding set_bits
shift_set_bits c zero p d = refl
shift_set_bits c (suc w) p d =
    let e : c + p + 1 ≡ c + (p + 1) = omega arith in
    rw (e, shift_set_bits c w (p + 1) (d / 2)) (shift_keep c (d % 2) (p + 1) (set_bits w (p + 1) (d / 2)))

shift_numbers : (c w m p : ℕ) (l : List ℕ) → block_numbers w m (c + p) l ≡ shift c (block_numbers w m p l)
unfolding block_numbers
shift_numbers c w m p [] = refl
shift_numbers c w m p (o ∷ l) =
    let e : c + p + w ≡ c + (p + w) = omega arith in
    rw (e, shift_set_bits c w p o, shift_numbers c w m (p + w) l, shift_append c (set_bits w p o)) (ap (λ (t : List ℕ). shift c (set_bits w p o) ++ t) (shift_pick (ltb o m)))
  where
    shift_pick : (b : Bool) → pick b (shift c (block_numbers w m (p + w) l)) [] ≡ shift c (pick b (block_numbers w m (p + w) l) [])
    shift_pick true = refl
    shift_pick false = refl

-- the numbers of a block from p on are its positions, p higher
pub numbers_shift : (w m p : ℕ) (l : List ℕ) → block_numbers w m p l ≡ shift p (block_numbers w m 0 l)
numbers_shift w m p l = let z : p + 0 ≡ p = omega arith in rw z at (shift_numbers p w m 0 l)
