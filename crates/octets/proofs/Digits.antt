-- Lists of bits as numbers, the lowest bit first: joined, cut, compared, and the eight bits of an octet.
-- Assumes nothing.
use Prim.Native.Nat.{ℕ, zero, suc, ◌+◌, ◌*◌, ◌/◌, ◌%◌, ◌^◌, ◌<◌, ◌≤◌}
use mathlib.Core.Path.{◌≡◌, refl, sym, ap, ◌∙◌}
use mathlib.Core.Bool.{Bool, true, false}
use mathlib.Core.List.{List, [], ◌∷◌, ◌++◌}
use native.Mathlib.Nat.{div-one, zero-div, zero-mod, mod-one, mod-eq_of_lt, pow-suc, mul_assoc}
use native.Mathlib.Numerals.{add-one}
use native.Mathlib.Omega.{arith}
use lib.Dec.{eqb}
use lib.Pow.{pow_mono, mod-pow-add, shr-shr}
use lib.Seq.{length-take-le}
use lib.ListN.{length, take, drop}
use Rattle.octets.specs.Bits.{num, odd, oct_before, number}

-- a bit is 0 or 1
pub num_lt : (b : Bool) → num b < 2
num_lt true = omega arith
num_lt false = omega arith

-- the lowest bit of a number is its remainder by two
pub num-odd : (x : ℕ) → num (odd x) ≡ x % 2
num-odd x = is (x % 2) (omega arith)
  where
    is : (m : ℕ) → m < 2 → num (eqb m 1) ≡ m
    is zero h = refl
    is (suc zero) h = refl
    is (suc (suc m)) h = absurd (omega arith)

-- the number of two lists, one after the other
pub number_append : (p q : List Bool) → number (p ++ q) ≡ number p + number q * 2 ^ length p
unfolding number
number_append [] q = omega arith
number_append (a ∷ p) q =
    let e : number q * 2 ^ suc (length p) ≡ number q * 2 ^ length p * 2 = ap (λ (n : ℕ). number q * n) (pow-suc 2 (length p)) ∙ sym (mul_assoc (number q) (2 ^ length p) 2) in
    omega (arith, number_append p q)

-- k bits make a number below 2 ^ k
pub number_lt : (p : List Bool) → number p < 2 ^ length p
unfolding number
number_lt [] = omega arith
number_lt (a ∷ p) = omega (arith, number_lt p, pow-suc 2 (length p), num_lt a)

-- at one length, equal numbers have equal bits
pub number_inj : (p q : List Bool) → length p ≡ length q → number p ≡ number q → p ≡ q
unfolding number
number_inj [] [] h e = refl
number_inj [] (b ∷ q) h e = absurd (omega arith)
number_inj (a ∷ p) [] h e = absurd (omega arith)
number_inj (true ∷ p) (true ∷ q) h e = ap (λ (l : List Bool). true ∷ l) (number_inj p q (omega arith) (omega arith))
number_inj (true ∷ p) (false ∷ q) h e = absurd (omega arith)
number_inj (false ∷ p) (true ∷ q) h e = absurd (omega arith)
number_inj (false ∷ p) (false ∷ q) h e = ap (λ (l : List Bool). false ∷ l) (number_inj p q (omega arith) (omega arith))

-- the number of the first k bits is the remainder by 2 ^ k
pub number_take : (k : ℕ) (p : List Bool) → number (take k p) ≡ number p % 2 ^ k
unfolding number
number_take zero p = sym (mod-one (number p))
number_take (suc k) [] = sym (zero-mod (2 ^ suc k))
number_take (suc k) (b ∷ p) =
    let q : (num b + number p * 2) / 2 ≡ number p = omega (arith, num_lt b) in
    let m : (num b + number p * 2) % 2 ≡ num b = omega (arith, num_lt b) in
    rw (number_take k p, ← (add-one k), mod-pow-add (num b + number p * 2) k 1, q, m) (omega arith)

-- the number of the bits behind the first k is the quotient by 2 ^ k
pub number_drop : (k : ℕ) (p : List Bool) → number (drop k p) ≡ number p / 2 ^ k
unfolding number
number_drop zero p = sym (div-one (number p))
number_drop (suc k) [] = sym (zero-div (2 ^ suc k))
number_drop (suc k) (b ∷ p) =
    let q : (num b + number p * 2) / 2 ≡ number p = omega (arith, num_lt b) in
    let s : suc k ≡ 1 + k = omega arith in
    rw (s, ← (shr-shr (num b + number p * 2) 1 k), q) (number_drop k p)

-- a number is made of its digits
digits : (x₀ x₁ x₂ x₃ x₄ x₅ x₆ x₇ a₀ a₁ a₂ a₃ a₄ a₅ a₆ a₇ : ℕ)
    → x₀ ≡ a₀ + x₁ * 2 → x₁ ≡ a₁ + x₂ * 2 → x₂ ≡ a₂ + x₃ * 2 → x₃ ≡ a₃ + x₄ * 2 → x₄ ≡ a₄ + x₅ * 2 → x₅ ≡ a₅ + x₆ * 2 → x₆ ≡ a₆ + x₇ * 2 → x₇ ≡ a₇
    → a₀ + (a₁ + (a₂ + (a₃ + (a₄ + (a₅ + (a₆ + (a₇ + 0 * 2) * 2) * 2) * 2) * 2) * 2) * 2) * 2 ≡ x₀
digits x₀ x₁ x₂ x₃ x₄ x₅ x₆ x₇ a₀ a₁ a₂ a₃ a₄ a₅ a₆ a₇ e₀ e₁ e₂ e₃ e₄ e₅ e₆ e₇ = omega arith

-- an octet is the number of its eight bits
pub number_octet : (x : ℕ) → x < 256 → number (oct_before x []) ≡ x
unfolding number
number_octet x h =
    digits x (x / 2) (x / 4) (x / 8) (x / 16) (x / 32) (x / 64) (x / 128) (num (odd x)) (num (odd (x / 2))) (num (odd (x / 4))) (num (odd (x / 8))) (num (odd (x / 16)))
    (num (odd (x / 32))) (num (odd (x / 64))) (num (odd (x / 128)))
    (omega (arith, num-odd x)) (omega (arith, num-odd (x / 2))) (omega (arith, num-odd (x / 4))) (omega (arith, num-odd (x / 8))) (omega (arith, num-odd (x / 16)))
    (omega (arith, num-odd (x / 32))) (omega (arith, num-odd (x / 64))) (omega (arith, num-odd (x / 128)))

-- at most eight bits make an octet
pub number_small : (p : List Bool) → length p ≤ 8 → number p < 256
number_small p h = omega (arith, number_lt p, pow_mono {i = length p} {j = 8} h)

-- the first bits of the octet that at most eight bits make are these bits
pub octet_take : (p : List Bool) → length p ≤ 8 → take (length p) (oct_before (number p) []) ≡ p
octet_take p h =
    number_inj (take (length p) (oct_before (number p) [])) p (length-take-le (length p) (oct_before (number p) []) h)
    (number_take (length p) (oct_before (number p) []) ∙ rw (number_octet (number p) (number_small p h)) (mod-eq_of_lt (number_lt p)))

-- the bits of the octet that eight bits make are these bits
pub octet_number : (p : List Bool) → length p ≡ 8 → oct_before (number p) [] ≡ p
octet_number p h = rw h at (octet_take p (omega arith))
