-- The places of a word where five ones in a row begin.
-- Assumes nothing.
use Prim.Native.Nat.{ℕ, zero, suc, ◌/◌, ◌%◌, ◌^◌, ◌<◌}
use mathlib.Core.Path.{◌≡◌, refl, sym, ap, ◌∙◌}
use mathlib.Core.Bool.{Bool, true, false}
use native.Mathlib.Nat.{add_comm, mod-lt}
use native.Mathlib.Omega.{arith}
use borrow.Author.Tests.{eq-eqb, ne_eqb, eqb-true, eqb-false}
use lib.Bits.{bit_and, and_shr, and_mod}
use lib.Dec.{eqb}
use lib.Pow.{shr-shr}
use Rattle.octets.specs.Bits.{odd}
use Rattle.octets.specs.Places.{both}
use Rattle.frame.specs.Zeros.{pairs, five_starts}
use Rattle.frame.specs.Content.{five_ones}

-- a number has n ones at its low end
unfoldable pub ones_first : ℕ → ℕ → Bool
ones_first zero v = true
ones_first (suc n) v = both (odd v) (ones_first n (v / 2))

odd_and : (a b : ℕ) → odd (bit_and a b) ≡ both (odd a) (odd b)
odd_and a b = rw (and_mod a b 1) (go (a % 2) (b % 2) (mod-lt a (omega arith)) (mod-lt b (omega arith)))
  where
    go : (x y : ℕ) → x < 2 → y < 2 → eqb (bit_and x y) 1 ≡ both (eqb x 1) (eqb y 1)
    go zero zero h k = refl
    go zero (suc zero) h k = refl
    go (suc zero) zero h k = refl
    go (suc zero) (suc zero) h k = refl
    go zero (suc (suc y)) h k = absurd (omega arith)
    go (suc zero) (suc (suc y)) h k = absurd (omega arith)
    go (suc (suc x)) y h k = absurd (omega arith)

regroup : (a b c d e : Bool) → both (both (both a b) (both c d)) e ≡ both a (both b (both c (both d (both e true))))
regroup false b c d e = refl
regroup true false c d e = refl
regroup true true false d e = refl
regroup true true true false e = refl
regroup true true true true false = refl
regroup true true true true true = refl

-- they begin at the lowest bit
pub starts_odd : (v : ℕ) → odd (five_starts v) ≡ ones_first 5 v
unfolding five_starts ones_first
starts_odd v =
    let e₂ : v / 2 / 2 ≡ v / 4 = omega arith in
    let e₃ : v / 4 / 2 ≡ v / 2 / 4 = omega arith in
    let e₄ : v / 2 / 4 / 2 ≡ v / 16 = omega arith in
    rw (odd_and (bit_and (pairs v) (pairs v / 4)) (v / 16), odd_and (pairs v) (pairs v / 4), and_shr v (v / 2) 2, odd_and v (v / 2), odd_and (v / 4) (v / 2 / 4), e₂, e₃, e₄)
    (regroup (odd v) (odd (v / 2)) (odd (v / 4)) (odd (v / 2 / 4)) (odd (v / 16)))

pub starts_none : five_starts 0 ≡ 0
unfolding five_starts
starts_none = refl

-- what stands above j bits, k bits on
pub shifts : (v j k : ℕ) → v / 2 ^ j / 2 ^ k ≡ v / 2 ^ k / 2 ^ j
shifts v j k = shr-shr v j k ∙ ap (λ (n : ℕ). v / 2 ^ n) (add_comm j k) ∙ sym (shr-shr v k j)

-- above the lowest bits they begin where those of the number above them do
pub starts_shift : (v k : ℕ) → five_starts v / 2 ^ k ≡ five_starts (v / 2 ^ k)
unfolding five_starts
starts_shift v k =
    let p : pairs v / 2 ^ k ≡ pairs (v / 2 ^ k) = and_shr v (v / 2) k ∙ ap (λ (n : ℕ). bit_and (v / 2 ^ k) n) (shifts v 1 k) in
    and_shr (bit_and (pairs v) (pairs v / 4)) (v / 16) k
    ∙ rw (and_shr (pairs v) (pairs v / 4) k, shifts (pairs v) 2 k, p, shifts v 4 k)

-- five ones at the low end are the number 31
ones_five : (x : ℕ) → ones_first 5 x ≡ five_ones x
unfolding ones_first
ones_five x = go (odd x) refl (odd (x / 2)) refl (odd (x / 2 / 2)) refl (odd (x / 2 / 2 / 2)) refl (odd (x / 2 / 2 / 2 / 2)) refl
  where
    go : (a : Bool) → odd x ≡ a → (b : Bool) → odd (x / 2) ≡ b → (c : Bool) → odd (x / 2 / 2) ≡ c → (d : Bool) → odd (x / 2 / 2 / 2) ≡ d → (e : Bool) → odd (x / 2 / 2 / 2 / 2) ≡ e
        → both a (both b (both c (both d (both e true)))) ≡ five_ones x
    go false p b q c r d s e t = sym (ne_eqb (x % 32) 31 (λ k. eqb-false (x % 2) 1 p (omega arith)))
    go true p false q c r d s e t = sym (ne_eqb (x % 32) 31 (λ k. eqb-false (x / 2 % 2) 1 q (omega arith)))
    go true p true q false r d s e t = sym (ne_eqb (x % 32) 31 (λ k. eqb-false (x / 2 / 2 % 2) 1 r (omega arith)))
    go true p true q true r false s e t = sym (ne_eqb (x % 32) 31 (λ k. eqb-false (x / 2 / 2 / 2 % 2) 1 s (omega arith)))
    go true p true q true r true s false t = sym (ne_eqb (x % 32) 31 (λ k. eqb-false (x / 2 / 2 / 2 / 2 % 2) 1 t (omega arith)))
    go true p true q true r true s true t =
        sym (eq-eqb (x % 32) 31
        (omega (arith, eqb-true (x % 2) 1 p, eqb-true (x / 2 % 2) 1 q, eqb-true (x / 2 / 2 % 2) 1 r, eqb-true (x / 2 / 2 / 2 % 2) 1 s, eqb-true (x / 2 / 2 / 2 / 2 % 2) 1 t)))

-- so each bit says whether five ones begin there
pub five_at : (w i : ℕ) → odd (five_starts w / 2 ^ i) ≡ five_ones (w / 2 ^ i)
five_at w i = ap odd (starts_shift w i) ∙ starts_odd (w / 2 ^ i) ∙ ones_five (w / 2 ^ i)
