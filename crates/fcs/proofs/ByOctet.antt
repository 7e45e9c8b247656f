-- Eight steps of the division at once: those of h * 2^k + l in k steps are h, xor those of l; and those of an octet alone are three
-- shifts, by one test that computes for each of the 256.
-- Assumes nothing.
use mathlib.Core.Path.{◌≡◌, refl, sym, ap, ap₂, ◌∙◌, subst}
use mathlib.Core.Bool.{Bool, true, false}
use Prim.Native.Nat.{ℕ, zero, suc, ◌+◌, ◌*◌, ◌/◌, ◌%◌, ◌^◌, ◌<◌}
use native.Mathlib.Nat.{zero-lt-suc, zero-add, add-zero, zero-mul, mul-one, mod-lt, div-add-mod', div-lt_iff_lt-mul, pow-suc}
use native.Mathlib.Omega.{arith}
use borrow.Author.Tests.{eqb-true, eqb-false}
use lib.Arith.{lt-one}
use lib.Bits.{bit_xor, xor_lt, xor_block, xor_zero_r, block_half, block_odd}
use Rattle.std.specs.Int.Bits.{xor_assoc}
use lib.Dec.{eqb}
use lib.Pow.{pow_pos}
use Rattle.octets.specs.Bits.{odd}
use Rattle.octets.specs.Places.{pick}
use Rattle.fcs.specs.Register.{generator_number, reduced, divided, turns, octet_step}
use Rattle.fcs.proofs.Registers.{octet_turns}

two_pos : 0 < 2
two_pos = zero-lt-suc 1

-- ---- the upper part of a register is only shifted

module _ (k : ℕ) (ih : (h l : ℕ) → l < 2 ^ k → turns k (h * 2 ^ k + l) ≡ bit_xor h (turns k l)) (h m : ℕ) (hm : m < 2 ^ k) where
  abbrev upper : ℕ
  upper = generator_number / 2 ^ k

  abbrev lower : ℕ
  lower = generator_number % 2 ^ k

  lower_lt : lower < 2 ^ k
  lower_lt = mod-lt generator_number (pow_pos k)

  -- a register less the generator, taken apart at bit k
  apart : (x : ℕ) → bit_xor (x * 2 ^ k + m) generator_number ≡ bit_xor x upper * 2 ^ k + bit_xor m lower
  apart x = ap (λ (p : ℕ). bit_xor (x * 2 ^ k + m) p) (sym (div-add-mod' generator_number (2 ^ k))) ∙ xor_block k x upper m lower hm lower_lt

  alone : 0 * 2 ^ k + m ≡ m
  alone = ap (λ (x : ℕ). x + m) (zero-mul (2 ^ k)) ∙ zero-add m

  one_more : (t : Bool) → turns k (reduced t (h * 2 ^ k + m)) ≡ bit_xor h (turns k (reduced t m))
  one_more false = ih h m hm
  one_more true =
      ap (turns k) (apart h)
      ∙ ih (bit_xor h upper) (bit_xor m lower) (xor_lt k m lower hm lower_lt)
      ∙ xor_assoc h upper (turns k (bit_xor m lower))
      ∙ ap (bit_xor h) (sym (ih upper (bit_xor m lower) (xor_lt k m lower hm lower_lt))
      ∙ ap (turns k) (sym (apart 0) ∙ ap (λ (x : ℕ). bit_xor x generator_number) alone))

half_lt : (a k : ℕ) → a < 2 ^ suc k → a / 2 < 2 ^ k
half_lt a k h = (div-lt_iff_lt-mul two_pos).1 (subst (λ (x : ℕ). a < x) (pow-suc 2 k) h)

-- whether a number is odd is seen from its lowest digit
odd_same : (a b : ℕ) → a % 2 ≡ b % 2 → odd a ≡ odd b
odd_same a b e = rw e

turns_block : (k h l : ℕ) → l < 2 ^ k → turns k (h * 2 ^ k + l) ≡ bit_xor h (turns k l)
unfolding turns divided
turns_block zero h l p = ap₂ (λ (x y : ℕ). x + y) (mul-one h) (lt-one p) ∙ add-zero h ∙ sym (ap (bit_xor h) (lt-one p) ∙ xor_zero_r h)
turns_block (suc k) h l p =
    ap (turns k) (ap₂ (λ (t : Bool) (y : ℕ). reduced t y) (odd_same _ l (block_odd h k l)) (block_half h k l))
    ∙ one_more k (turns_block k) h (l / 2) (half_lt l k p) (odd l)

-- so of an octet into the register only its lower octet is looked at
pub octet_by_low : (r b : ℕ) → r < 65536 → b < 256 → octet_step r b ≡ bit_xor (r / 256) (turns 8 (bit_xor (r % 256) b))
octet_by_low r b hr hb =
    let e : bit_xor r b ≡ r / 256 * 2 ^ 8 + bit_xor (r % 256) b =
    ap₂ bit_xor (sym (div-add-mod' r 256)) (sym (zero-add b)) ∙ xor_block 8 (r / 256) 0 (r % 256) b (omega arith) hb ∙ rw (xor_zero_r (r / 256)) in
    sym (octet_turns r b hr hb) ∙ ap (turns 8) e ∙ turns_block 8 (r / 256) (bit_xor (r % 256) b) (xor_lt 8 (r % 256) b (omega arith) hb)

-- ---- the eight steps of an octet alone

-- the octet with its lower half added to the upper, and that number at three places
abbrev pub doubled : ℕ → ℕ
doubled l = bit_xor l (l * 16 % 256)

abbrev pub shifted : ℕ → ℕ
shifted x = bit_xor (bit_xor (x * 256 % 65536) (x * 8 % 65536)) (x / 16)

-- the rule holds of all octets below n
unfoldable ruled : ℕ → Bool
ruled zero = true
ruled (suc n) = pick (eqb (shifted (doubled n)) (turns 8 n)) (ruled n) false

rule : ruled 256 ≡ true
unfolding ruled turns divided
rule = refl

ruled_at : (n l : ℕ) → l < n → ruled n ≡ true → shifted (doubled l) ≡ turns 8 l
unfolding ruled
ruled_at zero l h r = absurd (omega arith)
ruled_at (suc n) l h r = go (eqb (shifted (doubled n)) (turns 8 n)) refl r (eqb l n) refl (ruled_at n l)
  where
    go : (t : Bool) → eqb (shifted (doubled n)) (turns 8 n) ≡ t → pick t (ruled n) false ≡ true → (u : Bool) → eqb l n ≡ u
        → (l < n → ruled n ≡ true → shifted (doubled l) ≡ turns 8 l) → shifted (doubled l) ≡ turns 8 l
    go false e f u g below = cc
    go true e f true g below = rw (eqb-true l n g) (eqb-true _ _ e)
    go true e f false g below = below (omega (arith, h, eqb-false l n g)) f

pub eight_at_once : (l : ℕ) → l < 256 → shifted (doubled l) ≡ turns 8 l
eight_at_once l h = ruled_at 256 l h rule
