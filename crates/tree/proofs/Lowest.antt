-- The lowest bit set in an octet, found by counting the zeros below it; a bit by its number; and what is known of a field before it is read.
-- Assumes nothing.
use Prim.Native.Nat.{ℕ, zero, suc, ◌+◌, ◌-◌, ◌/◌, ◌%◌, ◌^◌, ◌<◌, ◌≤◌}
use mathlib.Core.Path.{◌≡◌, refl, sym, ap, ◌∙◌}
use mathlib.Core.Bool.{false}
use mathlib.Core.List.{List, [], ◌∷◌}
use native.Mathlib.Nat.{div-one, pow-suc}
use native.Mathlib.Numerals.{add-one}
use native.Mathlib.Omega.{arith}
use borrow.Author.Tests.{le-ltb, lt-ltb, eq-eqb, ne_eqb}
use lib.Count.{count_trailing_zeros, under}
use lib.Dec.{eqb}
use lib.ListN.{length}
use lib.Pow.{field, mod-mod-pow, shr-shr}
use Rattle.octets.specs.Bits.{odd}
use Rattle.tree.specs.Block.{keep, set_bits}
use Rattle.tree.specs.Codes.{field_codes, field_base}
use Rattle.tree.specs.Fields.{base_of, codes_in, is_in}
use Rattle.tree.specs.declared.Field.{Field}
use Rattle.tree.specs.declared.Field.TheVariants.{Identification, Standard}

-- ---- the bits of an octet

-- z zeros stand below the lowest set bit, and behind it come the bits above
abbrev pub Lowest : ℕ → ℕ → ℕ → ℕ → Type 0
Lowest w p d z =
    (z < w) × (set_bits w p d ≡ (p + (z + 1)) ∷ set_bits (w - (z + 1)) (p + (z + 1)) (d / 2 ^ z / 2)) × (d / 2 ^ z / 2 < 2 ^ (w - (z + 1)))

-- so it is with the zeros that are counted, in a number of w bits that is not 0
pub lowest : (k w p d : ℕ) → w ≤ k → 0 < d → d < 2 ^ w → Lowest w p d (count_trailing_zeros k d)
unfolding count_trailing_zeros set_bits
lowest k zero p d h pos fits = absurd (omega arith)
lowest zero (suc w) p d h pos fits = absurd (omega arith)
lowest (suc k) (suc w) p d h pos fits =
    go (d % 2) refl (λ (q : 0 < d / 2). lowest k w (p + 1) (d / 2) (omega arith) q (omega (arith, pow-suc 2 w)))
  where
    go : (b : ℕ) → d % 2 ≡ b → (0 < d / 2 → Lowest w (p + 1) (d / 2) (count_trailing_zeros k (d / 2)))
        → Lowest (suc w) p d (under b (count_trailing_zeros k (d / 2)))
    go zero e rest =
        let r = rest (omega arith) in
        let z = count_trailing_zeros k (d / 2) in
        let n : p + (suc z + 1) ≡ p + 1 + (z + 1) = omega arith in
        let i : suc w - (suc z + 1) ≡ w - (z + 1) = omega arith in
        let s : d / 2 ^ suc z ≡ d / 2 / 2 ^ z = sym (shr-shr d 1 z ∙ ap (λ (j : ℕ). d / 2 ^ j) (omega arith)) in
        rw (e, n, i, s) (omega (arith, r.0), r.1, r.2)
    go (suc b) e rest = let i : suc w - 1 ≡ w = omega arith in rw (e, i, div-one d) (omega arith, refl, omega (arith, pow-suc 2 w))

-- no bit is set in 0
pub bits_none : (w p : ℕ) → set_bits w p 0 ≡ []
unfolding set_bits
bits_none zero p = refl
bits_none (suc w) p = bits_none w (p + 1)

-- the w lowest bits of a number are those of what is left of it below 2 ^ w
pub bits_below : (w p d : ℕ) → set_bits w p (d % 2 ^ w) ≡ set_bits w p d
unfolding set_bits
bits_below zero p d = refl
bits_below (suc w) p d =
    let m : d % 2 ^ suc w % 2 ≡ d % 2 = ap (λ (n : ℕ). d % 2 ^ n % 2) (sym (add-one w)) ∙ mod-mod-pow d w 1 in
    let h : d % 2 ^ suc w / 2 ≡ d / 2 % 2 ^ w = ap (λ (n : ℕ). d % 2 ^ n / 2) (sym (add-one w)) ∙ field d w 1 in
    rw (m, h, bits_below w (p + 1) (d / 2))

-- ---- a field

-- more octets than a message has give no code
pub codes_long : (f : Field) (l : List ℕ) (at : ℕ) → 64 < length l → codes_in f l at ≡ []
unfolding codes_in
codes_long f l at h = rw (lt-ltb 64 (length l) h)

-- else they are those that stand above its base
pub codes_short : (f : Field) (l : List ℕ) (at : ℕ) {b : ℕ} → length l ≤ 64 → b ≡ base_of f → field_codes b l at ≡ codes_in f l at
unfolding codes_in
codes_short f l at h e = rw (e, le-ltb 64 (length l) h)

-- what the codes of a field stand above is small
pub base_small : (f : Field) → base_of f ≤ (field_base 2)
base_small Identification = omega arith
base_small Standard = omega arith

-- ---- a bit by its number

-- no bit has a number at or below the one from which they are numbered
bits_above : (x w p d : ℕ) → x ≤ p → is_in x (set_bits w p d) ≡ false
unfolding set_bits is_in
bits_above x zero p d h = refl
bits_above x (suc w) p d h = go (d % 2) (bits_above x w (p + 1) (d / 2) (omega arith))
  where
    go : (b : ℕ) → is_in x (set_bits w (p + 1) (d / 2)) ≡ false → is_in x (keep b (p + 1) (set_bits w (p + 1) (d / 2))) ≡ false
    go zero e = e
    go (suc b) e = rw (ne_eqb (p + 1) x (λ z. omega arith)) e

-- a bit is set exactly if its number is among those of the octet
pub in_bits : (w p i d : ℕ) → i < w → is_in (p + i + 1) (set_bits w p d) ≡ odd (d / 2 ^ i)
unfolding set_bits is_in
in_bits zero p i d h = absurd (omega arith)
in_bits (suc w) p zero d h =
    let n : p + 0 + 1 ≡ p + 1 = omega arith in
    let q : d / 1 ≡ d = omega arith in
    rw (n, q) (go (d % 2) (omega arith))
  where
    go : (b : ℕ) → b < 2 → is_in (p + 1) (keep b (p + 1) (set_bits w (p + 1) (d / 2))) ≡ eqb b 1
    go zero k = bits_above (p + 1) w (p + 1) (d / 2) (omega arith)
    go (suc zero) k = rw (eq-eqb (p + 1) (p + 1) refl)
    go (suc (suc b)) k = absurd (omega arith)
in_bits (suc w) p (suc i) d h =
    let n : p + suc i + 1 ≡ p + 1 + i + 1 = omega arith in
    let s : 1 + i ≡ suc i = omega arith in
    rw n (go (d % 2) (in_bits w (p + 1) i (d / 2) (omega arith) ∙ ap odd (shr-shr d 1 i ∙ ap (λ (k : ℕ). d / 2 ^ k) s)))
  where
    S : List ℕ
    S = set_bits w (p + 1) (d / 2)

    go : (b : ℕ) → is_in (p + 1 + i + 1) S ≡ odd (d / 2 ^ suc i) → is_in (p + 1 + i + 1) (keep b (p + 1) S) ≡ odd (d / 2 ^ suc i)
    go zero e = e
    go (suc b) e = rw (ne_eqb (p + 1) (p + 1 + i + 1) (λ z. omega arith)) e
