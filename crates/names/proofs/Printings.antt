-- The bits of a block and what is printed of its codes: a position is kept exactly if the code there is.
-- Assumes nothing.
use Prim.Native.Nat.{ℕ, zero, suc, ◌+◌, ◌-◌, ◌*◌, ◌/◌, ◌%◌, ◌^◌, ◌<◌}
use mathlib.Core.Bool.{Bool, true, false}
use mathlib.Core.List.{List, [], ◌∷◌}
use mathlib.Core.Logic.{⊎_elim}
use mathlib.Core.Path.{◌≡◌, refl, sym, ap, ◌∙◌}
use native.Mathlib.Nat.{zero-div, div-one}
use native.Mathlib.Omega.{arith}
use borrow.Author.Tests.{eqb-true, lt-ltb}
use lib.Bits.{bit_and, and_zero_l}
use lib.Dec.{eqb}
use lib.Pow.{shr-shr}
use Rattle.tree.specs.Codes.{of_f, of_s}
use Rattle.octets.specs.Bits.{num, odd}
use Rattle.octets.specs.Places.{pick}
use Rattle.octets.proofs.Digits.{num_lt}
use Rattle.names.specs.Tables.{Printed, reserved, npar_blocks, spar_blocks}
use Rattle.names.specs.Named.{printed_under, printed_at, npar_printed, spar_printed, printed_of, is_named, is_standard, keeps_printed, keeps}
use Rattle.names.specs.Masks.{mask_of, places_of, npar_places, spar_places}
use Rattle.names.specs.Inner.{kept_place}
use Rattle.names.specs.declared.Keep.{Keep}
use Rattle.names.specs.declared.Keep.TheVariants.{All, Named, Standard}
use Rattle.names.proofs.Blocks.{every, under_every}

-- ---- the bits of a block

-- a bit under a number is its lowest
odd-num : (b : Bool) (n : ℕ) → odd (num b + n * 2) ≡ b
odd-num true n = let e : (1 + n * 2) % 2 ≡ 1 = omega arith in rw e
odd-num false n = let e : (0 + n * 2) % 2 ≡ 0 = omega arith in rw e

-- the bit of a position is the test of what is printed there, where what is not printed fails
pub mask_bit : (f : Printed → Bool) → f reserved ≡ false → (printed : List Printed) (i : ℕ) → odd (mask_of f printed / 2 ^ i) ≡ f (printed_at printed (suc i))
unfolding mask_of printed_at
mask_bit f h [] i = rw (zero-div (2 ^ i)) (sym h)
mask_bit f h (r ∷ printed) zero = rw (div-one (num (f r) + mask_of f printed * 2)) (odd-num (f r) (mask_of f printed))
mask_bit f h (r ∷ printed) (suc i) =
    let m = mask_of f printed in
    let q : (num (f r) + m * 2) / 2 ≡ m = omega (arith, num_lt (f r)) in
    let s : 1 + i ≡ suc i = omega arith in
    let e : m / 2 ^ i ≡ (num (f r) + m * 2) / 2 ^ suc i = rw (q, s) at (shr-shr (num (f r) + m * 2) 1 i) in
    rw (← e) (mask_bit f h printed i)

-- a position is kept exactly if what is printed there is
pub kept_place_lem : (k : Keep) (printed : List Printed) (q : ℕ) → 0 < q → kept_place (places_of k printed) q ≡ keeps_printed k (printed_at printed q)
kept_place_lem k printed zero h = absurd (omega arith)
kept_place_lem All printed (suc i) h = refl
kept_place_lem Named printed (suc i) h = let e : suc i - 1 ≡ i = omega arith in rw e (mask_bit is_named refl printed i)
kept_place_lem Standard printed (suc i) h = let e : suc i - 1 ≡ i = omega arith in rw e (mask_bit is_standard refl printed i)

-- the standard positions of a block are the named ones under a mask, where that is so of every printed block whose code passes a test
pub mask_standard : (t : ℕ → Bool) (m c : ℕ) → every (λ x printed. pick (t x) (eqb (bit_and (mask_of is_named printed) m) (mask_of is_standard printed)) true) npar_blocks ≡ true → t c ≡ true
    → bit_and (mask_of is_named (printed_under c npar_blocks)) m ≡ mask_of is_standard (printed_under c npar_blocks)
unfolding mask_of
mask_standard t m c h e =
    ⊎_elim (λ n. rw n (and_zero_l m)) (λ p. eqb-true _ _ (rw e at p))
    (under_every (λ x printed. pick (t x) (eqb (bit_and (mask_of is_named printed) m) (mask_of is_standard printed)) true) npar_blocks c h)

-- no SPar position is non-standard
pub spar_standard : (c : ℕ) → mask_of is_standard (printed_under c spar_blocks) ≡ mask_of is_named (printed_under c spar_blocks)
unfolding every mask_of
spar_standard c =
    ⊎_elim (λ n. rw n) (λ p. eqb-true _ _ p) (under_every (λ x printed. eqb (mask_of is_standard printed) (mask_of is_named printed)) spar_blocks c refl)

-- ---- what is printed of codes

-- what is printed of an NPar position, and of an SPar position of level 1 and 2, is that of its code
pub printed_of_npar : (c q : ℕ) → c % 512 ≡ 0 → 0 < q → q < 512 → printed_of (c + q) ≡ npar_printed c q
unfolding printed_of
printed_of_npar c q a p h =
    let n : (c + q) % 512 ≡ q = omega arith in
    let b : c + q - q ≡ c = omega arith in
    rw (n, lt-ltb 0 q p, b)

pub printed_of_spar1 : (b q : ℕ) → b % of_f ≡ 0 → q < 512 → printed_of (b + q * of_s) ≡ spar_printed b q
unfolding printed_of
printed_of_spar1 b q a h =
    let c = b + q * of_s in
    let m = b / of_f in
    let high : c / of_s ≡ m * 512 + q = omega arith in
    let low : c / 512 ≡ (m * 512 + q) * 512 = omega arith in
    let n : c % 512 ≡ 0 = omega arith in
    let t : c / 512 % 512 ≡ 0 = rw low (omega arith) in
    let s : c / of_s % 512 ≡ q = rw high (omega arith) in
    let u : c - c % of_f ≡ b = omega arith in
    rw (n, t, s, u)

pub printed_of_spar2 : (c q : ℕ) → c % of_s ≡ 0 → 0 < q → q < 512 → printed_of (c + q * 512) ≡ spar_printed c q
unfolding printed_of
printed_of_spar2 c q a p h =
    let d = c + q * 512 in
    let high : d / 512 ≡ c / of_s * 512 + q = omega arith in
    let n : d % 512 ≡ 0 = omega arith in
    let t : d / 512 % 512 ≡ q = rw high (omega arith) in
    let u : d - d % of_s ≡ c = omega arith in
    rw (n, t, lt-ltb 0 q p, u)

-- so a position is kept exactly if its code is
pub keeps_npar : (k : Keep) (c q : ℕ) → c % 512 ≡ 0 → 0 < q → q < 512 → kept_place (npar_places k c) q ≡ keeps k (c + q)
unfolding npar_places
keeps_npar k c q a p h = kept_place_lem k (printed_under c npar_blocks) q p ∙ ap (keeps_printed k) (sym (printed_of_npar c q a p h))

pub keeps_spar1 : (k : Keep) (b q : ℕ) → b % of_f ≡ 0 → 0 < q → q < 512 → kept_place (spar_places k b) q ≡ keeps k (b + q * of_s)
unfolding spar_places
keeps_spar1 k b q a p h = kept_place_lem k (printed_under b spar_blocks) q p ∙ ap (keeps_printed k) (sym (printed_of_spar1 b q a h))

pub keeps_spar2 : (k : Keep) (c q : ℕ) → c % of_s ≡ 0 → 0 < q → q < 512 → kept_place (spar_places k c) q ≡ keeps k (c + q * 512)
unfolding spar_places
keeps_spar2 k c q a p h = kept_place_lem k (printed_under c spar_blocks) q p ∙ ap (keeps_printed k) (sym (printed_of_spar2 c q a p h))
