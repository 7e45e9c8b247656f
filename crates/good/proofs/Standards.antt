-- The names of all standard parameters: sixteen numbers that are put, and the positions of the standard codes.
-- Assumes nothing.
use Prim.Native.Nat.{ℕ, zero, suc, ◌+◌, ◌-◌, ◌*◌, ◌/◌, ◌%◌, ◌^◌, ◌≤◌, ◌<◌}
use mathlib.Core.Bool.{Bool, true, false}
use mathlib.Core.List.{List, [], ◌∷◌}
use mathlib.Core.Logic.{◌⊎◌, inl, inr, ⊎_elim}
use mathlib.Core.Path.{◌≡◌, refl, sym, ap, ◌∙◌}
use native.Mathlib.Nat.{zero-div, div-eq_of_lt}
use native.Mathlib.Omega.{arith}
use borrow.Author.Tests.{lt-leb, eq-eqb, ne_eqb, eqb-true, eqb-false, ltb-true, ltb-false}
use lib.Dec.{eqb, ltb}
use lib.ListN.{get_or}
use lib.Pow.{pow_mono}
use Rattle.octets.specs.Bits.{num, odd}
use Rattle.octets.specs.Places.{pick}
use Rattle.tree.specs.Codes.{code_of, field_base, of_t, of_s}
use Rattle.names.specs.Tables.{npar_blocks, spar_blocks}
use Rattle.names.specs.Named.{printed_under, is_standard, standard_code}
use Rattle.names.specs.Masks.{mask_of, npar_places, spar_places}
use Rattle.names.specs.declared.Keep.TheVariants.{Standard}
use Rattle.names.proofs.Blocks.{every, under_every, mask_zero, mask_high}
use Rattle.names.proofs.Printings.{keeps_npar, keeps_spar1, keeps_spar2}
use Rattle.good.specs.Goodness.{npars_in, lows_in, subs_in, Names}

-- SPar(1); NPar(2) of each; NPar(3) of two and of the others; SPar(2) of those
abbrev pub standard_names : List ℕ
standard_names =
    0x1FF
    ∷ 0x1FFDDF ∷ 0x7FDB ∷ 0x07 ∷ 0x03 ∷ 0x1DF ∷ 0x07 ∷ 0x07 ∷ 0x07 ∷ 0x3FFFFFF8
    ∷ 0x7F ∷ 0x7F ∷ 0
    ∷ 0x01 ∷ 0x01 ∷ 0
    ∷ []

-- ---- each is that of the tables

-- the standard places of the NPar block, and of the SPar block, that stand under a code
abbrev npar_bits : ℕ → ℕ
npar_bits c = mask_of is_standard (printed_under c npar_blocks)

abbrev spar_bits : ℕ → ℕ
spar_bits c = mask_of is_standard (printed_under c spar_blocks)

npars_are : (q : ℕ) → 0 < q → npars_in standard_names q ≡ npar_bits (field_base 2 + q * of_s)
unfolding npar_places mask_of printed_under every
npars_are zero h = absurd (omega arith)
npars_are (suc zero) h = refl
npars_are (suc (suc zero)) h = refl
npars_are (suc (suc (suc zero))) h = refl
npars_are (suc (suc (suc (suc zero)))) h = refl
npars_are (suc (suc (suc (suc (suc zero))))) h = refl
npars_are (suc (suc (suc (suc (suc (suc zero)))))) h = refl
npars_are (suc (suc (suc (suc (suc (suc (suc zero))))))) h = refl
npars_are (suc (suc (suc (suc (suc (suc (suc (suc zero)))))))) h = refl
npars_are (suc (suc (suc (suc (suc (suc (suc (suc (suc zero))))))))) h = refl
npars_are (suc (suc (suc (suc (suc (suc (suc (suc (suc (suc i)))))))))) h =
    let q : ℕ = suc (suc (suc (suc (suc (suc (suc (suc (suc (suc i))))))))) in
    rw (lt-leb q 9 (omega arith)) (mask_high is_standard (code_of 2 10 0 0) (field_base 2 + q * of_s) refl (omega arith))

-- under an SPar(1) two codes alone have SPar(2), and NPar(3) under the first of it
module _ (q : ℕ) (h : 0 < q) (s : q < 512) where
  subs_are : subs_in standard_names q ≡ spar_bits (field_base 2 + q * of_s)
  unfolding spar_places mask_of printed_under every
  subs_are = go (eqb q 3) refl (eqb q 8) refl
    where
      c : ℕ
      c = field_base 2 + q * of_s

      go : (t : Bool) → eqb q 3 ≡ t → (u : Bool) → eqb q 8 ≡ u → get_or standard_names (pick t 10 (pick u 11 12) + 3) 0 ≡ spar_bits c
      go true e u f = let z : q ≡ 3 = eqb-true q 3 e in rw z
      go false e true f = let z : q ≡ 8 = eqb-true q 8 f in rw z
      go false e false f =
          mask_zero is_standard (λ x. pick (eqb x (code_of 1 0 0 0)) true (pick (eqb x (code_of 2 0 0 0)) true (pick (eqb x (code_of 2 3 0 0)) true (eqb x (code_of 2 8 0 0))))) spar_blocks c refl
          (rw (
            ne_eqb c (code_of 1 0 0 0) (λ z. omega arith),
            ne_eqb c (code_of 2 0 0 0) (λ z. omega arith),
            ne_eqb c (code_of 2 3 0 0) (λ z. eqb-false q 3 e (omega arith)),
            ne_eqb c (code_of 2 8 0 0) (λ z. eqb-false q 8 f (omega arith)),
          ))

  lows_are : lows_in standard_names q ≡ npar_bits (field_base 2 + q * of_s + of_t)
  unfolding npar_places mask_of printed_under every
  lows_are = go (eqb q 3) refl (eqb q 8) refl
    where
      c : ℕ
      c = field_base 2 + q * of_s + of_t

      go : (t : Bool) → eqb q 3 ≡ t → (u : Bool) → eqb q 8 ≡ u → get_or standard_names (pick t 10 (pick u 11 12)) 0 ≡ npar_bits c
      go true e u f = let z : q ≡ 3 = eqb-true q 3 e in rw z
      go false e true f = let z : q ≡ 8 = eqb-true q 8 f in rw z
      go false e false f =
          mask_zero is_standard (λ x. pick (eqb (x % of_s) of_t) (pick (eqb x (code_of 2 3 1 0)) true (eqb x (code_of 2 8 1 0))) true) npar_blocks c refl
          (rw (
            eq-eqb (c % of_s) of_t (omega arith),
            ne_eqb c (code_of 2 3 1 0) (λ z. eqb-false q 3 e (omega arith)),
            ne_eqb c (code_of 2 8 1 0) (λ z. eqb-false q 8 f (omega arith)),
          ))

-- ---- so they are the names

subs_few : (q : ℕ) → subs_in standard_names q < 2
subs_few q = go (eqb q 3) (eqb q 8)
  where
    go : (t u : Bool) → get_or standard_names (pick t 10 (pick u 11 12) + 3) 0 < 2
    go true u = omega arith
    go false true = omega arith
    go false false = omega arith

pub standard_names_lem : Names standard_code standard_names
unfolding npar_places spar_places mask_of printed_under
standard_names_lem =
    record {
      fit = (refl, subs_few);
      top = λ k h s. sym (keeps_npar Standard (field_base 2) k refl h s) ∙ rw (zero-div (2 ^ (k - 1)));
      spar = λ q h s. keeps_spar1 Standard (field_base 2) q refl h s;
      npar = λ q k h s i t. rw (npars_are q h) (keeps_npar Standard (field_base 2 + q * of_s) k (omega arith) i t);
      sub = λ q t h s i u. rw (subs_are q h s) (keeps_spar2 Standard (field_base 2 + q * of_s) t (omega arith) i u);
      low = λ q k h s i t. rw (lows_are q h s) (keeps_npar Standard (field_base 2 + q * of_s + of_t) k (omega arith) i t);
    }

-- ---- which codes are not standard

-- a number has no bit above those that hold it
pub bit_none : (v h i : ℕ) → v < 2 ^ h → h ≤ i → odd (v / 2 ^ i) ≡ false
bit_none v h i k l = let z : v / 2 ^ i ≡ 0 = div-eq_of_lt (omega (arith, pow_mono {i = h} {j = i} l)) in rw z

-- a test that both holds and fails
pub clash : {b : Bool} → b ≡ true → b ≡ false → ⊥
clash h k = omega (arith, ap num (sym h ∙ k))

-- SPar(1) behind the ninth
pub spars_over : (q : ℕ) → 9 < q → q < 512 → standard_code (field_base 2 + q * of_s) ≡ false
spars_over q h s = sym (standard_names_lem.spar q (omega arith) s) ∙ bit_none 0x1FF 9 (q - 1) (omega arith) (omega arith)

-- NPar behind the 32nd
npars_small : (c : ℕ) → npar_bits c < 2 ^ 32
unfolding npar_places mask_of every
npars_small c =
    ⊎_elim
    (λ (e : printed_under c npar_blocks ≡ []). rw e (omega arith))
    (λ e. ltb-true (mask_of is_standard (printed_under c npar_blocks)) (2 ^ 32) e)
    (under_every (λ x printed. ltb (mask_of is_standard printed) (2 ^ 32)) npar_blocks c refl)

pub npars_over : (c k : ℕ) → c % 512 ≡ 0 → 32 < k → k < 512 → standard_code (c + k) ≡ false
unfolding npar_places
npars_over c k a h s = sym (keeps_npar Standard c k a (omega arith) s) ∙ bit_none (npar_bits c) 32 (k - 1) (npars_small c) (omega arith)

-- SPar(2) but the first, of two SPar(1)
pub sub_only : (q t : ℕ) → 0 < q → q < 512 → 0 < t → t < 512 → standard_code (field_base 2 + q * of_s + t * of_t) ≡ true → (t ≡ 1) × ((q ≡ 3) ⊎ (q ≡ 8))
sub_only q t h s i u e = (one (ltb 1 t) refl, go (eqb q 3) refl (eqb q 8) refl (standard_names_lem.sub q t h s i u ∙ e))
  where
    one : (b : Bool) → ltb 1 t ≡ b → t ≡ 1
    one true f = absurd (clash (standard_names_lem.sub q t h s i u ∙ e) (bit_none (subs_in standard_names q) 1 (t - 1) (subs_few q) (omega (arith, ltb-true 1 t f))))
    one false f = omega (arith, ltb-false 1 t f)

    go : (a : Bool) → eqb q 3 ≡ a → (b : Bool) → eqb q 8 ≡ b → odd (get_or standard_names (pick a 10 (pick b 11 12) + 3) 0 / 2 ^ (t - 1)) ≡ true → (q ≡ 3) ⊎ (q ≡ 8)
    go true f b g k = inl (eqb-true q 3 f)
    go false f true g k = inr (eqb-true q 8 g)
    go false f false g k = absurd (clash k (bit_none 0 0 (t - 1) (omega arith) (omega arith)))
