-- The register on numbers does the long division on polynomials: eight steps take an octet in, and after a run of octets the register
-- holds the complement of their FCS.
-- Assumes nothing.
use Prim.Native.Nat.{ℕ, zero, suc, ◌+◌, ◌-◌, ◌*◌, ◌/◌, ◌%◌, ◌^◌, ◌<◌, ◌≤◌}
use mathlib.Core.Path.{◌≡◌, refl, sym, ap, ◌∙◌}
use mathlib.Core.Bool.{Bool, true, false, not}
use mathlib.Core.List.{List, [], ◌∷◌, ◌++◌, map}
use native.Mathlib.Nat.{pow-suc}
use native.Mathlib.Numerals.{add-one}
use native.Mathlib.Omega.{arith}
use lib.Bits.{bit_xor, differ, xor_step, xor_comm, xor_zero_r}
use lib.ListN.{length, get_or, drop, replicate, length-append}
use lib.Seq.{drop-cons}
use Rattle.octets.specs.Bits.{num, oct_before, bits, number}
use Rattle.octets.proofs.Laws.{length_bits}
use Rattle.octets.proofs.Digits.{number_append, number_lt, number_inj, number_octet}
use Rattle.fcs.specs.Division.{plus, plus_all, generator, rest, fcs}
use Rattle.fcs.specs.Register.{generator_number, divided, turns, octet_step, register}
use Rattle.fcs.proofs.Polynomials.{plus_all_comm, plus_none, length_plus, length_rest, rest_parts, remainder, length_remainder, fcs_remainder, length_fcs}

module _ (a : Bool) (x : ℕ) where
  -- the lowest digit of a number
  low_digit : (num a + x * 2) % 2 ≡ num a
  unfolding number
  low_digit = omega (arith, number_lt (a ∷ []))

  -- and its other digits
  high_digits : (num a + x * 2) / 2 ≡ x
  unfolding number
  high_digits = omega (arith, number_lt (a ∷ []))

-- two digits differ where their sum modulo 2 is one
differ_num : (a b : Bool) → differ (num a) (num b) ≡ num (plus a b)
differ_num true true = refl
differ_num true false = refl
differ_num false true = refl
differ_num false false = refl

-- the number of a sum is the exclusive or
number_plus : (p q : List Bool) → number (plus_all p q) ≡ bit_xor (number p) (number q)
unfolding number plus_all
number_plus [] q = refl
number_plus (a ∷ p) [] = sym (xor_zero_r (num a + number p * 2))
number_plus (a ∷ p) (b ∷ q) =
    rw (
      xor_step (num a + number p * 2) (num b + number q * 2),
      high_digits a (number p),
      high_digits b (number q),
      low_digit a (number p),
      low_digit b (number q),
      differ_num a b,
      number_plus p q,
    )
    (omega arith)

-- k steps of the division in a register are k steps of the long division of the polynomial
rest_turns : (k : ℕ) (p : List Bool) → k ≤ length p → number (rest k p) ≡ turns k (number p)
unfolding rest turns number divided
rest_turns zero p h = refl
rest_turns (suc k) [] h = absurd (omega arith)
rest_turns (suc k) (true ∷ p) h =
    rw (low_digit true (number p), high_digits true (number p))
    (rest_turns k (plus_all generator p) (omega (arith, length_plus generator p))
    ∙ ap (turns k) (number_plus generator p ∙ xor_comm generator_number (number p)))
rest_turns (suc k) (false ∷ p) h = rw (low_digit false (number p), high_digits false (number p)) (rest_turns k p (omega arith))

-- the number of two octets
number_two : (x y : ℕ) → x < 256 → y < 256 → number (bits (x ∷ y ∷ [])) ≡ x + y * 256
unfolding bits
number_two x y hx hy = number_append (oct_before x []) (oct_before y []) ∙ rw (number_octet x hx, number_octet y hy)

-- an octet goes into the register by eight steps
pub octet_turns : (r b : ℕ) → r < 65536 → b < 256 → turns 8 (bit_xor r b) ≡ octet_step r b
unfolding octet_step number
octet_turns r b hr hb =
    let P = oct_before b (replicate 16 false) in
    let Q = bits (r % 256 ∷ r / 256 ∷ []) in
    let e : number P ≡ b = number_octet b hb in
    let f : number Q ≡ r = number_two (r % 256) (r / 256) (omega arith) (omega arith) ∙ omega arith in
    sym
    (rest_turns 8 (plus_all P Q) (omega (arith, length_plus P Q))
    ∙ ap (turns 8) (number_plus P Q ∙ rw (e, f) (xor_comm b r)))

-- the two octets of the number of sixteen coefficients have these bits
bits_two : (L : List Bool) → length L ≡ 16 → bits (number L % 256 ∷ number L / 256 ∷ []) ≡ L
bits_two L h =
    let t = number L % 256 ∷ number L / 256 ∷ [] in
    let n : number L < 65536 = omega (arith, number_lt L, ap (λ (k : ℕ). 2 ^ k) h) in
    number_inj (bits t) L (length_bits t ∙ sym h) (number_two (number L % 256) (number L / 256) (omega arith) (omega arith) ∙ omega arith)

-- a run of octets leaves the remainder of its bits in the register
register_rest : (L : List Bool) (s : List ℕ) → length L ≡ 16
    → register (number L) s ≡ number (rest (length (bits s)) (plus_all L (bits s ++ replicate 16 false)))
unfolding register bits rest octet_step
register_rest L [] h = ap number (sym (plus_all_comm L (replicate 16 false) ∙ plus_none 16 L (omega arith)))
register_rest L (b ∷ s) h =
    let P = plus_all (oct_before b (replicate 16 false)) L in
    let w : length P ≡ 24 = omega (arith, length_plus (oct_before b (replicate 16 false)) L) in
    rw (bits_two L h)
    (register_rest (rest 8 P) s (omega (arith, length_rest 8 P (omega arith)))
    ∙ ap number (sym (rest_parts L (oct_before b []) (bits s) (bits s ++ replicate 16 false) (omega (arith, length-append (bits s) (replicate 16 false))))))

-- the number of a polynomial and that of its complement
number_not : (p : List Bool) → number (map not p) + number p + 1 ≡ 2 ^ length p
unfolding number
number_not [] = refl
number_not (true ∷ p) = omega (arith, number_not p, pow-suc 2 (length p))
number_not (false ∷ p) = omega (arith, number_not p, pow-suc 2 (length p))

-- the complement of the register after a run is the number of the run's FCS
pub fcs-register : (s : List ℕ) → 65535 - register 65535 s ≡ number (fcs (bits s))
unfolding number
fcs-register s =
    let m = bits s in
    let e : register 65535 s ≡ number (remainder m) = register_rest (replicate 16 true) s refl in
    rw (e, fcs_remainder m) (omega (arith, number_not (remainder m), ap (λ (k : ℕ). 2 ^ k) (length_remainder m)))

-- the two octets of that number, the lower first, have the FCS's bits, the highest coefficient first
pub fcs_octets : (s : List ℕ) → bits (number (fcs (bits s)) % 256 ∷ number (fcs (bits s)) / 256 ∷ []) ≡ fcs (bits s)
fcs_octets s = bits_two (fcs (bits s)) (length_fcs (bits s))

-- one octet of a run gone in, one octet less to come
pub register_next : (s : List ℕ) (i r : ℕ) → i < length s → register (octet_step r (get_or s i 0)) (drop (i + 1) s) ≡ register r (drop i s)
unfolding register
register_next s i r h = rw (add-one, drop-cons s i 0)
