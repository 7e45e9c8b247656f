-- Eight bits from any place of a run: they lie in two neighbouring octets.
-- Assumes nothing.
use Prim.Native.Nat.{ℕ, ◌+◌, ◌-◌, ◌*◌, ◌/◌, ◌%◌, ◌^◌, ◌<◌}
use mathlib.Core.Path.{◌≡◌, refl, sym, ap, ◌∙◌}
use mathlib.Core.Bool.{Bool}
use mathlib.Core.List.{List, [], ◌∷◌}
use native.Mathlib.Nat.{add-zero}
use native.Mathlib.Omega.{arith}
use lib.Pow.{field, mod-mod-pow}
use lib.Seq.{get_or-drop, drop-drop}
use lib.ListN.{get_or, take, drop, length-drop}
use Rattle.octets.specs.Bits.{oct_before, bits, number, AreOctets}
use Rattle.octets.proofs.Laws.{bits_drop}
use Rattle.octets.proofs.Digits.{number_append, number_octet, number_take, number_drop}

-- the number of a run's bits: its first octet, and 256 times the number of the others
pub number_cons : (x : ℕ) (t : List ℕ) → x < 256 → number (bits (x ∷ t)) ≡ x + number (bits t) * 256
unfolding bits
number_cons x t h = number_append (oct_before x []) (bits t) ∙ ap (λ (n : ℕ). n + number (bits t) * 256) (number_octet x h)

-- its lower sixteen bits are the first two octets
low_two : (t : List ℕ) → AreOctets t → number (bits t) % 65536 ≡ get_or t 1 0 * 256 + get_or t 0 0
unfolding bits number
low_two [] h = refl
low_two (x ∷ []) h = omega (arith, number_cons x [] (h 0 (omega arith)), h 0 (omega arith))
low_two (x ∷ y ∷ t) h =
    omega (arith, number_cons x (y ∷ t) (h 0 (omega arith)), number_cons y t (h 1 (omega arith)), h 0 (omega arith), h 1 (omega arith))

-- eight bits behind fewer than eight lie in the lower sixteen
low_enough : (n r : ℕ) → r < 8 → n / 2 ^ r % 256 ≡ n % 65536 / 2 ^ r % 256
low_enough n r h =
    let e : 8 - r + (8 + r) ≡ 16 = omega arith in
    let m : n % 65536 % 2 ^ (8 + r) ≡ n % 2 ^ (8 + r) = ap (λ (k : ℕ). n % 2 ^ k % 2 ^ (8 + r)) (sym e) ∙ mod-mod-pow n (8 - r) (8 + r) in
    sym (field n 8 r) ∙ ap (λ (k : ℕ). k / 2 ^ r) (sym m) ∙ field (n % 65536) 8 r

-- the octet that eight bits from a place on make
pub octet_window : (s : List ℕ) (i : ℕ) → AreOctets s → number (take 8 (drop i (bits s))) ≡ (get_or s (i / 8 + 1) 0 * 256 + get_or s (i / 8) 0) / 2 ^ (i % 8) % 256
octet_window s i h =
    let t = drop (i / 8) s in
    let e : i ≡ i / 8 * 8 + i % 8 = omega arith in
    let d : drop i (bits s) ≡ drop (i % 8) (bits t) =
    ap (λ (k : ℕ). drop k (bits s)) e ∙ sym (drop-drop (i % 8) (i / 8 * 8) (bits s)) ∙ ap (drop (i % 8)) (sym (bits_drop (i / 8) s)) in
    ap (λ (l : List Bool). number (take 8 l)) d ∙ number_take 8 (drop (i % 8) (bits t)) ∙ ap (λ (n : ℕ). n % 256) (number_drop (i % 8) (bits t))
    ∙ low_enough (number (bits t)) (i % 8) (omega arith)
    ∙ ap (λ (n : ℕ). n / 2 ^ (i % 8) % 256) (low_two t (λ j l. rw (get_or-drop (i / 8) s j 0) (h (i / 8 + j) (omega (arith, length-drop (i / 8) s)))) ∙ rw (get_or-drop (i / 8) s 1 0, get_or-drop (i / 8) s 0 0, add-zero))
