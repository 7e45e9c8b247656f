-- Bits packed into octets, and taken out again.
-- Assumes nothing.
use Prim.Native.Nat.{ℕ, zero, suc, ◌+◌, ◌*◌, ◌/◌, ◌<◌, ◌≤◌}
use mathlib.Core.Path.{◌≡◌, refl, sym, ap, ◌∙◌}
use mathlib.Core.Bool.{Bool}
use mathlib.Core.List.{List, [], ◌∷◌, ◌++◌}
use native.Mathlib.Decide.{dec_lt}
use native.Mathlib.Omega.{arith}
use lib.Seq.{length-take-le, take_all, take-append-le, take-append-add}
use lib.ListN.{length, take, drop, length-take, length-drop, take-append-drop}
use Rattle.octets.specs.Bits.{oct_before, bits, number, pack, packed, AreOctets}
use Rattle.octets.proofs.Laws.{length_bits}
use Rattle.octets.proofs.Digits.{number_octet, number_small, octet_take, octet_number}

-- packing into n octets gives n octets
pub length_pack : (n : ℕ) (bs : List Bool) → length (pack n bs) ≡ n
unfolding pack
length_pack zero bs = refl
length_pack (suc n) bs = ap suc (length_pack n (drop 8 bs))

-- each of them is below 256
pub pack_octets : (n : ℕ) (bs : List Bool) → AreOctets (pack n bs)
unfolding pack
pack_octets zero bs i h = absurd (omega arith)
pack_octets (suc n) bs zero h = number_small (take 8 bs) (omega (arith, length-take 8 bs))
pack_octets (suc n) bs (suc i) h = pack_octets n (drop 8 bs) i (omega arith)

-- octets taken apart and packed are the octets
pub pack_bits : (t : List ℕ) → AreOctets t → pack (length t) (bits t) ≡ t
unfolding pack bits
pack_bits [] h = refl
pack_bits (x ∷ t) h = rw (number_octet x (h 0 (omega arith)), pack_bits t (λ i l. h (suc i) (omega arith)))

-- the same where the bits say how many octets they need
pub packed_bits : (t : List ℕ) → AreOctets t → packed (bits t) ≡ t
unfolding packed
packed_bits t h =
    let e : (length (bits t) + 7) / 8 ≡ length t = omega (arith, length_bits t) in
    rw e (pack_bits t h)

-- bits packed into n octets, where there is room, are the first bits of these octets
pub take_bits_pack : (n : ℕ) (bs : List Bool) → length bs ≤ n * 8 → take (length bs) (bits (pack n bs)) ≡ bs
unfolding pack bits
take_bits_pack zero [] h = refl
take_bits_pack zero (b ∷ bs) h = absurd (omega arith)
take_bits_pack (suc n) bs h = go (dec_lt (length bs) 8) (take_bits_pack n (drop 8 bs) (omega (arith, length-drop 8 bs)))
  where
    go : Dec (length bs < 8) → take (length (drop 8 bs)) (bits (pack n (drop 8 bs))) ≡ drop 8 bs → take (length bs) (oct_before (number (take 8 bs)) (bits (pack n (drop 8 bs)))) ≡ bs
    go (yes y) r =
        rw (take_all 8 bs (omega arith))
        (take-append-le (length bs) (oct_before (number bs) []) (bits (pack n (drop 8 bs))) (omega arith) ∙ octet_take bs (omega arith))
    go (no y) r =
        let e : length bs ≡ 8 + length (drop 8 bs) = omega (arith, length-drop 8 bs) in
        ap (λ (k : ℕ). take k (oct_before (number (take 8 bs)) (bits (pack n (drop 8 bs))))) e
        ∙ take-append-add (oct_before (number (take 8 bs)) []) (bits (pack n (drop 8 bs))) (length (drop 8 bs))
        ∙ ap (λ (l : List Bool). oct_before (number (take 8 bs)) l) r
        ∙ ap (λ (l : List Bool). l ++ drop 8 bs) (octet_number (take 8 bs) (length-take-le 8 bs (omega arith)))
        ∙ take-append-drop 8 bs

-- bits that fill k octets are the bits of these octets
pub bits_pack : (k : ℕ) (bs : List Bool) → length bs ≡ k * 8 → bits (pack k bs) ≡ bs
bits_pack k bs h =
    sym (take_all (length bs) (bits (pack k bs)) (omega (arith, length_bits (pack k bs), length_pack k bs))) ∙ take_bits_pack k bs (omega arith)

-- as many octets as the bits need
pub length_packed : (bs : List Bool) → length (packed bs) ≡ (length bs + 7) / 8
unfolding packed
length_packed bs = length_pack ((length bs + 7) / 8) bs
