-- Bits sent with the zeros that they need: two lists one after the other, and the length. A frame: its length, and what puts it part by part.
-- Assumes nothing.
use Prim.Native.Nat.{ℕ, zero, suc, ◌+◌, ◌*◌, ◌/◌, ◌%◌, ◌<◌, ◌≤◌}
use mathlib.Core.Path.{◌≡◌, refl, sym, ap, ◌∙◌}
use mathlib.Core.Bool.{Bool, true, false}
use mathlib.Core.List.{List, [], ◌∷◌, ◌++◌, append-nil}
use native.Mathlib.Omega.{arith}
use lib.ListN.{length, get_or, drop, replicate, length-append, length-drop, drop_of_length-le}
use lib.Seq.{drop-cons}
use Rattle.std.proofs.lemmas.List.{length-replicate}
use Rattle.octets.specs.Lay.{put}
use Rattle.octets.specs.Bits.{oct_before, bits, number, pack}
use Rattle.octets.proofs.Laws.{length_bits}
use Rattle.fcs.specs.Division.{fcs}
use Rattle.fcs.proofs.Polynomials.{length_fcs}
use Rattle.fcs.proofs.Registers.{fcs_octets}
use Rattle.frame.specs.Limits.{most_information, most_opening, most_closing}
use Rattle.frame.specs.Stuffing.{flag, stuffed}
use Rattle.frame.specs.Frame.{flags, content, frame}
use Rattle.frame.specs.Pen.{Pen, low_bits, Holds, Adds, left_after}
use Rattle.frame.proofs.Flags.{length_flags}
use Rattle.frame.proofs.Pens.{start, adds_then}

-- zeros are put into two lists, one after the other, piece by piece
pub stuffed-append : (k : ℕ) (xs ys : List Bool) → stuffed k (xs ++ ys) ≡ stuffed k xs ++ stuffed (left_after k xs) ys
unfolding stuffed left_after
stuffed-append k [] ys = refl
stuffed-append k (false ∷ xs) ys = rw (stuffed-append 4 xs ys)
stuffed-append zero (true ∷ xs) ys = rw (stuffed-append 4 xs ys)
stuffed-append (suc k) (true ∷ xs) ys = rw (stuffed-append k xs ys)

-- and so are the ones counted that may still come
pub left_append : (k : ℕ) (xs ys : List Bool) → left_after k (xs ++ ys) ≡ left_after (left_after k xs) ys
unfolding left_after
left_append k [] ys = refl
left_append k (false ∷ xs) ys = left_append 4 xs ys
left_append zero (true ∷ xs) ys = left_append 4 xs ys
left_append (suc k) (true ∷ xs) ys = left_append k xs ys

-- at most one zero for five bits
pub stuffed-length : (k : ℕ) (bs : List Bool) → k ≤ 4 → 5 * length (stuffed k bs) + k ≤ 6 * length bs + 4
unfolding stuffed
stuffed-length k [] h = omega arith
stuffed-length k (false ∷ bs) h = omega (arith, stuffed-length 4 bs (omega arith))
stuffed-length zero (true ∷ bs) h = omega (arith, stuffed-length 4 bs (omega arith))
stuffed-length (suc k) (true ∷ bs) h = omega (arith, stuffed-length k bs (omega arith))

-- the information's octets, and two of the FCS
pub length_content : (s : List ℕ) → length (content s) ≡ length s * 8 + 16
unfolding content
length_content s = omega (arith, length-append (bits s) (fcs (bits s)), length_bits s, length_fcs (bits s))

-- a frame by its parts
pub length_frame : (info : List ℕ) (opening closing : ℕ) → length (frame info opening closing) ≡ opening * 8 + length (stuffed 4 (content info)) + closing * 8
unfolding frame
length_frame info opening closing =
    omega (arith, length-append (flags opening) (stuffed 4 (content info) ++ flags closing), length-append (stuffed 4 (content info)) (flags closing), length_flags opening, length_flags closing)

-- no frame is longer than 697 bits
pub frame-length : (info : List ℕ) (opening closing : ℕ) → length info ≤ most_information → opening ≤ most_opening → closing ≤ most_closing → length (frame info opening closing) ≤ 697
frame-length info opening closing h o c =
    omega (arith, length_frame info opening closing, length_content info, stuffed-length 4 (content info) (omega arith))

-- one flag more
pub flags_next : (k : ℕ) → flags k ++ flag ≡ flags (suc k)
unfolding flags
flags_next zero = refl
flags_next (suc k) = rw (flags_next k)

-- a flag is put behind k of them
pub flags_turn : {out₀ out₁ out₂ : List ℕ} {pen₀ pen₁ pen₂ : Pen} (k : ℕ) → Adds (flags k) out₀ pen₀ out₁ pen₁ → Adds (low_bits 8 126) out₁ pen₁ out₂ pen₂ → Adds (flags (suc k)) out₀ pen₀ out₂ pen₂
unfolding low_bits
flags_turn k x y = rw (flags_next k) at (adds_then x y)

-- flags fill octets
pack_flags : (k : ℕ) → pack k (flags k) ≡ replicate k 126
unfolding pack flags number
pack_flags zero = refl
pack_flags (suc k) = ap (λ (t : List ℕ). 126 ∷ t) (pack_flags k)

-- so they are put at the start by octets of 126
pub flags_filled : (k : ℕ) (out xs : List ℕ) → k ≤ length out → xs ≡ replicate k 126 → Adds (flags k) out start (xs ++ drop k out) (record { at = k * 8 + 0; octet = 0 })
unfolding put pack number
flags_filled k out xs room e = record {
  at = omega (arith, length_flags k);
  size = omega (arith, length-append xs (drop k out), length-drop k out, many);
  adds = λ o done l h. go o done h;
}
  where
    many : length xs ≡ k
    many = ap length e ∙ length-replicate {A = ℕ} k 126

    go : (o : List ℕ) (done : List Bool) → Holds o done out start → Holds o (done ++ flags k) (xs ++ drop k out) (record { at = k * 8 + 0; octet = 0 })
    go o (b ∷ done) h = absurd (omega (arith, h.at))
    go o [] h =
        let n : length (flags k) / 8 ≡ k = omega (arith, length_flags k) in
        let none : drop (k * 8) (flags k) ≡ [] = drop_of_length-le (flags k) {i = k * 8} (omega (arith, length_flags k)) in
        record {
          at = omega (arith, length_flags k);
          octets = rw (n, pack_flags k, length-replicate {A = ℕ} k 126, e, h.octets);
          octet = rw (n, none);
        }

-- the eight lowest bits of a number are those of an octet
pub low_bits_octet : (v : ℕ) → low_bits 8 v ≡ oct_before v []
unfolding low_bits
low_bits_octet v =
    let e₂ : v / 2 / 2 ≡ v / 4 = omega arith in
    let e₃ : v / 4 / 2 ≡ v / 8 = omega arith in
    let e₄ : v / 8 / 2 ≡ v / 16 = omega arith in
    let e₅ : v / 16 / 2 ≡ v / 32 = omega arith in
    let e₆ : v / 32 / 2 ≡ v / 64 = omega arith in
    let e₇ : v / 64 / 2 ≡ v / 128 = omega arith in
    simp (e₂, e₃, e₄, e₅, e₆, e₇)

-- bits are the bits a and then the bits b
pub record Splits (bs a b : List Bool) : Type 0 where
  pub parts : bs ≡ a ++ b

-- nothing stands behind all of them
pub splits_end : (bs : List Bool) → Splits bs bs []
splits_end bs = record { parts = sym (append-nil bs) }

-- the next octet of a run
pub bits_next : (s : List ℕ) (i : ℕ) → i < length s → Splits (bits (drop i s)) (oct_before (get_or s i 0) []) (bits (drop (i + 1) s))
unfolding bits
bits_next s i h = let e : i + 1 ≡ suc i = omega arith in record { parts = rw (e, drop-cons s i 0 h) }

-- the FCS is sent as two octets, the lower of its number first
pub content_octets : (s : List ℕ) (f : ℕ) → f ≡ number (fcs (bits s)) → Splits (content s) (bits s) (bits (f % 256 ∷ f / 256 ∷ []))
unfolding content
content_octets s f e = record { parts = rw e (ap (λ (l : List Bool). bits s ++ l) (sym (fcs_octets s))) }

-- a frame is put part by part
pub frame_adds : {out₀ out₁ out₂ out₃ : List ℕ} {pen₀ pen₁ pen₂ pen₃ : Pen} (info : List ℕ) (opening closing : ℕ)
    → Adds (flags opening) out₀ pen₀ out₁ pen₁ → Adds (stuffed 4 (content info)) out₁ pen₁ out₂ pen₂ → Adds (flags closing) out₂ pen₂ out₃ pen₃ → Adds (frame info opening closing) out₀ pen₀ out₃ pen₃
unfolding frame
frame_adds info opening closing x y z = adds_then x (adds_then y z)
