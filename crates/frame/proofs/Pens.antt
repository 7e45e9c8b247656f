-- Bits put into octets by a pen: what one step of any width adds, and what steps add one after the other.
-- Assumes nothing.
use Prim.Native.Nat.{ℕ, zero, suc, ◌+◌, ◌-◌, ◌*◌, ◌/◌, ◌%◌, ◌^◌, ◌<◌, ◌≤◌}
use mathlib.Core.Path.{◌≡◌, refl, sym, ap, ◌∙◌}
use mathlib.Core.Bool.{Bool}
use mathlib.Core.List.{List, [], ◌∷◌, ◌++◌, append_assoc, append-nil}
use native.Mathlib.Nat.{pow-suc}
use native.Mathlib.Omega.{arith}
use lib.Arith.{digits_lt}
use lib.Pow.{pow-add, pow_mono, field, mod-mod-pow, shl_exact, shr_lt, shr-shr}
use lib.Seq.{drop-cons, set-append_seam, take_all, take-append-le, drop-append-le, drop-drop}
use lib.ListN.{length, set, take, drop, length-append, length-drop, length-set}
use Rattle.octets.specs.Bits.{number, pack, packed}
use Rattle.octets.specs.Lay.{put}
use Rattle.octets.proofs.Digits.{num-odd, number_append, number_take, number_drop}
use Rattle.octets.proofs.Packing.{length_pack}
use Rattle.frame.specs.Limits.{most_bits, frame_room}
use Rattle.frame.specs.Pen.{Pen, low_bits, Holds, Ready, Adds}

-- the w lowest bits of a number are w bits
pub length_low_bits : (w v : ℕ) → length (low_bits w v) ≡ w
unfolding low_bits
length_low_bits zero v = refl
length_low_bits (suc w) v = ap suc (length_low_bits w (v / 2))

-- a number below 2 ^ w is the number of its w lowest bits
pub number_low_bits : (w v : ℕ) → v < 2 ^ w → number (low_bits w v) ≡ v
unfolding low_bits number
number_low_bits zero v h = omega arith
number_low_bits (suc w) v h = omega (arith, num-odd v, number_low_bits w (v / 2) (omega (arith, pow-suc 2 w)))

-- the w lowest bits of a number are those of its rest by 2 ^ w
pub low_bits_rest : (w v : ℕ) → low_bits w (v % 2 ^ w) ≡ low_bits w v
unfolding low_bits
low_bits_rest zero v = refl
low_bits_rest (suc w) v =
    let e : w + 1 ≡ suc w = omega arith in
    let a : v % 2 ^ suc w % 2 ≡ v % 2 = rw e at (mod-mod-pow v w 1) in
    let b : v % 2 ^ suc w / 2 ≡ v / 2 % 2 ^ w = rw e at (field v w 1) in
    rw (a, b, low_bits_rest w (v / 2))

-- the n lowest bits are the first ones of more
pub low_bits_take : (n m v : ℕ) → n ≤ m → take n (low_bits m v) ≡ low_bits n v
unfolding low_bits
low_bits_take zero m v h = refl
low_bits_take (suc n) zero v h = absurd (omega arith)
low_bits_take (suc n) (suc m) v h = rw (low_bits_take n m (v / 2) (omega arith))

-- behind the first n of a number's lowest bits
pub low_bits_drop : (n m v : ℕ) → drop n (low_bits m v) ≡ low_bits (m - n) (v / 2 ^ n)
unfolding low_bits
low_bits_drop zero m v =
    let a : m - 0 ≡ m = omega arith in
    let b : v / 1 ≡ v = omega arith in
    rw (a, b)
low_bits_drop (suc n) zero v = let e : 0 - suc n ≡ 0 = omega arith in rw e
low_bits_drop (suc n) (suc m) v =
    let a : suc m - suc n ≡ m - n = omega arith in
    let b : 1 + n ≡ suc n = omega arith in
    let d : v / 2 / 2 ^ n ≡ v / 2 ^ suc n = rw b at (shr-shr v 1 n) in
    rw (a, ← d) (low_bits_drop n m (v / 2))

-- bits behind the first 8 n do not go into n octets
pack_front : (n : ℕ) (p q : List Bool) → n * 8 ≤ length p → pack n (p ++ q) ≡ pack n p
unfolding pack
pack_front zero p q h = refl
pack_front (suc n) p q h =
    rw (take-append-le 8 p q (omega arith), drop-append-le 8 p q (omega arith), pack_front n (drop 8 p) q (omega (arith, length-drop 8 p)))

-- one octet more
pack_next : (n : ℕ) (p : List Bool) → pack (suc n) p ≡ pack n p ++ (number (take 8 (drop (n * 8) p)) ∷ [])
unfolding pack
pack_next zero p = refl
pack_next (suc n) p =
    let e : 8 + n * 8 ≡ suc n * 8 = omega arith in
    ap (λ (l : List ℕ). number (take 8 p) ∷ l) (pack_next n (drop 8 p) ∙ rw (drop-drop (n * 8) 8 p, e))

-- an octet stored behind those that were put
set_put : (xs o : List ℕ) (v : ℕ) → length xs < length o → set (put xs o) (length xs) v ≡ put (xs ++ (v ∷ [])) o
unfolding put
set_put xs o v h =
    let e : length (xs ++ (v ∷ [])) ≡ suc (length xs) = omega (arith, length-append xs (v ∷ [])) in
    rw (drop-cons o (length xs) 0 h, set-append_seam, e, append_assoc)

-- the next octet of the bits, stored behind n of them
set_next : (n : ℕ) (p : List Bool) (o : List ℕ) (v : ℕ) → n < length o → v ≡ number (take 8 (drop (n * 8) p)) → set (put (pack n p) o) n v ≡ put (pack (suc n) p) o
set_next n p o v h e = rw (pack_next n p, e) (rw (length_pack n p) at (set_put (pack n p) o (number (take 8 (drop (n * 8) p))) (rw (length_pack n p) h)))

-- the pen's octet and a value behind it
abbrev pub both : Pen → ℕ → ℕ
both pen v = pen.octet + v * 2 ^ (pen.at % 8) % 65536

-- one step: the w lowest bits of v, where the pen's octet has no bit beyond its place
module _ {out : List ℕ} {pen : Pen} {w v : ℕ} (low : pen.octet < 2 ^ (pen.at % 8)) (p : (v < 2 ^ w) × (w ≤ 8) × Ready out pen w) where
  -- no bit is shifted out of sixteen
  shifted : v * 2 ^ (pen.at % 8) % 65536 ≡ v * 2 ^ (pen.at % 8)
  shifted = shl_exact w (pen.at % 8) 16 p.0 (omega arith)

  -- both together have no bit beyond the place behind them
  both_lt : both pen v < 2 ^ (w + pen.at % 8)
  both_lt = omega (arith, shifted, pow-add 2 w (pen.at % 8), digits_lt p.0 low)

  -- so they fit k bits, where that place does
  pub both_fits : (k : ℕ) → w + pen.at % 8 ≤ k → both pen v < 2 ^ k
  both_fits k h = omega (arith, both_lt, pow_mono h)

  -- they are what the bits behind the whole octets make
  both_is : (o : List ℕ) (done : List Bool) → Holds o done out pen → number (drop (length done / 8 * 8) (done ++ low_bits w v)) ≡ both pen v
  both_is o done h =
      let n = length done / 8 * 8 in
      let e : length (drop n done) ≡ pen.at % 8 = omega (arith, length-drop n done, h.at) in
      ap number (drop-append-le n done (low_bits w v) (omega arith)) ∙ number_append (drop n done) (low_bits w v)
      ∙ rw (shifted, e, number_low_bits w v p.0, h.octet)

  -- what is left of them behind a full octet has no bit beyond that place either
  pub rest_fits : (k : ℕ) → w + pen.at % 8 ≤ k + 8 → both pen v / 256 < 2 ^ k
  rest_fits k h = shr_lt k 8 (both_fits (k + 8) h)

  -- bits that do not fill the octet stay in the pen
  pub adds_stay : pen.at % 8 + w < 8 → Adds (low_bits w v) out pen out (record { at = pen.at + w; octet = both pen v })
  adds_stay less = record {
    at = ap (λ (n : ℕ). pen.at + n) (sym (length_low_bits w v));
    size = refl;
    adds = λ o done l h.
        let k : length (done ++ low_bits w v) ≡ length done + w = length-append done (low_bits w v) ∙ ap (λ (n : ℕ). length done + n) (length_low_bits w v) in
        let e : length (done ++ low_bits w v) / 8 ≡ length done / 8 = omega (arith, h.at) in
        record {
          at = omega (arith, h.at);
          octets = rw (e, pack_front (length done / 8) done (low_bits w v) (omega arith)) h.octets;
          octet = rw e (sym (both_is o done h));
        };
  }

  -- where they fill it, it is stored, and the pen keeps the others
  pub adds_store : 8 ≤ pen.at % 8 + w → Adds (low_bits w v) out pen (set out (pen.at / 8) (both pen v % 256)) (record { at = pen.at + w; octet = both pen v / 256 })
  adds_store full = record {
    at = ap (λ (n : ℕ). pen.at + n) (sym (length_low_bits w v));
    size = length-set out (pen.at / 8) (both pen v % 256);
    adds = λ o done l h.
        let k : length (done ++ low_bits w v) ≡ length done + w = length-append done (low_bits w v) ∙ ap (λ (n : ℕ). length done + n) (length_low_bits w v) in
        let e : length (done ++ low_bits w v) / 8 ≡ suc (length done / 8) = omega (arith, h.at) in
        let n : pen.at / 8 ≡ length done / 8 = omega (arith, h.at) in
        let m : suc (length done / 8) * 8 ≡ length done / 8 * 8 + 8 = omega arith in
        record {
          at = omega (arith, h.at);
          octets = rw (e, n, h.octets, ← (pack_front (length done / 8) done (low_bits w v) (omega arith)))
              (set_next (length done / 8) (done ++ low_bits w v) o (both pen v % 256) (omega arith)
              (sym (number_take 8 (drop (length done / 8 * 8) (done ++ low_bits w v)) ∙ ap (λ (x : ℕ). x % 256) (both_is o done h))));
          octet = rw (e, m, ← (drop-drop 8 (length done / 8 * 8) (done ++ low_bits w v)))
              (sym (number_drop 8 (drop (length done / 8 * 8) (done ++ low_bits w v)) ∙ ap (λ (x : ℕ). x / 256) (both_is o done h)));
        };
  }

-- nothing is added where nothing is put
pub adds_none : (out : List ℕ) (pen : Pen) → Adds [] out pen out pen
adds_none out pen = record { at = omega arith; size = refl; adds = λ o done l h. rw (append-nil done) h }

-- what two steps add, one after the other
pub adds_then : {a b : List Bool} {out₀ out₁ out₂ : List ℕ} {pen₀ pen₁ pen₂ : Pen} → Adds a out₀ pen₀ out₁ pen₁ → Adds b out₁ pen₁ out₂ pen₂ → Adds (a ++ b) out₀ pen₀ out₂ pen₂
adds_then {a} {b} x y = record {
  at = omega (arith, x.at, y.at, length-append a b);
  size = y.size ∙ x.size;
  adds = λ o done l h. rw (append_assoc done a b) at (y.adds o (done ++ a) (l ∙ sym x.size) (x.adds o done l h));
}

-- what room is left behind a step
pub ready_then : {a : List Bool} {out₀ out₁ : List ℕ} {pen₀ pen₁ : Pen} (n m : ℕ) → Ready out₀ pen₀ n → Adds a out₀ pen₀ out₁ pen₁ → length a + m ≤ n → Ready out₁ pen₁ m
ready_then n m r x h = record { fits = omega (arith, r.fits, x.at, x.size); few = omega (arith, r.few, x.at) }

-- where there is room for n bits there is room for fewer
pub ready_less : {out : List ℕ} {pen : Pen} (n m : ℕ) → Ready out pen n → m ≤ n → Ready out pen m
ready_less n m r h = record { fits = omega (arith, r.fits); few = omega (arith, r.few) }

-- the pen at the start of an output
abbrev pub start : Pen
start = record { at = 0; octet = 0 }

-- an output of 88 octets has room for a run
pub ready_start : (out : List ℕ) → frame_room ≤ length out → Ready out start most_bits
ready_start out h = record { fits = omega arith; few = omega arith }

-- what is added from the start on is all that is held
pub holds_all : {bs : List Bool} {o out : List ℕ} {pen : Pen} → Adds bs o start out pen → Holds o bs out pen
unfolding put pack number
holds_all {o = o} x = x.adds o [] refl (record { at = refl; octets = refl; octet = refl })

-- an octet that the last bits did not fill is stored
pub last_stored : {out : List ℕ} {pen : Pen} → Ready out pen 0 → (pen.at % 8 ≡ 0 → ⊥) → (o : List ℕ) (bs : List Bool) → length o ≡ length out → Holds o bs out pen
    → set out (pen.at / 8) pen.octet ≡ put (packed bs) o
unfolding packed
last_stored {pen = pen} r some o bs l h =
    let n : pen.at / 8 ≡ length bs / 8 = omega (arith, h.at) in
    let e : (length bs + 7) / 8 ≡ suc (length bs / 8) = omega (arith, h.at) in
    rw (e, n, h.octets) (set_next (length bs / 8) bs o pen.octet (omega (arith, r.fits, h.at))
    (h.octet ∙ ap number (sym (take_all 8 (drop (length bs / 8 * 8) bs) (omega (arith, length-drop (length bs / 8 * 8) bs))))))

-- where they filled it, all octets are stored
pub last_full : {out : List ℕ} {pen : Pen} → Ready out pen 0 → pen.at % 8 ≡ 0 → (o : List ℕ) (bs : List Bool) → length o ≡ length out → Holds o bs out pen → out ≡ put (packed bs) o
unfolding packed
last_full r full o bs l h = let e : (length bs + 7) / 8 ≡ length bs / 8 = omega (arith, h.at) in rw e h.octets
