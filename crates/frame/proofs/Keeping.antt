-- Bits of a content kept in octets, as many as there is room for: what one step of any width adds, what steps add one after the other, and the last octet.
-- Assumes nothing.
use Prim.Native.Nat.{ℕ, suc, ◌+◌, ◌*◌, ◌/◌, ◌%◌, ◌^◌, ◌<◌, ◌≤◌}
use mathlib.Core.Path.{◌≡◌, refl, sym, ap, ◌∙◌}
use mathlib.Core.Bool.{Bool}
use mathlib.Core.List.{List, [], ◌∷◌, ◌++◌, append_assoc, append-nil}
use native.Mathlib.Decide.{dec_lt}
use native.Mathlib.Nat.{mod-eq_of_lt}
use native.Mathlib.Omega.{arith}
use lib.Arith.{digits_lt}
use lib.Pow.{pow-add, pow_mono, shl_exact, shr_lt}
use lib.Seq.{length-take-le, take_all, take-append-le, take-append-add, take-take, take-add, take-suc-set, set_out, drop-append-le, drop-drop}
use lib.ListN.{length, set, take, drop, length-append, length-drop, length-set}
use Rattle.octets.specs.Bits.{bits, number, oct_before}
use Rattle.octets.proofs.Laws.{bits_append, bits_take}
use Rattle.octets.proofs.Digits.{number_append, number_take, number_drop, number_small, octet_take, octet_number}
use Rattle.frame.specs.Pen.{low_bits}
use Rattle.frame.specs.Content.{Keeps, Able, Gains}
use Rattle.frame.specs.Inner.{Stands}
use Rattle.frame.specs.declared.Kept.{Kept}
use Rattle.frame.proofs.Pens.{length_low_bits, number_low_bits}

-- bits that stand still do with others behind them
stands_longer : (n : ℕ) (bs l : List Bool) (plain : List ℕ) → n ≤ length bs → Stands n bs plain → Stands n (bs ++ l) plain
stands_longer n bs l plain h s k a b = s k a b ∙ sym (take-append-le k bs l (omega arith))

-- m bits more stand with the octet that they begin, where there is room for it
stands_next : (i m : ℕ) (bs : List Bool) (plain : List ℕ) (x : ℕ) → m ≤ 8 → i * 8 ≤ length bs → take m (oct_before x []) ≡ take m (drop (i * 8) bs)
    → Stands (i * 8) bs plain → Stands (i * 8 + m) bs (set plain i x)
unfolding bits
stands_next i m bs plain x few long e s k a b = go (dec_lt i (length plain))
  where
    go : Dec (i < length plain) → take k (bits (set plain i x)) ≡ take k bs
    go (no n) = rw (set_out plain i x (omega arith)) (s k (omega (arith, length-set plain i x)) (omega (arith, length-set plain i x)))
    go (yes y) =
        let c : suc i * 8 ≡ i * 8 + 8 = omega arith in
        let l : length (take (i * 8) bs) ≡ i * 8 = length-take-le (i * 8) bs long in
        let front : bits (take i plain) ≡ take (i * 8) bs = bits_take i plain ∙ s (i * 8) (omega arith) (omega arith) in
        let both : take (i * 8 + 8) (bits (set plain i x)) ≡ take (i * 8) bs ++ oct_before x [] =
        rw c at (sym (bits_take (suc i) (set plain i x)) ∙ ap bits (take-suc-set plain i x y) ∙ bits_append (take i plain) (x ∷ []) ∙ ap (λ (p : List Bool). p ++ oct_before x []) front) in
        let all : take (i * 8 + m) (bits (set plain i x)) ≡ take (i * 8 + m) bs =
        sym (take-take (i * 8 + m) (i * 8 + 8) (bits (set plain i x)) (omega arith)) ∙ ap (take (i * 8 + m)) both
        ∙ (rw l at (take-append-add (take (i * 8) bs) (oct_before x []) m)) ∙ ap (λ (p : List Bool). take (i * 8) bs ++ p) e ∙ sym (take-add (i * 8) m bs) in
        sym (take-take k (i * 8 + m) (bits (set plain i x)) a) ∙ ap (take k) all ∙ take-take k (i * 8 + m) bs a

-- the rest at hand and a value behind it
abbrev pub joined : Kept → ℕ → ℕ
joined kept v = kept.rest + v * 2 ^ (kept.size % 8) % 4294967296

-- one step: the w lowest bits of v
module _ (kept : Kept) {w v : ℕ} (p : (v < 2 ^ w) × (w ≤ 8) × Able kept w) where
  -- no bit is shifted out
  shifted : v * 2 ^ (kept.size % 8) % 4294967296 ≡ v * 2 ^ (kept.size % 8)
  shifted = shl_exact w (kept.size % 8) 32 p.0 (omega arith)

  -- both together have no bit beyond the place behind them
  joined_lt : joined kept v < 2 ^ (w + kept.size % 8)
  joined_lt = omega (arith, shifted, pow-add 2 w (kept.size % 8), digits_lt p.0 kept.low)

  -- so they fit k bits, where that place does
  pub joined_fits : (k : ℕ) → w + kept.size % 8 ≤ k → joined kept v < 2 ^ k
  joined_fits k h = omega (arith, joined_lt, pow_mono h)

  -- they are what the bits behind the whole octets make
  joined_is : (done : List Bool) (plain : List ℕ) → Keeps done plain kept → number (drop (length done / 8 * 8) (done ++ low_bits w v)) ≡ joined kept v
  joined_is done plain h =
      let n = length done / 8 * 8 in
      let e : length (drop n done) ≡ kept.size % 8 = omega (arith, length-drop n done, h.size) in
      ap number (drop-append-le n done (low_bits w v) (omega arith)) ∙ number_append (drop n done) (low_bits w v)
      ∙ rw (shifted, e, number_low_bits w v p.0, h.rest)

  longer : (done : List Bool) → length (done ++ low_bits w v) ≡ length done + w
  longer done = length-append done (low_bits w v) ∙ ap (λ (n : ℕ). length done + n) (length_low_bits w v)

  -- with no bit beyond the place behind them
  pub low_stay : kept.size % 8 + w < 8 → joined kept v < 2 ^ ((kept.size + w) % 8)
  low_stay less = let e : (kept.size + w) % 8 ≡ w + kept.size % 8 = omega arith in rw e joined_lt

  pub low_store : 8 ≤ kept.size % 8 + w → joined kept v / 256 < 2 ^ ((kept.size + w) % 8)
  low_store full = let e : w + kept.size % 8 ≡ (kept.size + w) % 8 + 8 = omega arith in shr_lt ((kept.size + w) % 8) 8 (rw e at joined_lt)

  -- bits that do not fill the octet stay at hand
  pub gains_stay : {low : joined kept v < 2 ^ ((kept.size + w) % 8)} (plain : List ℕ) → kept.size % 8 + w < 8
      → Gains (low_bits w v) plain kept plain (record { size = kept.size + w; rest = joined kept v; low = low })
  gains_stay plain less = record {
    size = ap (λ (n : ℕ). kept.size + n) (sym (length_low_bits w v));
    room = refl;
    keeps = λ done h.
        let e : length (done ++ low_bits w v) / 8 ≡ length done / 8 = omega (arith, h.size, longer done) in
        record {
          size = omega (arith, h.size, longer done);
          whole = rw e (stands_longer (length done / 8 * 8) done (low_bits w v) plain (omega arith) h.whole);
          rest = rw e (sym (joined_is done plain h));
        };
  }

  -- where they fill it, it is stored, and the others stay
  pub gains_store : {low : joined kept v / 256 < 2 ^ ((kept.size + w) % 8)} (plain : List ℕ) → 8 ≤ kept.size % 8 + w
      → Gains (low_bits w v) plain kept (set plain (kept.size / 8) (joined kept v % 256)) (record { size = kept.size + w; rest = joined kept v / 256; low = low })
  gains_store plain full = record {
    size = ap (λ (n : ℕ). kept.size + n) (sym (length_low_bits w v));
    room = length-set plain (kept.size / 8) (joined kept v % 256);
    keeps = λ done h.
        let bs = done ++ low_bits w v in
        let i = length done / 8 in
        let e : length bs / 8 * 8 ≡ i * 8 + 8 = omega (arith, h.size, longer done) in
        let n : kept.size / 8 ≡ i = omega (arith, h.size) in
        let is : number (take 8 (drop (i * 8) bs)) ≡ joined kept v % 256 = number_take 8 (drop (i * 8) bs) ∙ ap (λ (x : ℕ). x % 256) (joined_is done plain h) in
        let o : oct_before (joined kept v % 256) [] ≡ take 8 (drop (i * 8) bs) =
        rw is at (octet_number (take 8 (drop (i * 8) bs)) (length-take-le 8 (drop (i * 8) bs) (omega (arith, h.size, length-drop (i * 8) bs, longer done)))) in
        record {
          size = omega (arith, h.size, longer done);
          whole = rw (e, n) (stands_next i 8 bs plain (joined kept v % 256) (omega arith) (omega (arith, longer done)) o (stands_longer (i * 8) done (low_bits w v) plain (omega arith) h.whole));
          rest = rw (e, ← (drop-drop 8 (i * 8) bs)) (sym (number_drop 8 (drop (i * 8) bs) ∙ ap (λ (x : ℕ). x / 256) (joined_is done plain h)));
        };
  }

-- nothing is added where nothing is kept
pub gains_none : (plain : List ℕ) (kept : Kept) → Gains [] plain kept plain kept
gains_none plain kept = record { size = omega arith; room = refl; keeps = λ done h. rw (append-nil done) h }

-- what two steps add, one after the other
pub gains_then : {a b : List Bool} {plain₀ plain₁ plain₂ : List ℕ} {kept₀ kept₁ kept₂ : Kept} → Gains a plain₀ kept₀ plain₁ kept₁ → Gains b plain₁ kept₁ plain₂ kept₂ → Gains (a ++ b) plain₀ kept₀ plain₂ kept₂
gains_then {a} {b} x y = record {
  size = omega (arith, x.size, y.size, length-append a b);
  room = y.room ∙ x.room;
  keeps = λ done h. rw (append_assoc done a b) at (y.keeps (done ++ a) (x.keeps done h));
}

-- with the rest at hand stored too, all bits stand
pub last_stands : (bs : List Bool) (plain : List ℕ) (kept : Kept) → Keeps bs plain kept → Stands (length bs) bs (set plain (kept.size / 8) (kept.rest % 256))
last_stands bs plain kept h =
    let i = length bs / 8 in
    let r = drop (i * 8) bs in
    let n : kept.size / 8 ≡ i = omega (arith, h.size) in
    let e : i * 8 + length r ≡ length bs = omega (arith, length-drop (i * 8) bs) in
    let few : length r ≤ 8 = omega (arith, length-drop (i * 8) bs) in
    let d : kept.rest % 256 ≡ number r = mod-eq_of_lt (rw h.rest (number_small r few)) ∙ h.rest in
    rw (n, d)
    (rw e at (stands_next i (length r) bs plain (number r) few (omega arith) (octet_take r few ∙ sym (take_all (length r) r (omega arith))) h.whole))
