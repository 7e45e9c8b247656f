-- Zeros put into a word: how its bits are sent up to the fifth one in a row, and one zero after the other put in.
-- Assumes nothing.
use Prim.Native.Nat.{ℕ, zero, suc, ◌+◌, ◌-◌, ◌*◌, ◌/◌, ◌%◌, ◌^◌, ◌<◌, ◌≤◌}
use mathlib.Core.Path.{◌≡◌, refl, sym, ap, ◌∙◌}
use mathlib.Core.Bool.{Bool, true, false}
use mathlib.Core.List.{List, [], ◌∷◌, ◌++◌, append_assoc}
use native.Mathlib.Nat.{add-mul, mod-lt, mod-eq_of_lt, pow-suc}
use native.Mathlib.Omega.{arith}
use borrow.Author.Tests.{eqb-true, eqb-false}
use lib.Count.{count_trailing_zeros}
use lib.ListN.{length, take, drop, length-append, take-append-drop}
use lib.Pow.{pow_pos, pow_mono, split, high, low, shr_lt, shr-shr}
use Rattle.octets.specs.Bits.{odd}
use Rattle.octets.specs.Places.{both}
use Rattle.octets.proofs.Laws.{both_true}
use Rattle.frame.specs.Stuffing.{stuffed}
use Rattle.frame.specs.Pen.{low_bits}
use Rattle.frame.specs.Zeros.{five_starts, Widens}
use Rattle.frame.proofs.Pens.{length_low_bits, low_bits_rest, low_bits_take, low_bits_drop}
use Rattle.frame.proofs.Zeros.{stuffed-length}
use Rattle.frame.proofs.Starts.{ones_first, starts_odd, starts_none, starts_shift}

-- how many bits there are up to the one that a zero follows, one more than all where there is none. k ones may still come before it
unfoldable five_end : ℕ → List Bool → ℕ
five_end k [] = 1
five_end k (false ∷ bs) = suc (five_end 4 bs)
five_end zero (true ∷ bs) = 1
five_end (suc k) (true ∷ bs) = suc (five_end k bs)

-- ---- the fifth one of the lowest bits

-- where the ones at the low end are too few, it does not matter how many came before
front_few : (k j n v : ℕ) → k ≤ j → ones_first (suc k) v ≡ false → five_end k (low_bits n v) ≡ five_end j (low_bits n v)
unfolding five_end low_bits ones_first
front_few k j zero v h e = refl
front_few zero j (suc n) v h e = go (odd v) e
  where
    go : (b : Bool) → both b true ≡ false → five_end 0 (b ∷ low_bits n (v / 2)) ≡ five_end j (b ∷ low_bits n (v / 2))
    go false e = refl
    go true e = cc
front_few (suc k) zero (suc n) v h e = absurd (omega arith)
front_few (suc k) (suc j) (suc n) v h e = go (odd v) e (front_few k j n (v / 2) (omega arith))
  where
    go : (b : Bool) → both b (ones_first (suc k) (v / 2)) ≡ false → (ones_first (suc k) (v / 2) ≡ false → five_end k (low_bits n (v / 2)) ≡ five_end j (low_bits n (v / 2)))
        → five_end (suc k) (b ∷ low_bits n (v / 2)) ≡ five_end (suc j) (b ∷ low_bits n (v / 2))
    go false e r = refl
    go true e r = ap suc (r e)

-- where they are enough, the last of them is it
front_full : (k n v : ℕ) → v < 2 ^ n → ones_first (suc k) v ≡ true → (five_end k (low_bits n v) ≡ suc k) × (suc k ≤ n)
unfolding five_end low_bits ones_first
front_full k zero v h e = absurd (omega (arith, eqb-true (v % 2) 1 (both_true (odd v) (ones_first k (v / 2)) e).0))
front_full zero (suc n) v h e = (rw (both_true (odd v) true e).0, omega arith)
front_full (suc k) (suc n) v h e =
    let b = both_true (odd v) (ones_first (suc k) (v / 2)) e in
    let a = front_full k n (v / 2) (omega (arith, pow-suc 2 n)) b.1 in
    (rw b.0 (ap suc a.0), omega (arith, a.1))

-- it stands one bit higher where no five ones begin at the lowest
front_next : (n v : ℕ) → ones_first 5 v ≡ false → five_end 4 (low_bits (suc n) v) ≡ suc (five_end 4 (low_bits n (v / 2)))
unfolding five_end low_bits ones_first
front_next n v e = go (odd v) e (front_few 3 4 n (v / 2) (omega arith))
  where
    go : (b : Bool) → both b (ones_first 4 (v / 2)) ≡ false → (ones_first 4 (v / 2) ≡ false → five_end 3 (low_bits n (v / 2)) ≡ five_end 4 (low_bits n (v / 2)))
        → five_end 4 (b ∷ low_bits n (v / 2)) ≡ suc (five_end 4 (low_bits n (v / 2)))
    go false e r = refl
    go true e r = ap suc (r e)

-- the fifth one of the n lowest bits, or none, is where the lowest set bit of the starts says
abbrev Seen : ℕ → ℕ → ℕ → Type 0
Seen k n v =
    (five_starts v ≡ 0 → n < five_end 4 (low_bits n v))
    × ((five_starts v ≡ 0 → ⊥) → (count_trailing_zeros k (five_starts v) + 5 ≡ five_end 4 (low_bits n v)) × (five_end 4 (low_bits n v) ≤ n))

seen : (k n v : ℕ) → n ≤ k → v < 2 ^ n → Seen k n v
unfolding count_trailing_zeros low_bits five_end
seen k zero v h l = let z : v ≡ 0 = omega arith in rw z ((λ e. omega arith), (λ e. absurd (e starts_none)))
seen zero (suc n) v h l = absurd (omega arith)
seen (suc k) (suc n) v h l = go (ones_first 5 v) refl (seen k n (v / 2) (omega arith) (omega (arith, pow-suc 2 n)))
  where
    go : (t : Bool) → ones_first 5 v ≡ t → Seen k n (v / 2) → Seen (suc k) (suc n) v
    go true e r =
        let o : five_starts v % 2 ≡ 1 = eqb-true (five_starts v % 2) 1 (starts_odd v ∙ e) in
        let a = front_full 4 (suc n) v l e in
        ((λ z. absurd (omega arith)), (λ z. (rw o (sym a.0), omega (arith, a))))
    go false e r =
        let o : five_starts v % 2 ≡ 0 = omega (arith, eqb-false (five_starts v % 2) 1 (starts_odd v ∙ e)) in
        let s : five_starts v / 2 ≡ five_starts (v / 2) = starts_shift v 1 in
        let a = front_next n v e in (
          (λ z. omega (arith, a, r.0 (omega arith))),
          (λ z. let b = r.1 (λ y. z (omega arith)) in (rw (o, s) (omega (arith, a, b.0)), omega (arith, a, b.1))),
        )

-- ---- bits sent up to the fifth one

-- bits among which it is not are sent as they are
whole_sent : (k : ℕ) (bs : List Bool) → length bs < five_end k bs → stuffed k bs ≡ bs
unfolding five_end stuffed
whole_sent k [] h = refl
whole_sent k (false ∷ bs) h = ap (λ (l : List Bool). false ∷ l) (whole_sent 4 bs (omega arith))
whole_sent zero (true ∷ bs) h = absurd (omega arith)
whole_sent (suc k) (true ∷ bs) h = ap (λ (l : List Bool). true ∷ l) (whole_sent k bs (omega arith))

-- else those up to it, and then a zero
front_sent : (k : ℕ) (bs : List Bool) → five_end k bs ≤ length bs → stuffed k bs ≡ take (five_end k bs) bs ++ (false ∷ stuffed 4 (drop (five_end k bs) bs))
unfolding five_end stuffed
front_sent k [] h = absurd (omega arith)
front_sent k (false ∷ bs) h = ap (λ (l : List Bool). false ∷ l) (front_sent 4 bs (omega arith))
front_sent zero (true ∷ bs) h = refl
front_sent (suc k) (true ∷ bs) h = ap (λ (l : List Bool). true ∷ l) (front_sent k bs (omega arith))

-- no bit is lost
sent_length : (k : ℕ) (bs : List Bool) → length bs ≤ length (stuffed k bs)
unfolding stuffed
sent_length k [] = omega arith
sent_length k (false ∷ bs) = omega (arith, sent_length 4 bs)
sent_length zero (true ∷ bs) = omega (arith, sent_length 4 bs)
sent_length (suc k) (true ∷ bs) = omega (arith, sent_length k bs)

-- lower bits, and those above them
pub low_bits_append : (n m v : ℕ) → low_bits (n + m) v ≡ low_bits n v ++ low_bits m (v / 2 ^ n)
low_bits_append n m v =
    let e : n + m - n ≡ m = omega arith in
    sym (take-append-drop n (low_bits (n + m) v)) ∙ rw (low_bits_take n (n + m) v (omega arith), low_bits_drop n (n + m) v, e)

-- ---- one zero after the other

twice : (h c : ℕ) → h * 2 * c ≡ h * c + h * c
twice h c = let e : h * 2 ≡ h + h = omega arith in rw e (add-mul h h c)

-- zeros were put into a word of twelve bits, start, up to a place; what is above that place follows a zero or nothing
pub record Zeroing (start word more place found : ℕ) : Type 0 where
  pub low : word < 2 ^ (12 + more)
  pub most : place ≤ 12 + more
  pub starts : found ≡ five_starts (word / 2 ^ place)
  pub same : low_bits place word ++ stuffed 4 (low_bits (12 + more - place) (word / 2 ^ place)) ≡ stuffed 4 (low_bits 12 start)

pub zeroing_none : {start starts : ℕ} → (start < 4096) × (starts ≡ five_starts start) → Zeroing start start 0 0 starts
unfolding low_bits
zeroing_none {start} h =
    let e : start / 1 ≡ start = omega arith in
    record { low = h.0; most = omega arith; starts = rw e h.1; same = rw e }

module _ {start word more place found : ℕ} (z : Zeroing start word more place found) where
  -- what is above the place
  abbrev above : ℕ
  above = word / 2 ^ place

  abbrev size : ℕ
  size = 12 + more - place

  pub zeroing_few : more ≤ 2
  zeroing_few =
      omega (
        arith,
        z.most,
        ap length z.same,
        length-append (low_bits place word) (stuffed 4 (low_bits size above)),
        length_low_bits place word,
        length_low_bits size above,
        length_low_bits 12 start,
        sent_length 4 (low_bits size above),
        stuffed-length 4 (low_bits 12 start) (omega arith),
      )

  pub word_small : word < 16384
  word_small = let h : 12 + more ≤ 14 = omega (arith, zeroing_few) in omega (arith, z.low, pow_mono h)

  above_low : above < 2 ^ size
  above_low = shr_lt size place (let e : size + place ≡ 12 + more = omega (arith, z.most) in rw e z.low)

  above_seen : Seen 32 size above
  above_seen = seen 32 size above (omega (arith, zeroing_few)) above_low

  -- no five ones are left
  pub zeroing_end : found ≡ 0 → Widens start (record { word = word; more = more })
  zeroing_end e =
      let s : stuffed 4 (low_bits size above) ≡ low_bits size above = whole_sent 4 (low_bits size above) (omega (arith, above_seen.0 (sym z.starts ∙ e), length_low_bits size above)) in
      let n : place + size ≡ 12 + more = omega (arith, z.most) in
      record {
        bits = (rw n at (low_bits_append place size word)) ∙ (rw s at z.same);
        low = z.low;
        few = zeroing_few;
      }

  -- the next zero
  module _ (some : found ≡ 0 → ⊥) where
    abbrev width : ℕ
    width = count_trailing_zeros 32 found + 5

    five_at : (width ≡ five_end 4 (low_bits size above)) × (five_end 4 (low_bits size above) ≤ size)
    five_at = rw z.starts (above_seen.1 (λ e. some (z.starts ∙ e)))

    -- the place behind the fifth one
    abbrev behind : ℕ
    behind = place + width

    pub behind_most : behind ≤ 12 + more
    behind_most = omega (arith, five_at, z.most)

    sent : stuffed 4 (low_bits size above) ≡ low_bits width above ++ (false ∷ stuffed 4 (low_bits (size - width) (above / 2 ^ width)))
    sent =
        rw (← five_at.0, low_bits_take width size above (omega (arith, five_at)), low_bits_drop width size above)
        at (front_sent 4 (low_bits size above) (omega (arith, five_at, length_low_bits size above)))

    -- what is added
    abbrev up : ℕ
    up = word / 2 ^ behind * 2 ^ behind

    up_le : up ≤ word
    up_le = omega (arith, split word behind)

    pub up_small : up ≤ 16384
    up_small = omega (arith, up_le, word_small)

    up_exact : up % 4294967296 ≡ up
    up_exact = mod-eq_of_lt (omega (arith, up_small))

    grown : word + up ≡ word / 2 ^ behind * 2 * 2 ^ behind + word % 2 ^ behind
    grown = omega (arith, split word behind, twice (word / 2 ^ behind) (2 ^ behind))

    rest_lt : word % 2 ^ behind < 2 ^ behind
    rest_lt = mod-lt word (pow_pos behind)

    grown_high : (word + up) / 2 ^ behind ≡ word / 2 ^ behind * 2
    grown_high = rw grown (high (word / 2 ^ behind * 2) behind rest_lt)

    grown_low : (word + up) % 2 ^ behind ≡ word % 2 ^ behind
    grown_low = rw grown (low (word / 2 ^ behind * 2) behind rest_lt)

    grown_above : (word + up) / 2 ^ (behind + 1) ≡ above / 2 ^ width
    grown_above =
        let e : word / 2 ^ behind * 2 / 2 ≡ word / 2 ^ behind = omega arith in
        sym (shr-shr (word + up) behind 1) ∙ rw (grown_high, e) (sym (shr-shr word place width))

    grown_bits : low_bits (behind + 1) (word + up) ≡ low_bits place word ++ (low_bits width above ++ (false ∷ []))
    unfolding low_bits
    grown_bits =
        let e : word / 2 ^ behind * 2 % 2 ≡ 0 = omega arith in
        let l : low_bits behind (word + up) ≡ low_bits place word ++ low_bits width above =
        sym (low_bits_rest behind (word + up)) ∙ ap (low_bits behind) grown_low ∙ low_bits_rest behind word ∙ low_bits_append place width word in
        low_bits_append behind 1 (word + up) ∙ rw (grown_high, e, l) (append_assoc (low_bits place word) (low_bits width above) (false ∷ []))

    pub zeroing_turn : Zeroing start (word + up % 4294967296) (more + 1) (behind + 1) (found / 2 ^ width)
    zeroing_turn =
        let n : 12 + (more + 1) ≡ suc (12 + more) = omega arith in
        let m : 12 + (more + 1) - (behind + 1) ≡ size - width = omega (arith, z.most) in
        rw up_exact
        record {
          low = rw n (omega (arith, z.low, up_le, pow-suc 2 (12 + more)));
          most = omega (arith, behind_most);
          starts = rw grown_above (ap (λ (n : ℕ). n / 2 ^ width) z.starts ∙ starts_shift above width);
          same = rw (m, grown_above, grown_bits)
              (append_assoc (low_bits place word) (low_bits width above ++ (false ∷ [])) _
              ∙ ap (λ (l : List Bool). low_bits place word ++ l) (append_assoc (low_bits width above) (false ∷ []) _ ∙ sym sent)
              ∙ z.same);
        }
