-- Bits put with the zeros that they need, octet by octet: the last four bits say how many ones may still come, and a word of these and an octet's
-- bits, with its zeros, is what is sent. Assumes nothing.
use Prim.Native.Nat.{ℕ, zero, suc, ◌+◌, ◌-◌, ◌*◌, ◌/◌, ◌%◌, ◌^◌, ◌<◌, ◌≤◌}
use mathlib.Core.Path.{◌≡◌, refl, sym, ap, ◌∙◌}
use mathlib.Core.Bool.{Bool, true, false}
use mathlib.Core.List.{List, [], ◌∷◌, ◌++◌, append_assoc, append-nil}
use native.Mathlib.Omega.{arith}
use borrow.Author.Tests.{leb-true, leb-false}
use lib.Dec.{leb}
use lib.ListN.{length, drop, length-append}
use lib.Pow.{shr_lt}
use Rattle.octets.specs.Bits.{oct_before}
use Rattle.frame.specs.Stuffing.{stuffed}
use Rattle.frame.specs.Pen.{low_bits, left_after}
use Rattle.frame.specs.Zeros.{five_starts, Widens}
use Rattle.frame.specs.Quill.{Room, Puts, left_of, Marks}
use Rattle.frame.specs.declared.Quill.{Quill}
use Rattle.frame.specs.declared.Wide.{Wide}
use Rattle.frame.proofs.Pens.{length_low_bits, low_bits_rest, low_bits_drop}
use Rattle.frame.proofs.Zeros.{stuffed-append, left_append, low_bits_octet, Splits}
use Rattle.frame.proofs.Pens.{ready_less}
use Rattle.frame.proofs.Quills.{puts_none, puts_then, room_then}
use Rattle.frame.proofs.Widening.{low_bits_append, zeroing_none, zeroing_end}

-- ---- the last four bits sent

-- as many ones may still come behind bits sent as behind the bits
left_sent : (k : ℕ) (bs : List Bool) → left_after k (stuffed k bs) ≡ left_after k bs
unfolding stuffed left_after
left_sent k [] = refl
left_sent k (false ∷ bs) = left_sent 4 bs
left_sent zero (true ∷ bs) = left_sent 4 bs
left_sent (suc k) (true ∷ bs) = left_sent k bs

-- it does not matter how many came before j bits sent, where that were j at most
left_short : (j k : ℕ) (bs : List Bool) → length (stuffed k bs) ≡ j → k ≤ j → left_after j (stuffed k bs) ≡ left_after k bs
unfolding stuffed left_after
left_short j k [] e h = omega arith
left_short j k (false ∷ bs) e h = left_sent 4 bs
left_short zero zero (true ∷ bs) e h = absurd (omega arith)
left_short (suc j) zero (true ∷ bs) e h = left_sent 4 bs
left_short zero (suc k) (true ∷ bs) e h = absurd (omega arith)
left_short (suc j) (suc k) (true ∷ bs) e h = left_short j k bs (omega arith) (omega arith)

-- r ones may still come behind a list, as its last four bits say
abbrev Last : List Bool → ℕ → Type 0
Last bs r = 4 ≤ length bs → left_after 4 (drop (length bs - 4) bs) ≡ r

last_step : (b : Bool) (bs : List Bool) (r : ℕ) → Last bs r → (length (b ∷ bs) ≡ 4 → left_after 4 (b ∷ bs) ≡ r) → Last (b ∷ bs) r
last_step b bs r more all h = go (leb 4 (length bs)) refl
  where
    go : (t : Bool) → leb 4 (length bs) ≡ t → left_after 4 (drop (suc (length bs) - 4) (b ∷ bs)) ≡ r
    go true e =
        let l = leb-true 4 (length bs) e in
        let n : suc (length bs) - 4 ≡ suc (length bs - 4) = omega arith in
        rw n (more l)
    go false e =
        let l = leb-false 4 (length bs) e in
        let n : suc (length bs) - 4 ≡ 0 = omega arith in
        rw n (all (omega arith))

-- so it is with bits sent
last_sent : (k : ℕ) (bs : List Bool) → k ≤ 4 → Last (stuffed k bs) (left_after k bs)
unfolding stuffed left_after
last_sent k [] h = λ l. absurd (omega arith)
last_sent k (false ∷ bs) h = last_step false (stuffed 4 bs) _ (last_sent 4 bs (omega arith)) (λ e. left_short 4 k (false ∷ bs) e h)
last_sent zero (true ∷ bs) h =
    last_step true (false ∷ stuffed 4 bs) _ (last_step false (stuffed 4 bs) _ (last_sent 4 bs (omega arith)) (λ e. left_sent 4 bs)) (λ e. left_short 4 0 (true ∷ bs) e h)
last_sent (suc k) (true ∷ bs) h = last_step true (stuffed k bs) _ (last_sent k bs (omega arith)) (λ e. left_short 4 (suc k) (true ∷ bs) e h)

-- ---- a word

-- bits that are no more than the ones that may still come are sent as they are
short_sent : (k : ℕ) (bs : List Bool) → length bs ≤ k → k ≤ 4 → stuffed k bs ≡ bs
unfolding stuffed
short_sent k [] h f = refl
short_sent k (false ∷ bs) h f = ap (λ (l : List Bool). false ∷ l) (short_sent 4 bs (omega arith) (omega arith))
short_sent zero (true ∷ bs) h f = absurd (omega arith)
short_sent (suc k) (true ∷ bs) h f = ap (λ (l : List Bool). true ∷ l) (short_sent k bs (omega arith) (omega arith))

-- eight bits above the four lowest and those above them are all above the four lowest
pub puts_wide : (word more : ℕ) {quill₀ quill₁ quill₂ : Quill} → Puts (low_bits 8 (word / 16 % 256)) quill₀ quill₁
    → Puts (low_bits more (word / 4096)) quill₁ quill₂ → Puts (low_bits (8 + more) (word / 16)) quill₀ quill₂
puts_wide word more x y =
    let e : word / 16 / 256 ≡ word / 4096 = omega arith in
    rw (low_bits_append 8 more (word / 16), ← (low_bits_rest 8 (word / 16)), e) (puts_then x y)

-- the word of an octet behind the last four bits, with its zeros
module _ (octet last : ℕ) (wide : Wide) (ho : octet < 256) (hl : last < 16) (z : Widens (octet * 16 + last) wide) where
  twelve : low_bits 12 (octet * 16 + last) ≡ low_bits 4 last ++ oct_before octet []
  twelve =
      let a : (octet * 16 + last) % 16 ≡ last = omega arith in
      let b : (octet * 16 + last) / 16 ≡ octet = omega arith in
      low_bits_append 4 8 (octet * 16 + last)
      ∙ rw (← (low_bits_rest 4 (octet * 16 + last)), a, b, low_bits_octet octet)

  sent : low_bits (12 + wide.more) wide.word ≡ low_bits 4 last ++ stuffed (left_of last) (oct_before octet [])
  sent = z.bits ∙ ap (stuffed 4) twelve ∙ stuffed-append 4 (low_bits 4 last) (oct_before octet [])
      ∙ rw (short_sent 4 (low_bits 4 last) (omega (arith, length_low_bits 4 last)) (omega arith))

  -- above its four lowest bits it is what is sent
  wide_sent : low_bits (8 + wide.more) (wide.word / 16) ≡ stuffed (left_of last) (oct_before octet [])
  unfolding low_bits
  wide_sent =
      let e : 12 + wide.more - 4 ≡ 8 + wide.more = omega arith in
      (rw e at (sym (low_bits_drop 4 (12 + wide.more) wide.word))) ∙ ap (drop 4) sent

  pub wide_length : length (stuffed (left_of last) (oct_before octet [])) ≡ 8 + wide.more
  wide_length = ap length (sym wide_sent) ∙ length_low_bits (8 + wide.more) (wide.word / 16)

  wide_left : left_of (wide.word / 2 ^ (8 + wide.more)) ≡ left_after (left_of last) (oct_before octet [])
  wide_left =
      let e : 12 + wide.more - (8 + wide.more) ≡ 4 = omega arith in
      let n : length (stuffed 4 (low_bits 12 (octet * 16 + last))) ≡ 12 + wide.more = ap length (sym z.bits) ∙ length_low_bits (12 + wide.more) wide.word in
      let m : 12 + wide.more - 4 ≡ 8 + wide.more = omega arith in
      ap (left_after 4) ((rw e at (sym (low_bits_drop (8 + wide.more) (12 + wide.more) wide.word))) ∙ ap (drop (8 + wide.more)) z.bits)
      ∙ (rw (n, m) at (last_sent 4 (low_bits 12 (octet * 16 + last)) (omega arith) (omega (arith, n))))
      ∙ ap (left_after 4) twelve ∙ left_append 4 (low_bits 4 last) (oct_before octet [])

  -- it is put
  pub marks_wide : {quill₀ quill₁ : Quill} {now : ℕ} → Puts (low_bits (8 + wide.more) (wide.word / 16)) quill₀ quill₁
      → now ≡ wide.word / 2 ^ (8 + wide.more) → Marks (oct_before octet []) last quill₀ now quill₁
  marks_wide p e =
      let n : 4 + (8 + wide.more) ≡ 12 + wide.more = omega arith in
      record {
        puts = rw wide_sent at p;
        last = rw e (shr_lt 4 (8 + wide.more) (rw n z.low));
        left = rw e wide_left;
      }

-- a word in which no five ones stand is sent as it is
pub wide_plain : (start starts : ℕ) → start < 4096 → starts ≡ five_starts start → starts ≡ 0 → Widens start (record { word = start; more = 0 })
wide_plain start starts h e none = zeroing_end (zeroing_none (h, e)) none

-- ---- octet by octet

-- behind a flag, as behind four zeros, four ones may come
pub left_none : left_of 0 ≡ 4
unfolding low_bits left_after
left_none = refl

-- what two steps put, one after the other
marks_then : {a b : List Bool} {last₀ last₁ last₂ : ℕ} {quill₀ quill₁ quill₂ : Quill} → Marks a last₀ quill₀ last₁ quill₁ → Marks b last₁ quill₁ last₂ quill₂
    → Marks (a ++ b) last₀ quill₀ last₂ quill₂
marks_then {a} {b} {last₀} x y = record {
  puts = rw (stuffed-append (left_of last₀) a b, ← x.left) (puts_then x.puts y.puts);
  last = y.last;
  left = y.left ∙ rw (left_append (left_of last₀) a b, ← x.left);
}

-- of the bits bs all but the last ones, todo, were put with the zeros that they need; there is room for the others
pub record Marked (bs todo : List Bool) (last₀ : ℕ) (quill₀ : Quill) (last : ℕ) (quill : Quill) : Type 0 where
  pub done : List Bool
  pub split : done ++ todo ≡ bs
  pub marks : Marks done last₀ quill₀ last quill
  pub room : Room quill (length (stuffed (left_of last) todo))

-- none were put yet
pub marked_none : (bs : List Bool) (last : ℕ) (quill : Quill) → (last < 16) × Room quill (length (stuffed (left_of last) bs)) → Marked bs bs last quill last quill
unfolding stuffed left_after
marked_none bs last quill h = record {
  done = [];
  split = refl;
  marks = record { puts = puts_none quill; last = h.0; left = refl };
  room = h.1;
}

module _ {bs rest : List Bool} {last₀ last₁ : ℕ} {quill₀ quill₁ : Quill} {a todo : List Bool} (e : Splits rest a todo) (x : Marked bs rest last₀ quill₀ last₁ quill₁) where
  -- the next bits with their zeros, and the bits behind them
  next_length : length (stuffed (left_of last₁) rest) ≡ length (stuffed (left_of last₁) a) + length (stuffed (left_after (left_of last₁) a) todo)
  next_length =
      rw (e.parts, stuffed-append (left_of last₁) a todo)
      (length-append (stuffed (left_of last₁) a) (stuffed (left_after (left_of last₁) a) todo))

  -- there is room for the next bits
  pub marked_front : (last₁ < 16) × Room quill₁ (length (stuffed (left_of last₁) a))
  marked_front = (x.marks.last, ready_less _ _ x.room (omega (arith, next_length)))

  -- the next bits are put
  pub marked_turn : {last₂ : ℕ} {quill₂ : Quill} → Marks a last₁ quill₁ last₂ quill₂ → Marked bs todo last₀ quill₀ last₂ quill₂
  marked_turn y = record {
    done = x.done ++ a;
    split = append_assoc x.done a todo ∙ (rw e.parts at x.split);
    marks = marks_then x.marks y;
    room = rw y.left (room_then _ _ x.room y.puts (omega (arith, next_length)));
  }

-- all were put
pub marked_end : {bs : List Bool} {last₀ last₁ : ℕ} {quill₀ quill₁ : Quill} → Marked bs [] last₀ quill₀ last₁ quill₁ → Marks bs last₀ quill₀ last₁ quill₁
marked_end x = let e = sym (append-nil x.done) ∙ x.split in rw e at x.marks
