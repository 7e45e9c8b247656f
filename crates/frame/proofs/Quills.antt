-- Bits put by a quill: it stands where a pen does, so what a step of any width adds is known of that pen; and what room is left.
-- Assumes nothing.
use Prim.Native.Nat.{ℕ, suc, ◌+◌, ◌-◌, ◌*◌, ◌/◌, ◌%◌, ◌^◌, ◌<◌, ◌≤◌}
use mathlib.Core.Path.{◌≡◌, refl, sym, ◌∙◌}
use mathlib.Core.Bool.{Bool}
use mathlib.Core.List.{List, [], ◌++◌}
use native.Mathlib.Omega.{arith}
use lib.ListN.{length, set}
use lib.Pow.{shl_exact}
use Rattle.frame.specs.Frame.{flags}
use Rattle.octets.specs.Bits.{packed}
use Rattle.octets.specs.Lay.{put}
use Rattle.frame.specs.Pen.{low_bits, Holds, Adds}
use Rattle.frame.specs.Quill.{pen_of, Room, Puts}
use Rattle.frame.specs.declared.Quill.{Quill}
use Rattle.frame.proofs.Pens.{both, both_fits, rest_fits, adds_stay, adds_store, adds_none, adds_then, ready_then, last_stored, last_full}
use Rattle.frame.proofs.Zeros.{flags_turn}

-- the quill's word and a value behind it
abbrev pub joined : Quill → ℕ → ℕ
joined quill v = quill.word + v * 2 ^ quill.held % 4294967296

-- the pen's place in its octet, and that octet's place
bit_place : (quill : Quill) → (quill.at * 8 + quill.held) % 8 ≡ quill.held
bit_place quill = omega (arith, quill.few)

octet_place : (quill : Quill) → (quill.at * 8 + quill.held) / 8 ≡ quill.at
octet_place quill = omega (arith, quill.few)

-- one step: the w lowest bits of v
module _ (quill : Quill) {w v : ℕ} (p : (v < 2 ^ w) × (w ≤ 8) × Room quill w) where
  low : (pen_of quill).octet < 2 ^ ((pen_of quill).at % 8)
  low = rw (bit_place quill) quill.low

  joined_both : both (pen_of quill) v ≡ joined quill v
  joined_both =
      let a : v * 2 ^ quill.held % 65536 ≡ v * 2 ^ quill.held = shl_exact w quill.held 16 p.0 (omega (arith, quill.few)) in
      let b : v * 2 ^ quill.held % 4294967296 ≡ v * 2 ^ quill.held = shl_exact w quill.held 32 p.0 (omega (arith, quill.few)) in
      rw (bit_place quill, a, b)

  -- both together have no bit beyond the place behind them, and what is left behind a full octet neither
  pub joined_fits : (k : ℕ) → quill.held + w ≤ k → joined quill v < 2 ^ k
  joined_fits k h = rw (← joined_both) (both_fits low p k (omega (arith, bit_place quill)))

  pub joined_rest : (k : ℕ) → quill.held + w ≤ k + 8 → joined quill v / 256 < 2 ^ k
  joined_rest k h = rw (← joined_both) (rest_fits low p k (omega (arith, bit_place quill)))

  -- bits that do not fill the octet stay in the quill
  pub puts_stay : quill.held + w < 8 → Adds (low_bits w v) quill.out.now (pen_of quill) quill.out.now (record { at = quill.at * 8 + (quill.held + w); octet = joined quill v })
  puts_stay less =
      let e : quill.at * 8 + quill.held + w ≡ quill.at * 8 + (quill.held + w) = omega arith in
      rw (e, joined_both) at (adds_stay low p (omega (arith, bit_place quill)))

  -- where they fill it, it is stored, and the quill keeps the others
  pub puts_store : 8 ≤ quill.held + w
      → Adds (low_bits w v) quill.out.now (pen_of quill) (set quill.out.now quill.at (joined quill v % 256)) (record { at = (quill.at + 1) * 8 + (quill.held + w - 8); octet = joined quill v / 256 })
  puts_store full =
      let e : quill.at * 8 + quill.held + w ≡ (quill.at + 1) * 8 + (quill.held + w - 8) = omega arith in
      rw (octet_place quill, e, joined_both) at (adds_store low p (omega (arith, bit_place quill)))

-- what two steps put, one after the other
pub puts_then : {a b : List Bool} {quill₀ quill₁ quill₂ : Quill} → Puts a quill₀ quill₁ → Puts b quill₁ quill₂ → Puts (a ++ b) quill₀ quill₂
puts_then x y = record { same = y.same ∙ x.same; adds = adds_then x.adds y.adds }

-- what room is left behind a step
pub room_then : {a : List Bool} {quill₀ quill₁ : Quill} (n m : ℕ) → Room quill₀ n → Puts a quill₀ quill₁ → length a + m ≤ n → Room quill₁ m
room_then n m r x h = ready_then n m r x.adds h

-- nothing was put yet
pub puts_none : (quill : Quill) → Puts [] quill quill
puts_none quill = record { same = refl; adds = adds_none quill.out.now (pen_of quill) }

-- a flag is put behind k of them
pub puts_flag : (k : ℕ) {quill₀ quill₁ quill₂ : Quill} → Puts (flags k) quill₀ quill₁ → Puts (low_bits 8 126) quill₁ quill₂ → Puts (flags (suc k)) quill₀ quill₂
puts_flag k x y = record { same = y.same ∙ x.same; adds = flags_turn k x.adds y.adds }

-- an octet that the last bits did not fill is stored, and where they filled it all are
module _ (quill : Quill) (r : Room quill 0) (o : List ℕ) (bs : List Bool) (l : length o ≡ length quill.out.now) (h : Holds o bs quill.out.now (pen_of quill)) where
  pub quill_stored : (quill.held ≡ 0 → ⊥) → set quill.out.now quill.at quill.word ≡ put (packed bs) o
  quill_stored some = rw (octet_place quill) at (last_stored r (λ e. some (sym (bit_place quill) ∙ e)) o bs l h)

  pub quill_full : quill.held ≡ 0 → quill.out.now ≡ put (packed bs) o
  quill_full none = last_full r (bit_place quill ∙ none) o bs l h
