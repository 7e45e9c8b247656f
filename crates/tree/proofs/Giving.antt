-- The positions set in a block, given one after the other: what is left of an octet's bits and of the octets behind it.
-- Assumes nothing.
use Prim.Native.Nat.{ℕ, min, ◌+◌, ◌*◌, ◌-◌, ◌/◌, ◌%◌, ◌^◌, ◌≤◌, ◌<◌}
use mathlib.Core.Path.{◌≡◌, refl, sym, ap, ◌∙◌}
use mathlib.Core.List.{List, [], ◌∷◌, ◌++◌}
use mathlib.Core.Bool.{Bool, true, false}
use mathlib.Core.Logic.{◌⊎◌, inl, inr}
use native.Mathlib.Nat.{mod-lt}
use native.Mathlib.Omega.{arith}
use borrow.Author.Tests.{lt-ltb, le-ltb}
use lib.Count.{count_trailing_zeros}
use lib.Dec.{ltb, lit<}
use Rattle.std.proofs.lemmas.List.{take_all, drop_all, drop_min}
use lib.ListN.{length, take, drop, length-drop}
use Rattle.octets.specs.Places.{pick}
use Rattle.tree.specs.Block.{set_bits, block_numbers, numbers}
use Rattle.tree.specs.Levels.{width_of, mark_of}
use Rattle.tree.specs.Promises.{TellsPositions}
use Rattle.tree.specs.declared.Level.{Level}
use Rattle.tree.specs.declared.Level.TheVariants.{Top, Low}
use Rattle.tree.proofs.Lowest.{Lowest, lowest, bits_none, bits_below}

-- so many positions are left
abbrev pub left : Level → List ℕ → ℕ → ℕ → ℕ → List ℕ
left v rest bits passed next = set_bits (next - passed) passed bits ++ block_numbers (width_of v) (mark_of v) next rest

-- they are all that are to be given, and none is too high to be numbered
pub record Giving (all : List ℕ) (v : Level) (rest : List ℕ) (bits passed next : ℕ) : Type 0 where
  pub same : left v rest bits passed next ≡ all
  pub begun : passed ≤ next
  pub few : next ≤ passed + 7
  pub small : bits < 2 ^ (next - passed)
  pub room : next + 7 * length rest ≤ 448

-- an octet that ends its block is at least a power of two
pub mark_power : (v : Level) → mark_of v ≡ 2 ^ width_of v
mark_power Top = refl
mark_power Low = refl

pub mark_some : (v : Level) → 0 < mark_of v
mark_some Top = lit< tt
mark_some Low = lit< tt

pub width_most : (v : Level) → width_of v ≤ 7
width_most Top = omega arith
width_most Low = omega arith

-- where no bit of an octet is left, those of the next one are
pub turn : {all list rest r : List ℕ} {v : Level} {o bits passed next : ℕ} → Giving all v list bits passed next → bits ≡ 0
    → list ≡ (o ∷ rest) → r ≡ pick (ltb o (mark_of v)) rest [] → Giving all v r (o % mark_of v) next (next + width_of v)
unfolding block_numbers
turn {all} {list} {rest} {r} {v} {o} {bits} {passed} {next} g z e h = record {
  same = rw (n, h, octet, others (ltb o (mark_of v))) before;
  begun = omega arith;
  few = omega (arith, width_most v);
  small = rw (n, ← mark_power v) (mod-lt o (mark_some v));
  room = rw h (omega (arith, shorter (ltb o (mark_of v)), g.room, ap length e, width_most v));
}
  where
    n : next + width_of v - next ≡ width_of v
    n = omega arith

    octet : set_bits (width_of v) next (o % mark_of v) ≡ set_bits (width_of v) next o
    octet = rw (mark_power v) (bits_below (width_of v) next o)

    others : (t : Bool) → block_numbers (width_of v) (mark_of v) (next + width_of v) (pick t rest [])
        ≡ pick t (block_numbers (width_of v) (mark_of v) (next + width_of v) rest) []
    others true = refl
    others false = refl

    before : set_bits (width_of v) next o ++ pick (ltb o (mark_of v)) (block_numbers (width_of v) (mark_of v) (next + width_of v) rest) [] ≡ all
    before = rw (z, e, bits_none (next - passed) passed) at g.same

    shorter : (t : Bool) → length (pick t rest []) ≤ length rest
    shorter true = omega arith
    shorter false = omega arith

-- the same, with the mark and the width that are told
pub turned : {all list rest r : List ℕ} {v : Level} {o bits passed next m w : ℕ} → Giving all v list bits passed next → bits ≡ 0
    → list ≡ (o ∷ rest) → m ≡ mark_of v → w ≡ width_of v → ((o < m) × (r ≡ rest)) ⊎ ((m ≤ o) × (r ≡ [])) → Giving all v r (o % m) next (next + w)
turned {all} {list} {rest} {r} {v} {o} g z e p q h = rw (p, q) (turn g z e (go (rw p at h)))
  where
    go : ((o < mark_of v) × (r ≡ rest)) ⊎ ((mark_of v ≤ o) × (r ≡ [])) → r ≡ pick (ltb o (mark_of v)) rest []
    go (inl s) = rw (lt-ltb o (mark_of v) s.0) s.1
    go (inr s) = rw (le-ltb o (mark_of v) s.0) s.1

-- where no octet is left, no position is
pub none : {all list : List ℕ} {v : Level} {bits passed next : ℕ} → Giving all v list bits passed next → bits ≡ 0 → length list ≡ 0
    → (all ≡ []) × (left v list bits passed next ≡ [])
unfolding block_numbers
none {list = []} {v = v} {bits = bits} {passed = passed} {next = next} g z e =
    let n : left v [] bits passed next ≡ [] = rw (z, bits_none (next - passed) passed) in (sym g.same ∙ n, n)
none {list = o ∷ list} g z e = absurd (omega (arith, e))

-- the lowest bit of an octet is given next, and those above it are left
module _ {all rest : List ℕ} {v : Level} {bits passed next : ℕ} (g : Giving all v rest bits passed next) (some : bits ≡ 0 → ⊥) where
  abbrev pub zeros : ℕ
  zeros = count_trailing_zeros 8 bits

  low : Lowest (next - passed) passed bits zeros
  low = lowest 8 (next - passed) passed bits (omega (arith, g.few)) (omega arith) g.small

  behind_it : next - passed - (zeros + 1) ≡ next - (passed + (zeros + 1))
  behind_it = omega arith

  pub given : all ≡ (passed + (zeros + 1)) ∷ left v rest (bits / 2 ^ zeros / 2) (passed + (zeros + 1)) next
  given = sym g.same ∙ rw (low.1, behind_it)

  pub sound : (passed + (zeros + 1) ≤ next) × (next ≤ passed + (zeros + 1) + 7) × (bits / 2 ^ zeros / 2 < 2 ^ (next - (passed + (zeros + 1)))) × (next + 7 * length rest ≤ 448)
  sound = (omega (arith, low.0, g.begun), omega (arith, g.few), rw (← behind_it) low.2, g.room)

-- the octets from a place on, of a run that is read only where it is no longer than a message
pub from_place : (w m at : ℕ) (s read : List ℕ) (n : ℕ) → n ≡ min at (length read) → ((length s ≤ 64) × (read ≡ s)) ⊎ ((64 < length s) × (read ≡ []))
    → block_numbers w m 0 (take (length read - n) (drop n read)) ≡ pick (ltb 64 (length s)) [] (block_numbers w m 0 (drop at s))
unfolding block_numbers
from_place w m at s read n e h = rw (take_all (length read - n) (drop n read) (omega (arith, length-drop n read)), e, drop_min at read) (go h)
  where
    drop_none : drop {A = ℕ} at [] ≡ []
    drop_none = drop_all at [] (omega arith)

    go : ((length s ≤ 64) × (read ≡ s)) ⊎ ((64 < length s) × (read ≡ [])) → block_numbers w m 0 (drop at read) ≡ pick (ltb 64 (length s)) [] (block_numbers w m 0 (drop at s))
    go (inl p) = rw (p.1, le-ltb 64 (length s) p.0)
    go (inr p) = rw (p.1, lt-ltb 64 (length s) p.0, drop_none)

-- no octets of a message are too many
pub given_all : (v : Level) (s : List ℕ) (at : ℕ) {r : List ℕ} → length s ≤ 64 → TellsPositions s at v r → r ≡ numbers (width_of v) (mark_of v) 0 s at
given_all v s at h t = rw (le-ltb 64 (length s) h) at t
