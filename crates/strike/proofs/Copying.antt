-- Octets put one after the other.
-- Assumes nothing.
use Prim.Native.Nat.{ℕ, ◌+◌, ◌<◌, ◌≤◌}
use mathlib.Core.List.{List, [], ◌∷◌}
use mathlib.Core.Path.{◌≡◌, refl, ap, ◌∙◌}
use native.Mathlib.Numerals.{add-one}
use native.Mathlib.Omega.{arith}
use lib.ListN.{length, set, length-set}
use lib.Seq.{sets}

-- of all the octets to be put at a place, those of todo are left, and they belong at the place at
pub record Lays (all todo : List ℕ) (at₀ : ℕ) (out₀ : List ℕ) (at : ℕ) (out : List ℕ) : Type 0 where
  pub room : length out ≡ length out₀
  pub count : at + length todo ≡ at₀ + length all
  pub puts : sets out at todo ≡ sets out₀ at₀ all

pub lays_none : (all : List ℕ) (at : ℕ) (out : List ℕ) → Lays all all at out at out
lays_none all at out = record { room = refl; count = refl; puts = refl }

-- one octet
pub lays_turn : {all todo rest out₀ out : List ℕ} {at₀ at : ℕ} (x : ℕ) → Lays all todo at₀ out₀ at out → todo ≡ x ∷ rest → Lays all rest at₀ out₀ (at + 1) (set out at x)
lays_turn {all} {todo} {rest} {out₀} {out} {at₀} {at} x l e =
    record {
      room = length-set out at x ∙ l.room;
      count = omega (arith, l.count, ap length e);
      puts = rw (add-one at) (rw e at l.puts);
    }

-- where there is room for all, there is room for it
pub lays_room : {all todo rest out₀ out : List ℕ} {at₀ at : ℕ} (x : ℕ) → Lays all todo at₀ out₀ at out → todo ≡ x ∷ rest → at₀ + length all ≤ length out₀ → at < length out
lays_room x l e h = omega (arith, l.room, l.count, ap length e)

-- nothing is left
pub lays_all : {all todo out₀ out : List ℕ} {at₀ at : ℕ} → Lays all todo at₀ out₀ at out → todo ≡ [] → (at ≡ at₀ + length all) × (out ≡ sets out₀ at₀ all)
lays_all l e = (omega (arith, l.count, ap length e), rw e at l.puts)
