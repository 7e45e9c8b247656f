-- What the message reader tells fits the 32 bits in which the firmware gets it.
-- Assumes nothing.
use Prim.Native.Nat.{ℕ, ◌≤◌}
use mathlib.Core.List.{List}
use Rattle.tree.specs.Fields.{most_octets}
use Rattle.message.specs.Reader.{list_room, room_of, read_told, ReadsOctets}
use Rattle.std.specs.Prelude.{Result}
use Rattle.message.specs.declared.Message.{Message}
use Rattle.message.specs.declared.MessageReadRefusal.{MessageReadRefusal}
use Rattle.message.proofs.Accepted.{told_small}

pub values_few : (l list₀ : List ℕ) {r : Result Message MessageReadRefusal} {list₁ : List ℕ} → ReadsOctets l list₀ r list₁
    → ((read_told r).count ≤ list_room) × ((read_told r).ns_at ≤ most_octets) × ((read_told r).ns_length ≤ most_octets)
values_few l list₀ t = rw t.reply (told_small l (room_of list₀))
