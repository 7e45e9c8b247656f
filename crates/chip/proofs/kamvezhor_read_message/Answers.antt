-- `chip::kamvezhor_read_message` meets its contract: the values that are told are small.
-- Assumes nothing.
use Prim.Native.Nat.{◌≤◌}
use native.Mathlib.Omega.{arith}
use Rattle.tree.specs.Fields.{most_octets}
use Rattle.message.specs.Reader.{list_room}
use Rattle.message.specs.declared.Message.{Message}
use Rattle.chip.proofs.MessageTold.{values_few}
use Rattle.chip.proofs.kamvezhor_read_message.Goals as goal

-- which are these
abbrev Few : Message → Type 0
Few m = (m.count ≤ list_room) × (m.ns.at ≤ most_octets) × (m.ns.length ≤ most_octets)

pub overflow_cast-result-in-Ok-2 : goal.overflow_cast-result-in-Ok-2
overflow_cast-result-in-Ok-2 c =
    let few : Few c.in-Ok.m = values_few _ _ c.in-Ok.ensures in
    omega (arith, few)

pub overflow_cast-result-in-Ok-3 : goal.overflow_cast-result-in-Ok-3
overflow_cast-result-in-Ok-3 c =
    let few : Few c.in-Ok.m = values_few _ _ c.in-Ok.ensures in
    omega (arith, few)

pub overflow_cast-result-in-Ok-4 : goal.overflow_cast-result-in-Ok-4
overflow_cast-result-in-Ok-4 c =
    let few : Few c.in-Ok.m = values_few _ _ c.in-Ok.ensures in
    omega (arith, few)
