-- `message::read_both` meets its contract: room enough leaves the answer to what the message is found to be.
-- Assumes nothing.
use mathlib.Core.Path.{refl}
use Rattle.std.specs.Prelude.{Err}
use Rattle.message.specs.declared.MessageReadRefusal.TheVariants.{BadLent}
use Rattle.message.proofs.Parting.{fault_read, room_read}
use Rattle.message.proofs.Reading.{refuses, no_room}
use Rattle.message.proofs.read_both.Goals as goal

pub returns-then-room-lt-LIST_ROOM : goal.returns-then-room-lt-LIST_ROOM
returns-then-room-lt-LIST_ROOM c = refuses _ _ _ _ 1 (Err BadLent) (no_room _ _ c.if-room-lt-LIST_ROOM.true) refl

pub returns-in_err-parts : goal.returns-in_err-parts
returns-in_err-parts c =
    fault_read _ _ _ _ c.in_err-parts.field-0.0 c.from_residual.result c.if-room-lt-LIST_ROOM.false c.in_err-parts.ensures c.from_residual.ensures.1

pub returns : goal.returns
returns c = room_read _ _ c.if-room-lt-LIST_ROOM.false c.read_parts.ensures
