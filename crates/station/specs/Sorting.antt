-- To be believed: what an event is to the station, something that its table knows or a message of unknown type.
-- Assumes nothing.
use Rattle.std.specs.Prelude.{ℕ, List, eqb}
use Rattle.octets.specs.Places.{pick}
use Rattle.message.specs.Kinds.{ms, cl, clr, ack1, ack2, type_of}
use Rattle.message.specs.Reader.{list_room, Reading, refused, accepted, read_message}
use Rattle.table.specs.declared.Heard.{Heard}
use Rattle.table.specs.declared.Heard.TheVariants as heard
use Rattle.station.specs.declared.Event.{Event}
use Rattle.station.specs.declared.Event.TheVariants as events

-- a message by its type, else a NAK
abbrev pub type_heard : ℕ → Heard
type_heard k =
    pick (eqb k ms) heard.Ms
    (pick (eqb k cl) heard.Cl
    (pick (eqb k clr) heard.Clr
    (pick (eqb k ack1) heard.Ack1
    (pick (eqb k ack2) heard.Ack2
    heard.Nak))))

pub data Sort : Type 0 where
  known : Heard → Sort
  strange : Sort

-- a field by what the message reader says: 3 is an unknown type, 2 and 4 are spoilt
abbrev pub field_heard : Reading → List ℕ → Sort
field_heard accepted field = known (type_heard (type_of field))
field_heard (refused k) field = pick (eqb k 3) strange (known heard.Spoilt)

abbrev pub sort_of : Event → List ℕ → Sort
sort_of (events.Start s) field = known (heard.Start s)
sort_of (events.Signal s) field = known (heard.Signal s)
sort_of events.Field field = field_heard (read_message field list_room) field
sort_of events.InvalidFrame field = known heard.Spoilt
sort_of events.AnswerTone field = known heard.AnswerTone
sort_of events.Reset field = strange
