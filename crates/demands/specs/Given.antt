-- To be believed: what a step is given beside its phase, which refusals come before the table, and what is heard there.
-- Assumes nothing.
use Rattle.std.specs.Prelude.{ℕ, ◌+◌, ◌≤◌, Bool, true, false, not, List, [], ◌∷◌, ◌⊎◌, ◌≡◌, eqb}
use Rattle.octets.specs.Bits.{num, AreOctets}
use Rattle.octets.specs.Places.{pick}
use Rattle.tree.specs.Fields.{codes_in}
use Rattle.tree.specs.declared.Field.TheVariants.{Standard}
use Rattle.message.specs.Kinds.{type_of}
use Rattle.message.specs.Reader.{standard_at, refused, accepted, read_message}
use Rattle.choice.specs.Tables.{tables_no}
use Rattle.table.specs.declared.Phase.{Phase}
use Rattle.table.specs.declared.Heard.{Heard}
use Rattle.table.specs.declared.Act.{Act}
use Rattle.table.specs.declared.Settings.{Settings}
use Rattle.table.specs.Phases.{kind_of, entry_of, ack_of, is_over}
use Rattle.table.specs.Rows.{act_of}
use Rattle.station.specs.Sorting.{known, sort_of}
use Rattle.station.specs.Acting.{Outcome, does}
use Rattle.station.specs.Stepping.{is_late, is_reset, step_of}
use Rattle.table.specs.Phases.{is_mode}
use Rattle.station.specs.declared.Event.{Event}
use Rattle.station.specs.declared.Event.TheVariants.{Field, InvalidFrame}

-- beside its phase: the settings, the own table, the wishes, the event with the field heard, the time, the sizes of output and store
pub record Given : Type 0 where
  pub settings : Settings
  pub own : List ℕ
  pub wishes : List ℕ
  pub event : Event
  pub field : List ℕ
  pub time : ℕ
  pub out_size : ℕ
  pub store_size : ℕ

abbrev pub steps : Phase → Given → Outcome
steps p g = step_of p g.settings g.own g.wishes g.event g.field g.time g.out_size g.store_size

-- own table and wishes are octets, as whatever is lent as a run of them is
pub record InOctets (g : Given) : Type 0 where
  pub own : AreOctets g.own
  pub wishes : AreOctets g.wishes

-- ---- the refusals before the table, in their order

-- it is no reset, and 1 to 4 do not refuse
pub record Sound (g : Given) : Type 0 where
  pub live : is_reset g.event ≡ false
  pub output : 128 ≤ g.out_size
  pub store : 64 ≤ g.store_size
  pub tables : tables_no g.own g.wishes ≡ 0

-- nor do 5 and 6, and the phase is not Mode
pub record Due (p : Phase) (g : Given) : Type 0 where
  pub sound : Sound g
  pub after : entry_of p ≤ g.time
  pub prompt : is_late (kind_of p) (entry_of p) g.time ≡ false
  pub awake : is_mode (kind_of p) ≡ false

-- and the event is something that the table knows
pub record Passes (p : Phase) (g : Given) (h : Heard) : Type 0 where
  pub due : Due p g
  pub heard : sort_of g.event g.field ≡ known h

-- the table's act on what was heard, and what an act does
abbrev pub act_on : Phase → Given → Heard → Act
act_on p g h = act_of (kind_of p) g.settings (ack_of p) h

abbrev pub doing : Act → Phase → Given → Outcome
doing a p g = does a p g.settings g.own g.wishes g.field g.time

-- ---- what is heard

-- a message of a type: the message reader accepts the field
pub record HearsType (kind : ℕ) (g : Given) : Type 0 where
  pub event : g.event ≡ Field
  pub reads : read_message g.field 448 ≡ accepted
  pub type : type_of g.field ≡ kind

-- an invalid frame, or a field that the message reader refuses with 2 or 4
abbrev pub HearsSpoilt : Given → Type 0
HearsSpoilt g = (g.event ≡ InvalidFrame) ⊎ ((g.event ≡ Field) × ((read_message g.field 448 ≡ refused 2) ⊎ (read_message g.field 448 ≡ refused 4)))

-- the standard codes of the message heard
abbrev pub standard_heard : Given → List ℕ
standard_heard g = codes_in Standard g.field (standard_at g.field)

-- ---- what a number tells

-- success and 11: the event was acted on
abbrev pub is_acted_on : ℕ → Bool
is_acted_on n = pick (eqb n 0) true (eqb n 11)

-- every refusal but 6 and 11 leaves the phase
abbrev pub is_kept : ℕ → Bool
is_kept n = pick (eqb n 0) false (pick (eqb n 6) false (not (eqb n 11)))

-- ---- steps one after the other

-- the phase after them
unfoldable pub after : Phase → List Given → Phase
after p [] = p
after p (g ∷ gs) = after (steps p g).next gs

-- none of them leads to Initial or Mode
unfoldable pub Lasts : Phase → List Given → Type 0
Lasts p [] = Unit {0}
Lasts p (g ∷ gs) = (is_over (kind_of (steps p g).next) ≡ false) × Lasts (steps p g).next gs

-- how many of their events are acted on
unfoldable pub acted_on : Phase → List Given → ℕ
acted_on p [] = 0
acted_on p (g ∷ gs) = num (is_acted_on (steps p g).told) + acted_on (steps p g).next gs
