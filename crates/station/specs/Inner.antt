-- Inner: what the inner functions promise of a message that was heard, of a choice, of the gate, of a plan and of what is put.
-- Assumes nothing.
use Rattle.std.specs.Prelude.{ℕ, ◌+◌, ◌≤◌, Bool, true, false, Option, Some, None, Result, Ok, Err, List, [], ◌∷◌, ◌≡◌, length, take, drop}
use Rattle.tree.specs.declared.Field.TheVariants.{Standard}
use Rattle.message.specs.Kinds.{cl, has_fields, type_of, type_number}
use Rattle.message.specs.Reader.{list_room, standard_at, read_message, accepted}
use Rattle.good.specs.Good.{good_field}
use Rattle.strike.specs.Rewriting.{kept}
use Rattle.choice.specs.Wishes.{standard_codes}
use Rattle.choice.specs.Choosing.{Choosing, chosen, refused}
use Rattle.table.specs.Inner.{is_message}
use Rattle.table.specs.declared.After.{After}
use Rattle.table.specs.declared.After.TheVariants.{ThenMs, ThenClMs}
use Rattle.table.specs.declared.Heard.{Heard}
use Rattle.table.specs.declared.Phase.{Phase}
use Rattle.table.specs.declared.Phase.TheVariants.{Initial}
use Rattle.table.specs.declared.Settings.{Settings}
use Rattle.table.specs.declared.Signal.{Signal}
use Rattle.station.specs.Sending.{sent_field, sent_list}
use Rattle.station.specs.Sorting.{known, strange, sort_of}
use Rattle.station.specs.Acting.{Outcome, quiet, proposes, proposes_behind}
use Rattle.station.specs.Stepping.{told_no, output_room, store_room, sorted, timed, checked}
use Rattle.station.specs.declared.Call.{Call}
use Rattle.station.specs.declared.Event.{Event}
use Rattle.station.specs.declared.FarOffer.{FarOffer}
use Rattle.station.specs.declared.StepRefusal.{StepRefusal}
use Rattle.station.specs.declared.StepRefusal.TheVariants.{BadLent, BadOwn, BadWishes, Outside, TimeBefore, TimedOut, UnknownType, NotInTable, NothingToPropose}
use Rattle.station.specs.declared.lent.Tables.{Tables}
use Rattle.station.specs.declared.sending.Outgoing.{Outgoing}
use Rattle.station.specs.declared.sending.Outgoing.TheVariants.{Bare, Whole}
use Rattle.station.specs.declared.sending.Kept.{Kept}
use Rattle.station.specs.declared.sending.Plan.{Plan}

-- a message with fields was heard, and its standard field is at a place
pub record Standing (field : List ℕ) (standard : ℕ) : Type 0 where
  pub fine : read_message field list_room ≡ accepted
  pub fields : has_fields (type_of field) ≡ true
  pub place : standard ≡ standard_at field

-- what was heard, and where the standard field of a message with fields is
abbrev pub Hears : Event → List ℕ → Option (Heard × ℕ) → Type 0
Hears event field (Some x) = (sort_of event field ≡ known x.0) × (is_message x.0 ≡ true → Standing field x.1)
Hears event field None = sort_of event field ≡ strange

-- ---- the gate

-- the phase behind a refusal: after 6 it is Initial
abbrev pub shut_in : StepRefusal → Phase → ℕ → Phase
shut_in BadLent p time = p
shut_in BadOwn p time = p
shut_in BadWishes p time = p
shut_in Outside p time = p
shut_in TimeBefore p time = p
shut_in TimedOut p time = Initial time
shut_in UnknownType p time = p
shut_in NotInTable p time = p
shut_in NothingToPropose p time = p

-- by the time: 5, 6 or 10 in Mode is told, or the event goes on
abbrev pub Timed : Phase → ℕ → Result (Unit {0}) StepRefusal → Type 0
Timed p time (Ok x) = (settings : Settings) (own wishes : List ℕ) (event : Event) (field : List ℕ)
    → timed p settings own wishes event field time ≡ sorted (sort_of event field) p settings own wishes field time
Timed p time (Err refusal) = (settings : Settings) (own wishes : List ℕ) (event : Event) (field : List ℕ)
    → timed p settings own wishes event field time ≡ quiet (told_no (Err refusal)) (shut_in refusal p time)

-- any event but reset: it goes on, with the tables that were lent and buffers with room, or is refused
abbrev pub Gated : Call → List ℕ → List ℕ → ℕ → ℕ → Result Tables StepRefusal → Type 0
Gated call own wishes out_size store_size (Ok tables) =
    ((event : Event) (field : List ℕ)
    → checked call.phase call.settings own wishes event field call.time out_size store_size
    ≡ sorted (sort_of event field) call.phase call.settings tables.own.now tables.wishes.now field call.time)
    × (output_room ≤ out_size) × (store_room ≤ store_size)
Gated call own wishes out_size store_size (Err refusal) = (event : Event) (field : List ℕ)
    → checked call.phase call.settings own wishes event field call.time out_size store_size ≡ quiet (told_no (Err refusal)) (shut_in refusal call.phase call.time)

-- ---- a choice

-- the wish that was chosen lies in the run and is good
abbrev pub Lies : List ℕ → Choosing → Type 0
Lies wishes (chosen p) = (p.at + p.length ≤ length wishes) × (good_field (take p.length (drop p.at wishes)) ≡ true) × (p.number ≤ 16)
Lies wishes (refused n) = Unit {0}

-- ---- a plan

-- the octets of a message
abbrev pub octets_of : Outgoing → List ℕ
octets_of (Bare kind) = (0x20 + type_number kind) ∷ []
octets_of (Whole m) = sent_field (type_number m.kind) m.offer (standard_codes m.standard.now)

-- what is sent and stored, if anything
abbrev pub sent_of : Option Outgoing → List ℕ
sent_of None = []
sent_of (Some m) = octets_of m

abbrev pub stored_of : Option Kept → List ℕ
stored_of None = []
stored_of (Some k) = kept k.keep Standard k.message.field.now k.message.standard

-- the outcome that a plan leads to
abbrev pub planned : Plan → Outcome
planned p =
    record {
      told = told_no p.told;
      signal = p.signal;
      first = sent_of p.first;
      second = sent_of p.second;
      stored = stored_of p.storing;
      next = p.next;
    }

-- ---- the plans that the acts are made of

-- one message at most
abbrev pub planning : Result (Unit {0}) StepRefusal → Option Signal → Option Outgoing → Option Kept → Phase → Plan
planning told signal message storing next = record { told = told; signal = signal; first = message; second = None; storing = storing; next = next }

-- a choice sent as MS, after a CL or alone
abbrev pub proposed : Bool → Choosing → Settings → FarOffer → List ℕ → List ℕ → List ℕ → ℕ → Outcome
proposed true found settings far own wishes stored time = proposes_behind (sent_list cl settings own) found settings far wishes stored time
proposed false found settings far own wishes stored time = proposes found settings far wishes stored time

-- what the table calls that
abbrev pub then_ms : Bool → After
then_ms true = ThenClMs
then_ms false = ThenMs
