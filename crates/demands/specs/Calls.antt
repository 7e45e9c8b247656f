-- To be believed: one call of `step` with its buffers, and what its contract alone says of them.
-- Assumes nothing.
use Rattle.std.specs.Prelude.{ℕ, ◌+◌, true, false, None, List, [], ◌∷◌, ◌⊎◌, ◌↔◌, ◌≡◌, length, take, drop}
use Rattle.table.specs.declared.Phase.{Phase}
use Rattle.table.specs.declared.Phase.TheVariants.{Initial}
use Rattle.table.specs.declared.Settings.{Settings}
use Rattle.table.specs.declared.State.{State}
use Rattle.table.specs.Phases.{kind_of, entry_of, is_over}
use Rattle.station.specs.Acting.{Outcome}
use Rattle.station.specs.Stepping.{told_no}
use Rattle.table.specs.Phases.{is_mode}
use Rattle.station.specs.Promises.{Steps}
use Rattle.station.specs.declared.Event.{Event}
use Rattle.station.specs.declared.Stepped.{Stepped}
use Rattle.demands.specs.Given.{Given, steps, InOctets, Sound, Due, HearsType, HearsSpoilt, standard_heard}
use Rattle.demands.specs.Sent.{IsCl, IsField, far_says}
use Rattle.demands.specs.Proposals.{Proposal, proposed_by, NoneSuits, Proposes}

-- what it is given, the buffers that it is lent (₀ before the call, ₁ behind it), its answer, and its `ensures`
pub record Call : Type 0 where
  pub state : State
  pub settings : Settings
  pub own : List ℕ
  pub wishes : List ℕ
  pub event : Event
  pub field : List ℕ
  pub time : ℕ
  pub out₀ : List ℕ
  pub store₀ : List ℕ
  pub answer : Stepped
  pub out₁ : List ℕ
  pub store₁ : List ℕ
  pub ensured : Steps state settings own wishes event field time out₀ store₀ answer out₁ store₁

abbrev pub phase_of : Call → Phase
phase_of c = c.state.phase

abbrev pub given : Call → Given
given c =
    record {
      settings = c.settings;
      own = c.own;
      wishes = c.wishes;
      event = c.event;
      field = c.field;
      time = c.time;
      out_size = length c.out₀;
      store_size = length c.store₀;
    }

-- the number that it tells, the two fields that stand in the output, by their lengths, and the octets in the store; and the next phase
abbrev pub told : Call → ℕ
told c = told_no c.answer.told

abbrev pub first_sent : Call → List ℕ
first_sent c = take c.answer.first c.out₁

abbrev pub second_sent : Call → List ℕ
second_sent c = take c.answer.second (drop c.answer.first c.out₁)

abbrev pub stored_then : Call → List ℕ
stored_then c = take c.answer.stored c.store₁

abbrev pub next_of : Call → Phase
next_of c = c.answer.state.phase

-- the answer and the buffers are those of an outcome
pub record Shows (c : Call) (o : Outcome) : Type 0 where
  pub number : told c ≡ o.told
  pub signal : c.answer.signal ≡ o.signal
  pub first : first_sent c ≡ o.first
  pub first_length : c.answer.first ≡ length o.first
  pub second : second_sent c ≡ o.second
  pub second_length : c.answer.second ≡ length o.second
  pub stored : stored_then c ≡ o.stored
  pub stored_length : c.answer.stored ≡ length o.stored
  pub next : next_of c ≡ o.next

pub record OverBuffers (c : Call) : Type 0 where
  -- the octets in the output and in the store, their lengths, the number, the signal and the next phase are those of the step
  pub shown : Shows c (steps (phase_of c) (given c))
  -- the octets behind what is sent, and behind what is stored, are those lent
  pub output_behind : drop (c.answer.first + c.answer.second) c.out₁ ≡ drop (c.answer.first + c.answer.second) c.out₀
  pub store_behind : drop c.answer.stored c.store₁ ≡ drop c.answer.stored c.store₀
  -- a step that proposes answers with success or with 11, and with nothing else
  pub two_answers : Proposes (phase_of c) (given c) → (told c ≡ 0) ⊎ (told c ≡ 11)
  -- with success the MS of the first wish that suits stands in the output, alone or behind the CL, and Proposed is next
  pub ms_stands : InOctets (given c) → (x : Proposes (phase_of c) (given c)) → told c ≡ 0
      → (y : Proposal x.far (given c))
      × (((first_sent c ≡ y.ms) × (c.answer.second ≡ 0)) ⊎ (IsCl (given c) (first_sent c) × (second_sent c ≡ y.ms)))
      × (next_of c ≡ proposed_by y)
  -- with 11, and exactly then, no wish suits; nothing is sent, and Initial is next
  pub eleven_none : (x : Proposes (phase_of c) (given c)) → (told c ≡ 11) ↔ NoneSuits x.far (given c)
  pub eleven_leaves : told c ≡ 11 → (c.out₁ ≡ c.out₀) × (c.answer.signal ≡ None) × (next_of c ≡ Initial c.time)
  -- an MS that leads to Mode stands in the store, minimal; ACK(1), one octet 24, is sent exactly if it asks for that, and else nothing
  pub mode_stored : Due (phase_of c) (given c) → HearsType 1 (given c) → is_mode (kind_of (next_of c)) ≡ true → IsField (standard_heard (given c)) (stored_then c)
  pub ack_asked : Due (phase_of c) (given c) → HearsType 1 (given c) → is_mode (kind_of (next_of c)) ≡ true → (first_sent c ≡ 0x24 ∷ []) ↔ (far_says 4 (given c) ≡ true)
  pub ack_unasked : Due (phase_of c) (given c) → HearsType 1 (given c) → is_mode (kind_of (next_of c)) ≡ true → (c.answer.first ≡ 0) ↔ (far_says 4 (given c) ≡ false)
  -- an invalid frame, and a message refused with 2 or 4, gives NAK(1), one octet 28, and Initial
  pub nak_1 : Due (phase_of c) (given c) → HearsSpoilt (given c) → (told c ≡ 0) × (c.answer.first ≡ 1) × (first_sent c ≡ 0x28 ∷ []) × (c.answer.second ≡ 0) × (next_of c ≡ Initial c.time)
  -- in a phase other than Initial and Mode an event 5000 ms after entry is handled, and one 5001 ms after is refused with 6
  pub at_5000 : Sound (given c) → is_over (kind_of (phase_of c)) ≡ false → c.time ≡ entry_of (phase_of c) + 5000 → Due (phase_of c) (given c)
  pub at_5001 : Sound (given c) → is_over (kind_of (phase_of c)) ≡ false → c.time ≡ entry_of (phase_of c) + 5001 → (told c ≡ 6) × (next_of c ≡ Initial c.time)
