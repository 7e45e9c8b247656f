-- To be believed: one step of the station (RULES, The station), the refusals in their order, then the table.
-- Assumes nothing.
use Rattle.std.specs.Prelude.{ℕ, ◌-◌, Bool, true, false, not, Option, Result, Ok, Err, List, ◌++◌, ◌≡◌, ltb, length}
use Rattle.octets.specs.Lay.{put}
use Rattle.octets.specs.Places.{pick}
use Rattle.choice.specs.Wishes.{wishes_of, good_wishes}
use Rattle.choice.specs.Tables.{good_own, all_inside}
use Rattle.table.specs.declared.Phase.{Phase}
use Rattle.table.specs.declared.Phase.TheVariants.{Initial}
use Rattle.table.specs.declared.Kind.{Kind}
use Rattle.table.specs.declared.Settings.{Settings}
use Rattle.table.specs.declared.Signal.{Signal}
use Rattle.table.specs.declared.State.{State}
use Rattle.table.specs.Phases.{kind_of, entry_of, ack_of, is_mode, is_over}
use Rattle.table.specs.Rows.{act_of}
use Rattle.station.specs.Sorting.{Sort, known, strange, sort_of}
use Rattle.station.specs.Acting.{Outcome, quiet, does}
use Rattle.station.specs.declared.Event.{Event}
use Rattle.station.specs.declared.Event.TheVariants as events
use Rattle.station.specs.declared.StepRefusal.{StepRefusal}
use Rattle.station.specs.declared.StepRefusal.TheVariants.{BadLent, BadOwn, BadWishes, Outside, TimeBefore, TimedOut, UnknownType, NotInTable, NothingToPropose}
use Rattle.station.specs.declared.Stepped.{Stepped}

-- the rules' number of what a step tells, 0 for success
abbrev pub told_no : Result (Unit {0}) StepRefusal → ℕ
told_no (Ok x) = 0
told_no (Err BadLent) = 1
told_no (Err BadOwn) = 2
told_no (Err BadWishes) = 3
told_no (Err Outside) = 4
told_no (Err TimeBefore) = 5
told_no (Err TimedOut) = 6
told_no (Err UnknownType) = 9
told_no (Err NotInTable) = 10
told_no (Err NothingToPropose) = 11

abbrev pub output_room : ℕ
output_room = 128

abbrev pub store_room : ℕ
store_room = 64

-- milliseconds that a phase other than Initial and Mode may last
abbrev pub longest : ℕ
longest = 5000

abbrev pub is_late : Kind → ℕ → ℕ → Bool
is_late k entry time = pick (is_over k) false (ltb longest (time - entry))

-- what a known event does by the table; 9 for a message of unknown type
abbrev pub sorted : Sort → Phase → Settings → List ℕ → List ℕ → List ℕ → ℕ → Outcome
sorted (known h) p settings own wishes field time = does (act_of (kind_of p) settings (ack_of p) h) p settings own wishes field time
sorted strange p settings own wishes field time = quiet 9 p

-- 5, 6, 10 in Mode, and then the event
unfoldable pub timed : Phase → Settings → List ℕ → List ℕ → Event → List ℕ → ℕ → Outcome
timed p settings own wishes event field time =
    pick (ltb time (entry_of p)) (quiet 5 p)
    (pick (is_late (kind_of p) (entry_of p) time) (quiet 6 (Initial time))
    (pick (is_mode (kind_of p)) (quiet 10 p)
    (sorted (sort_of event field) p settings own wishes field time)))

-- 1 to 4, and then the time
unfoldable pub checked : Phase → Settings → List ℕ → List ℕ → Event → List ℕ → ℕ → ℕ → ℕ → Outcome
checked p settings own wishes event field time out_size store_size =
    pick (ltb out_size output_room) (quiet 1 p)
    (pick (ltb store_size store_room) (quiet 1 p)
    (pick (not (good_own own)) (quiet 2 p)
    (pick (not (good_wishes wishes)) (quiet 3 p)
    (pick (not (all_inside own (wishes_of wishes))) (quiet 4 p)
    (timed p settings own wishes event field time)))))

abbrev pub is_reset : Event → Bool
is_reset (events.Start s) = false
is_reset (events.Signal s) = false
is_reset events.Field = false
is_reset events.InvalidFrame = false
is_reset events.AnswerTone = false
is_reset events.Reset = true

-- reset gives Initial with no check at all
unfoldable pub step_of : Phase → Settings → List ℕ → List ℕ → Event → List ℕ → ℕ → ℕ → ℕ → Outcome
step_of p settings own wishes event field time out_size store_size =
    pick (is_reset event) (quiet 0 (Initial time)) (checked p settings own wishes event field time out_size store_size)

-- a reply: the rules' number, 0 for success, the signal, the lengths of the fields sent and of what was stored, and the next phase
pub record Reply : Type 0 where
  pub no : ℕ
  pub signal : Option Signal
  pub first : ℕ
  pub second : ℕ
  pub stored : ℕ
  pub next : Phase

-- the reply that an answer is, and the one that an outcome asks for
abbrev pub step_told : Stepped → Reply
step_told r =
    record {
      no = told_no r.told;
      signal = r.signal;
      first = r.first;
      second = r.second;
      stored = r.stored;
      next = r.state.phase;
    }

abbrev pub step_reply : Outcome → Reply
step_reply o =
    record {
      no = o.told;
      signal = o.signal;
      first = length o.first;
      second = length o.second;
      stored = length o.stored;
      next = o.next;
    }

-- the answer r, the output and the store are those of an outcome: what is sent and stored stands at their fronts, and nothing else changed
pub record Did (o : Outcome) (out₀ store₀ : List ℕ) (r : Stepped) (out₁ store₁ : List ℕ) : Type 0 where
  pub reply : step_told r ≡ step_reply o
  pub output : out₁ ≡ put (o.first ++ o.second) out₀
  pub store : store₁ ≡ put o.stored store₀

-- what a station begins as
abbrev pub begun : ℕ → State
begun time = record { phase = Initial time }
