-- The refusals of a step, in their order: which of them the checks lead to.
-- Assumes nothing.
use Prim.Native.Nat.{ℕ, ◌<◌, ◌≤◌}
use mathlib.Core.Bool.{Bool, true, false, not}
use mathlib.Core.List.{List}
use mathlib.Core.Path.{◌≡◌, refl, sym, ap, ◌∙◌}
use native.Mathlib.Omega.{arith}
use Rattle.std.specs.Prelude.{Result, Ok, Err}
use borrow.Author.Tests.{lt-ltb, le-ltb}
use Rattle.octets.specs.Places.{pick}
use Rattle.choice.specs.Wishes.{wishes_of, good_wishes}
use Rattle.choice.specs.Tables.{good_own, all_inside, tables_no, tables_told}
use Rattle.choice.specs.declared.TablesRefusal.{TablesRefusal}
use Rattle.choice.specs.declared.TablesRefusal.TheVariants.{BadOwn, BadWishes, Outside}
use Rattle.choice.proofs.ChoiceUnique.{tables_unique}
use Rattle.table.specs.declared.Phase.{Phase}
use Rattle.table.specs.declared.Phase.TheVariants.{Initial}
use Rattle.table.specs.declared.Settings.{Settings}
use Rattle.table.specs.Phases.{kind_of, entry_of, is_mode}
use Rattle.station.specs.Sorting.{sort_of}
use Rattle.station.specs.Acting.{Outcome, quiet}
use Rattle.station.specs.Stepping.{told_no, output_room, store_room, is_late, sorted, timed, checked}
use Rattle.station.specs.Inner.{shut_in}
use Rattle.station.specs.declared.Event.{Event}
use Rattle.station.specs.declared.StepRefusal.{StepRefusal}
use Rattle.station.specs.declared.StepRefusal.TheVariants as step

-- ---- the time, and Mode

module _ (p : Phase) (set : Settings) (own run : List ℕ) (event : Event) (m : List ℕ) (time : ℕ) where
  pub time_before : time < entry_of p → timed p set own run event m time ≡ quiet 5 p
  unfolding timed
  time_before h = rw (lt-ltb time (entry_of p) h)

  module _ (h : entry_of p ≤ time) where
    pub timed_out : is_late (kind_of p) (entry_of p) time ≡ true → timed p set own run event m time ≡ quiet 6 (Initial time)
    unfolding timed
    timed_out l = rw (le-ltb time (entry_of p) h, l)

    module _ (l : is_late (kind_of p) (entry_of p) time ≡ false) where
      pub in_mode : is_mode (kind_of p) ≡ true → timed p set own run event m time ≡ quiet 10 p
      unfolding timed
      in_mode o = rw (le-ltb time (entry_of p) h, l, o)

      pub in_time : is_mode (kind_of p) ≡ false → timed p set own run event m time ≡ sorted (sort_of event m) p set own run m time
      unfolding timed
      in_time o = rw (le-ltb time (entry_of p) h, l, o)

-- ---- the buffers and the tables

-- the answer of `check_tables` by its three tests
abbrev tables_by : Bool → Bool → Bool → Result (Unit {0}) TablesRefusal
tables_by a b c = pick (not a) (Err BadOwn) (pick (not b) (Err BadWishes) (pick (not c) (Err Outside) (Ok tt)))

tables_by_lem : (own run : List ℕ) → tables_told (tables_by (good_own own) (good_wishes run) (all_inside own (wishes_of run))) ≡ tables_no own run
unfolding tables_no
tables_by_lem own run = go (good_own own) (good_wishes run) (all_inside own (wishes_of run))
  where
    go : (a b c : Bool) → tables_told (tables_by a b c) ≡ pick (not a) 2 (pick (not b) 3 (pick (not c) 4 0))
    go true true true = refl
    go true true false = refl
    go true false c = refl
    go false b c = refl

-- what each answer leads to, where good tables lead to o
abbrev pub tabled : Result (Unit {0}) TablesRefusal → Phase → Outcome → Outcome
tabled (Ok x) p o = o
tabled (Err refusal) p o = quiet (tables_told (Err refusal)) p

module _ (p : Phase) (set : Settings) (own run : List ℕ) (event : Event) (m : List ℕ) (time out_size store_size : ℕ) where
  pub small_output : out_size < output_room → checked p set own run event m time out_size store_size ≡ quiet 1 p
  unfolding checked
  small_output h = rw (lt-ltb out_size output_room h)

  module _ (h : output_room ≤ out_size) where
    pub small_store : store_size < store_room → checked p set own run event m time out_size store_size ≡ quiet 1 p
    unfolding checked
    small_store k = rw (le-ltb out_size output_room h, lt-ltb store_size store_room k)

    pub tables_checked : store_room ≤ store_size → (t : Result (Unit {0}) TablesRefusal) → tables_told t ≡ tables_no own run
        → checked p set own run event m time out_size store_size ≡ tabled t p (timed p set own run event m time)
    unfolding checked
    tables_checked k t e =
        rw (le-ltb out_size output_room h, le-ltb store_size store_room k)
        (go (good_own own) (good_wishes run) (all_inside own (wishes_of run))
        ∙ ap (λ (x : Result (Unit {0}) TablesRefusal). tabled x p (timed p set own run event m time)) (tables_unique own run (tables_by (good_own own) (good_wishes run) (all_inside own (wishes_of run))) t (tables_by_lem own run) e))
      where
        go : (a b c : Bool) → pick (not a) (quiet 2 p) (pick (not b) (quiet 3 p) (pick (not c) (quiet 4 p) (timed p set own run event m time)))
            ≡ tabled (tables_by a b c) p (timed p set own run event m time)
        go true true true = refl
        go true true false = refl
        go true false c = refl
        go false b c = refl

-- a refusal of the tables leaves the phase
pub tables_shut : (x : TablesRefusal) (r : StepRefusal) (p : Phase) (time : ℕ) → told_no (Err r) ≡ tables_told (Err x) → quiet (tables_told (Err x)) p ≡ quiet (told_no (Err r)) (shut_in r p time)
tables_shut x r p time e = ap (λ n. quiet n p) (sym e) ∙ ap (quiet (told_no (Err r))) (sym (stays x r e))
  where
    stays : (x : TablesRefusal) (r : StepRefusal) → told_no (Err r) ≡ tables_told (Err x) → shut_in r p time ≡ p
    stays x step.BadLent e = refl
    stays x step.BadOwn e = refl
    stays x step.BadWishes e = refl
    stays x step.Outside e = refl
    stays x step.TimeBefore e = refl
    stays BadOwn step.TimedOut e = absurd (omega (arith, e))
    stays BadWishes step.TimedOut e = absurd (omega (arith, e))
    stays Outside step.TimedOut e = absurd (omega (arith, e))
    stays x step.UnknownType e = refl
    stays x step.NotInTable e = refl
    stays x step.NothingToPropose e = refl
