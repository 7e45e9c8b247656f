-- A step follows the table from every phase: which refusal comes before it, where each act leads, when a phase was entered, and that a
-- transaction is over by its fourth acted-on event.
-- Assumes nothing.
use Prim.Native.Nat.{ℕ, zero, suc, ◌+◌, ◌<◌, ◌≤◌}
use mathlib.Core.Bool.{Bool, true, false, not}
use mathlib.Core.List.{List, [], ◌∷◌, ◌++◌}
use mathlib.Core.Path.{◌≡◌, refl, sym, ap, subst, ◌∙◌}
use native.Mathlib.Omega.{arith}
use borrow.Author.Tests.{ltb-true, ltb-false}
use lib.Dec.{eqb, ltb}
use lib.ListN.{length}
use Rattle.octets.specs.Bits.{num}
use Rattle.octets.specs.Places.{pick}
use Rattle.good.specs.Good.{good_field}
use Rattle.choice.specs.Wishes.{Wish, wishes_of, good_wishes, standard_codes}
use Rattle.choice.specs.Choosing.{Far, unheard, heard, Choosing, chosen, refused, suits, first_suiting, choice}
use Rattle.choice.specs.Judging.{verdict}
use Rattle.choice.specs.Tables.{all_inside, tables_no, tables_told}
use Rattle.choice.specs.declared.Pick.{Pick}
use Rattle.std.specs.Prelude.{Result, Ok, Err}
use Rattle.choice.specs.declared.TablesRefusal.{TablesRefusal}
use Rattle.choice.specs.declared.TablesRefusal.TheVariants as found
use Rattle.choice.proofs.Truths.{never}
use Rattle.table.specs.declared.Phase.{Phase}
use Rattle.table.specs.declared.Phase.TheVariants.{Initial}
use Rattle.table.specs.declared.Kind.{Kind}
use Rattle.table.specs.declared.Kind.TheVariants.{AtInitial, AtProposed, AtMode}
use Rattle.table.specs.declared.Heard.{Heard}
use Rattle.table.specs.declared.Act.{Act}
use Rattle.table.specs.declared.Carried.{Carried}
use Rattle.table.specs.declared.Signal.{Signal}
use Rattle.table.specs.declared.Signal.TheVariants.{MrE, MrD, CrE, CrD}
use Rattle.table.specs.declared.Act.TheVariants.{NoRow, SendSignal, CounterMrD, Propose, SendCl, SendClr, PairClr, Take, Judge, Agree, GiveUp, SendNak1}
use Rattle.table.specs.declared.After.TheVariants.{ThenMs, ThenClMs, ThenCl, ThenHalf}
use Rattle.table.specs.declared.Settings.{Settings}
use Rattle.table.specs.Phases.{carried, carried_by, kind_of, entry_of, ack_of, is_over}
use Rattle.table.specs.Bound.{if_found, signal_to, leads_to, is_acted, Turn, GoesOn}
use Rattle.table.proofs.FourEvents.{at_most_three}
use Rattle.table.proofs.Lines.{each}
use Rattle.station.specs.Sending.{sent_list, no_offer}
use Rattle.station.specs.Sorting.{Sort, known, strange, sort_of}
use Rattle.station.specs.Acting.{Outcome, quiet, stays, far_list, far_offer, stored_list, proposes, proposes_behind, waiting, judges}
use Rattle.station.specs.Stepping.{is_late, is_reset, sorted, timed, checked, step_of}
use Rattle.table.specs.Phases.{is_mode}
use Rattle.station.specs.declared.FarOffer.{FarOffer}
use Rattle.station.proofs.Gating.{time_before, timed_out, in_mode, in_time, small_output, small_store, tables_checked, tabled}
use Rattle.demands.specs.Given.{Given, steps, Sound, Due, Passes, act_on, doing, standard_heard, is_acted_on, is_kept, after, Lasts, acted_on}

-- the choice by a far list, and the verdict on the mode heard
abbrev pub choice_by : Far → Given → Choosing
choice_by far g = choice (standard_codes g.own) far g.wishes

abbrev pub verdict_on : Given → ℕ
verdict_on g = verdict (standard_heard g) (wishes_of g.wishes)

-- the far list heard, as a step takes it
abbrev pub far_heard : Given → Far
far_heard g = heard (far_list g.field)

-- Mode lasts
mode_never_late : (k : Kind) (entry time : ℕ) → is_mode k ≡ true → is_late k entry time ≡ false
mode_never_late k entry time =
    each (λ (k : Kind). is_mode k ≡ true → is_late k entry time ≡ false)
    never never never never never never never never never never never (λ e. refl) k

module _ (p : Phase) (g : Given) where
  -- a reset is not checked at all
  pub reset_first : is_reset g.event ≡ true → steps p g ≡ quiet 0 (Initial g.time)
  unfolding step_of
  reset_first r = rw r

  live_checked : is_reset g.event ≡ false
      → steps p g ≡ checked p g.settings g.own g.wishes g.event g.field g.time g.out_size g.store_size
  unfolding step_of
  live_checked r = rw r

  -- 1: no room in the output, or in the store
  pub refuses_1_output : is_reset g.event ≡ false → g.out_size < 128 → steps p g ≡ quiet 1 p
  refuses_1_output r h = live_checked r ∙ small_output p g.settings g.own g.wishes g.event g.field g.time g.out_size g.store_size h

  pub refuses_1_store : is_reset g.event ≡ false → 128 ≤ g.out_size → g.store_size < 64 → steps p g ≡ quiet 1 p
  refuses_1_store r h k = live_checked r ∙ small_store p g.settings g.own g.wishes g.event g.field g.time g.out_size g.store_size h k

  module _ (live : is_reset g.event ≡ false) (output : 128 ≤ g.out_size) (store : 64 ≤ g.store_size) where
    by_tables : (t : Result (Unit {0}) TablesRefusal) → tables_told t ≡ tables_no g.own g.wishes → steps p g ≡ tabled t p (timed p g.settings g.own g.wishes g.event g.field g.time)
    by_tables t e = live_checked live ∙ tables_checked p g.settings g.own g.wishes g.event g.field g.time g.out_size g.store_size output store t e

    -- 2, 3 and 4: the tables
    pub refuses_2 : good_field g.own ≡ false → steps p g ≡ quiet 2 p
    unfolding tables_no
    refuses_2 a = by_tables (Err found.BadOwn) (rw a)

    pub refuses_3 : good_field g.own ≡ true → good_wishes g.wishes ≡ false → steps p g ≡ quiet 3 p
    unfolding tables_no
    refuses_3 a b = by_tables (Err found.BadWishes) (rw (a, b))

    pub refuses_4 : good_field g.own ≡ true → good_wishes g.wishes ≡ true → all_inside g.own (wishes_of g.wishes) ≡ false → steps p g ≡ quiet 4 p
    unfolding tables_no
    refuses_4 a b c = by_tables (Err found.Outside) (rw (a, b, c))

  module _ (s : Sound g) where
    by_time : steps p g ≡ timed p g.settings g.own g.wishes g.event g.field g.time
    by_time = by_tables s.live s.output s.store (Ok tt) (sym s.tables)

    -- 5: before the phase was entered
    pub refuses_5 : g.time < entry_of p → steps p g ≡ quiet 5 p
    refuses_5 h = by_time ∙ time_before p g.settings g.own g.wishes g.event g.field g.time h

    -- 6: too late
    pub refuses_6 : entry_of p ≤ g.time → is_late (kind_of p) (entry_of p) g.time ≡ true → steps p g ≡ quiet 6 (Initial g.time)
    refuses_6 h l = by_time ∙ timed_out p g.settings g.own g.wishes g.event g.field g.time h l

    -- 10 in Mode, whatever the event
    pub refuses_10_mode : entry_of p ≤ g.time → is_mode (kind_of p) ≡ true → steps p g ≡ quiet 10 p
    refuses_10_mode h o =
        by_time ∙ in_mode p g.settings g.own g.wishes g.event g.field g.time h (mode_never_late (kind_of p) (entry_of p) g.time o) o

  by_sort : Due p g → steps p g ≡ sorted (sort_of g.event g.field) p g.settings g.own g.wishes g.field g.time
  by_sort d = by_time d.sound ∙ in_time p g.settings g.own g.wishes g.event g.field g.time d.after d.prompt d.awake

  -- 9: a message of unknown type
  pub refuses_9 : Due p g → sort_of g.event g.field ≡ strange → steps p g ≡ quiet 9 p
  refuses_9 d e = by_sort d ∙ rw e

  -- from every phase the step follows the table
  pub follows : {h : Heard} → Passes p g h → steps p g ≡ doing (act_on p g h) p g
  follows s = by_sort s.due ∙ rw s.heard

  -- 10: not in the table
  pub refuses_10 : {h : Heard} → Passes p g h → act_on p g h ≡ NoRow → steps p g ≡ quiet 10 p
  refuses_10 s e = follows s ∙ rw e

-- ---- what an outcome can be

-- success: the phase is entered now
pub record Success (o : Outcome) (time : ℕ) : Type 0 where
  pub told : o.told ≡ 0
  pub entry : entry_of o.next ≡ time

pub by_test : {A : Type 0} (t : Bool) → (t ≡ true → A) → (t ≡ false → A) → A
by_test true f g = f refl
by_test false f g = g refl

-- tables are good, or refused with 2, 3 or 4
told_cases : {A : Type 0} (own run : List ℕ) → (tables_no own run ≡ 0 → A) → (good_field own ≡ false → A) → (good_field own ≡ true → good_wishes run ≡ false → A)
    → (good_field own ≡ true → good_wishes run ≡ true → all_inside own (wishes_of run) ≡ false → A) → A
unfolding tables_no
told_cases own run good own-bad wishes-bad outside =
    by_test (good_field own) (λ a. by_test (good_wishes run) (λ b. by_test (all_inside own (wishes_of run)) (λ c. good (rw (a, b, c))) (outside a b)) (wishes-bad a)) own-bad

-- a choice is a wish, or 11
pub data Settled : Choosing → Type 0 where
  one : (p : Pick) → Settled (chosen p)
  eleven : Settled (refused 11)

settled_among : (own : List ℕ) (far : Far) (ws : List Wish) (n at : ℕ) → Settled (first_suiting own far ws n at)
unfolding first_suiting
settled_among own far [] n at = eleven
settled_among own far (w ∷ ws) n at = go (suits own far w) (settled_among own far ws (n + 1) (at + 2 + length w.field))
  where
    go : (t : Bool) {rest : Choosing} → Settled rest → Settled (pick t (chosen (record { number = n + 1; at = at + 2; length = length w.field })) rest)
    go true x = one _
    go false x = x

pub settled : (far : Far) (g : Given) → Settled (choice_by far g)
unfolding choice
settled far g = settled_among (standard_codes g.own) far (wishes_of g.wishes) 0 0

-- what holds of 11 and of every success holds of what a choice or a verdict leads to
module _ (P : Outcome → Type 0) (time : ℕ) (none : (stored : List ℕ) → P (stays 11 stored time)) (done : (o : Outcome) → Success o time → P o) where
  ends_now : (o : Outcome) → o.told ≡ 0 → entry_of o.next ≡ time → P o
  ends_now o t e = done o (record { told = t; entry = e })

  of_proposal : {c : Choosing} → Settled c → (set : Settings) (far : FarOffer) (run stored : List ℕ) → P (proposes c set far run stored time)
  of_proposal (one p) set far run stored = ends_now _ refl refl
  of_proposal eleven set far run stored = none stored

  of_second : (list : List ℕ) {c : Choosing} → Settled c → (set : Settings) (far : FarOffer) (run stored : List ℕ) → P (proposes_behind list c set far run stored time)
  of_second list (one p) set far run stored = ends_now _ refl refl
  of_second list eleven set far run stored = none stored

  of_verdict : (v : ℕ) (m : List ℕ) → P (judges v m time)
  of_verdict zero m = ends_now _ refl refl
  of_verdict (suc k) m = ends_now _ refl refl

-- behind a signal a phase waits that carries the time alone
waits : (s : Signal) (time : ℕ) → carried_by (waiting s time) ≡ carried (signal_to s) time 0 false
waits MrE time = refl
waits MrD time = refl
waits CrE time = refl
waits CrD time = refl

-- and with refusal 10, of what every act does
of_act : (P : Outcome → Type 0) (p : Phase) (g : Given) → P (quiet 10 p) → ((stored : List ℕ) → P (stays 11 stored g.time))
    → ((o : Outcome) → Success o g.time → P o) → (a : Act) → P (doing a p g)
of_act P p g row none done NoRow = row
of_act P p g row none done (SendSignal s) = ends_now P g.time none done _ refl (ap (λ (x : Carried). x.entry) (waits s g.time))
of_act P p g row none done CounterMrD = ends_now P g.time none done _ refl refl
of_act P p g row none done Propose = of_proposal P g.time none done (settled unheard g) g.settings no_offer g.wishes []
of_act P p g row none done SendCl = ends_now P g.time none done _ refl refl
of_act P p g row none done SendClr = ends_now P g.time none done _ refl refl
of_act P p g row none done PairClr = ends_now P g.time none done _ refl refl
of_act P p g row none done (Take ThenMs) = of_proposal P g.time none done (settled (far_heard g) g) g.settings (far_offer g.field) g.wishes (stored_list g.field)
of_act P p g row none done (Take ThenClMs) =
    of_second P g.time none done (sent_list 2 g.settings g.own) (settled (far_heard g) g) g.settings (far_offer g.field) g.wishes (stored_list g.field)
of_act P p g row none done (Take ThenCl) = ends_now P g.time none done _ refl refl
of_act P p g row none done (Take ThenHalf) = ends_now P g.time none done _ refl refl
of_act P p g row none done Judge = of_verdict P g.time none done (verdict_on g) g.field
of_act P p g row none done Agree = ends_now P g.time none done _ refl refl
of_act P p g row none done GiveUp = ends_now P g.time none done _ refl refl
of_act P p g row none done SendNak1 = ends_now P g.time none done _ refl refl

-- what holds of a reset, of refusals that leave the phase, of 6, and of what the table does holds of the step
module _ (P : Outcome → Type 0) (p : Phase) (g : Given) where
  pub of_step : P (quiet 0 (Initial g.time)) → ((n : ℕ) → is_kept n ≡ true → P (quiet n p)) → P (quiet 6 (Initial g.time))
      → ((h : Heard) → Passes p g h → P (doing (act_on p g h) p g)) → P (steps p g)
  of_step reset kept late act =
      by_test (is_reset g.event) (λ r. is (reset_first p g r) reset)
      (λ live. by_test (ltb g.out_size 128) (λ h. is (refuses_1_output p g live (ltb-true g.out_size 128 h)) (kept 1 refl))
      (λ o. let output : 128 ≤ g.out_size = ltb-false g.out_size 128 o in
      by_test (ltb g.store_size 64) (λ h. is (refuses_1_store p g live output (ltb-true g.store_size 64 h)) (kept 1 refl))
      (λ s. tables live output (ltb-false g.store_size 64 s))))
    where
      is : {o : Outcome} → steps p g ≡ o → P o → P (steps p g)
      is e x = subst P (sym e) x

      sort : Due p g → (s : Sort) → sort_of g.event g.field ≡ s → P (steps p g)
      sort d (known h) e = let s : Passes p g h = record { due = d; heard = e } in is (follows p g s) (act h s)
      sort d strange e = is (refuses_9 p g d e) (kept 9 refl)

      clock : Sound g → P (steps p g)
      clock s =
          by_test (ltb g.time (entry_of p)) (λ h. is (refuses_5 p g s (ltb-true g.time (entry_of p) h)) (kept 5 refl))
          (λ h. let after : entry_of p ≤ g.time = ltb-false g.time (entry_of p) h in
          by_test (is_late (kind_of p) (entry_of p) g.time) (λ l. is (refuses_6 p g s after l) late)
          (λ l. by_test (is_mode (kind_of p)) (λ o. is (refuses_10_mode p g s after o) (kept 10 refl))
          (λ o. sort (record { sound = s; after = after; prompt = l; awake = o }) (sort_of g.event g.field) refl)))

      tables : is_reset g.event ≡ false → 128 ≤ g.out_size → 64 ≤ g.store_size → P (steps p g)
      tables live output store =
          told_cases g.own g.wishes
          (λ e. clock (record { live = live; output = output; store = store; tables = e }))
          (λ a. is (refuses_2 p g live output store a) (kept 2 refl))
          (λ a b. is (refuses_3 p g live output store a b) (kept 3 refl))
          (λ a b c. is (refuses_4 p g live output store a b c) (kept 4 refl))

  -- so of every outcome, if it holds of what leaves the phase, of 6, of 11 and of every success
  pub of_outcome : ((n : ℕ) → is_kept n ≡ true → P (quiet n p)) → P (quiet 6 (Initial g.time)) → ((stored : List ℕ) → P (stays 11 stored g.time))
      → ((o : Outcome) → Success o g.time → P o) → P (steps p g)
  of_outcome kept late none done =
      of_step (ends_now P g.time none done _ refl refl) kept late (λ h s. of_act P p g (kept 10 refl) none done (act_on p g h))

-- ---- the time of entry

module _ (p : Phase) (g : Given) where
  -- an acted-on event, a reset, 6 and 11 make the given time the entry time
  pub entered_now : is_kept (steps p g).told ≡ false → entry_of (steps p g).next ≡ g.time
  entered_now =
      of_outcome (λ (o : Outcome). is_kept o.told ≡ false → entry_of o.next ≡ g.time) p g
      (λ t k e. never (sym e ∙ k)) (λ e. refl) (λ stored e. refl) (λ o s e. s.entry)

  -- every other refusal leaves the phase as it was
  pub phase_kept : is_kept (steps p g).told ≡ true → (steps p g).next ≡ p
  phase_kept =
      of_outcome (λ (o : Outcome). is_kept o.told ≡ true → o.next ≡ p) p g
      (λ t k e. refl) (λ e. never e) (λ stored e. never e) (λ o s e. never (ap is_kept (sym s.told) ∙ e))

-- ---- where an act leads

abbrev pub is_chosen : Choosing → Bool
is_chosen (chosen p) = true
is_chosen (refused n) = false

abbrev pub is_accepted : ℕ → Bool
is_accepted zero = true
is_accepted (suc k) = false

-- what an act finds, where it looks for something: a choice, or that the mode is accepted
abbrev pub finds : Act → Given → Bool
finds NoRow g = false
finds (SendSignal s) g = false
finds CounterMrD g = false
finds Propose g = is_chosen (choice_by unheard g)
finds SendCl g = false
finds SendClr g = false
finds PairClr g = false
finds (Take after) g = is_chosen (choice_by (far_heard g) g)
finds Judge g = is_accepted (verdict_on g)
finds Agree g = false
finds GiveUp g = false
finds SendNak1 g = false

proposal_leads : (c : Choosing) (set : Settings) (far : FarOffer) (run stored : List ℕ) (time : ℕ)
    → kind_of (proposes c set far run stored time).next ≡ if_found (is_chosen c) AtProposed AtInitial
proposal_leads (chosen p) set far run stored time = refl
proposal_leads (refused n) set far run stored time = refl

second_leads : (list : List ℕ) (c : Choosing) (set : Settings) (far : FarOffer) (run stored : List ℕ) (time : ℕ)
    → kind_of (proposes_behind list c set far run stored time).next ≡ if_found (is_chosen c) AtProposed AtInitial
second_leads list (chosen p) set far run stored time = refl
second_leads list (refused n) set far run stored time = refl

verdict_leads : (v : ℕ) (m : List ℕ) (time : ℕ) → kind_of (judges v m time).next ≡ if_found (is_accepted v) AtMode AtInitial
verdict_leads zero m time = refl
verdict_leads (suc k) m time = refl

-- each act leads where the table's bound says
pub act_leads : (a : Act) (p : Phase) (g : Given) → kind_of (doing a p g).next ≡ leads_to a (finds a g) (kind_of p)
act_leads NoRow p g = refl
act_leads (SendSignal s) p g = ap (λ (x : Carried). x.kind) (waits s g.time)
act_leads CounterMrD p g = refl
act_leads Propose p g = proposal_leads (choice_by unheard g) g.settings no_offer g.wishes [] g.time
act_leads SendCl p g = refl
act_leads SendClr p g = refl
act_leads PairClr p g = refl
act_leads (Take ThenMs) p g = proposal_leads (choice_by (far_heard g) g) g.settings (far_offer g.field) g.wishes (stored_list g.field) g.time
act_leads (Take ThenClMs) p g =
    second_leads (sent_list 2 g.settings g.own) (choice_by (far_heard g) g) g.settings (far_offer g.field) g.wishes (stored_list g.field) g.time
act_leads (Take ThenCl) p g = refl
act_leads (Take ThenHalf) p g = refl
act_leads Judge p g = verdict_leads (verdict_on g) g.field g.time
act_leads Agree p g = refl
act_leads GiveUp p g = refl
act_leads SendNak1 p g = refl

-- so from every phase the table says where the step leads
pub step_leads : (p : Phase) (g : Given) {h : Heard} → Passes p g h → kind_of (steps p g).next ≡ leads_to (act_on p g h) (finds (act_on p g h) g) (kind_of p)
step_leads p g {h} s = ap (λ (o : Outcome). kind_of o.next) (follows p g s) ∙ act_leads (act_on p g h) p g

-- ---- the bound of four events, over steps

-- 11 and success count
abbrev Counts : Outcome → Type 0
Counts o = is_acted_on o.told ≡ true

success_counts : (time : ℕ) (o : Outcome) → Success o time → Counts o
success_counts time o s = ap is_acted_on s.told

-- what is told says whether the act counts
pub act_told : (a : Act) (p : Phase) (g : Given) → is_acted_on (doing a p g).told ≡ is_acted a
act_told NoRow p g = refl
act_told (SendSignal s) p g = refl
act_told CounterMrD p g = refl
act_told Propose p g = of_proposal Counts g.time (λ _. refl) (success_counts g.time) (settled unheard g) g.settings no_offer g.wishes []
act_told SendCl p g = refl
act_told SendClr p g = refl
act_told PairClr p g = refl
act_told (Take ThenMs) p g = of_proposal Counts g.time (λ _. refl) (success_counts g.time) (settled (far_heard g) g) g.settings (far_offer g.field) g.wishes (stored_list g.field)
act_told (Take ThenClMs) p g =
    of_second Counts g.time (λ _. refl) (success_counts g.time) (sent_list 2 g.settings g.own) (settled (far_heard g) g) g.settings (far_offer g.field) g.wishes (stored_list g.field)
act_told (Take ThenCl) p g = refl
act_told (Take ThenHalf) p g = refl
act_told Judge p g = of_verdict Counts g.time (λ _. refl) (success_counts g.time) (verdict_on g) g.field
act_told Agree p g = refl
act_told GiveUp p g = refl
act_told SendNak1 p g = refl

-- an act that does not count leads nowhere
idle_stays : (a : Act) (found : Bool) (k : Kind) → is_acted a ≡ false → leads_to a found k ≡ k
idle_stays NoRow found k e = refl
idle_stays (SendSignal s) found k e = never (sym e)
idle_stays CounterMrD found k e = never (sym e)
idle_stays Propose found k e = never (sym e)
idle_stays SendCl found k e = never (sym e)
idle_stays SendClr found k e = never (sym e)
idle_stays PairClr found k e = never (sym e)
idle_stays (Take after) found k e = never (sym e)
idle_stays Judge found k e = never (sym e)
idle_stays Agree found k e = never (sym e)
idle_stays GiveUp found k e = never (sym e)
idle_stays SendNak1 found k e = never (sym e)

-- a refusal that leaves the phase is none of an event that was acted on
pub kept_idle : (n : ℕ) → is_kept n ≡ true → is_acted_on n ≡ false
kept_idle n = go (eqb n 0) (eqb n 6) (eqb n 11)
  where
    go : (a b c : Bool) → pick a false (pick b false (not c)) ≡ true → pick a true c ≡ false
    go true b c e = never e
    go false true c e = never e
    go false false true e = never e
    go false false false e = refl

-- so many events that the table acts on, none of which ends the transaction
record Turns (k : Kind) (n : ℕ) : Type 0 where
  turns : List Turn
  goes : GoesOn k turns
  count : length turns ≡ n

-- an act before them is one more if it counts
act_turn : (p : Phase) (g : Given) (h : Heard) (n : ℕ) → is_over (kind_of (doing (act_on p g h) p g).next) ≡ false
    → Turns (kind_of (doing (act_on p g h) p g).next) n → Turns (kind_of p) (num (is_acted (act_on p g h)) + n)
unfolding GoesOn
act_turn p g h n on t =
    let e = act_leads (act_on p g h) p g in
    by_test (is_acted (act_on p g h))
    (λ acted.
    record {
      turns = record { heard = h; set = g.settings; asked = ack_of p; found = finds (act_on p g h) g } ∷ t.turns;
      goes = (acted, rw e at on, rw e at t.goes);
      count = omega (arith, t.count, ap num acted);
    })
    (λ idle. record { turns = t.turns; goes = rw (e ∙ idle_stays (act_on p g h) (finds (act_on p g h) g) (kind_of p) idle) at t.goes; count = omega (arith, t.count, ap num idle) })

-- and so is a step
step_turn : (p : Phase) (g : Given) (n : ℕ) → is_over (kind_of (steps p g).next) ≡ false → Turns (kind_of (steps p g).next) n
    → Turns (kind_of p) (num (is_acted_on (steps p g).told) + n)
step_turn p g n =
    of_step
    (λ (o : Outcome). is_over (kind_of o.next) ≡ false → Turns (kind_of o.next) n → Turns (kind_of p) (num (is_acted_on o.told) + n)) p g
    (λ e t. never (sym e))
    (λ n k e t. record { turns = t.turns; goes = t.goes; count = omega (arith, t.count, ap num (kept_idle n k)) })
    (λ e t. never (sym e))
    (λ h s e t. rw (act_told (act_on p g h) p g) (act_turn p g h n e t))

steps_turns : (p : Phase) (gs : List Given) → Lasts p gs → Turns (kind_of p) (acted_on p gs)
unfolding Lasts acted_on GoesOn
steps_turns p [] l = record { turns = []; goes = tt; count = refl }
steps_turns p (g ∷ gs) l = step_turn p g (acted_on (steps p g).next gs) l.0 (steps_turns (steps p g).next gs l.1)

-- from Initial, while no step leads back there or to Mode, at most three events are acted on
pub three_at_most : (t : ℕ) (gs : List Given) → Lasts (Initial t) gs → acted_on (Initial t) gs ≤ 3
three_at_most t gs l = let ts = steps_turns (Initial t) gs l in omega (arith, at_most_three ts.turns ts.goes, ts.count)

-- one step more
lasts_more : (p : Phase) (gs : List Given) (g : Given) → Lasts p gs → is_over (kind_of (steps (after p gs) g).next) ≡ false → Lasts p (gs ++ (g ∷ []))
unfolding Lasts after
lasts_more p [] g l e = (e, tt)
lasts_more p (x ∷ gs) g l e = (l.0, lasts_more (steps p x).next gs g l.1 e)

acted_more : (p : Phase) (gs : List Given) (g : Given) → acted_on p (gs ++ (g ∷ [])) ≡ acted_on p gs + num (is_acted_on (steps (after p gs) g).told)
unfolding acted_on after
acted_more p [] g = omega arith
acted_more p (x ∷ gs) g = omega (arith, acted_more (steps p x).next gs g)

-- a transaction is over by its fourth acted-on event, its first included
pub over_by_fourth : (t : ℕ) (gs : List Given) (g : Given) → Lasts (Initial t) gs → acted_on (Initial t) gs ≡ 3 → is_acted_on (steps (after (Initial t) gs) g).told ≡ true
    → is_over (kind_of (steps (after (Initial t) gs) g).next) ≡ true
over_by_fourth t gs g l three acted =
    by_test (is_over (kind_of (steps (after (Initial t) gs) g).next)) (λ e. e)
    (λ e. absurd (omega (arith, three_at_most t (gs ++ (g ∷ [])) (lasts_more (Initial t) gs g l e), acted_more (Initial t) gs g, ap num acted)))
