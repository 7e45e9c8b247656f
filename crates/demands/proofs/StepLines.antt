-- Single rules of the station (RULES, The station), each over steps: what is not looked at, reset, the time of a phase, what is spoilt, and that
-- refusals send and write nothing.
-- Assumes nothing.
use Prim.Native.Nat.{ℕ, ◌+◌, ◌-◌, ◌<◌, ◌≤◌}
use mathlib.Core.Bool.{Bool, true, false}
use mathlib.Core.List.{List, [], ◌∷◌}
use mathlib.Core.Logic.{⊎_elim}
use mathlib.Core.Path.{◌≡◌, refl, sym, ap, ◌∙◌}
use native.Mathlib.Omega.{arith}
use borrow.Author.Tests.{lt-ltb, le-ltb, ne_eqb}
use lib.Dec.{eqb}
use Rattle.octets.proofs.Laying.{put-nil}
use Rattle.message.specs.Reader.{read_message, refused}
use Rattle.choice.proofs.Truths.{never}
use Rattle.table.specs.declared.Phase.{Phase}
use Rattle.table.specs.declared.Phase.TheVariants.{Initial}
use Rattle.table.specs.declared.Kind.{Kind}
use Rattle.table.specs.declared.Kind.TheVariants.{AtMode}
use Rattle.table.specs.declared.Heard.{Heard}
use Rattle.table.specs.declared.Heard.TheVariants as heard
use Rattle.table.specs.declared.Act.{Act}
use Rattle.table.specs.declared.Act.TheVariants.{NoRow, SendSignal, CounterMrD, Propose, SendCl, SendClr, PairClr, Take, Judge, Agree, GiveUp, SendNak1}
use Rattle.table.specs.declared.Settings.{Settings}
use Rattle.table.specs.Phases.{kind_of, entry_of, ack_of, is_over}
use Rattle.table.specs.Rows.{act_of}
use Rattle.table.proofs.Lines.{each, within, spoilt_gets_nak1}
use Rattle.station.specs.Sorting.{known, sort_of}
use Rattle.station.specs.Acting.{Outcome, quiet, sends, does}
use Rattle.station.specs.Stepping.{longest, told_no, Reply, sorted, timed, checked, step_of, Did}
use Rattle.table.specs.Phases.{is_mode}
use Rattle.table.specs.Inner.{is_message, needs_field}
use Rattle.station.specs.declared.Event.{Event}
use Rattle.station.specs.declared.Event.TheVariants as events
use Rattle.std.specs.Prelude.{None}
use Rattle.station.specs.declared.Stepped.{Stepped}
use Rattle.table.proofs.Needing.{bare_needs}
use Rattle.station.proofs.Sendings.{nak_octet}
use Rattle.demands.specs.Given.{Given, steps, Sound, Due, HearsSpoilt, is_acted_on}
use Rattle.demands.proofs.Following.{refuses_6, follows, of_outcome}

-- ---- the field is looked at only for Field

abbrev pub is_field : Event → Bool
is_field (events.Start s) = false
is_field (events.Signal s) = false
is_field events.Field = true
is_field events.InvalidFrame = false
is_field events.AnswerTone = false
is_field events.Reset = false

module _ (p : Phase) (set : Settings) (own run m m' : List ℕ) (time : ℕ) where
  act_blind : (a : Act) → needs_field a ≡ false → does a p set own run m time ≡ does a p set own run m' time
  act_blind NoRow e = refl
  act_blind (SendSignal s) e = refl
  act_blind CounterMrD e = refl
  act_blind Propose e = refl
  act_blind SendCl e = refl
  act_blind SendClr e = refl
  act_blind PairClr e = refl
  act_blind (Take after) e = never (sym e)
  act_blind Judge e = never (sym e)
  act_blind Agree e = refl
  act_blind GiveUp e = refl
  act_blind SendNak1 e = refl

  pub heard_blind : (h : Heard) → is_message h ≡ false → sorted (known h) p set own run m time ≡ sorted (known h) p set own run m' time
  heard_blind h e = act_blind (act_of (kind_of p) set (ack_of p) h) (bare_needs (kind_of p) set (ack_of p) h e)

  sort_blind : (event : Event) → is_field event ≡ false → sorted (sort_of event m) p set own run m time ≡ sorted (sort_of event m') p set own run m' time
  sort_blind (events.Start s) e = heard_blind (heard.Start s) refl
  sort_blind (events.Signal s) e = heard_blind (heard.Signal s) refl
  sort_blind events.Field e = never (sym e)
  sort_blind events.InvalidFrame e = heard_blind heard.Spoilt refl
  sort_blind events.AnswerTone e = heard_blind heard.AnswerTone refl
  sort_blind events.Reset e = refl

  -- for any other event it makes no difference what is lent as the field
  pub field_unlooked : (event : Event) (out_size store_size : ℕ) → is_field event ≡ false
      → step_of p set own run event m time out_size store_size ≡ step_of p set own run event m' time out_size store_size
  unfolding step_of checked timed
  field_unlooked event out_size store_size e = rw (sort_blind event e)

-- ---- reset

-- it gives Initial, whatever else is given
pub reset_initial : (p : Phase) (set : Settings) (own run m : List ℕ) (time out_size store_size : ℕ)
    → step_of p set own run events.Reset m time out_size store_size ≡ quiet 0 (Initial time)
unfolding step_of
reset_initial p set own run m time out_size store_size = refl

-- ---- the time of a phase

over_mode : (k : Kind) → is_over k ≡ false → is_mode k ≡ false
over_mode =
    each (λ (k : Kind). is_over k ≡ false → is_mode k ≡ false)
    (λ e. refl) (λ e. refl) (λ e. refl) (λ e. refl) (λ e. refl) (λ e. refl) (λ e. refl) (λ e. refl) (λ e. refl) (λ e. refl) (λ e. refl) (λ e. e)

module _ (p : Phase) (g : Given) (s : Sound g) (n : is_over (kind_of p) ≡ false) where
  -- in a phase that is neither Initial nor Mode an event is handled up to 5000 milliseconds after entry, and then 6
  pub in_time_handled : entry_of p ≤ g.time → g.time ≤ entry_of p + longest → Due p g
  in_time_handled a b =
      record { sound = s; after = a; prompt = rw n (le-ltb longest (g.time - entry_of p) (omega arith)); awake = over_mode (kind_of p) n }

  pub late_timed_out : entry_of p + longest < g.time → steps p g ≡ quiet 6 (Initial g.time)
  late_timed_out h = refuses_6 p g s (omega arith) (rw n (lt-ltb longest (g.time - entry_of p) (omega arith)))

  pub at_5000_handled : g.time ≡ entry_of p + 5000 → Due p g
  at_5000_handled e = in_time_handled (omega arith) (omega arith)

  pub at_5001_timed_out : g.time ≡ entry_of p + 5001 → steps p g ≡ quiet 6 (Initial g.time)
  at_5001_timed_out e = late_timed_out (omega arith)

-- ---- what is spoilt

awake_nak : (k : Kind) → is_mode k ≡ false → within (AtMode ∷ []) NoRow SendNak1 k ≡ SendNak1
awake_nak =
    each (λ (k : Kind). is_mode k ≡ false → within (AtMode ∷ []) NoRow SendNak1 k ≡ SendNak1)
    (λ e. refl) (λ e. refl) (λ e. refl) (λ e. refl) (λ e. refl) (λ e. refl) (λ e. refl) (λ e. refl) (λ e. refl) (λ e. refl) (λ e. refl) (λ e. never (sym e))

module _ (p : Phase) (g : Given) (d : Due p g) where
  nak_sent : sort_of g.event g.field ≡ known heard.Spoilt → steps p g ≡ sends (0x28 ∷ []) [] [] (Initial g.time)
  nak_sent e =
      follows p g (record { due = d; heard = e })
      ∙ rw (spoilt_gets_nak1 g.settings (ack_of p) (kind_of p) ∙ awake_nak (kind_of p) d.awake, nak_octet 1)

  field_spoilt : (k : ℕ) → g.event ≡ events.Field → read_message g.field 448 ≡ refused k → eqb k 3 ≡ false → steps p g ≡ sends (0x28 ∷ []) [] [] (Initial g.time)
  field_spoilt k e r other = nak_sent (rw (e, r, other))

  -- in every phase but Mode an invalid frame gives NAK(1) and Initial, and so does a field that the message reader refuses with 2 or 4
  pub spoilt_nak : HearsSpoilt g → steps p g ≡ sends (0x28 ∷ []) [] [] (Initial g.time)
  spoilt_nak = ⊎_elim (λ e. nak_sent (rw e)) (λ f. ⊎_elim (λ r. field_spoilt 2 f.0 r refl) (λ r. field_spoilt 4 f.0 r refl) f.1)

-- ---- refusals send nothing, and write nothing but what 11 has stored

module _ (p : Phase) (g : Given) where
  pub refusal_silent : ((steps p g).told ≡ 0 → ⊥) → ((steps p g).signal ≡ None) × ((steps p g).first ≡ []) × ((steps p g).second ≡ [])
  refusal_silent =
      of_outcome (λ (o : Outcome). (o.told ≡ 0 → ⊥) → (o.signal ≡ None) × (o.first ≡ []) × (o.second ≡ [])) p g
      (λ k h n. (refl, refl, refl)) (λ n. (refl, refl, refl)) (λ stored n. (refl, refl, refl)) (λ o s n. absurd (n s.told))

  pub refusal_stores_none : is_acted_on (steps p g).told ≡ false → (steps p g).stored ≡ []
  refusal_stores_none =
      of_outcome (λ (o : Outcome). is_acted_on o.told ≡ false → o.stored ≡ []) p g
      (λ k h n. refl) (λ n. refl) (λ stored n. never (sym n)) (λ o s n. never (sym n ∙ ap is_acted_on s.told))

  module _ {out₀ out₁ store₀ store₁ : List ℕ} {r : Stepped} (d : Did (steps p g) out₀ store₀ r out₁ store₁) where
    number_told : told_no r.told ≡ (steps p g).told
    number_told = ap (λ (x : Reply). x.no) d.reply

    -- the output is as it was
    pub refusal_keeps_output : (told_no r.told ≡ 0 → ⊥) → out₁ ≡ out₀
    refusal_keeps_output n = let q = refusal_silent (λ t. n (number_told ∙ t)) in d.output ∙ rw (q.1, q.2) (put-nil out₀)

    -- and so is the store, but for 11
    pub refusal_keeps_store : (told_no r.told ≡ 0 → ⊥) → (told_no r.told ≡ 11 → ⊥) → store₁ ≡ store₀
    refusal_keeps_store n e =
        let idle : is_acted_on (steps p g).told ≡ false =
        rw (ne_eqb (steps p g).told 0 (λ t. n (number_told ∙ t)), ne_eqb (steps p g).told 11 (λ t. e (number_told ∙ t))) in
        d.store ∙ rw (refusal_stores_none idle) (put-nil store₀)
