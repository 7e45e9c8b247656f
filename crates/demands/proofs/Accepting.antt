-- What is accepted: an MS that lies in a ready wish, and no other; what is answered and stored; and that Mode is reached in no third way.
-- Assumes nothing.
use Prim.Native.Nat.{ℕ, ◌≤◌}
use mathlib.Core.Bool.{Bool, true, false}
use mathlib.Core.List.{List, [], ◌∷◌}
use mathlib.Core.Logic.{◌⊎◌, inl, inr}
use mathlib.Core.Path.{◌≡◌, refl, sym, ap, ◌∙◌}
use lib.Dec.{eqb}
use lib.ListN.{length}
use Rattle.octets.specs.Places.{pick}
use Rattle.tree.specs.Fields.{is_in}
use Rattle.message.specs.Reader.{list_room, Reading, refused, accepted, read_message}
use Rattle.message.proofs.Accepted.{accepted_passed}
use Rattle.names.specs.Named.{named_code}
use Rattle.choice.specs.Wishes.{wishes_of}
use Rattle.choice.specs.Judging.{fits_some, fits_ready, verdict}
use Rattle.choice.proofs.Judged as judging
use Rattle.choice.proofs.Tabled.{tables_good}
use Rattle.choice.proofs.Truths.{never}
use Rattle.table.specs.declared.Phase.{Phase}
use Rattle.table.specs.declared.Phase.TheVariants.{Initial, Mode}
use Rattle.table.specs.declared.Heard.{Heard}
use Rattle.table.specs.declared.Heard.TheVariants as heard
use Rattle.table.specs.declared.Act.{Act}
use Rattle.table.specs.declared.Signal.TheVariants.{MrE, MrD, CrE, CrD}
use Rattle.table.specs.declared.Act.TheVariants.{NoRow, SendSignal, CounterMrD, Propose, SendCl, SendClr, PairClr, Take, Judge, Agree, GiveUp, SendNak1}
use Rattle.table.specs.declared.After.TheVariants.{ThenMs, ThenClMs, ThenCl, ThenHalf}
use Rattle.table.specs.Phases.{kind_of, wish_of, ack_of}
use Rattle.table.specs.Bound.{leads_to}
use Rattle.station.specs.Acting.{Outcome, quiet, sends, asks_ack, judges}
use Rattle.station.specs.Sorting.{Sort, known, strange, sort_of, field_heard}
use Rattle.table.specs.Phases.{is_mode}
use Rattle.table.specs.Inner.{is_message, needs_field}
use Rattle.station.specs.declared.Event.{Event}
use Rattle.station.specs.declared.Event.TheVariants as events
use Rattle.table.proofs.Needing.{needs_message}
use Rattle.station.proofs.Sendings.{ack_octet, nak_octet}
use Rattle.demands.specs.Given.{Given, steps, act_on, doing, Passes, standard_heard}
use Rattle.demands.specs.Sent.{far_says}
use Rattle.demands.specs.Proposals.{Judged, asked, unasked, unready, unfit, Reaches}
use Rattle.demands.proofs.Following.{verdict_on, follows, by_test, of_step, finds, act_leads}
use Rattle.demands.proofs.SentFields.{mode_is_stored}

-- ---- an MS is judged

-- a verdict is 0, 2 or 3
pub data Verdicts : ℕ → Type 0 where
  fits_ready_lem : Verdicts 0
  fits_unready : Verdicts 2
  fits_none : Verdicts 3

pub verdicts : (g : Given) → Verdicts (verdict_on g)
unfolding verdict
verdicts g = go (fits_ready (standard_heard g) (wishes_of g.wishes)) (fits_some (standard_heard g) (wishes_of g.wishes))
  where
    go : (a b : Bool) → Verdicts (pick a 0 (pick b 2 3))
    go true b = fits_ready_lem
    go false true = fits_unready
    go false false = fits_none

-- what is done with an MS of at most 64 octets is what the verdict says
pub mode_judged : (g : Given) → length g.field ≤ 64 → Judged g (judges (verdict_on g) g.field g.time)
unfolding asks_ack
mode_judged g few = go (verdicts g) refl
  where
    go : {v : ℕ} → Verdicts v → verdict_on g ≡ v → Judged g (judges v g.field g.time)
    go fits_ready_lem e =
        let f = judging.accepted (standard_heard g) (wishes_of g.wishes) e in
        let stored = mode_is_stored g.field few in
        by_test (far_says 4 g)
        (λ a. asked f.0 f.1 _ stored a (rw (a, ack_octet)))
        (λ a. unasked f.0 f.1 _ stored a (rw a))
    go fits_unready e = let f = judging.not_ready (standard_heard g) (wishes_of g.wishes) e in unready f.0 f.1 (rw (nak_octet 2))
    go fits_none e = unfit (judging.no_fit (standard_heard g) (wishes_of g.wishes) e) (rw (nak_octet 3))

-- only a message with fields that the reader accepted is heard as one, so it has at most 64 octets
abbrev as_message : Sort → Bool
as_message (known h) = is_message h
as_message strange = false

message_few : (event : Event) (m : List ℕ) → as_message (sort_of event m) ≡ true → length m ≤ 64
message_few (events.Start s) m e = never e
message_few (events.Signal s) m e = never e
message_few events.Field m e = go (read_message m list_room) refl e
  where
    spoilt : (t : Bool) → as_message (pick t strange (known heard.Spoilt)) ≡ true → length m ≤ 64
    spoilt true e = never e
    spoilt false e = never e

    go : (r : Reading) → read_message m list_room ≡ r → as_message (field_heard r m) ≡ true → length m ≤ 64
    go accepted r e = (accepted_passed m list_room r).few
    go (refused k) r e = spoilt (eqb k 3) e
message_few events.InvalidFrame m e = never e
message_few events.AnswerTone m e = never e
message_few events.Reset m e = never e

judged_few : (p : Phase) (g : Given) {h : Heard} → Passes p g h → act_on p g h ≡ Judge → length g.field ≤ 64
judged_few p g {h} s j =
    message_few g.event g.field (ap as_message s.heard ∙ needs_message (kind_of p) g.settings (ack_of p) h (ap needs_field j))

-- so is an MS that a step judges
pub judged : (p : Phase) (g : Given) {h : Heard} → Passes p g h → act_on p g h ≡ Judge → Judged g (steps p g)
judged p g {h} s j = let e : steps p g ≡ doing Judge p g = follows p g s ∙ rw j in rw e (mode_judged g (judged_few p g s j))

-- one with a parameter that is not named gets NAK(3)
pub unnamed_nak_3 : (p : Phase) (g : Given) {h : Heard} → Passes p g h → act_on p g h ≡ Judge → (x : ℕ) → is_in x (standard_heard g) ≡ true → named_code x ≡ false
    → steps p g ≡ sends (0x2a ∷ []) [] [] (Initial g.time)
unnamed_nak_3 p g s j x i n =
    let v = judging.unnamed_code x (standard_heard g) g.wishes (tables_good g.own g.wishes s.due.sound.tables).wishes i n in
    follows p g s ∙ rw (j, v, nak_octet 3)

-- ---- Mode is reached by a verdict or by agreement

-- no other act leads there
leads_mode : (a : Act) (found : Bool) (p : Phase) → is_mode (kind_of p) ≡ false → is_mode (leads_to a found (kind_of p)) ≡ true → (a ≡ Judge) ⊎ (a ≡ Agree)
leads_mode NoRow found p n e = never (sym n ∙ e)
leads_mode (SendSignal MrE) found p n e = never e
leads_mode (SendSignal MrD) found p n e = never e
leads_mode (SendSignal CrE) found p n e = never e
leads_mode (SendSignal CrD) found p n e = never e
leads_mode CounterMrD found p n e = never e
leads_mode Propose true p n e = never e
leads_mode Propose false p n e = never e
leads_mode SendCl found p n e = never e
leads_mode SendClr found p n e = never e
leads_mode PairClr found p n e = never e
leads_mode (Take ThenMs) true p n e = never e
leads_mode (Take ThenMs) false p n e = never e
leads_mode (Take ThenClMs) true p n e = never e
leads_mode (Take ThenClMs) false p n e = never e
leads_mode (Take ThenCl) found p n e = never e
leads_mode (Take ThenHalf) found p n e = never e
leads_mode Judge found p n e = inl refl
leads_mode Agree found p n e = inr refl
leads_mode GiveUp found p n e = never e
leads_mode SendNak1 found p n e = never e

pub mode_reached : (p : Phase) (g : Given) → is_mode (kind_of p) ≡ false → is_mode (kind_of (steps p g).next) ≡ true → Reaches p g
mode_reached p g n =
    of_step (λ (o : Outcome). is_mode (kind_of o.next) ≡ true → Reaches p g) p g
    (λ e. never e) (λ k h e. never (sym n ∙ e)) (λ e. never e)
    (λ h s e. record { heard = h; passes = s; acts = leads_mode (act_on p g h) (finds (act_on p g h) g) p n (ap is_mode (sym (act_leads (act_on p g h) p g)) ∙ e) })

-- what is agreed is the wish that was proposed
pub agreed_wish : (p : Phase) (g : Given) {h : Heard} → Passes p g h → act_on p g h ≡ Agree → steps p g ≡ quiet 0 (Mode g.time (wish_of p) (ack_of p))
agreed_wish p g s e = follows p g s ∙ rw e
