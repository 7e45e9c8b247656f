-- The station's table by its cells: each line of `Cells` from the definition of a step.
-- Assumes nothing.
use Prim.Native.Nat.{ℕ, ◌≤◌}
use mathlib.Core.Bool.{Bool, true, false}
use mathlib.Core.List.{List, [], ◌∷◌}
use mathlib.Core.Path.{◌≡◌, refl, sym, ap, ◌∙◌}
use native.Mathlib.Omega.{arith}
use borrow.Author.Tests.{ne_eqb}
use lib.ListN.{length}
use Rattle.message.proofs.Accepted.{accepted_passed}
use Rattle.choice.specs.Choosing.{unheard}
use Rattle.choice.proofs.Truths.{never}
use Rattle.table.specs.declared.Phase.{Phase}
use Rattle.table.specs.declared.Phase.TheVariants.{Initial, AskedE, Listed, Traded, Pair, Half, Proposed, Mode}
use Rattle.table.specs.declared.Kind.{Kind}
use Rattle.table.specs.declared.Kind.TheVariants.{AtInitial, AtAskedE, AtAskedD, AtListsE, AtListsD, AtCounter, AtListed, AtTraded, AtPair, AtHalf, AtProposed}
use Rattle.table.specs.declared.Heard.{Heard}
use Rattle.table.specs.declared.Heard.TheVariants as came
use Rattle.table.specs.declared.Signal.TheVariants.{MrD}
use Rattle.table.specs.declared.Act.{Act}
use Rattle.table.specs.declared.Act.TheVariants.{NoRow, Propose, SendCl, SendClr, PairClr, Take, Judge, GiveUp}
use Rattle.table.specs.declared.After.TheVariants.{ThenMs, ThenClMs, ThenCl, ThenHalf}
use Rattle.table.specs.declared.Settings.{Settings}
use Rattle.table.specs.Phases.{kind_of, ack_of}
use Rattle.table.specs.Rows.{act_of}
use Rattle.table.specs.Phases.{is_among}
use Rattle.table.proofs.Lines.{each, within, start_only_in_initial, mr_e_answered, cr_e_answered, cr_d_answered, ms_judged, ack1_agrees, ack2_never}
use Rattle.station.specs.Sending.{sent_list}
use Rattle.station.specs.Sorting.{known, sort_of, type_heard}
use Rattle.station.specs.Acting.{quiet, sends, far_list, stored_list}
use Rattle.table.specs.Phases.{is_mode}
use Rattle.station.specs.declared.Event.{Event}
use Rattle.demands.specs.Given.{Given, steps, InOctets, Passes, act_on, doing}
use Rattle.demands.specs.Sent.{IsField, list_named}
use Rattle.demands.specs.Proposals.{SendsMs, Judged}
use Rattle.demands.specs.Cells.{Comes, ComesMessage, NoneOf, SendsCl, SendsClr, Stores, MsOnList, ClMsOnList, ClOnList, Cells}
use Rattle.demands.proofs.Following.{far_heard, reset_first, refuses_9, refuses_10_mode, follows}
use Rattle.demands.proofs.SentFields.{list_is_stored}
use Rattle.demands.proofs.Proposing.{cl_is_sent, clr_is_sent, ms_goes, cl_ms_go}
use Rattle.demands.proofs.Accepting.{mode_judged}
use Rattle.demands.proofs.StepLines.{spoilt_nak}

-- ---- what comes is what the table hears

-- an event that is no field
comes : {p : Phase} {g : Given} {event : Event} {h : Heard} → Comes event p g → sort_of event g.field ≡ known h → Passes p g h
comes {p} {g} c e = record { due = c.0; heard = ap (λ (event : Event). sort_of event g.field) c.1 ∙ e }

-- a message of a type
pub hears : {p : Phase} {g : Given} (kind : ℕ) → ComesMessage kind p g → Passes p g (type_heard kind)
hears {p} {g} kind c =
    record { due = c.0; heard = rw (c.1.event, c.1.reads, c.1.type) }

-- a NAK is of type 8 to 11
nak_heard : (kind : ℕ) → 8 ≤ kind → type_heard kind ≡ came.Nak
nak_heard kind h =
    rw (ne_eqb kind 1 (λ e. omega arith), ne_eqb kind 2 (λ e. omega arith), ne_eqb kind 3 (λ e. omega arith), ne_eqb kind 4 (λ e. omega arith), ne_eqb kind 5 (λ e. omega arith))

module _ {p : Phase} {g : Given} where
  -- what the table does with it
  acts : {h : Heard} → Passes p g h → (a : Act) → act_on p g h ≡ a → steps p g ≡ doing a p g
  acts s a e = follows p g s ∙ rw e

  -- it is in no row where its column has none
  elsewhere : {h : Heard} (kinds : List Kind) (x : Act) → Passes p g h → act_on p g h ≡ within kinds x NoRow (kind_of p) → NoneOf kinds p → steps p g ≡ quiet 10 p
  elsewhere kinds x s e n = follows p g s ∙ rw (e, n)

-- ---- what each kind of cell does

-- a message that is heard has at most 64 octets; an MS is judged
module _ (g : Given) {p : Phase} {kind : ℕ} (c : ComesMessage kind p g) where
  few : length g.field ≤ 64
  few = (accepted_passed g.field 448 c.1.reads).few

  pub judged_at : act_on p g (type_heard kind) ≡ Judge → Judged g (steps p g)
  judged_at e = rw (acts (hears kind c) Judge e) (mode_judged g few)

module _ (g : Given) (octets : InOctets g) {p : Phase} where
  -- an MS is sent
  ms_at : {h : Heard} → Passes p g h → act_on p g h ≡ Propose → SendsMs unheard [] g (steps p g)
  ms_at s e = rw (acts s Propose e) (ms_goes g s.due.sound octets unheard [])

  -- a CL, and a CLR that leads to Traded or to Pair
  cl_at : {h : Heard} → Passes p g h → act_on p g h ≡ SendCl → SendsCl [] (Listed g.time) g (steps p g)
  cl_at s e = (sent_list 2 g.settings g.own, cl_is_sent g s.due.sound octets, acts s SendCl e)

  traded_at : {h : Heard} → Passes p g h → act_on p g h ≡ SendClr → SendsClr (Traded g.time) g (steps p g)
  traded_at s e = (sent_list 3 g.settings g.own, clr_is_sent g s.due.sound octets, acts s SendClr e)

  pair_at : {h : Heard} → Passes p g h → act_on p g h ≡ PairClr → SendsClr (Pair g.time) g (steps p g)
  pair_at s e = (sent_list 3 g.settings g.own, clr_is_sent g s.due.sound octets, acts s PairClr e)

  -- a list is stored, and then comes an MS, a CL and an MS, a CL, or nothing
  module _ {kind : ℕ} (c : ComesMessage kind p g) where
    list_stored : IsField (list_named g) (stored_list g.field)
    list_stored = list_is_stored g.field (few g c)

    ms_on_list : act_on p g (type_heard kind) ≡ Take ThenMs → MsOnList g (steps p g)
    unfolding far_list
    ms_on_list e = (stored_list g.field, list_stored, rw (acts (hears kind c) (Take ThenMs) e) (ms_goes g c.0.sound octets (far_heard g) (stored_list g.field)))

    cl_ms_on_list : act_on p g (type_heard kind) ≡ Take ThenClMs → ClMsOnList g (steps p g)
    unfolding far_list
    cl_ms_on_list e = (stored_list g.field, list_stored, rw (acts (hears kind c) (Take ThenClMs) e) (cl_ms_go g c.0.sound octets (far_heard g) (stored_list g.field)))

    cl_on_list : act_on p g (type_heard kind) ≡ Take ThenCl → ClOnList (Listed g.time) g (steps p g)
    cl_on_list e = (stored_list g.field, list_stored, (sent_list 2 g.settings g.own, cl_is_sent g c.0.sound octets, acts (hears kind c) (Take ThenCl) e))

    half_on_list : act_on p g (type_heard kind) ≡ Take ThenHalf → Stores g (λ stored. steps p g ≡ sends [] [] stored (Half g.time))
    half_on_list e = (stored_list g.field, list_stored, acts (hears kind c) (Take ThenHalf) e)

-- a tone is acted on in Proposed alone, asked or not
tone_elsewhere : (p : Phase) (g : Given) → act_on p g came.AnswerTone ≡ within (AtProposed ∷ []) (act_on p g came.AnswerTone) NoRow (kind_of p)
tone_elsewhere p g = go (ack_of p) (kind_of p)
  where
    go : (a : Bool) (k : Kind) → act_of k g.settings a came.AnswerTone ≡ within (AtProposed ∷ []) (act_of k g.settings a came.AnswerTone) NoRow k
    go a = each (λ (k : Kind). act_of k g.settings a came.AnswerTone ≡ within (AtProposed ∷ []) (act_of k g.settings a came.AnswerTone) NoRow k) refl refl refl refl refl refl refl refl refl refl refl refl

-- MR_d, CL and CLR do two things in different phases, and nothing in the others
module _ (set : Settings) (asked : Bool) where
  mr_d_none : (k : Kind) → is_among k (AtInitial ∷ AtAskedE ∷ []) ≡ false → act_of k set asked (came.Signal MrD) ≡ NoRow
  mr_d_none =
      each (λ (k : Kind). is_among k (AtInitial ∷ AtAskedE ∷ []) ≡ false → act_of k set asked (came.Signal MrD) ≡ NoRow)
      (λ e. never (sym e)) (λ e. never (sym e)) (λ e. refl) (λ e. refl) (λ e. refl) (λ e. refl) (λ e. refl) (λ e. refl) (λ e. refl) (λ e. refl) (λ e. refl) (λ e. refl)

  cl_none : (k : Kind) → is_among k (AtInitial ∷ AtListsE ∷ AtListsD ∷ AtTraded ∷ AtPair ∷ []) ≡ false → act_of k set asked came.Cl ≡ NoRow
  cl_none =
      each (λ (k : Kind). is_among k (AtInitial ∷ AtListsE ∷ AtListsD ∷ AtTraded ∷ AtPair ∷ []) ≡ false → act_of k set asked came.Cl ≡ NoRow)
      (λ e. never (sym e)) (λ e. refl) (λ e. refl) (λ e. never (sym e)) (λ e. never (sym e)) (λ e. refl) (λ e. refl) (λ e. never (sym e)) (λ e. never (sym e)) (λ e. refl) (λ e. refl) (λ e. refl)

  clr_none : (k : Kind) → is_among k (AtInitial ∷ AtListsE ∷ AtListsD ∷ []) ≡ false → act_of k set asked came.Clr ≡ NoRow
  clr_none =
      each (λ (k : Kind). is_among k (AtInitial ∷ AtListsE ∷ AtListsD ∷ []) ≡ false → act_of k set asked came.Clr ≡ NoRow)
      (λ e. never (sym e)) (λ e. refl) (λ e. refl) (λ e. never (sym e)) (λ e. never (sym e)) (λ e. refl) (λ e. refl) (λ e. refl) (λ e. refl) (λ e. refl) (λ e. refl) (λ e. refl)

  -- a NAK gives up in every phase but Initial and Mode
  nak_some : (k : Kind) → is_among k (AtInitial ∷ []) ≡ false → is_mode k ≡ false → act_of k set asked came.Nak ≡ GiveUp
  nak_some =
      each (λ (k : Kind). is_among k (AtInitial ∷ []) ≡ false → is_mode k ≡ false → act_of k set asked came.Nak ≡ GiveUp)
      (λ e m. never (sym e)) (λ e m. refl) (λ e m. refl) (λ e m. refl) (λ e m. refl) (λ e m. refl) (λ e m. refl) (λ e m. refl) (λ e m. refl) (λ e m. refl) (λ e m. refl) (λ e m. never (sym m))

module _ (g : Given) (octets : InOctets g) where
  pub cells : Cells g
  cells =
      record {
        start_mr_e = λ t c. follows (Initial t) g (comes c refl);
        start_mr_d = λ t c. follows (Initial t) g (comes c refl);
        start_cr_e = λ t c. follows (Initial t) g (comes c refl);
        start_cr_d = λ t c. follows (Initial t) g (comes c refl);
        start_ms = λ t c. ms_at g octets (comes c refl) refl;
        start_cl = λ t c. cl_at g octets (comes c refl) refl;
        start_clr = λ t c. traded_at g octets (comes c refl) refl;
        initial_mr_d = λ t c. ms_at g octets (comes c refl) refl;
        initial_mr_e_ms = λ t c e. ms_at g octets (comes c refl) (rw e);
        initial_mr_e_mr_d = λ t c e. follows (Initial t) g (comes c refl) ∙ rw e;
        initial_mr_e_cr_d = λ t c e. follows (Initial t) g (comes c refl) ∙ rw e;
        initial_cr_d_cl = λ t c e. cl_at g octets (comes c refl) (rw e);
        initial_cr_d_clr = λ t c e. pair_at g octets (comes c refl) (rw e);
        initial_cr_e_cl = λ t c e f. cl_at g octets (comes c refl) (rw (e, f));
        initial_cr_e_clr = λ t c e f. pair_at g octets (comes c refl) (rw (e, f));
        initial_cr_e_cr_d = λ t c e. follows (Initial t) g (comes c refl) ∙ rw e;
        initial_ms = λ t c. judged_at g c refl;
        initial_cl = λ t c. ms_on_list g octets c refl;
        initial_clr = λ t c. cl_on_list g octets c refl;
        asked_e_ms = λ t c. judged_at g c refl;
        asked_e_mr_d_ms = λ t c e. ms_at g octets (comes c refl) (rw e);
        asked_e_mr_d_cr_d = λ t c e. follows (AskedE t) g (comes c refl) ∙ rw e;
        asked_e_cr_d_cl = λ t c e. cl_at g octets (comes c refl) (rw e);
        asked_e_cr_d_clr = λ t c e. pair_at g octets (comes c refl) (rw e);
        asked_d_ms = λ t c. judged_at g c refl;
        listed_ms = λ t c. judged_at g c refl;
        lists_e_cl = λ t c. ms_on_list g octets c refl;
        lists_e_clr = λ t c. cl_ms_on_list g octets c refl;
        lists_e_cr_d_cl = λ t c e. cl_at g octets (comes c refl) (rw e);
        lists_e_cr_d_clr = λ t c e. pair_at g octets (comes c refl) (rw e);
        lists_d_cl = λ t c. ms_on_list g octets c refl;
        lists_d_clr = λ t c. cl_ms_on_list g octets c refl;
        counter_ms = λ t c. judged_at g c refl;
        counter_cr_d_cl = λ t c e. cl_at g octets (comes c refl) (rw e);
        counter_cr_d_clr = λ t c e. pair_at g octets (comes c refl) (rw e);
        traded_cl = λ t c. ms_on_list g octets c refl;
        pair_cl = λ t c. half_on_list g octets c refl;
        half_ms = λ t c. judged_at g c refl;
        proposed_ack = λ t w a c. follows (Proposed t w a) g (hears 4 c);
        proposed_tone = λ t w c. follows (Proposed t w false) g (comes c refl);
        mode_deaf = λ t w a s h. refuses_10_mode (Mode t w a) g s h refl;
        reset = λ p e. reset_first p g (rw e);
        nak = λ p kind lo hi c n. follows p g (hears kind c) ∙ rw (nak_heard kind lo, nak_some g.settings (ack_of p) (kind_of p) n c.0.awake);
        spoilt = λ p d s. spoilt_nak p g d s;
        unknown = λ p c r. refuses_9 p g c.0 (rw (c.1, r));
        start_elsewhere = λ p s c n. elsewhere (AtInitial ∷ []) _ (comes c refl) (start_only_in_initial g.settings (ack_of p) s (kind_of p)) n;
        mr_e_elsewhere = λ p c n. elsewhere (AtInitial ∷ []) _ (comes c refl) (mr_e_answered g.settings (ack_of p) (kind_of p)) n;
        mr_d_elsewhere = λ p c n. follows p g (comes c refl) ∙ rw (mr_d_none g.settings (ack_of p) (kind_of p) n);
        cr_e_elsewhere = λ p c n. elsewhere (AtInitial ∷ []) _ (comes c refl) (cr_e_answered g.settings (ack_of p) (kind_of p)) n;
        cr_d_elsewhere = λ p c n. elsewhere (AtInitial ∷ AtAskedE ∷ AtListsE ∷ AtCounter ∷ []) _ (comes c refl) (cr_d_answered g.settings (ack_of p) (kind_of p)) n;
        ms_elsewhere = λ p c n. elsewhere (AtInitial ∷ AtAskedE ∷ AtAskedD ∷ AtCounter ∷ AtListed ∷ AtHalf ∷ []) _ (hears 1 c) (ms_judged g.settings (ack_of p) (kind_of p)) n;
        cl_elsewhere = λ p c n. follows p g (hears 2 c) ∙ rw (cl_none g.settings (ack_of p) (kind_of p) n);
        clr_elsewhere = λ p c n. follows p g (hears 3 c) ∙ rw (clr_none g.settings (ack_of p) (kind_of p) n);
        ack_1_elsewhere = λ p c n. elsewhere (AtProposed ∷ []) _ (hears 4 c) (ack1_agrees g.settings (ack_of p) (kind_of p)) n;
        ack_2 = λ p c. follows p g (hears 5 c) ∙ rw (ack2_never g.settings (ack_of p) (kind_of p));
        nak_initial = λ t kind lo hi c. follows (Initial t) g (hears kind c) ∙ rw (nak_heard kind lo);
        tone_elsewhere = λ p c n. elsewhere (AtProposed ∷ []) _ (comes c refl) (tone_elsewhere p g) n;
        tone_though_asked = λ t w c. follows (Proposed t w true) g (comes c refl);
      }
