-- What a step proposes: the first wish that is ready, among the common ones where a list was heard; 11 where there is none; and what its
-- MS says.
-- Assumes nothing.
use Prim.Native.Nat.{ℕ, zero, suc}
use mathlib.Core.Bool.{Bool, true, false, not}
use mathlib.Core.List.{List, [], ◌∷◌, ◌++◌}
use mathlib.Core.Logic.{◌⊎◌, inl, inr, ⊎_elim, ◌↔◌}
use mathlib.Core.Path.{◌≡◌, refl, sym, ap, ◌∙◌}
use native.Mathlib.Omega.{arith}
use Rattle.std.proofs.lemmas.Bool.{not-true, not_from_false}
use Rattle.tree.specs.Codes.{code_of}
use Rattle.tree.specs.Fields.{is_in, all_in}
use Rattle.message.specs.Reader.{message_codes}
use Rattle.octets.specs.Places.{both}
use Rattle.good.specs.Good.{good_field}
use Rattle.choice.specs.Wishes.{Wish, standard_codes, wish_codes}
use Rattle.choice.specs.Choosing.{Far, unheard, heard, Choosing, chosen, refused, First}
use Rattle.choice.specs.declared.Pick.{Pick}
use Rattle.choice.proofs.Chosen.{chosen_first, first_member, no_choice}
use Rattle.choice.proofs.Tabled.{tables_good}
use Rattle.choice.proofs.Truths.{never, both_false}
use Rattle.octets.proofs.Laws.{both_true}
use Rattle.table.specs.declared.Phase.{Phase}
use Rattle.table.specs.declared.Phase.TheVariants.{Initial}
use Rattle.table.specs.declared.Kind.{Kind}
use Rattle.table.specs.declared.Kind.TheVariants.{AtProposed}
use Rattle.table.specs.declared.Act.{Act}
use Rattle.table.specs.declared.Signal.TheVariants.{MrE, MrD, CrE, CrD}
use Rattle.table.specs.declared.Act.TheVariants.{NoRow, SendSignal, CounterMrD, Propose, SendCl, SendClr, PairClr, Take, Judge, Agree, GiveUp, SendNak1}
use Rattle.table.specs.declared.After.TheVariants.{ThenMs, ThenClMs, ThenCl, ThenHalf}
use Rattle.table.specs.declared.Settings.{Settings}
use Rattle.table.specs.Phases.{kind_of}
use Rattle.table.specs.Phases.{is_among}
use Rattle.station.specs.Sending.{sent_list, no_offer, mode_offer, sent_mode}
use Rattle.station.specs.Acting.{Outcome, quiet, far_list, far_offer, stored_list, proposes, proposes_behind, judges}
use Rattle.station.specs.declared.FarOffer.{FarOffer}
use Rattle.demands.specs.Given.{Given, steps, InOctets, Sound, act_on, doing, is_acted_on}
use Rattle.demands.specs.Sent.{says, IsSent, IsCl, IsClr, IsMs, far_says, both_short, both_eight, list_named}
use Rattle.demands.specs.Proposals.{Proposal, proposed_by, NoneSuits, SendsMs, ms_first, ms_none, SendsClMs, cl_ms_first, cl_ms_none, SendsMode, Proposing, at_once, on_list, behind_list, Proposes}
use Rattle.demands.proofs.Following.{choice_by, verdict_on, far_heard, Settled, one, eleven, settled, follows, kept_idle, of_step}
use Rattle.demands.proofs.SentFields.{all_offers, list_is_sent, mode_is_sent, standard_high}

-- ---- what is proposed

-- with no far list an MS says neither V.8 nor Short V.8
offers_none : (set : Settings) → ((mode_offer set no_offer).v8 ≡ false) × ((mode_offer set no_offer).short_v8 ≡ false)
offers_none set = (rw (both_false set.v8) (both_false (not (both set.short_v8 false))), both_false set.short_v8)

-- what the far side offers, as its list says it
abbrev offer_by : Far → Given → FarOffer
offer_by unheard g = no_offer
offer_by (heard list) g = far_offer g.field

module _ (g : Given) (tables : Sound g) (octets : InOctets g) where
  -- the own table and each wish are good
  wish_good : {far : Far} {p : Pick} (f : First (standard_codes g.own) far g.wishes p) → good_field f.wish.field ≡ true
  wish_good f = (tables_good g.own g.wishes tables.tables).field f.wish (first_member f)

  own_good : good_field g.own ≡ true
  own_good = (tables_good g.own g.wishes tables.tables).table

  pub cl_is_sent : IsCl g (sent_list 2 g.settings g.own)
  cl_is_sent = list_is_sent 2 g.settings g.own (omega arith) (omega arith) octets.own own_good

  pub clr_is_sent : IsClr g (sent_list 3 g.settings g.own)
  clr_is_sent = list_is_sent 3 g.settings g.own (omega arith) (omega arith) octets.own own_good

  -- the MS of a wish that was chosen
  ms_is_sent : (far : Far) {p : Pick} (f : First (standard_codes g.own) far g.wishes p) → IsMs far g f.wish (sent_mode g.settings (offer_by far g) g.wishes p)
  unfolding far_offer
  ms_is_sent unheard {p} f =
      rw ((offers_none g.settings).0, (offers_none g.settings).1) at
      (mode_is_sent (standard_codes g.own) unheard g.settings no_offer g.wishes p f octets.wishes (wish_good f))
  ms_is_sent (heard list) {p} f = mode_is_sent (standard_codes g.own) (heard list) g.settings (far_offer g.field) g.wishes p f octets.wishes (wish_good f)

  abbrev proposal : (far : Far) (p : Pick) → choice_by far g ≡ chosen p → Proposal far g
  proposal far p e =
      let f = chosen_first (standard_codes g.own) far g.wishes p e in
      record { pick = p; chosen = f; ms = sent_mode g.settings (offer_by far g) g.wishes p; sent = ms_is_sent far f }

  -- so a choice that is sent as MS, alone or behind a CL, is the first wish that suits; where there is none, none does
  module _ (far : Far) (stored : List ℕ) where
    pub ms_goes : SendsMs far stored g (proposes (choice_by far g) g.settings (offer_by far g) g.wishes stored g.time)
    ms_goes = go (settled far g) refl
      where
        go : {c : Choosing} → Settled c → choice_by far g ≡ c → SendsMs far stored g (proposes c g.settings (offer_by far g) g.wishes stored g.time)
        go (one p) e = ms_first (proposal far p e) refl
        go eleven e = ms_none ((no_choice (standard_codes g.own) far g.wishes).0 e) refl

    pub cl_ms_go : SendsClMs far stored g (proposes_behind (sent_list 2 g.settings g.own) (choice_by far g) g.settings (offer_by far g) g.wishes stored g.time)
    cl_ms_go = go (settled far g) refl
      where
        go : {c : Choosing} → Settled c → choice_by far g ≡ c
            → SendsClMs far stored g (proposes_behind (sent_list 2 g.settings g.own) c g.settings (offer_by far g) g.wishes stored g.time)
        go (one p) e = cl_ms_first (proposal far p e) (sent_list 2 g.settings g.own) cl_is_sent refl
        go eleven e = cl_ms_none ((no_choice (standard_codes g.own) far g.wishes).0 e) refl

-- ---- what a choice tells

abbrev told_by : Choosing → ℕ
told_by (chosen p) = 0
told_by (refused n) = n

module _ (far : Far) (g : Given) where
  -- success or 11
  told_two : (told_by (choice_by far g) ≡ 0) ⊎ (told_by (choice_by far g) ≡ 11)
  told_two = go (settled far g)
    where
      go : {c : Choosing} → Settled c → (told_by c ≡ 0) ⊎ (told_by c ≡ 11)
      go (one p) = inl refl
      go eleven = inr refl

  -- 11 exactly where no wish suits
  told_none : (told_by (choice_by far g) ≡ 11) ↔ NoneSuits far g
  told_none = (go (settled far g) refl, λ n. ap told_by ((no_choice (standard_codes g.own) far g.wishes).1 n))
    where
      go : {c : Choosing} → Settled c → choice_by far g ≡ c → told_by c ≡ 11 → NoneSuits far g
      go (one p) e t = absurd (omega arith)
      go eleven e t = (no_choice (standard_codes g.own) far g.wishes).0 e

alone_told : (c : Choosing) (set : Settings) (far : FarOffer) (run stored : List ℕ) (time : ℕ) → (proposes c set far run stored time).told ≡ told_by c
alone_told (chosen p) set far run stored time = refl
alone_told (refused n) set far run stored time = refl

behind_told : (list : List ℕ) (c : Choosing) (set : Settings) (far : FarOffer) (run stored : List ℕ) (time : ℕ) → (proposes_behind list c set far run stored time).told ≡ told_by c
behind_told list (chosen p) set far run stored time = refl
behind_told list (refused n) set far run stored time = refl

-- ---- the acts that propose

module _ (p : Phase) (g : Given) where
  act_told : {a : Act} {far : Far} → Proposing g a far → (doing a p g).told ≡ told_by (choice_by far g)
  unfolding far_list
  act_told at_once = alone_told (choice_by unheard g) g.settings no_offer g.wishes [] g.time
  act_told on_list = alone_told (choice_by (far_heard g) g) g.settings (far_offer g.field) g.wishes (stored_list g.field) g.time
  act_told behind_list = behind_told (sent_list 2 g.settings g.own) (choice_by (far_heard g) g) g.settings (far_offer g.field) g.wishes (stored_list g.field) g.time

-- the wish, how its MS stands, and the next phase
abbrev pub ProposedFirst : Far → Given → Outcome → Type 0
ProposedFirst far g o = (y : Proposal far g) × SendsMode g y.ms o × (o.next ≡ proposed_by y)

module _ {far : Far} {stored : List ℕ} {g : Given} {o : Outcome} (t : o.told ≡ 0) where
  of_ms : SendsMs far stored g o → ProposedFirst far g o
  of_ms (ms_first x e) = (x, inl (ap (λ (o : Outcome). o.first) e, ap (λ (o : Outcome). o.second) e), ap (λ (o : Outcome). o.next) e)
  of_ms (ms_none n e) = absurd (omega (arith, ap (λ (o : Outcome). o.told) e))

  of_cl_ms : SendsClMs far stored g o → ProposedFirst far g o
  of_cl_ms (cl_ms_first x cl c e) = (x, inr (rw (ap (λ (o : Outcome). o.first) e) c, ap (λ (o : Outcome). o.second) e), ap (λ (o : Outcome). o.next) e)
  of_cl_ms (cl_ms_none n e) = absurd (omega (arith, ap (λ (o : Outcome). o.told) e))

module _ (p : Phase) (g : Given) (s : Sound g) (octets : InOctets g) where
  act_first : {a : Act} {far : Far} → Proposing g a far → (doing a p g).told ≡ 0 → ProposedFirst far g (doing a p g)
  unfolding far_list
  act_first at_once t = of_ms t (ms_goes g s octets unheard [])
  act_first on_list t = of_ms t (ms_goes g s octets (far_heard g) (stored_list g.field))
  act_first behind_list t = of_cl_ms t (cl_ms_go g s octets (far_heard g) (stored_list g.field))

-- ---- over steps

module _ (p : Phase) (g : Given) (x : Proposes p g) where
  step_told_lem : (steps p g).told ≡ told_by (choice_by x.far g)
  step_told_lem = ap (λ (o : Outcome). o.told) (follows p g x.passes) ∙ act_told p g x.acts

  -- success and 11 are the only answers
  pub two_answers : ((steps p g).told ≡ 0) ⊎ ((steps p g).told ≡ 11)
  two_answers = rw step_told_lem (told_two x.far g)

  -- 11 exactly where no wish suits
  pub none_suits : ((steps p g).told ≡ 11) ↔ NoneSuits x.far g
  none_suits = rw step_told_lem (told_none x.far g)

  -- with success the first ready wish is proposed, among the common ones where a list was heard
  pub proposed_first : InOctets g → (steps p g).told ≡ 0 → ProposedFirst x.far g (steps p g)
  proposed_first octets t =
      rw (follows p g x.passes) (act_first p g x.passes.due.sound octets x.acts (rw (follows p g x.passes) at t))

-- ---- no other step proposes

-- it is not told 11, and is not a success that leads to Proposed
record Other (o : Outcome) : Type 0 where
  eleven : o.told ≡ 11 → ⊥
  proposed : o.told ≡ 0 → kind_of o.next ≡ AtProposed → ⊥

abbrev proposed : Kind → Bool
proposed k = is_among k (AtProposed ∷ [])

other : (o : Outcome) → o.told ≡ 0 → proposed (kind_of o.next) ≡ false → Other o
other o t k = record { eleven = λ e. omega (arith, t, e); proposed = λ d e. never (sym k ∙ ap proposed e) }

idle_other : (o : Outcome) → is_acted_on o.told ≡ false → Other o
idle_other o t = record { eleven = λ e. never (sym t ∙ ap is_acted_on e); proposed = λ d e. never (sym t ∙ ap is_acted_on d) }

other_verdict : (v : ℕ) (m : List ℕ) (time : ℕ) → Other (judges v m time)
other_verdict zero m time = other (judges zero m time) refl refl
other_verdict (suc k) m time = other (judges (suc k) m time) refl refl

-- an act that proposes
record Found (g : Given) (a : Act) : Type 0 where
  far : Far
  acts : Proposing g a far

-- every act proposes or is another
act_cases : (p : Phase) (g : Given) (a : Act) → Found g a ⊎ Other (doing a p g)
act_cases p g NoRow = inr (idle_other (doing NoRow p g) refl)
act_cases p g (SendSignal MrE) = inr (other (doing (SendSignal MrE) p g) refl refl)
act_cases p g (SendSignal MrD) = inr (other (doing (SendSignal MrD) p g) refl refl)
act_cases p g (SendSignal CrE) = inr (other (doing (SendSignal CrE) p g) refl refl)
act_cases p g (SendSignal CrD) = inr (other (doing (SendSignal CrD) p g) refl refl)
act_cases p g CounterMrD = inr (other (doing CounterMrD p g) refl refl)
act_cases p g Propose = inl (record { far = unheard; acts = at_once })
act_cases p g SendCl = inr (other (doing SendCl p g) refl refl)
act_cases p g SendClr = inr (other (doing SendClr p g) refl refl)
act_cases p g PairClr = inr (other (doing PairClr p g) refl refl)
act_cases p g (Take ThenMs) = inl (record { far = heard (list_named g); acts = on_list })
act_cases p g (Take ThenClMs) = inl (record { far = heard (list_named g); acts = behind_list })
act_cases p g (Take ThenCl) = inr (other (doing (Take ThenCl) p g) refl refl)
act_cases p g (Take ThenHalf) = inr (other (doing (Take ThenHalf) p g) refl refl)
act_cases p g Judge = inr (other_verdict (verdict_on g) g.field g.time)
act_cases p g Agree = inr (other (doing Agree p g) refl refl)
act_cases p g GiveUp = inr (other (doing GiveUp p g) refl refl)
act_cases p g SendNak1 = inr (other (doing SendNak1 p g) refl refl)

module _ (p : Phase) (g : Given) where
  -- and so does every step
  step_cases : Proposes p g ⊎ Other (steps p g)
  step_cases =
      of_step (λ (o : Outcome). Proposes p g ⊎ Other o) p g
      (inr (other (quiet 0 (Initial g.time)) refl refl))
      (λ n k. inr (idle_other (quiet n p) (kept_idle n k)))
      (inr (idle_other (quiet 6 (Initial g.time)) refl))
      (λ h s. ⊎_elim (λ f. inl (record { heard = h; far = f.far; passes = s; acts = f.acts })) (λ o. inr o) (act_cases p g (act_on p g h)))

  -- only such a step is told 11
  pub eleven_proposes : (steps p g).told ≡ 11 → Proposes p g
  eleven_proposes t = ⊎_elim (λ x. x) (λ o. absurd (o.eleven t)) step_cases

  -- and only such a step leads to Proposed
  pub proposed_proposes : (steps p g).told ≡ 0 → kind_of (steps p g).next ≡ AtProposed → Proposes p g
  proposed_proposes t e = ⊎_elim (λ x. x) (λ o. absurd (o.proposed t e)) step_cases

-- ---- the wish that is proposed

-- it lies in the own table
pub proposed_own : (far : Far) (g : Given) → Sound g → (x : Proposal far g) → all_in (wish_codes x.chosen.wish) (standard_codes g.own) ≡ true
proposed_own far g s x = (tables_good g.own g.wishes s.tables).inside x.chosen.wish (first_member x.chosen)

-- and, where a list was heard, in that list
pub proposed_common : (list : List ℕ) (g : Given) (x : Proposal (heard list) g) → all_in (wish_codes x.chosen.wish) list ≡ true
proposed_common list g x =
    let codes = wish_codes x.chosen.wish in
    (both_true (all_in codes (standard_codes g.own)) (all_in codes list) (both_true x.chosen.wish.ready _ x.chosen.suited).1).1

-- ---- what the MS says

-- V.8 and Short V.8 are said exactly where the message has their codes, whatever standard codes stand behind
module _ (standard : List ℕ) where
  eight_said : is_in (code_of 1 0 0 1) standard ≡ false → (eight short ack : Bool) → is_in (code_of 1 0 0 1) (says 1 eight ++ (says 2 short ++ (says 4 ack ++ standard))) ≡ eight
  unfolding is_in
  eight_said h =
      all_offers (λ (eight short ack : Bool). is_in (code_of 1 0 0 1) (says 1 eight ++ (says 2 short ++ (says 4 ack ++ standard))) ≡ eight)
      refl refl refl refl h h h h

  short_said : is_in (code_of 1 0 0 2) standard ≡ false → (eight short ack : Bool) → is_in (code_of 1 0 0 2) (says 1 eight ++ (says 2 short ++ (says 4 ack ++ standard))) ≡ short
  unfolding is_in
  short_said h =
      all_offers (λ (eight short ack : Bool). is_in (code_of 1 0 0 2) (says 1 eight ++ (says 2 short ++ (says 4 ack ++ standard))) ≡ short)
      refl refl h h refl refl h h

module _ {eight short ack : Bool} (w : Wish) {ms : List ℕ} (x : IsSent 1 eight short ack (wish_codes w) ms) where
  eight_in : is_in (code_of 1 0 0 1) (message_codes ms) ≡ eight
  eight_in = ap (is_in (code_of 1 0 0 1)) x.read.3 ∙ eight_said (wish_codes w) (standard_high (code_of 1 0 0 1) w.field (omega arith)) eight short ack

  short_in : is_in (code_of 1 0 0 2) (message_codes ms) ≡ short
  short_in = ap (is_in (code_of 1 0 0 2)) x.read.3 ∙ short_said (wish_codes w) (standard_high (code_of 1 0 0 2) w.field (omega arith)) eight short ack

both_hold : (a b : Bool) → (both a b ≡ true) ↔ ((a ≡ true) × (b ≡ true))
both_hold a b = (both_true a b, λ h. rw h.0 h.1)

module _ (list : List ℕ) (g : Given) (w : Wish) (ms : List ℕ) (x : IsMs (heard list) g w ms) where
  -- after a far list Short V.8 is said exactly if both sides offer it
  pub short_if_both : (is_in (code_of 1 0 0 2) (message_codes ms) ≡ true) ↔ ((g.settings.short_v8 ≡ true) × (far_says 2 g ≡ true))
  short_if_both = rw (short_in w x) (both_hold g.settings.short_v8 (far_says 2 g))

  -- and V.8 exactly if both do, and not both Short V.8
  pub eight_if_both : (is_in (code_of 1 0 0 1) (message_codes ms) ≡ true) ↔ ((g.settings.v8 ≡ true) × (far_says 1 g ≡ true) × (both_short g ≡ false))
  eight_if_both =
      let outer = both_hold (not (both_short g)) (both_eight g) in
      let inner = both_hold g.settings.v8 (far_says 1 g) in
      rw (eight_in w x) (
        λ e. let o = outer.0 e in let i = inner.0 o.1 in (i.0, i.1, not-true (both_short g) o.0),
        λ h. outer.1 (not_from_false (both_short g) h.2, inner.1 (h.0, h.1)),
      )

-- with no far list it says neither
pub neither_unheard : (g : Given) (w : Wish) (ms : List ℕ) → IsMs unheard g w ms
    → (is_in (code_of 1 0 0 1) (message_codes ms) ≡ false) × (is_in (code_of 1 0 0 2) (message_codes ms) ≡ false)
neither_unheard g w ms x = (eight_in w x, short_in w x)
