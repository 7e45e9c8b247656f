-- What the contract of `step` alone says of its buffers: each line of `OverBuffers`.
-- Assumes nothing.
use Prim.Native.Nat.{ℕ, ◌+◌}
use mathlib.Core.Bool.{true, false}
use mathlib.Core.List.{List, [], ◌∷◌, ◌++◌, append_assoc}
use mathlib.Core.Logic.{◌⊎◌, inl, inr, ⊎_elim}
use mathlib.Core.Path.{◌≡◌, refl, sym, ap, subst, ◌∙◌}
use native.Mathlib.Omega.{arith}
use lib.ListN.{length, take, drop, length-append}
use lib.Seq.{take-append_seam, drop-append_seam}
use Rattle.octets.specs.Lay.{put}
use Rattle.choice.proofs.Truths.{never}
use Rattle.table.specs.declared.Phase.{Phase}
use Rattle.table.specs.declared.Phase.TheVariants.{Initial}
use Rattle.table.specs.declared.Kind.TheVariants.{AtInitial, AtAskedE, AtAskedD, AtCounter, AtListed, AtHalf}
use Rattle.table.specs.Phases.{kind_of, ack_of}
use Rattle.table.specs.Phases.{is_among}
use Rattle.table.proofs.Lines.{ms_judged}
use Rattle.station.specs.Acting.{Outcome, quiet, sends}
use Rattle.station.specs.Stepping.{Reply, Did}
use Rattle.table.specs.Phases.{is_mode}
use Rattle.demands.specs.Given.{Given, steps, Due, HearsType, standard_heard, is_kept}
use Rattle.demands.specs.Sent.{IsCl, IsField, far_says}
use Rattle.demands.specs.Proposals.{Judged, asked, unasked, unready, unfit}
use Rattle.demands.specs.Calls.{Call, phase_of, given, told, first_sent, stored_then, next_of, Shows, OverBuffers}
use Rattle.demands.proofs.Following.{follows, by_test, of_outcome}
use Rattle.demands.proofs.Proposing.{two_answers, none_suits, proposed_first}
use Rattle.demands.proofs.StepLines.{at_5000_handled, at_5001_timed_out, spoilt_nak, refusal_silent, refusal_keeps_output}
use Rattle.demands.proofs.CellsProved.{hears, judged_at}
use Rattle.demands.proofs.ListsReturn.{front_put}

-- ---- what is put stands at the front

module _ (a b d : List ℕ) where
  first_part : (n : ℕ) → n ≡ length a → take n (put (a ++ b) d) ≡ a
  unfolding put
  first_part n e = rw (e, append_assoc a b (drop (length (a ++ b)) d)) (take-append_seam a (b ++ drop (length (a ++ b)) d))

  second_part : (n k : ℕ) → n ≡ length a → k ≡ length b → take k (drop n (put (a ++ b) d)) ≡ b
  unfolding put
  second_part n k e f =
      rw (e, f, append_assoc a b (drop (length (a ++ b)) d), drop-append_seam a (b ++ drop (length (a ++ b)) d)) (take-append_seam b (drop (length (a ++ b)) d))

-- behind what is put the list is as it was
behind_part : (a d : List ℕ) (n : ℕ) → n ≡ length a → drop n (put a d) ≡ drop n d
unfolding put
behind_part a d n e = rw e (drop-append_seam a (drop (length a) d))

-- ---- the lines

-- 11 leads to Initial
eleven_initial : (p : Phase) (g : Given) → (steps p g).told ≡ 11 → (steps p g).next ≡ Initial g.time
eleven_initial p g =
    of_outcome (λ (o : Outcome). o.told ≡ 11 → o.next ≡ Initial g.time) p g
    (λ n k e. never (sym (ap is_kept e) ∙ k)) (λ e. refl) (λ stored e. refl) (λ o s e. absurd (omega (arith, s.told, e)))

-- an MS that leads to Mode was judged
mode_judged : (p : Phase) (g : Given) → Due p g → HearsType 1 g → is_mode (kind_of (steps p g).next) ≡ true → Judged g (steps p g)
mode_judged p g d h m =
    let kinds = AtInitial ∷ AtAskedE ∷ AtAskedD ∷ AtCounter ∷ AtListed ∷ AtHalf ∷ [] in
    by_test (is_among (kind_of p) kinds)
    (λ i. judged_at g (d, h) (ms_judged g.settings (ack_of p) (kind_of p) ∙ rw i))
    (λ i.
    let e : steps p g ≡ quiet 10 p = follows p g (hears 1 (d, h)) ∙ rw (ms_judged g.settings (ack_of p) (kind_of p), i) in
    never (sym d.awake ∙ (rw e at m)))

module _ (c : Call) where
  abbrev o : Outcome
  o = steps (phase_of c) (given c)

  abbrev did : Did o c.out₀ c.store₀ c.answer c.out₁ c.store₁
  did = c.ensured

  shown : Shows c o
  shown =
      let e = did.reply in
      let f = ap (λ (x : Reply). x.first) e in
      let s = ap (λ (x : Reply). x.second) e in
      let t = ap (λ (x : Reply). x.stored) e in
      record {
        number = ap (λ (x : Reply). x.no) e;
        signal = ap (λ (x : Reply). x.signal) e;
        first = ap (take c.answer.first) did.output ∙ first_part o.first o.second c.out₀ c.answer.first f;
        first_length = f;
        second = ap (λ (l : List ℕ). take c.answer.second (drop c.answer.first l)) did.output ∙ second_part o.first o.second c.out₀ c.answer.first c.answer.second f s;
        second_length = s;
        stored = ap (take c.answer.stored) did.store ∙ front_put o.stored c.store₀ c.answer.stored t;
        stored_length = t;
        next = ap (λ (x : Reply). x.next) e;
      }

  module _ (d : Due (phase_of c) (given c)) (h : HearsType 1 (given c)) (m : is_mode (kind_of (next_of c)) ≡ true) where
    then_mode : is_mode (kind_of o.next) ≡ true
    then_mode = ap (λ (p : Phase). is_mode (kind_of p)) (sym shown.next) ∙ m

    judged : Judged (given c) o
    judged = mode_judged (phase_of c) (given c) d h then_mode

    -- so it was accepted: it stands in the store, and ACK(1) in the output where it was asked for
    accepted : IsField (standard_heard (given c)) (stored_then c)
        × (((first_sent c ≡ 0x24 ∷ []) × (c.answer.first ≡ 1) × (far_says 4 (given c) ≡ true)) ⊎ ((first_sent c ≡ []) × (c.answer.first ≡ 0) × (far_says 4 (given c) ≡ false)))
    accepted = go judged
      where
        sent : {first stored : List ℕ} {next : Phase} → o ≡ sends first [] stored next → (first_sent c ≡ first) × (c.answer.first ≡ length first) × (stored_then c ≡ stored)
        sent e = (shown.first ∙ ap (λ (o : Outcome). o.first) e, shown.first_length ∙ ap (λ (o : Outcome). length o.first) e, shown.stored ∙ ap (λ (o : Outcome). o.stored) e)

        initial : {first : List ℕ} → o ≡ sends first [] [] (Initial c.time) → ⊥
        initial e = never (ap (λ (o : Outcome). is_mode (kind_of o.next)) (sym e) ∙ then_mode)

        go : Judged (given c) o
            → IsField (standard_heard (given c)) (stored_then c)
            × (((first_sent c ≡ 0x24 ∷ []) × (c.answer.first ≡ 1) × (far_says 4 (given c) ≡ true)) ⊎ ((first_sent c ≡ []) × (c.answer.first ≡ 0) × (far_says 4 (given c) ≡ false)))
        go (asked f r stored x a e) = let s = sent e in (subst (IsField (standard_heard (given c))) (sym s.2) x, inl (s.0, s.1, a))
        go (unasked f r stored x a e) = let s = sent e in (subst (IsField (standard_heard (given c))) (sym s.2) x, inr (s.0, s.1, a))
        go (unready f n e) = absurd (initial e)
        go (unfit n e) = absurd (initial e)

  pub over_buffers : OverBuffers c
  over_buffers =
      let p = phase_of c in
      let g = given c in
      record {
        shown = shown;
        output_behind =
            ap (drop (c.answer.first + c.answer.second)) did.output
            ∙ behind_part (o.first ++ o.second) c.out₀ (c.answer.first + c.answer.second)
            (omega (arith, shown.first_length, shown.second_length, length-append o.first o.second));
        store_behind = ap (drop c.answer.stored) did.store ∙ behind_part o.stored c.store₀ c.answer.stored shown.stored_length;
        two_answers = λ x. ⊎_elim (λ a. inl (shown.number ∙ a)) (λ a. inr (shown.number ∙ a)) (two_answers p g x);
        ms_stands = λ octets x t.
            let y = proposed_first p g x octets (sym shown.number ∙ t) in (
              y.0,
              ⊎_elim
                  (λ a. inl (shown.first ∙ a.0, shown.second_length ∙ ap length a.1))
                  (λ a. inr (subst (IsCl g) (sym shown.first) a.0, shown.second ∙ a.1)) y.1,
              shown.next ∙ y.2,
            );
        eleven_none = λ x. let q = none_suits p g x in (λ t. q.0 (sym shown.number ∙ t), λ n. shown.number ∙ q.1 n);
        eleven_leaves = λ t.
            let n : told c ≡ 0 → ⊥ = λ z. omega (arith, t, z) in (
              refusal_keeps_output p g did n,
              shown.signal ∙ (refusal_silent p g (λ z. n (shown.number ∙ z))).0,
              shown.next ∙ eleven_initial p g (sym shown.number ∙ t),
            );
        mode_stored = λ d h m. (accepted d h m).0;
        ack_asked = λ d h m.
            ⊎_elim
            (λ a. (λ e. a.2, λ e. a.0))
            (λ a. (λ e. absurd (omega (arith, ap length (sym a.0 ∙ e))), λ e. never (sym a.2 ∙ e))) (accepted d h m).1;
        ack_unasked = λ d h m.
            ⊎_elim
            (λ a. (λ e. absurd (omega (arith, a.1, e)), λ e. never (sym e ∙ a.2)))
            (λ a. (λ e. a.2, λ e. a.1)) (accepted d h m).1;
        nak_1 = λ d s.
            let e = spoilt_nak p g d s in (
              shown.number ∙ ap (λ (o : Outcome). o.told) e,
              shown.first_length ∙ ap (λ (o : Outcome). length o.first) e,
              shown.first ∙ ap (λ (o : Outcome). o.first) e,
              shown.second_length ∙ ap (λ (o : Outcome). length o.second) e,
              shown.next ∙ ap (λ (o : Outcome). o.next) e,
            );
        at_5000 = λ s n e. at_5000_handled p g s n e;
        at_5001 = λ s n e.
            let x = at_5001_timed_out p g s n e in (shown.number ∙ ap (λ (o : Outcome). o.told) x, shown.next ∙ ap (λ (o : Outcome). o.next) x);
      }
