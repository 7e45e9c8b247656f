-- Each field that a step sends is none, ACK(1) or a NAK, or a message that is read as it was meant.
-- Assumes nothing.
use Prim.Native.Nat.{ℕ}
use mathlib.Core.Bool.{Bool, true, false}
use mathlib.Core.List.{List, []}
use mathlib.Core.Path.{◌≡◌, refl, ap}
use native.Mathlib.Omega.{arith}
use Rattle.octets.specs.Places.{pick}
use Rattle.choice.specs.Choosing.{Far, unheard}
use Rattle.table.specs.declared.Phase.{Phase}
use Rattle.table.specs.declared.Act.{Act}
use Rattle.table.specs.declared.Act.TheVariants.{NoRow, SendSignal, CounterMrD, Propose, SendCl, SendClr, PairClr, Take, Judge, Agree, GiveUp, SendNak1}
use Rattle.table.specs.declared.After.TheVariants.{ThenMs, ThenClMs, ThenCl, ThenHalf}
use Rattle.station.specs.Sending.{sent_ack}
use Rattle.station.specs.Acting.{Outcome, far_list, asks_ack, stored_list, judges}
use Rattle.station.proofs.Sendings.{ack_octet, nak_octet}
use Rattle.demands.specs.Given.{Given, steps, InOctets, Sound, act_on, doing}
use Rattle.demands.specs.Proposals.{Proposal, SendsMs, ms_first, ms_none, SendsClMs, cl_ms_first, cl_ms_none, FieldSent, nothing, ack, nak, cl, clr, ms, ms_on_list}
use Rattle.demands.proofs.Following.{far_heard, of_step}
use Rattle.demands.proofs.Proposing.{cl_is_sent, clr_is_sent, ms_goes, cl_ms_go}
use Rattle.demands.proofs.Accepting.{Verdicts, fits_ready_lem, fits_unready, fits_none, verdicts}

-- both fields of an outcome
abbrev Both : Given → Outcome → Type 0
Both g o = FieldSent g o.first × FieldSent g o.second

module _ {far : Far} {stored : List ℕ} {g : Given} {o : Outcome} (mode : (os : List ℕ) (x : Proposal far g) → os ≡ x.ms → FieldSent g os) where
  of_ms : SendsMs far stored g o → Both g o
  of_ms (ms_first x e) = (mode o.first x (ap (λ (o : Outcome). o.first) e), nothing (ap (λ (o : Outcome). o.second) e))
  of_ms (ms_none n e) = (nothing (ap (λ (o : Outcome). o.first) e), nothing (ap (λ (o : Outcome). o.second) e))

  of_cl_ms : SendsClMs far stored g o → Both g o
  of_cl_ms (cl_ms_first x l i e) = (cl (rw (ap (λ (o : Outcome). o.first) e) i), mode o.second x (ap (λ (o : Outcome). o.second) e))
  of_cl_ms (cl_ms_none n e) = (nothing (ap (λ (o : Outcome). o.first) e), nothing (ap (λ (o : Outcome). o.second) e))

of_verdict : (g : Given) {v : ℕ} → Verdicts v → Both g (judges v g.field g.time)
of_verdict g fits_ready_lem = (go (asks_ack g.field), nothing refl)
  where
    go : (a : Bool) → FieldSent g (pick a sent_ack [])
    go true = ack ack_octet
    go false = nothing refl
of_verdict g fits_unready = (nak 2 (omega arith) (omega arith) (nak_octet 2), nothing refl)
of_verdict g fits_none = (nak 3 (omega arith) (omega arith) (nak_octet 3), nothing refl)

module _ (p : Phase) (g : Given) (s : Sound g) (octets : InOctets g) where
  act_sends : (a : Act) → Both g (doing a p g)
  unfolding far_list
  act_sends NoRow = (nothing refl, nothing refl)
  act_sends (SendSignal s) = (nothing refl, nothing refl)
  act_sends CounterMrD = (nothing refl, nothing refl)
  act_sends Propose = of_ms (λ os x e. ms x e) (ms_goes g s octets unheard [])
  act_sends SendCl = (cl (cl_is_sent g s octets), nothing refl)
  act_sends SendClr = (clr (clr_is_sent g s octets), nothing refl)
  act_sends PairClr = (clr (clr_is_sent g s octets), nothing refl)
  act_sends (Take ThenMs) = of_ms (λ os x e. ms_on_list x e) (ms_goes g s octets (far_heard g) (stored_list g.field))
  act_sends (Take ThenClMs) = of_cl_ms (λ os x e. ms_on_list x e) (cl_ms_go g s octets (far_heard g) (stored_list g.field))
  act_sends (Take ThenCl) = (cl (cl_is_sent g s octets), nothing refl)
  act_sends (Take ThenHalf) = (nothing refl, nothing refl)
  act_sends Judge = of_verdict g (verdicts g)
  act_sends Agree = (nothing refl, nothing refl)
  act_sends GiveUp = (nothing refl, nothing refl)
  act_sends SendNak1 = (nak 1 (omega arith) (omega arith) (nak_octet 1), nothing refl)

pub sent_is_read : (p : Phase) (g : Given) → InOctets g → FieldSent g (steps p g).first × FieldSent g (steps p g).second
sent_is_read p g octets =
    of_step (λ (o : Outcome). Both g o) p g
    (nothing refl, nothing refl) (λ n k. (nothing refl, nothing refl)) (nothing refl, nothing refl) (λ h s. act_sends p g s.due.sound octets (act_on p g h))
