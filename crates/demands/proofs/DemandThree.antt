-- Demand 3, proved.
-- Assumes nothing.
use mathlib.Core.Logic.{⊎_elim}
use native.Mathlib.Omega.{arith}
use lib.ListN.{length}
use Rattle.message.proofs.Revision.{same_reading, same_codes, same_ns}
use Rattle.strike.proofs.StruckForms.{struck_is_no_longer}
use Rattle.strike.proofs.StrikingForm.{struck_is_well_formed, struck_is_minimal, struck_type, struck_revision, struck_ns}
use Rattle.strike.proofs.StrikingMeaning.{striking_filters, standard_of_ms, identification_of_any}
use Rattle.station.specs.Stepping.{step_of}
use Rattle.station.specs.declared.Event.TheVariants.{Field}
use Rattle.station.proofs.StepUnique.{step_unique}
use Rattle.demands.specs.DemandThree.{DemandThree}
use Rattle.demands.proofs.Accepting.{unnamed_nak_3}
use Rattle.demands.proofs.StruckSteps.{alike_steps, struck_alike, bare_struck, strikes_told}
use Rattle.demands.proofs.UntouchedModes.{untouched_mode}
use Rattle.demands.proofs.Revisions.{revisions_struck, revisions_answered}

pub demand_three : DemandThree
demand_three =
    record {
      same_outcome = λ p set own run m time out_size store_size o e. alike_steps (struck_alike m o e) p set own run time out_size store_size;
      mode_untouched = untouched_mode;
      same_buffers =
          λ state set own run m time out₀ store₀ r r' out₁ out₁' store₁ store₁' o e d d'.
          step_unique (step_of state.phase set own run Field m time (length out₀) (length store₀)) out₀ store₀ r r' out₁ out₁' store₁ store₁' d
          (rw (alike_steps (struck_alike m o e) state.phase set own run time (length out₀) (length store₀)) at d');
      struck_by_operation = strikes_told;
      list_struck = λ m o e t. striking_filters m 448 o e (λ ms. ⊎_elim (λ two. omega arith) (λ three. omega arith) t);
      mode_struck = λ m e ms. (identification_of_any m 448 e (rw ms), standard_of_ms m 448 e ms);
      bare_unstruck = bare_struck;
      struck_stands =
          λ m o e. (
            struck_is_well_formed m 448 o e 448 (omega arith),
            struck_is_minimal m 448 o e,
            struck_type m 448 o e,
            struck_revision m 448 o e,
            struck_ns m 448 o e,
            struck_is_no_longer m 448 o e,
          );
      unnamed_refused = λ p g s j x i n. unnamed_nak_3 p g s j x i n;
      revision_read_lem = λ o o' l room q. (same_reading o o' q l room, same_codes o o' q l, (same_ns o o' q l).0, (same_ns o o' q l).1);
      revision_struck = λ o o' l q e. revisions_struck o o' l q e;
      revision_answered = λ p set own run o o' l time out_size store_size q. revisions_answered o o' l q p set own run time out_size store_size;
    }
