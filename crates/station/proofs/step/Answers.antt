-- `station::step` meets its contract: reset and what the gate refuses are told, else the plan is carried out.
-- Assumes nothing.
use mathlib.Core.Path.{sym, ◌∙◌}
use Rattle.station.specs.Stepping.{step_of}
use Rattle.station.proofs.Planning.{did_quiet}
use Rattle.station.proofs.step.Goals as goal

pub returns-then-is_reset : goal.returns-then-is_reset
unfolding step_of
returns-then-is_reset c = rw (sym c.is_reset.ensures ∙ c.if-is_reset.true) (did_quiet _ _ _ _ c.tells.ensures)

pub returns-in-Ok : goal.returns-in-Ok
unfolding step_of
returns-in-Ok c = rw (sym c.is_reset.ensures ∙ c.if-is_reset.false, c.in-Ok.ensures.0 c.args.event c.args.field.now, ← c.decide-plan.ensures) c.carry_out.ensures

pub returns-in-Err : goal.returns-in-Err
unfolding step_of
returns-in-Err c =
    rw (sym c.is_reset.ensures ∙ c.if-is_reset.false, c.in-Err.ensures c.args.event c.args.field.now) (did_quiet _ _ _ _ (rw c.shut_in-next.ensures at c.tells-in-Err.ensures))
