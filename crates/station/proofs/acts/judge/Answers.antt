-- `station::acts::judge` meets its contract, verdict by verdict.
-- Assumes nothing.
use mathlib.Core.Path.{refl, ◌∙◌}
use Rattle.station.proofs.FarSide.{verdict_there, refused_judges}
use Rattle.station.proofs.acts.judge.Goals as goal

pub returns-in-Ok : goal.returns-in-Ok
returns-in-Ok c = rw (verdict_there c.args.mode.field.now c.args.tables.wishes.now c.args.mode.place c.in-Ok.ensures refl) c.accept_mode.ensures

pub returns-in-Err : goal.returns-in-Err
returns-in-Err c =
    rw (verdict_there c.args.mode.field.now c.args.tables.wishes.now c.args.mode.place c.in-Err.ensures refl)
    (rw c.nak_for.ensures at c.refuse.ensures ∙ refused_judges c.in-Err.refusal c.args.mode.field.now c.args.time)
