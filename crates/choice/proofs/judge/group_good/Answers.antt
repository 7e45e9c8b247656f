-- `choice::judge::group_good` meets its contract: nothing stands there, or SPar(2) is judged, and the NPar(3) block that it announces.
-- Assumes nothing.
use mathlib.Core.Path.{sym, ◌∙◌}
use Rattle.good.proofs.Stepping.{group_ended, group_out, group_empty, group_bad, group_on}
use Rattle.choice.proofs.judge.group_good.Goals as goal

pub returns-then-bit8 : goal.returns-then-bit8
returns-then-bit8 c = group_ended _ _ _ _ (sym c.bit8.ensures ∙ c.if-bit8.true)

pub returns-then-s-e : goal.returns-then-s-e
returns-then-s-e c = group_out _ _ _ _ (sym c.bit8.ensures ∙ c.if-bit8.false) c.if-s-e.true

pub returns-then-s-e-eq0 : goal.returns-then-s-e-eq0
returns-then-s-e-eq0 c = group_empty _ _ _ _ (sym c.bit8.ensures ∙ c.if-bit8.false) c.if-s-e-eq0.true

pub returns-in_err-next : goal.returns-in_err-next
returns-in_err-next c =
    c.from_residual.ensures ∙ group_bad _ _ _ _ (sym c.bit8.ensures ∙ c.if-bit8.false) (rw c.subs.ensures.0 at c.in_err-next.ensures)

pub returns : goal.returns
returns c =
    group_on _ _ _ _ (sym c.bit8.ensures ∙ c.if-bit8.false) (rw c.subs.ensures.0 at c.in_ok-next.ensures) (rw c.subs.ensures.0 at c.subs.ensures.1) c.if-s-e-eq0.false
    (rw c.lows.ensures at c.sub_good.ensures)
