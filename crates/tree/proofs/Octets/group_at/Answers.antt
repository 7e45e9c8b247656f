-- `tree::Octets::group_at` meets its contract. The loop's invariant: the NPar(3) blocks that are left, from `at` on, are told as the whole.
-- Assumes nothing.
use Prim.Native.Nat.{suc, ◌+◌, ◌-◌}
use mathlib.Core.Path.{◌≡◌, sym, ◌∙◌}
use native.Mathlib.Omega.{arith}
use Rattle.tree.specs.Form.{form_at}
use Rattle.tree.proofs.Forms.{told_ok, exit_is, group_done, group_bad, group_go, fine_behind, subs_wrong, subs_bad, subs_go, subs_done, subs_open}
use Rattle.tree.proofs.Octets.group_at.Goals as goal

pub returns-then-is_ended : goal.returns-then-is_ended
returns-then-is_ended c = group_done _ c.args.e (sym c.is_ended.ensures ∙ c.if-is_ended.true)

pub returns-in_err-at : goal.returns-in_err-at
returns-in_err-at c = exit_is _ c.from_residual.ensures.1 (group_bad _ c.args.e _ (sym c.is_ended.ensures ∙ c.if-is_ended.false) c.in_err-at.ensures)

pub loop-done-init : goal.loop-done-init
loop-done-init c =
    let a = c.args in
    let b = told_ok (form_at 64 a.self.run.now a.e) c.in_ok-at.ensures in
    let x = fine_behind 64 a.self.run.now a.e b.0 in
    let z : c.ones_in-subs.result - 0 ≡ c.ones_in-subs.result = omega arith in
    (omega (arith, b.1, x), omega (arith, b.1, x), group_go a.self.run.now a.e _ _ (sym c.is_ended.ensures ∙ c.if-is_ended.false) b.0 (z ∙ c.ones_in-subs.ensures) b.1)

pub returns-then-is_ended-2 : goal.returns-then-is_ended-2
returns-then-is_ended-2 c =
    let L = c.loop-done in
    let k = c.ones_in-subs.result - (L._done + 1) in
    let z : c.ones_in-subs.result - L._done ≡ suc k = omega arith in
    let I = rw z at L.invariant.2 in
    rw (← I, subs_wrong k c.args.self.run.now L.at (sym c.is_ended-in-loop-done.ensures ∙ c.if-is_ended-2.true))

pub returns-in_err-at-2 : goal.returns-in_err-at-2
returns-in_err-at-2 c =
    let L = c.loop-done in
    let k = c.ones_in-subs.result - (L._done + 1) in
    let z : c.ones_in-subs.result - L._done ≡ suc k = omega arith in
    let I = rw z at L.invariant.2 in
    rw (← I)
    (exit_is _ c.from_residual-in_err-at-2.ensures.1
    (subs_bad k _ L.at _ (sym c.is_ended-in-loop-done.ensures ∙ c.if-is_ended-2.false) c.in_err-at-2.ensures))

pub loop-done-preserved : goal.loop-done-preserved
loop-done-preserved c =
    let L = c.loop-done in
    let k = c.ones_in-subs.result - (L._done + 1) in
    let z : c.ones_in-subs.result - L._done ≡ suc k = omega arith in
    let I = rw z at L.invariant.2 in
    let b = told_ok (form_at 64 c.args.self.run.now L.at) c.in_ok-at-2.ensures in
    let g = subs_go k c.args.self.run.now L.at _ (sym c.is_ended-in-loop-done.ensures ∙ c.if-is_ended-2.false) b.0 b.1 in
    (g.0, g.1, g.2 ∙ I)

pub returns-then-is_ended-3 : goal.returns-then-is_ended-3
returns-then-is_ended-3 c =
    let L = c.loop-done in
    let z : c.ones_in-subs.result - L._done ≡ 0 = omega arith in
    let I = rw z at L.invariant.2 in
    subs_done _ L.at (sym c.is_ended-2.ensures ∙ c.if-is_ended-3.true) ∙ I

pub returns : goal.returns
returns c =
    let L = c.loop-done in
    let z : c.ones_in-subs.result - L._done ≡ 0 = omega arith in
    let I = rw z at L.invariant.2 in
    rw (← I, subs_open _ L.at (sym c.is_ended-2.ensures ∙ c.if-is_ended-3.false))
