-- `tree::Octets::rest_at` meets its contract. The loop's invariant: the Par(2) blocks that are left, from `at` on, are told as the whole.
-- Assumes nothing.
use Prim.Native.Nat.{suc, ◌+◌, ◌-◌}
use mathlib.Core.Path.{◌≡◌, ◌∙◌}
use native.Mathlib.Omega.{arith}
use Rattle.tree.specs.Form.{form_at, group_form, rest_form}
use Rattle.tree.proofs.Forms.{told_ok, told_err, exit_is, rest_go, pars_bad, pars_stop, pars_go, pars_done, fine_behind}
use Rattle.tree.proofs.Octets.rest_at.Goals as goal

pub returns-in_err-at : goal.returns-in_err-at
unfolding rest_form
returns-in_err-at c = exit_is _ c.from_residual.ensures.1 (told_err (form_at 128 c.args.self.run.now c.args.e) _ _ _ c.in_err-at.ensures)

pub loop-done-init : goal.loop-done-init
loop-done-init c =
    let a = c.args in
    let b = told_ok (form_at 128 a.self.run.now a.e) c.in_ok-at.ensures in
    let z : c.ones_in-pars.result - 0 ≡ c.ones_in-pars.result = omega arith in
    rest_go a.self.run.now a.e _ _ b.0 (z ∙ c.ones_in-pars.ensures) b.1

pub returns-in_err-next : goal.returns-in_err-next
returns-in_err-next c =
    let L = c.loop-done in
    let k = c.ones_in-pars.result - (L._done + 1) in
    let z : c.ones_in-pars.result - L._done ≡ suc k = omega arith in
    let I = rw z at L.invariant in
    rw (← I) (exit_is _ c.from_residual-in_err-next.ensures.1 (pars_bad k _ L.at _ c.in_err-next.ensures))

pub group_at-requires : goal.group_at-requires
group_at-requires c =
    let L = c.loop-done in
    let b = told_ok (form_at 64 c.args.self.run.now L.at) c.in_ok-next.ensures in
    let x = fine_behind 64 c.args.self.run.now L.at b.0 in
    (omega (arith, b.1, x), omega (arith, b.1, x))

pub returns-in_err-at-2 : goal.returns-in_err-at-2
returns-in_err-at-2 c =
    let L = c.loop-done in
    let k = c.ones_in-pars.result - (L._done + 1) in
    let z : c.ones_in-pars.result - L._done ≡ suc k = omega arith in
    let I = rw z at L.invariant in
    let b = told_ok (form_at 64 c.args.self.run.now L.at) c.in_ok-next.ensures in
    rw (← I)
    (exit_is _ c.from_residual-in_err-at-2.ensures.1 (pars_stop k _ L.at _ _ b.0 b.1 c.in_err-at-2.ensures))

pub loop-done-preserved : goal.loop-done-preserved
loop-done-preserved c =
    let L = c.loop-done in
    let k = c.ones_in-pars.result - (L._done + 1) in
    let z : c.ones_in-pars.result - L._done ≡ suc k = omega arith in
    let I = rw z at L.invariant in
    let b = told_ok (form_at 64 c.args.self.run.now L.at) c.in_ok-next.ensures in
    let d = told_ok (group_form c.args.self.run.now c.in_ok-next.next) c.in_ok-at-2.ensures in
    pars_go k c.args.self.run.now L.at _ _ b.0 b.1 d.0 d.1 ∙ I

pub returns : goal.returns
returns c =
    let L = c.loop-done in
    let z : c.ones_in-pars.result - L._done ≡ 0 = omega arith in
    let I = rw z at L.invariant in
    pars_done _ c.loop-done.at ∙ I
