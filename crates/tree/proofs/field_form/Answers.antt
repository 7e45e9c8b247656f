-- `tree::field_form` meets its contract: what is told of NPar(1), and behind it of the rest, is told of the whole; more octets than a
-- message has are refused first.
-- Assumes nothing.
use mathlib.Core.Path.{◌∙◌}
use Rattle.tree.specs.Form.{form_at, field_form}
use Rattle.tree.proofs.Forms.{told_ok, told_err, exit_is, field_go, form_in_lem, form_over}
use Rattle.tree.proofs.field_form.Goals as goal

pub returns-then-s-gt-MOST_OCTETS : goal.returns-then-s-gt-MOST_OCTETS
returns-then-s-gt-MOST_OCTETS c = rw (form_over c.args.s.now c.args.at c.if-s-gt-MOST_OCTETS.true)

pub returns-in_err-rest : goal.returns-in_err-rest
unfolding field_form
returns-in_err-rest c =
    let a = c.args in
    rw (form_in_lem a.s.now a.at c.if-s-gt-MOST_OCTETS.false)
    (exit_is _ c.from_residual.ensures.1 (told_err (form_at 128 a.s.now a.at) _ _ _ c.in_err-rest.ensures))

pub returns : goal.returns
returns c =
    let a = c.args in
    let b = told_ok (form_at 128 a.s.now a.at) c.in_ok-rest.ensures in
    rw (form_in_lem a.s.now a.at c.if-s-gt-MOST_OCTETS.false) (c.rest_at.ensures ∙ field_go a.s.now a.at _ b.0 b.1)
