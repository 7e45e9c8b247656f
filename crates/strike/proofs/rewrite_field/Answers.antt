-- `strike::rewrite_field` meets its contract: it puts what is kept of a well-formed field into an output that has room for a message.
-- Assumes nothing.
use mathlib.Core.Bool.{true}
use mathlib.Core.Path.{◌≡◌}
use borrow.Author.Rules.{rules}
use Rattle.octets.specs.Bits.{AreOctets}
use Rattle.tree.specs.Form.{is_fine}
use Rattle.tree.specs.Fields.{form_in}
use Rattle.tree.proofs.Forms.{end_none, end_some}
use Rattle.strike.proofs.FieldRewritten.{rewrites_small, rewrites_bad, field_room, rewrites_fine}
use Rattle.strike.proofs.rewrite_field.Goals as goal

pub returns-then-out-lt-MOST_OCTETS : goal.returns-then-out-lt-MOST_OCTETS
returns-then-out-lt-MOST_OCTETS c =
    let a = c.args in
    rewrites_small a.keep a.field a.s.now a.at a.out.now c.if-out-lt-MOST_OCTETS.true

pub returns-in_err-field_end : goal.returns-in_err-field_end
returns-in_err-field_end c =
    let a = c.args in
    rw c.from_residual.ensures (rewrites_bad a.keep a.field a.s.now a.at a.out.now c.if-out-lt-MOST_OCTETS.false (end_none a.s.now a.at c.in_err-field_end.ensures))

pub put_field-end-requires : goal.put_field-end-requires
put_field-end-requires c =
    let a = c.args in
    let octets : AreOctets a.s.now = λ i h. search rules in
    let fine : is_fine (form_in a.s.now a.at) ≡ true = (end_some a.s.now a.at c.in_ok-field_end.ensures).0 in
    field_room a.keep a.field a.s.now a.at a.out.now c.if-out-lt-MOST_OCTETS.false octets fine

pub returns : goal.returns
returns c =
    let a = c.args in
    let octets : AreOctets a.s.now = λ i h. search rules in
    let fine : is_fine (form_in a.s.now a.at) ≡ true = (end_some a.s.now a.at c.in_ok-field_end.ensures).0 in
    rewrites_fine a.keep a.field a.s.now a.at a.out.now c.if-out-lt-MOST_OCTETS.false octets fine _ _ _ c.put_field-end.ensures
