-- `writer::Sheet::put_message` meets its contract: octet 1, and the fields where the type has any.
-- Assumes nothing.
use mathlib.Core.List.{[], ◌∷◌}
use mathlib.Core.Path.{sym, ◌∙◌}
use native.Mathlib.Omega.{arith}
use Rattle.std.proofs.lemmas.Result.{err_from_is_err_and}
use Rattle.message.specs.Kinds.{first_octet}
use Rattle.meaning.specs.Writing.{message_octets}
use Rattle.writer.specs.Inner.{fields_put}
use Rattle.writer.proofs.Parents.{known_most}
use Rattle.writer.proofs.Putting.{puts_over, puts_more, message_fields, message_short}
use Rattle.writer.proofs.Sheet.put_message.Goals as goal

pub overflow_add-m : goal.overflow_add-m
overflow_add-m c = omega (arith, known_most c.args.m.kind c.args.m.is_type, c.args.m.low)

pub returns-in_err-push : goal.returns-in_err-push
unfolding message_octets
returns-in_err-push c =
    let p = err_from_is_err_and c.from_residual.result c.from_residual.ensures.1 in
    rw p.1 (puts_over c.args.self.now (first_octet c.args.m.kind c.args.m.revision ∷ []) _ c.in_err-push.ensures)

pub returns-then-has_fields : goal.returns-then-has_fields
returns-then-has_fields c = let m = c.args.m in
    rw (message_fields m.kind m.revision m.codes.list.now m.ns.now (sym c.has_fields.ensures ∙ c.if-has_fields.true) m.codes.shapes m.codes.up m.codes.parents)
    (puts_more c.args.self.now (first_octet m.kind m.revision ∷ []) (fields_put m.codes.list.now m.ns.now) _ c.put_fields.result c.in_ok-push.ensures c.put_fields.ensures)

pub returns : goal.returns
returns c = let m = c.args.m in
    rw (message_short m.kind m.revision m.codes.list.now m.ns.now (sym c.has_fields.ensures ∙ c.if-has_fields.false)) c.in_ok-push.ensures
