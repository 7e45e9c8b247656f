-- `writer::Codes::checked` meets its contract: its tests are those of `list_writing`, in the same order.
-- Assumes nothing.
use mathlib.Core.Path.{sym, ◌∙◌}
use Rattle.writer.proofs.Checking.{shapes_refused, order_refused, parents_refused}
use Rattle.writer.proofs.Codes.checked.Goals as goal

pub returns-then-not-are_shaped-clause-refused : goal.returns-then-not-are_shaped-clause-refused
returns-then-not-are_shaped-clause-refused c = shapes_refused c.args.list.now (sym c.are_shaped.ensures ∙ c.if-not-are_shaped.true)

pub returns-then-not-is_ascending-clause-refused : goal.returns-then-not-is_ascending-clause-refused
returns-then-not-is_ascending-clause-refused c = order_refused c.args.list.now (sym c.are_shaped.ensures ∙ c.if-not-are_shaped.false) (sym c.if-not-is_ascending.ensures)

pub returns-then-not-are_parented-clause-refused : goal.returns-then-not-are_parented-clause-refused
returns-then-not-are_parented-clause-refused c = parents_refused c.args.list.now (sym c.are_shaped.ensures ∙ c.if-not-are_shaped.false) (sym c.if-not-is_ascending.ensures) (sym c.if-not-are_parented.ensures)
