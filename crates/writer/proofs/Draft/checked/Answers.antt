-- `writer::Draft::checked` meets its contract: its tests are those of `write_message` in Writing.antt, in the same order.
-- Assumes nothing.
use mathlib.Core.Path.{sym}
use Rattle.std.proofs.lemmas.Result.{err_from_is_err_and}
use Rattle.writer.proofs.Checking.{type_refused, revision_refused, list_refused, ends_refused, ns_refused, all_right}
use Rattle.writer.proofs.Draft.checked.Goals as goal

pub returns-then-not-is_known-clause-refused : goal.returns-then-not-is_known-clause-refused
returns-then-not-is_known-clause-refused c = type_refused _ _ _ _ (sym c.if-not-is_known.ensures)

pub returns-then-revision-gt15-clause-refused : goal.returns-then-revision-gt15-clause-refused
returns-then-revision-gt15-clause-refused c = revision_refused _ _ _ _ (sym c.if-not-is_known.ensures) c.if-revision-gt15.true

pub returns-in_err-codes-clause-refused : goal.returns-in_err-codes-clause-refused
returns-in_err-codes-clause-refused c =
    let p = err_from_is_err_and c.from_residual.result c.from_residual.ensures.1 in
    rw (p.1, p.2) (list_refused _ _ _ _ (sym c.if-not-is_known.ensures) c.if-revision-gt15.false _ c.in_err-codes.ensures.refused)

pub returns-then-not-ends_there-clause-refused : goal.returns-then-not-ends_there-clause-refused
returns-then-not-ends_there-clause-refused c = ends_refused _ _ _ _ (sym c.if-not-is_known.ensures) c.if-revision-gt15.false c.in_ok-codes.codes c.in_ok-codes.ensures.same (sym c.if-not-ends_there.ensures)

pub returns-then-not-ns_agrees-clause-refused : goal.returns-then-not-ns_agrees-clause-refused
returns-then-not-ns_agrees-clause-refused c = ns_refused _ _ _ _ (sym c.if-not-is_known.ensures) c.if-revision-gt15.false c.in_ok-codes.codes c.in_ok-codes.ensures.same (sym c.if-not-ends_there.ensures) (sym c.if-not-ns_agrees.ensures)

pub returns-clause-same : goal.returns-clause-same
returns-clause-same c = all_right _ _ _ _ (sym c.if-not-is_known.ensures) c.if-revision-gt15.false c.in_ok-codes.codes c.in_ok-codes.ensures.same (sym c.if-not-ends_there.ensures) (sym c.if-not-ns_agrees.ensures)
