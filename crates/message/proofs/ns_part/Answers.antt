-- `message::ns_part` meets its contract: the tests are those of `ns_told`.
-- Assumes nothing.
use native.Mathlib.Nat.{add-sub_cancel_left}
use borrow.Author.Tests.{lt-ltb, le-ltb}
use Rattle.message.specs.Reader.{ns_told}
use Rattle.message.proofs.ns_part.Goals as goal

pub returns-then-s-at : goal.returns-then-s-at
unfolding ns_told
returns-then-s-at c = simp (← c.told_span-span.ensures, lt-ltb _ _ c.if-s-at.true)

pub returns-then-s-at-2 : goal.returns-then-s-at-2
unfolding ns_told
returns-then-s-at-2 c = simp (← c.told_span-span.ensures, le-ltb _ _ c.if-s-at.false, lt-ltb _ _ c.if-s-at-2.true)

pub returns : goal.returns
unfolding ns_told
returns c = simp (← c.told_span-span.ensures, le-ltb _ _ c.if-s-at.false, le-ltb _ _ c.if-s-at-2.false, add-sub_cancel_left)
