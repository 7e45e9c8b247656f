-- `writer::is_shaped` meets its contract: its tests are those of `shaped`.
-- Assumes nothing.
use borrow.Author.Tests.{lt-ltb, le-ltb, eq-eqb, ne_eqb}
use Rattle.meaning.specs.Meaning.{shaped}
use Rattle.writer.proofs.is_shaped.Goals as goal

pub returns-then-f-lt1 : goal.returns-then-f-lt1
unfolding shaped
returns-then-f-lt1 c = simp (lt-ltb _ _ c.if-f-lt1.true)

pub returns-then-f-gt2 : goal.returns-then-f-gt2
unfolding shaped
returns-then-f-gt2 c = simp (le-ltb _ _ c.if-f-lt1.false, lt-ltb _ _ c.if-f-gt2.true)

pub returns-then-code-eq0 : goal.returns-then-code-eq0
unfolding shaped
returns-then-code-eq0 c = simp (le-ltb _ _ c.if-f-lt1.false, le-ltb _ _ c.if-f-gt2.false, eq-eqb _ _ c.if-code-eq0.true)

pub returns-then-code-eq0-2 : goal.returns-then-code-eq0-2
unfolding shaped
returns-then-code-eq0-2 c = simp (le-ltb _ _ c.if-f-lt1.false, le-ltb _ _ c.if-f-gt2.false, ne_eqb _ _ c.if-code-eq0.false, eq-eqb _ _ c.if-code-eq0-2.true)

pub returns : goal.returns
unfolding shaped
returns c = simp (le-ltb _ _ c.if-f-lt1.false, le-ltb _ _ c.if-f-gt2.false, ne_eqb _ _ c.if-code-eq0.false, ne_eqb _ _ c.if-code-eq0-2.false)
