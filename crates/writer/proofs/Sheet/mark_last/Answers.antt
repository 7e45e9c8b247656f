-- `writer::Sheet::mark_last` meets its contract: the last octet of the front is marked.
-- Assumes nothing.
use mathlib.Core.Path.{ap, ◌∙◌}
use native.Mathlib.Omega.{arith}
use Rattle.meaning.specs.Written.{marked}
use Rattle.writer.proofs.Putting.{marked_front}
use Rattle.writer.proofs.Sheet.mark_last.Goals as goal

pub returns : goal.returns
returns c = let s = c.self.inside in
    rw c.mark_last.ensures (marked_front s.size s.octets (omega (arith, c.self.told, c.self.invariant)) ∙ ap marked c.self.view_is)
