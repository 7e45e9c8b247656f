-- `writer::Sheet::put_block` meets its contract. The loop's invariant: all but what the codes from the place on give was put (`Blocking`).
-- Assumes nothing.
use Rattle.tree.specs.Levels.{mark_of}
use Rattle.writer.proofs.Putting.{Blocking}
use Rattle.writer.proofs.Sheet.put_block.Given as goal

abbrev pub invariant-loop-code : goal.invariant-loop-code
invariant-loop-code l = Blocking l.w (mark_of l.level) l.step l.base l.list l.code-index l.initial.self l.self l.above l.octet
