-- `writer::Sheet::put_fields` meets its contract: the codes below 2.0.0.0, the others, and NS.
-- Assumes nothing.
use native.Mathlib.Omega.{arith}
use Rattle.meaning.proofs.Meanings.{meaning_cut}
use Rattle.writer.proofs.Sheet.put_fields.Goals as goal

pub put_field-requires : goal.put_field-requires
put_field-requires c = let codes = c.args.codes in (rw c.cut.ensures.0 (meaning_cut codes.list.now codes.shapes codes.up codes.parents).0.codes, omega arith)

pub put_field-requires-2 : goal.put_field-requires-2
put_field-requires-2 c = let codes = c.args.codes in (rw c.cut.ensures.1 (meaning_cut codes.list.now codes.shapes codes.up codes.parents).1.codes, omega arith)
