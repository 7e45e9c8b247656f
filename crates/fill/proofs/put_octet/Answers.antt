-- `fill::put_octet` meets its contract: what would stand behind the end changes nothing.
-- Assumes nothing.
use mathlib.Core.Path.{sym}
use lib.Seq.{set_out}
use Rattle.fill.proofs.put_octet.Goals as goal

pub returns-else-i-list : goal.returns-else-i-list
returns-else-i-list c = sym (set_out _ _ _ c.if-i-list.false)
