-- `station::lent::Message::says` meets its contract: codes of I are looked for in I alone.
-- Assumes nothing.
use Prim.Native.Nat.{◌+◌}
use mathlib.Core.Path.{◌∙◌}
use native.Mathlib.Omega.{arith}
use borrow.Author.Tests.{lt-ltb}
use Rattle.tree.specs.Codes.{field_base}
use Rattle.tree.specs.Fields.{has_first}
use Rattle.station.proofs.FarSide.{said_first}
use Rattle.station.proofs.lent.Message.says.Goals as goal

pub returns : goal.returns
unfolding has_first
returns c = let p = c.requires in let q = c.args.q in let m = c.args.self in
    c.has_first.ensures ∙ rw (lt-ltb 0 q p.0, lt-ltb q 8 p.1) (said_first _ m.fine m.fields (field_base 1 + q) (omega (arith, p.1)))
