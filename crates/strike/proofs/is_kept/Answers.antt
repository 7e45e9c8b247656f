-- `strike::is_kept` meets its contract: there are 32 names at most.
-- Assumes nothing.
use Prim.Native.Nat.{◌-◌}
use mathlib.Core.Path.{◌∙◌}
use borrow.Author.Rules.{rules}
use Rattle.strike.proofs.Sifting.{shifted}
use Rattle.strike.proofs.is_kept.Goals as goal

pub returns-in-Some : goal.returns-in-Some
returns-in-Some c =
    rw (c.in-Some.is, c.unwrap_or.ensures ∙ shifted c.in-Some.bits (c.args.q - 1) c.checked_shr.result (search rules) c.checked_shr.ensures)
