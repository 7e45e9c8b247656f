-- `octets::copy_front` meets its contract. The loop's invariant: the buffer has what was copied so far laid over its front.
-- Assumes nothing.
use Prim.Native.Nat.{◌≤◌}
use mathlib.Core.Path.{◌≡◌}
use lib.ListN.{length, take}
use Rattle.octets.specs.Lay.{over}
use Rattle.octets.proofs.copy_front.Given as goal

abbrev pub invariant-loop-j : goal.invariant-loop-j
invariant-loop-j l = (l.j ≤ l.n) × (length l.to ≡ length l.initial.to) × (l.to ≡ over (take l.j l.from) l.initial.to)
