-- `strike::put_rest` meets its contract. The loop's invariant: of the octets to be put, those from i on are left.
-- Assumes nothing.
use Prim.Native.Nat.{◌≤◌}
use lib.ListN.{length, drop}
use Rattle.strike.proofs.Copying.{Lays}
use Rattle.strike.proofs.put_rest.Given as goal

abbrev pub invariant-loop-i : goal.invariant-loop-i
invariant-loop-i l = (l.i ≤ length l.s) × Lays (drop l.from l.s) (drop l.i l.s) l.to l.initial.out l.at l.out
