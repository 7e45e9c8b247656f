-- `choice::learn::block_bits` meets its contract. The loop's invariant: the number is that of the octets from the place on.
-- Assumes nothing.
use Prim.Native.Nat.{◌-◌, ◌%◌, ◌^◌, ◌≤◌}
use mathlib.Core.Path.{◌≡◌}
use Rattle.good.specs.Learned.{value_from}
use Rattle.choice.proofs.learn.block_bits.Given as goal

abbrev pub invariant-loop-i : goal.invariant-loop-i
invariant-loop-i l = (l.e ≤ l.i) × (l.i ≤ l.end) × (l.bits ≡ value_from l.w l.t l.i (l.end - l.i) % 2 ^ 32)
