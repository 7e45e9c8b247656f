-- `message::ns_form` meets its contract. The loop's invariant: the block at hand decides the form. The measure is what is left of the octets.
-- Assumes nothing.
use Prim.Native.Nat.{◌-◌}
use lib.ListN.{length}
use Rattle.message.proofs.Blocks.{Decides}
use Rattle.message.proofs.ns_form.Given as goal

abbrev pub invariant-loop-e : goal.invariant-loop-e
invariant-loop-e l = Decides l.s l.start l.e

abbrev pub decreases-loop-e : goal.decreases-loop-e
decreases-loop-e l = length l.s - l.e
