-- `frame::Quill::put_octets` meets its contract. The loop's invariant: all but the bits of the octets from here on were put (`Marked`).
-- Assumes nothing.
use mathlib.Core.List.{[]}
use mathlib.Core.Path.{◌≡◌}
use native.Mathlib.Omega.{arith}
use lib.ListN.{drop, drop_of_length-le}
use Rattle.octets.specs.Bits.{bits}
use Rattle.frame.proofs.Zeros.{bits_next}
use Rattle.frame.proofs.Marking.{marked_none, marked_front, marked_turn, marked_end}
use Rattle.frame.proofs.Quill.put_octets.Goals as goal

pub loop-octet-init : goal.loop-octet-init
loop-octet-init c = marked_none (bits c.args.run.now) c.args.start c.args.self.now c.requires

pub put_octet-last-requires : goal.put_octet-last-requires
put_octet-last-requires c = marked_front (bits_next c.args.run.now c.loop-octet.octet-index (omega arith)) c.loop-octet.invariant

pub loop-octet-preserved : goal.loop-octet-preserved
loop-octet-preserved c = marked_turn (bits_next c.args.run.now c.loop-octet.octet-index (omega arith)) c.loop-octet.invariant c.put_octet-last.ensures

pub returns : goal.returns
unfolding bits
returns c =
    let run = c.args.run.now in
    let e : drop c.loop-octet.octet-index run ≡ [] = drop_of_length-le run {i = c.loop-octet.octet-index} c.loop-octet-test.false in
    marked_end (rw e at c.loop-octet.invariant)
