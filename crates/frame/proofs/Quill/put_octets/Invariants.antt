-- `frame::Quill::put_octets` meets its contract. The loop's invariant: all but the bits of the octets from here on were put (`Marked`).
-- Assumes nothing.
use lib.ListN.{drop}
use Rattle.octets.specs.Bits.{bits}
use Rattle.frame.proofs.Marking.{Marked}
use Rattle.frame.proofs.Quill.put_octets.Given as goal

abbrev pub invariant-loop-octet : goal.invariant-loop-octet
invariant-loop-octet l = Marked (bits l.run) (bits (drop l.octet-index l.run)) l.start l.initial.self l.last l.self
