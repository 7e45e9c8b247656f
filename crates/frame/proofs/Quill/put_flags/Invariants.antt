-- `frame::Quill::put_flags` meets its contract. The loop's invariant: the flags that were counted were put. A flag is the eight lowest bits of 126.
-- Assumes nothing.
use Prim.Native.Nat.{min}
use Rattle.frame.specs.Frame.{flags}
use Rattle.frame.specs.Quill.{Puts}
use Rattle.frame.proofs.Quill.put_flags.Given as goal

abbrev pub invariant-loop-k : goal.invariant-loop-k
invariant-loop-k l = Puts (flags (min l.k l.count)) l.initial.self l.self
