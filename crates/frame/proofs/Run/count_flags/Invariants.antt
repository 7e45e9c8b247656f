-- `frame::Run::count_flags` meets its contract. The loop's invariant: what was counted, and what is counted from here on, is the whole. Assumes nothing.
use Prim.Native.Nat.{◌+◌, ◌-◌, ◌*◌, ◌≤◌}
use mathlib.Core.Path.{◌≡◌}
use lib.ListN.{drop}
use Rattle.frame.specs.Frame.{flags_at}
use Rattle.frame.specs.Run.{seen}
use Rattle.frame.proofs.Run.count_flags.Given as goal

abbrev pub invariant-loop-k : goal.invariant-loop-k
invariant-loop-k l =
    (l.start + l.k * 8 ≤ l.self.count) × (l.k + flags_at (l.most - l.k) (drop (l.start + l.k * 8) (seen l.self)) ≡ flags_at l.most (drop l.start (seen l.self)))
