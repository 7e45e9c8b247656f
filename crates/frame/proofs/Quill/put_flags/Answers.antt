-- `frame::Quill::put_flags` meets its contract. The loop's invariant: the flags that were counted were put. A flag is the eight lowest bits of 126.
-- Assumes nothing.
use Prim.Native.Nat.{suc, min, ◌+◌, ◌*◌}
use mathlib.Core.Path.{◌≡◌}
use native.Mathlib.Omega.{arith}
use Rattle.frame.specs.Frame.{flags}
use Rattle.frame.proofs.Flags.{length_flags}
use Rattle.frame.proofs.Quills.{puts_none, puts_flag, room_then}
use Rattle.frame.proofs.Quill.put_flags.Goals.{then-k-count, else-k-count}
use Rattle.frame.proofs.Quill.put_flags.Goals as goal

pub loop-k-init : goal.loop-k-init
unfolding flags
loop-k-init c =
    let e : min 0 c.args.count ≡ 0 = omega arith in
    rw e (puts_none c.args.self.now)

pub put_low-requires : goal.put_low-requires
put_low-requires c =
    let n = min c.loop-k.k c.args.count in
    (omega arith, omega arith, room_then (c.args.count * 8) 8 c.requires.1 c.loop-k.invariant (omega (arith, c.if-k-count.true, length_flags n)))

pub loop-k-preserved : goal.loop-k-preserved
loop-k-preserved c =
    let k = c.loop-k.k in
    let n = c.args.count in
    elim c.if-k-count.branch [
      | then-k-count w ↦
          let e : suc (min k n) ≡ min (k + 1) n = omega (arith, w.if-k-count.true) in
          rw w.self-is (rw e at (puts_flag (min k n) c.loop-k.invariant w.put_low.ensures))
      | else-k-count w ↦
          let e : min k n ≡ min (k + 1) n = omega (arith, w.if-k-count.false) in
          rw w.self-is (rw e at c.loop-k.invariant)
    ]

pub returns : goal.returns
returns c =
    let e : min c.loop-k.k c.args.count ≡ c.args.count = omega (arith, c.loop-k-test.false, c.requires.0) in
    rw e at c.loop-k.invariant
