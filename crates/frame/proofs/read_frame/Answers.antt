-- `frame::read_frame` meets its contract: the three tests of refusal 1, then the frame. Assumes nothing.
use Prim.Native.Nat.{◌*◌}
use mathlib.Core.Path.{refl}
use native.Mathlib.Omega.{arith}
use borrow.Author.Tests.{lt-ltb, le-ltb}
use lib.ListN.{length}
use Rattle.frame.specs.Reader.{read_frame}
use Rattle.frame.proofs.read_frame.Goals as goal

pub returns-then-count-gt-MOST_BITS : goal.returns-then-count-gt-MOST_BITS
unfolding read_frame
returns-then-count-gt-MOST_BITS c = rw (lt-ltb _ _ c.if-count-gt-MOST_BITS.true) (record { reply = refl; output = refl })

pub returns-then-run-count : goal.returns-then-run-count
unfolding read_frame
returns-then-run-count c =
    let a = c.args in
    rw (le-ltb _ _ c.if-count-gt-MOST_BITS.false, lt-ltb (length a.run.now * 8) a.count (omega (arith, c.if-run-count.true)))
    (record { reply = refl; output = refl })

pub returns-then-out-lt-INFORMATION_ROOM : goal.returns-then-out-lt-INFORMATION_ROOM
unfolding read_frame
returns-then-out-lt-INFORMATION_ROOM c =
    let a = c.args in
    rw (le-ltb _ _ c.if-count-gt-MOST_BITS.false, le-ltb (length a.run.now * 8) a.count (omega (arith, c.if-run-count.false)), lt-ltb _ _ c.if-out-lt-INFORMATION_ROOM.true)
    (record { reply = refl; output = refl })

pub returns : goal.returns
unfolding read_frame
returns c =
    let a = c.args in
    rw (le-ltb _ _ c.if-count-gt-MOST_BITS.false, le-ltb (length a.run.now * 8) a.count (omega (arith, c.if-run-count.false)), le-ltb _ _ c.if-out-lt-INFORMATION_ROOM.false)
    c.read_whole.ensures
