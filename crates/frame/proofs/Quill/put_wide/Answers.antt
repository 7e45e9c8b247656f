-- `frame::Quill::put_wide` meets its contract: eight bits and the others are put one after the other (`puts_wide`). Assumes nothing.
use Prim.Native.Nat.{◌+◌, ◌/◌, ◌%◌}
use mathlib.Core.Path.{◌≡◌, refl}
use native.Mathlib.Omega.{arith}
use lib.Pow.{shr_lt}
use Rattle.frame.proofs.Pens.{length_low_bits}
use Rattle.frame.proofs.Quills.{room_then}
use Rattle.frame.proofs.Marking.{puts_wide}
use Rattle.frame.proofs.Quill.put_wide.Goals as goal

pub put_low-requires-2 : goal.put_low-requires-2
put_low-requires-2 c =
    let more = c.args.wide.more in
    let e : more + 12 ≡ 12 + more = omega arith in
    (shr_lt more 12 (rw e c.requires.0), omega (arith, c.requires.1), room_then (8 + more) more c.requires.2 c.put_low.ensures (omega (arith, length_low_bits 8 (c.args.wide.word / 16 % 256))))

pub returns : goal.returns
returns c =
    let wide = c.args.wide in
    (puts_wide wide.word wide.more c.put_low.ensures c.put_low-2.ensures, refl)
