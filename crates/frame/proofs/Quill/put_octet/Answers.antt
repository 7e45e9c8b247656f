-- `frame::Quill::put_octet` meets its contract: the word of the last four bits and the octet is put, with its zeros or as it is (`marks_wide`).
-- Assumes nothing.
use Prim.Native.Nat.{◌+◌, ◌*◌, ◌/◌}
use mathlib.Core.Path.{◌≡◌, refl}
use native.Mathlib.Omega.{arith}
use Rattle.frame.proofs.Pens.{ready_less}
use Rattle.frame.proofs.Marking.{wide_length, marks_wide, wide_plain}
use Rattle.frame.proofs.Quill.put_octet.Goals as goal

pub put_wide-requires : goal.put_wide-requires
put_wide-requires c =
    let s = c.args in
    let z = c.with_zeros-wide.ensures in
    let n = wide_length s.octet s.last c.with_zeros-wide.result (omega arith) c.requires.0 z in
    (z.low, z.few, ready_less _ _ c.requires.1 (omega (arith, n)))

pub returns-then-starts-ne0 : goal.returns-then-starts-ne0
returns-then-starts-ne0 c =
    let p = c.put_wide.ensures in
    marks_wide c.args.octet c.args.last c.with_zeros-wide.result (omega arith) c.requires.0 c.with_zeros-wide.ensures p.0 p.1

pub put_low-requires : goal.put_low-requires
put_low-requires c =
    let s = c.args in
    let word = s.octet * 16 + s.last in
    let plain = wide_plain word c.five_starts-starts.result (omega (arith, c.requires.0)) c.five_starts-starts.ensures c.if-starts-ne0.false in
    let n = wide_length s.octet s.last (record { word = word; more = 0 }) (omega arith) c.requires.0 plain in
    (omega arith, omega arith, ready_less _ _ c.requires.1 (omega (arith, n)))

pub returns : goal.returns
returns c =
    let s = c.args in
    let word = s.octet * 16 + s.last in
    let plain = wide_plain word c.five_starts-starts.result (omega (arith, c.requires.0)) c.five_starts-starts.ensures c.if-starts-ne0.false in
    let o : word / 16 ≡ s.octet = omega (arith, c.requires.0) in
    marks_wide s.octet s.last (record { word = word; more = 0 }) (omega arith) c.requires.0 plain (rw o c.put_low.ensures) refl
