-- `writer::Sheet::put_block` meets its contract.
-- Assumes nothing.
use Prim.Native.Nat.{ℕ, ◌+◌, ◌-◌, ◌/◌, ◌<◌}
use mathlib.Core.Path.{ap}
use native.Mathlib.Omega.{arith}
use lib.ListN.{get_or}
use Rattle.std.proofs.lemmas.Result.{err_from_is_err_and}
use Rattle.writer.proofs.Putting.{puts_last, level_widths, Placed, placed_here, placed_far, placed_bit, blocking_base, blocking_miss, blocking_next, blocking_low, blocking_hit, blocking_over, blocking_end}
use Rattle.writer.proofs.Sheet.put_block.Goals as goal
use Rattle.writer.proofs.Sheet.put_block.Goals.{then-w-ahead+in_ok-pass_octets, else-w-ahead}

pub overflow_sub-apart : goal.overflow_sub-apart
overflow_sub-apart c = blocking_base c.loop-code.invariant c.loop-code-test.true

pub loop-code-preserved-then-apart-step-ne0 : goal.loop-code-preserved-then-apart-step-ne0
loop-code-preserved-then-apart-step-ne0 c = blocking_miss c.loop-code.invariant c.loop-code-test.true c.if-apart-step-ne0.true

pub overflow_sub-ahead : goal.overflow_sub-ahead
overflow_sub-ahead c = omega (arith, blocking_next c.loop-code.invariant c.loop-code-test.true c.if-apart-step-ne0.false)

pub overflow_sub-ahead-in-loop-code : goal.overflow_sub-ahead-in-loop-code
overflow_sub-ahead-in-loop-code c = omega (arith, blocking_next c.loop-code.invariant c.loop-code-test.true c.if-apart-step-ne0.false)

pub returns-in_err-pass_octets : goal.returns-in_err-pass_octets
returns-in_err-pass_octets c =
    let p = err_from_is_err_and c.from_residual.result c.from_residual.ensures.1 in
    rw (p.1, ← c.width-w.ensures) (blocking_over c.loop-code.invariant c.loop-code-test.true c.if-apart-step-ne0.false c.in_err-pass_octets.ensures)

pub loop-code-preserved : goal.loop-code-preserved
loop-code-preserved c =
    let l = c.loop-code in
    let v = rw (← c.width-w.ensures) at (level_widths c.args.level) in
    let some : 0 < c.width-w.result = omega (arith, v.0) in
    let q = (get_or c.args.list.now l.code-index 0 - c.args.base) / c.args.step in
    let j = c.if-w-ahead in
    let placed : Placed c.width-w.result l.above l.octet q l.self j.self j.above j.octet j.ahead = elim j.branch [
      | then-w-ahead+in_ok-pass_octets w ↦
          rw (w.self-is, w.above-is, w.octet-is, w.ahead-is) (placed_far _ l.above l.octet q some w.if-w-ahead.true w.in_ok-pass_octets.ensures)
      | else-w-ahead w ↦ rw (w.self-is, w.above-is, w.octet-is, w.ahead-is) (placed_here _ l.above l.octet q l.self w.if-w-ahead.false)
    ] in
    let bit = placed_bit some v.1 (blocking_low l.invariant c.loop-code-test.true c.if-apart-step-ne0.false) placed in
    blocking_hit l.invariant c.loop-code-test.true c.if-apart-step-ne0.false some v.1 placed (ap (λ (n : ℕ). j.octet + n) bit.kept)

pub returns : goal.returns
returns c = rw (← c.width-w.ensures) (puts_last _ c.push.result (blocking_end c.loop-code.invariant c.loop-code-test.false) (rw c.mark.ensures at c.push.ensures))
