-- `choice::learn::block_bits` meets its contract: octet by octet, from the last.
-- Assumes nothing.
use Prim.Native.Nat.{ℕ, ◌+◌, ◌-◌, ◌*◌, ◌%◌, ◌^◌, ◌<◌, ◌≤◌}
use mathlib.Core.List.{List}
use mathlib.Core.Path.{◌≡◌}
use native.Mathlib.Nat.{mod-lt}
use native.Mathlib.Omega.{arith}
use lib.ListN.{drop, get_or}
use lib.Pow.{pow_pos}
use Rattle.tree.specs.Block.{behind}
use Rattle.tree.specs.Levels.{width_of, mark_of}
use Rattle.tree.specs.declared.Level.{Level}
use Rattle.tree.proofs.Forms.{end_above}
use Rattle.tree.proofs.Giving.{mark_power, mark_some, width_most}
use Rattle.good.specs.Learned.{value_from}
use Rattle.good.proofs.Values.{value_none, value_turn, value_end, behind_most}
use Rattle.choice.proofs.learn.block_bits.Goals as goal

-- an octet is put below those behind it
put : (v : Level) {w m : ℕ} → w ≡ width_of v → m ≡ mark_of v → (t : List ℕ) (i end bits : ℕ) → 0 < i → i ≤ end → bits ≡ value_from w t i (end - i) % 2 ^ 32
    → bits * 2 ^ w % 2 ^ 32 + get_or t (i - 1) 0 % m ≡ value_from w t (i - 1) (end - (i - 1)) % 2 ^ 32
put v e f t i end bits = rw (e, f) (value_turn (width_of v) (mark_of v) t i end bits (mark_power v) (width_most v))

pub loop-i-init : goal.loop-i-init
loop-i-init c =
    let a = c.args in
    let m = mark_of a.level in
    (omega (arith, c.requires, end_above m a.e (drop a.e a.t.now)), omega arith, value_none c.width-w.result a.t.now a.end)

pub bounds-t-i : goal.bounds-t-i
bounds-t-i c =
    let a = c.args in
    let m = mark_of a.level in
    let far : a.e < behind m a.t.now a.e = omega (arith, c.requires, c.loop-i.invariant.1, c.loop-i-test.true) in
    omega (arith, c.loop-i.invariant.1, c.requires, behind_most m a.t.now a.e far, c.loop-i-test.true)

pub overflow_shl-bits : goal.overflow_shl-bits
overflow_shl-bits c = omega (arith, c.width-w.ensures, width_most c.args.level)

pub nonzero_rem-t : goal.nonzero_rem-t
nonzero_rem-t c = omega (arith, c.mark-m.ensures, mark_some c.args.level)

pub overflow_add-bits : goal.overflow_add-bits
overflow_add-bits c =
    let a = c.args in
    let turn = put a.level c.width-w.ensures c.mark-m.ensures a.t.now c.loop-i.i a.end c.loop-i.bits (omega (arith, c.loop-i-test.true)) c.loop-i.invariant.1 c.loop-i.invariant.2 in
    omega (arith, turn, c.from.ensures, mod-lt (value_from c.width-w.result a.t.now (c.loop-i.i - 1) (a.end - (c.loop-i.i - 1))) (pow_pos 32))

pub loop-i-preserved : goal.loop-i-preserved
loop-i-preserved c =
    let a = c.args in
    let turn = put a.level c.width-w.ensures c.mark-m.ensures a.t.now c.loop-i.i a.end c.loop-i.bits (omega (arith, c.loop-i-test.true)) c.loop-i.invariant.1 c.loop-i.invariant.2 in
    (omega (arith, c.loop-i-test.true), omega (arith, c.loop-i.invariant.1), rw c.from.ensures turn)

pub returns : goal.returns
returns c =
    let a = c.args in
    value_end (width_of a.level) (mark_of a.level) a.t.now a.e c.loop-i.i a.end c.requires c.loop-i.invariant.0 c.loop-i-test.false (rw c.width-w.ensures at c.loop-i.invariant.2)
