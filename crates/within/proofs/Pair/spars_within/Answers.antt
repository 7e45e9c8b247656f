-- `within::Pair::spars_within` meets its contract. The loop's invariant: what is asked of the blocks is asked of the positions that are left (`Going`).
-- Assumes nothing.
use mathlib.Core.Path.{refl}
use Prim.Native.Nat.{◌≤◌}
use native.Mathlib.Omega.{arith}
use Rattle.tree.specs.Levels.{mark_of}
use Rattle.tree.specs.declared.Level.{Level}
use Rattle.tree.specs.declared.Level.TheVariants.{Top, Low}
use Rattle.tree.proofs.Giving.{mark_power, mark_some, width_most}
use Rattle.within.proofs.Stepping.{spars_stepped, all_lost}
use Rattle.within.proofs.Walking.{octets_less, bit_less, walk_start, walk_end, walk_octets, walk_bit, walk_lost}
use Rattle.within.proofs.Pair.spars_within.Goals as goal

-- an octet holds the mark
mark_most : (v : Level) → mark_of v ≤ 256
mark_most Top = omega arith
mark_most Low = omega arith

pub returns-in_err-found : goal.returns-in_err-found
returns-in_err-found g c =
    let a = c.args in
    let v = g.A.Announced.LEVEL in
    rw c.from_residual.ensures
    (all_lost (spars_stepped v a.self.s.now a.self.mine_low) (spars_stepped v a.self.t.now a.self.theirs_low) _ _ _ _ _ _ (rw c.LEVEL-level.ensures at c.in_err-found.ensures) refl)

pub walk-init : goal.walk-init
walk-init g c =
    let a = c.args in
    let v = g.A.Announced.LEVEL in
    walk_start (spars_stepped v a.self.s.now a.self.mine_low) (spars_stepped v a.self.t.now a.self.theirs_low) (rw c.LEVEL-level.ensures at c.in_ok-found.ensures)

pub returns-then-self-walk : goal.returns-then-self-walk
returns-then-self-walk g c =
    let a = c.args in
    let v = g.A.Announced.LEVEL in
    walk_end (spars_stepped v a.self.s.now a.self.mine_low) (spars_stepped v a.self.t.now a.self.theirs_low) c.walk.invariant c.if-walk-eq0.true c.if-self-walk.true

pub walk-smaller-then-walk-eq0 : goal.walk-smaller-then-walk-eq0
walk-smaller-then-walk-eq0 g c =
    let v = c.LEVEL-level.result in
    rw c.next_octets-walk.ensures (octets_less (mark_of v) _ _ _ (mark_some v) (mark_most v) c.if-self-walk.false)

pub walk-preserved-then-walk-eq0 : goal.walk-preserved-then-walk-eq0
walk-preserved-then-walk-eq0 g c =
    let a = c.args in
    let v = g.A.Announced.LEVEL in
    rw (c.next_octets-walk.ensures, c.LEVEL-level.ensures)
    (walk_octets (spars_stepped v a.self.s.now a.self.mine_low) (spars_stepped v a.self.t.now a.self.theirs_low) c.walk.invariant c.if-walk-eq0.true (mark_power v))

pub returns-in_err-found-2 : goal.returns-in_err-found-2
returns-in_err-found-2 g c =
    let a = c.args in
    let v = g.A.Announced.LEVEL in
    rw c.from_residual-in_err-found-2.ensures
    (walk_lost (spars_stepped v a.self.s.now a.self.mine_low) (spars_stepped v a.self.t.now a.self.theirs_low) c.walk.invariant (width_most v) c.if-walk-eq0.false
    (rw c.next_bit-walk.ensures at c.in_err-found-2.ensures))

pub walk-smaller : goal.walk-smaller
walk-smaller g c = rw c.next_bit-walk.ensures (bit_less _ _ c.if-walk-eq0.false)

pub walk-preserved : goal.walk-preserved
walk-preserved g c =
    let a = c.args in
    let v = g.A.Announced.LEVEL in
    let e = c.next_bit-walk.ensures in
    rw e
    (walk_bit (spars_stepped v a.self.s.now a.self.mine_low) (spars_stepped v a.self.t.now a.self.theirs_low) c.walk.invariant (width_most v) c.if-walk-eq0.false
    (rw e at c.in_ok-found-2.ensures))
