-- `octets::copy_front` meets its contract. Once the count, the octets or the room are used up, the rest of the octets changes nothing (`over_cut`).
-- Assumes nothing.
use mathlib.Core.Path.{◌∙◌, ap, refl}
use native.Mathlib.Omega.{arith}
use lib.ListN.{length}
use Rattle.octets.specs.Lay.{over}
use Rattle.octets.proofs.Laying.{length_over, over_turn, over_cut}
use Rattle.octets.proofs.copy_front.Goals as goal

pub loop-j-init : goal.loop-j-init
unfolding over
loop-j-init c = (omega arith, refl, refl)

pub bounds-from-j : goal.bounds-from-j
bounds-from-j c = omega (arith, c.min.ensures, c.min-n.ensures)

pub bounds-to-j : goal.bounds-to-j
bounds-to-j c = omega (arith, c.min.ensures, c.min-n.ensures)

pub loop-j-preserved : goal.loop-j-preserved
loop-j-preserved c =
    let a = c.args in
    let i = c.loop-j.invariant in
    let e = over_turn a.from.now a.to.now c.loop-j.to c.loop-j.j (omega (arith, c.min.ensures, c.min-n.ensures)) (omega (arith, c.min.ensures, c.min-n.ensures)) i.2 in
    (omega arith, ap length e ∙ length_over _ _, e)

pub shape_of-to : goal.shape_of-to
shape_of-to c = c.loop-j.invariant.1

pub returns : goal.returns
returns c =
    let a = c.args in
    c.loop-j.invariant.2 ∙ over_cut c.loop-j.j a.count a.from.now a.to.now (omega (arith, c.min.ensures, c.min-n.ensures))
