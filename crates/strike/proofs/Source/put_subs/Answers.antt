-- `strike::Source::put_subs` meets its contract. The loop's invariant: all but what the positions that are left give was put (`Counting`).
-- Assumes nothing.
use mathlib.Core.Path.{◌∙◌}
use native.Mathlib.Omega.{arith}
use Rattle.tree.specs.declared.Level.TheVariants.{Low}
use Rattle.tree.proofs.Giving.{given_all}
use Rattle.strike.proofs.Going.{subs_stepped, counting_all, counting_end, counting_low, counting_fine, counting_room, counting_turn}
use Rattle.strike.proofs.Source.put_subs.Goals as goal

pub loop-t-init : goal.loop-t-init
loop-t-init c = let a = c.args in
    rw (c.into_iter-t-iterator.ensures.into_iter_gives ∙ given_all Low a.self.s.now a.e c.args.self.short c.positions-t-items.ensures)
    (counting_all (subs_stepped a.self.keep a.branch.base a.branch.places a.self.s.now) 6 64 a.self.s.now a.e (omega arith) c.args.self.short a.out.now a.start c.requires.1 c.requires.2)

pub put_sub-spot-requires : goal.put_sub-spot-requires
put_sub-spot-requires c = let a = c.args in
    let x = subs_stepped a.self.keep a.branch.base a.branch.places a.self.s.now in
    let y = c.loop-t.invariant in
    let s = c.in-Some.ensures.steps in
    let b = counting_low x y s in
    let f = counting_fine x y s in
    (f, b.0, b.1, counting_room x y s c.requires.3)

pub loop-t-preserved : goal.loop-t-preserved
loop-t-preserved c = let a = c.args in
    counting_turn (subs_stepped a.self.keep a.branch.base a.branch.places a.self.s.now) c.loop-t.invariant c.in-Some.ensures.steps c.put_sub-spot.ensures

pub returns : goal.returns
returns c = let a = c.args in
    counting_end (subs_stepped a.self.keep a.branch.base a.branch.places a.self.s.now) c.loop-t.invariant c.in-None.ensures.steps.0
