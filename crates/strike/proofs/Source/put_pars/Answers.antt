-- `strike::Source::put_pars` meets its contract. The loop's invariant: all but what the positions that are left give was put (`Counting`).
-- Assumes nothing.
use mathlib.Core.Path.{◌∙◌, sym}
use native.Mathlib.Omega.{arith}
use Rattle.tree.specs.declared.Level.TheVariants.{Top}
use Rattle.tree.proofs.Giving.{given_all}
use Rattle.strike.proofs.Going.{pars_none, pars_stepped, counting_all, counting_end, counting_low, counting_fine, counting_room, counting_turn}
use Rattle.strike.proofs.Source.put_pars.Goals as goal

pub returns-then-octet_or_zero-mark : goal.returns-then-octet_or_zero-mark
returns-then-octet_or_zero-mark c = let a = c.args in
    pars_none a.self.keep a.branch.base a.branch.places a.self.s.now a.e (sym c.octet_or_zero.ensures ∙ c.if-octet_or_zero-mark.true ∙ c.mark.ensures) a.out.now a.start

pub loop-q-init : goal.loop-q-init
loop-q-init c = let a = c.args in
    rw (c.into_iter-q-iterator.ensures.into_iter_gives ∙ given_all Top a.self.s.now a.e c.args.self.short c.positions-q-items.ensures)
    (counting_all (pars_stepped a.self.keep a.branch.base a.branch.places a.self.s.now) 7 128 a.self.s.now a.e (omega arith) c.args.self.short a.out.now a.start c.requires.1 c.requires.2)

pub put_par-spot-requires : goal.put_par-spot-requires
put_par-spot-requires c = let a = c.args in
    let x = pars_stepped a.self.keep a.branch.base a.branch.places a.self.s.now in
    let y = c.loop-q.invariant in
    let s = c.in-Some.ensures.steps in
    let b = counting_low x y s in
    let f = counting_fine x y s in
    (f.0, f.1, c.requires.3, b.0, b.1, counting_room x y s c.requires.4)

pub loop-q-preserved : goal.loop-q-preserved
loop-q-preserved c = let a = c.args in
    counting_turn (pars_stepped a.self.keep a.branch.base a.branch.places a.self.s.now) c.loop-q.invariant c.in-Some.ensures.steps c.put_par-spot.ensures

pub returns : goal.returns
returns c = let a = c.args in
    counting_end (pars_stepped a.self.keep a.branch.base a.branch.places a.self.s.now) c.loop-q.invariant c.in-None.ensures.steps.0
