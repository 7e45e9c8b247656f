-- `message::ns_form` meets its contract. The loop's invariant: the block at hand decides the form. The measure is what is left of the octets.
-- Assumes nothing.
use mathlib.Core.Path.{◌≡◌, sym, ap}
use native.Mathlib.Omega.{arith}
use borrow.Author.Tests.{lt-ltb, le-ltb}
use lib.ListN.{get_or}
use Rattle.tree.specs.Form.{Form, told}
use Rattle.message.proofs.Blocks.{Block, first, missing, turn, cut, full, next}
use Rattle.message.proofs.ns_form.Goals as goal

-- a form is told as what it is
told_as : {f g : Form} → f ≡ g → told {A = Unit {0}} g tt ≡ told f tt
told_as e = ap (λ (f : Form). told {A = Unit {0}} f tt) (sym e)

pub loop-e-init : goal.loop-e-init
loop-e-init c = first c.args.s.now c.args.start

pub bounds-s-e : goal.bounds-s-e
bounds-s-e c = omega arith

pub overflow_cast-n : goal.overflow_cast-n
overflow_cast-n c = omega (arith, c.type_inv.s c.loop-e.e)

pub returns-then-n-lt-FEWEST_NS : goal.returns-then-n-lt-FEWEST_NS
returns-then-n-lt-FEWEST_NS c =
    let block : let a = c.args in let e = c.loop-e.e in Block a.s.now a.start e (get_or a.s.now e 0) = turn _ _ _ c.loop-e.invariant c.loop-e-test.true in
    simp (block.same, lt-ltb _ _ c.if-n-lt-FEWEST_NS.true)

pub returns-then-n-gt-MOST_NS : goal.returns-then-n-gt-MOST_NS
returns-then-n-gt-MOST_NS c =
    let block : let a = c.args in let e = c.loop-e.e in Block a.s.now a.start e (get_or a.s.now e 0) = turn _ _ _ c.loop-e.invariant c.loop-e-test.true in
    simp (block.same, le-ltb _ _ c.if-n-lt-FEWEST_NS.false, lt-ltb _ _ c.if-n-gt-MOST_NS.true)

pub overflow_sub-size : goal.overflow_sub-size
overflow_sub-size c = omega arith

pub overflow_sub-size-in-loop-e : goal.overflow_sub-size-in-loop-e
overflow_sub-size-in-loop-e c = omega arith

pub returns-then-size-e : goal.returns-then-size-e
returns-then-size-e c =
    let block : let a = c.args in let e = c.loop-e.e in Block a.s.now a.start e (get_or a.s.now e 0) = turn _ _ _ c.loop-e.invariant c.loop-e-test.true in
    told_as (cut _ _ _ _ block c.if-n-lt-FEWEST_NS.false c.if-n-gt-MOST_NS.false (omega arith))

pub overflow_add-e : goal.overflow_add-e
overflow_add-e c = omega arith

pub overflow_add-e-in-loop-e : goal.overflow_add-e-in-loop-e
overflow_add-e-in-loop-e c = omega arith

pub returns-then-e-size : goal.returns-then-e-size
returns-then-e-size c =
    let block : let a = c.args in let e = c.loop-e.e in Block a.s.now a.start e (get_or a.s.now e 0) = turn _ _ _ c.loop-e.invariant c.loop-e-test.true in
    told_as (full _ _ _ _ block c.if-n-lt-FEWEST_NS.false c.if-n-gt-MOST_NS.false c.if-e-size.true)

pub loop-e-smaller : goal.loop-e-smaller
loop-e-smaller c = omega arith

pub loop-e-preserved : goal.loop-e-preserved
loop-e-preserved c =
    let block : let a = c.args in let e = c.loop-e.e in Block a.s.now a.start e (get_or a.s.now e 0) = turn _ _ _ c.loop-e.invariant c.loop-e-test.true in
    next _ _ _ _ block c.if-n-lt-FEWEST_NS.false c.if-n-gt-MOST_NS.false (omega arith) c.if-e-size.false

pub returns : goal.returns
returns c = told_as (missing _ _ _ c.loop-e.invariant c.loop-e-test.false)
