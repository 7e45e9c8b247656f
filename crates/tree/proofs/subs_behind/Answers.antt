-- `tree::subs_behind` meets its contract. The loop's invariant: the blocks that are still announced, from `at` on, end where all do.
-- Assumes nothing.
use Prim.Native.Nat.{◌+◌, ◌%◌}
use mathlib.Core.Path.{refl, sym, ap, ◌∙◌}
use borrow.Author.Rules.{rules}
use lib.Count.{ones as ones-of}
use lib.ListN.{get_or}
use Rattle.tree.specs.Block.{announced}
use Rattle.tree.specs.Codes.{subs_behind}
use Rattle.tree.proofs.Forms.{announced_stop, announced_go, announced_out, subs_add}
use Rattle.tree.proofs.subs_behind.Goals as goal

pub returns-then-o-ge64 : goal.returns-then-o-ge64
returns-then-o-ge64 c =
    let L = c.loop-i in
    let a = c.args in
    c.blocks_behind-at.ensures
    ∙ sym (ap (λ n. subs_behind n a.s.now L.at) (announced_stop 6 64 L.i a.s.now refl (search rules) (search rules))) ∙ L.invariant

pub loop-i-preserved : goal.loop-i-preserved
loop-i-preserved c =
    let L = c.loop-i in
    let a = c.args in
    rw c.blocks_behind-at.ensures
    (sym (subs_add (ones-of (get_or a.s.now L.i 0 % 64)) (announced 6 64 a.s.now (L.i + 1)) a.s.now L.at)
    ∙ sym (ap (λ n. subs_behind n a.s.now L.at) (announced_go 6 64 L.i a.s.now refl (search rules) (search rules))) ∙ L.invariant)

pub returns : goal.returns
unfolding subs_behind
returns c =
    let L = c.loop-i in
    let a = c.args in
    rw (announced_out 6 64 L.i a.s.now (search rules)) at L.invariant
