-- `tree::Octets::ones_in` meets its contract. The loop's invariant: the ones counted so far and those that are still announced are all
-- that are announced, and these are 448 at most.
-- Assumes nothing.
use Prim.Native.Nat.{◌^◌}
use mathlib.Core.Path.{◌≡◌, ◌∙◌}
use native.Mathlib.Omega.{arith}
use borrow.Author.Rules.{rules}
use Rattle.tree.specs.Levels.{width_of}
use Rattle.tree.proofs.Forms.{announced_stop, announced_go, announced_out, announced_part, announced_most}
use Rattle.tree.proofs.Giving.{mark_power, width_most}
use Rattle.tree.proofs.Octets.ones_in.Goals as goal

pub overflow_add-ones : goal.overflow_add-ones
overflow_add-ones c =
    let a = c.args in
    let w = width_of a.level in
    let m : c.mark-mark.result ≡ 2 ^ w = c.mark-mark.ensures ∙ mark_power a.level in
    let s = a.self.run.now in
    omega (
      arith,
      announced_part w c.mark-mark.result c.loop-i.i s m (search rules),
      announced_most w c.mark-mark.result s a.e (width_most a.level) (search rules),
    )

pub returns-then-mark-o : goal.returns-then-mark-o
returns-then-mark-o c =
    let a = c.args in
    let w = width_of a.level in
    let m : c.mark-mark.result ≡ 2 ^ w = c.mark-mark.ensures ∙ mark_power a.level in
    rw (← c.mark-mark.ensures) (omega (arith, announced_stop w c.mark-mark.result c.loop-i.i a.self.run.now m (search rules) (search rules)))

pub loop-i-preserved : goal.loop-i-preserved
loop-i-preserved c =
    let a = c.args in
    let w = width_of a.level in
    let m : c.mark-mark.result ≡ 2 ^ w = c.mark-mark.ensures ∙ mark_power a.level in
    omega (arith, announced_go w c.mark-mark.result c.loop-i.i a.self.run.now m (search rules) (search rules))

pub returns : goal.returns
returns c =
    let a = c.args in
    rw (← c.mark-mark.ensures) (omega (arith, announced_out (width_of a.level) c.mark-mark.result c.loop-i.i a.self.run.now c.loop-i-test.false))
