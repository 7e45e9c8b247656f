-- `frame::with_zeros` meets its contract. The loop's invariant: zeros were put in up to a place (`Zeroing`). Assumes nothing.
use Prim.Native.Nat.{ℕ, ◌+◌, ◌≤◌}
use mathlib.Core.Path.{◌≡◌}
use native.Mathlib.Omega.{arith}
use lib.Count.{count_trailing_zeros}
use Rattle.frame.proofs.Widening.{Zeroing, zeroing_none, zeroing_few, word_small, zeroing_end, behind_most, up_small, zeroing_turn}
use Rattle.frame.proofs.with_zeros.Goals as goal

-- the place behind the next five ones
behind : {start word more place found : ℕ} → Zeroing start word more place found → (found ≡ 0 → ⊥) → place + (count_trailing_zeros 32 found + 5) ≤ 14
behind z some = omega (arith, behind_most z some, zeroing_few z)

pub loop-found-init : goal.loop-found-init
loop-found-init c = zeroing_none c.requires

pub overflow_shr-found : goal.overflow_shr-found
overflow_shr-found c = omega (arith, behind c.loop-found.invariant c.loop-found-test.true)

pub overflow_add-place : goal.overflow_add-place
overflow_add-place c = omega (arith, behind c.loop-found.invariant c.loop-found-test.true)

pub overflow_shr-word : goal.overflow_shr-word
overflow_shr-word c = omega (arith, behind c.loop-found.invariant c.loop-found-test.true)

pub overflow_shl-word : goal.overflow_shl-word
overflow_shl-word c = omega (arith, behind c.loop-found.invariant c.loop-found-test.true)

pub overflow_add-word : goal.overflow_add-word
overflow_add-word c = let z = c.loop-found.invariant in omega (arith, word_small z, up_small z c.loop-found-test.true)

pub overflow_add-place-in-loop-found : goal.overflow_add-place-in-loop-found
overflow_add-place-in-loop-found c = omega (arith, behind c.loop-found.invariant c.loop-found-test.true)

pub overflow_add-more : goal.overflow_add-more
overflow_add-more c = omega (arith, zeroing_few c.loop-found.invariant)

pub loop-found-smaller : goal.loop-found-smaller
loop-found-smaller c = omega (arith, behind c.loop-found.invariant c.loop-found-test.true)

pub loop-found-preserved : goal.loop-found-preserved
loop-found-preserved c = zeroing_turn c.loop-found.invariant c.loop-found-test.true

pub returns : goal.returns
returns c = zeroing_end c.loop-found.invariant c.loop-found-test.false
