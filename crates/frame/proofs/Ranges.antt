-- What a range `a..=b` of numbers contains: those that are neither below a nor above b.
-- Assumes nothing.
use Prim.Native.Nat.{ℕ, ◌≤◌}
use mathlib.Core.Path.{◌≡◌, refl, sym, ap, ◌∙◌}
use mathlib.Core.Bool.{Bool, true, false}
use native.Mathlib.Omega.{arith}
use borrow.Author.Tests.{ltb-true, ltb-false, eqb-true, eqb-false, le-leb, lt-leb, leb-true}
use lib.Dec.{ltb, leb, eqb}
use Rattle.std.specs.Prelude.{Some, cond, ◌&&◌}
use Rattle.std.specs.Ordering.{nat_cmp, is_le, is_lt}
use Rattle.std.specs.Range.{range_inclusive_contains}
use Rattle.std.specs.declared.cmp.Ordering.TheVariants.{Less, Equal, Greater}
use Rattle.std.specs.declared.ops.RangeInclusive.{RangeInclusive}
use Rattle.octets.specs.Places.{both}
use Rattle.octets.proofs.Laws.{both_true}

le_is : (x y : ℕ) → is_le (nat_cmp x y) ≡ leb x y
le_is x y = go (ltb x y) refl (eqb x y) refl
  where
    go : (t : Bool) → ltb x y ≡ t → (u : Bool) → eqb x y ≡ u → is_le (cond t Less (cond u Equal Greater)) ≡ leb x y
    go true e u f = sym (le-leb x y (omega (arith, ltb-true x y e)))
    go false e true f = sym (le-leb x y (omega (arith, eqb-true x y f)))
    go false e false f = sym (lt-leb x y (omega (arith, ltb-false x y e, eqb-false x y f)))

both_is : (a b : Bool) → (a && b) ≡ both a b
both_is true b = refl
both_is false b = refl

-- r is the range `lo..=hi`, and t is what `contains` says of x
pub contained : (r : RangeInclusive ℕ) (x : ℕ) {lo hi : ℕ} {t : Bool} → r.start ≡ lo → r.end ≡ hi → r.exhausted ≡ false
    → t ≡ range_inclusive_contains (λ a b. Some (nat_cmp a b)) r x → t ≡ both (leb lo x) (leb x hi)
contained r x {lo} {hi} start end fresh told =
    told
    ∙ ap (λ e. is_le (nat_cmp r.start x) && cond e (is_lt (nat_cmp x r.end)) (is_le (nat_cmp x r.end))) fresh
    ∙ both_is (is_le (nat_cmp r.start x)) (is_le (nat_cmp x r.end))
    ∙ ap (λ a. both (is_le (nat_cmp a x)) (is_le (nat_cmp x r.end))) start
    ∙ ap (λ b. both (is_le (nat_cmp lo x)) (is_le (nat_cmp x b))) end
    ∙ ap (λ b. both b (is_le (nat_cmp x hi))) (le_is lo x)
    ∙ ap (both (leb lo x)) (le_is x hi)

-- a number that it contains lies between
pub between : (lo hi x : ℕ) → both (leb lo x) (leb x hi) ≡ true → (lo ≤ x) × (x ≤ hi)
between lo hi x e =
    let b = both_true (leb lo x) (leb x hi) e in
    (leb-true lo x b.0, leb-true x hi b.1)
