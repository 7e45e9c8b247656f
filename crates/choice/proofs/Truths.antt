-- What is known of tests that are true or false together.
-- Assumes nothing.
use mathlib.Core.Bool.{Bool, true, false}
use mathlib.Core.Path.{◌≡◌, refl, sym, ap, ◌∙◌}
use native.Mathlib.Omega.{arith}
use Rattle.octets.specs.Bits.{num}
use Rattle.octets.specs.Places.{both}

-- no test is both false and true
pub never : {A : Type 0} → false ≡ true → A
never e = absurd (omega (arith, ap num e))

-- a test that is not true is false
pub not_so : (t : Bool) → (t ≡ true → ⊥) → t ≡ false
not_so true h = absurd (h refl)
not_so false h = refl

-- two tests that tell each other are the same
pub same_tests : (s t : Bool) → (s ≡ true → t ≡ true) → (t ≡ true → s ≡ true) → s ≡ t
same_tests true t f g = sym (f refl)
same_tests false true f g = g refl
same_tests false false f g = refl

-- with one that is false both do not
pub both_false : (t : Bool) → both t false ≡ false
both_false true = refl
both_false false = refl

-- two tests do not both hold exactly if with the second the first is false
pub both_not : (s t : Bool) → (t ≡ true → s ≡ false) → both s t ≡ false
both_not true true h = h refl
both_not true false h = refl
both_not false t h = refl

pub not_both : (s t : Bool) → both s t ≡ false → t ≡ true → s ≡ false
not_both true t q p = sym p ∙ q
not_both false t q p = refl
