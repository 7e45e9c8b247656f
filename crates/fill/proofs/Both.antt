-- The codes of I and of S stored one after the other.
-- Assumes nothing.
use Prim.Native.Nat.{ℕ, zero, suc, ◌+◌, ◌≤◌, ◌<◌}
use mathlib.Core.Path.{◌≡◌, refl, sym}
use mathlib.Core.List.{List, [], ◌∷◌, ◌++◌, append-nil}
use native.Mathlib.Omega.{arith}
use lib.ListN.{length, get_or, length-append}
use Rattle.tree.specs.Codes.{field_base, field_codes}
use Rattle.tree.specs.declared.Field.TheVariants.{Identification, Standard}
use Rattle.tree.proofs.Few.{codes_few}
use Rattle.tree.proofs.Lowest.{codes_short}
use Rattle.fill.specs.Storing.{most_of_field}
use Rattle.fill.specs.Promises.{codes_of_both}

-- the codes that are to come behind k fields
abbrev pub to_come : List ℕ → ℕ → ℕ → ℕ → List ℕ
to_come s i j zero = field_codes (field_base 1) s i ++ field_codes (field_base 2) s j
to_come s i j (suc zero) = field_codes (field_base 2) s j
to_come s i j (suc (suc k)) = []

-- the field that is behind k others
abbrev pub field_at : ℕ → ℕ → ℕ → ℕ × ℕ
field_at i j k = get_or {A = ℕ × ℕ} ((field_base 1, i) ∷ ((field_base 2, j) ∷ [])) k (0, 0)

module _ (s : List ℕ) (i j : ℕ) where
  -- its codes come first
  pub field_first : (k : ℕ) → k < 2 → to_come s i j k ≡ field_codes (field_at i j k).0 s (field_at i j k).1 ++ to_come s i j (k + 1)
  field_first zero h = refl
  field_first (suc zero) h = sym (append-nil (field_codes (field_base 2) s j))
  field_first (suc (suc k)) h = absurd (omega arith)

  pub base_small : (k : ℕ) → k < 2 → (field_at i j k).0 ≤ field_base 2
  base_small zero h = omega arith
  base_small (suc zero) h = omega arith
  base_small (suc (suc k)) h = absurd (omega arith)

  -- before it there are few
  pub before_few : (k n : ℕ) → k < 2 → length s ≤ 64 → n + length (to_come s i j k) ≡ 0 + length (to_come s i j 0) → n ≤ most_of_field
  before_few zero n h few e = omega arith
  before_few (suc zero) n h few e =
      omega (arith, e, codes_few (field_base 1) s i, length-append (field_codes (field_base 1) s i) (field_codes (field_base 2) s j))
  before_few (suc (suc k)) n h few e = absurd (omega arith)

  -- behind both none is to come, and their codes are those of both
  pub none_left : (k : ℕ) → 2 ≤ k → to_come s i j k ≡ []
  none_left zero h = absurd (omega arith)
  none_left (suc zero) h = absurd (omega arith)
  none_left (suc (suc k)) h = refl

  pub all_to_come : length s ≤ 64 → to_come s i j 0 ≡ codes_of_both s i j
  all_to_come few = rw (codes_short Identification s i few refl, codes_short Standard s j few refl)
