-- To be believed: what each public function promises, in the words that its `ensures` and the demands cite.
-- Assumes nothing.
use Rattle.std.specs.Prelude.{ℕ, Bool, List, ◌≡◌}
use Rattle.tree.specs.Fields.{codes_in, all_in, has_first}
use Rattle.tree.specs.Wide.{codes_wide}
use Rattle.tree.specs.declared.Field.{Field}

-- has_first
abbrev pub TellsFirst : List ℕ → ℕ → Field → ℕ → Bool → Type 0
TellsFirst s at field q r = r ≡ has_first field s at q

-- lies_within
abbrev pub TellsWithin : List ℕ → ℕ → List ℕ → ℕ → Field → Bool → Type 0
TellsWithin s i t j field r = r ≡ all_in (codes_in field s i) (codes_in field t j)

-- lies_within_far
abbrev pub TellsWithinFar : List ℕ → ℕ → List ℕ → ℕ → Field → Bool → Type 0
TellsWithinFar s i t j field r = r ≡ all_in (codes_in field s i) (codes_wide field t j)
