-- To be believed: what each public function promises, in the words that its `ensures` and the demands cite.
-- Assumes nothing.
use Rattle.std.specs.Prelude.{ℕ, List, ◌++◌, ◌≡◌, length}
use Rattle.octets.specs.Lay.{over}
use Rattle.tree.specs.Fields.{codes_in, fours}
use Rattle.tree.specs.declared.Field.TheVariants.{Identification, Standard}

-- the codes of I at place i and then those of S at place j
abbrev pub codes_of_both : List ℕ → ℕ → ℕ → List ℕ
codes_of_both s i j = codes_in Identification s i ++ codes_in Standard s j

-- fill_fields
pub record FillsFields (s : List ℕ) (i j : ℕ) (list₀ octets₀ : List ℕ) (r : ℕ) (list₁ octets₁ : List ℕ) : Type 0 where
  pub count : r ≡ length (codes_of_both s i j)
  pub list : list₁ ≡ over (codes_of_both s i j) list₀
  pub octets : octets₁ ≡ over (fours (codes_of_both s i j)) octets₀
