-- Inner: codes stored one after the other in a list of numbers or of octets, behind those stored before.
-- Assumes nothing.
use Rattle.std.specs.Prelude.{ℕ, ◌+◌, ◌*◌, List, [], ◌∷◌, ◌≡◌, length, set}
use Rattle.std.proofs.lemmas.List.Edits.{sets}
use Rattle.tree.specs.Fields.{fours}
use Rattle.fill.specs.declared.Tally.{Tally}

-- the codes that a field among the 64 octets of a message can give, 7 to an octet, and those of two fields
abbrev pub most_of_field : ℕ
most_of_field = 448

abbrev pub most_codes : ℕ
most_codes = 2 * most_of_field

-- a list of numbers, and one of octets, with a code stored behind n others, where there is room
abbrev pub set_number : List ℕ → ℕ → ℕ → List ℕ
set_number list n code = set list n code

abbrev pub set_fours : List ℕ → ℕ → ℕ → List ℕ
set_fours list n code = sets list (4 * n) (fours (code ∷ []))

-- a list with codes stored behind n others, where it stores one so
unfoldable pub laid : {A : Type 0} → (List A → ℕ → ℕ → List A) → List A → ℕ → List ℕ → List A
laid stored list n [] = list
laid stored list n (c ∷ cs) = laid stored (stored list n c) (n + 1) cs

-- the codes cs are stored behind the n before, and reading has come to the place end
pub record Fills {A : Type 0} (stored : List A → ℕ → ℕ → List A) (cs : List ℕ) (end : ℕ) (list₀ : List A) (n : ℕ) (list₁ : List A) (r : Tally) : Type 0 where
  pub count : r.count ≡ n + length cs
  pub list : list₁ ≡ laid stored list₀ n cs
  pub at : r.at ≡ end
