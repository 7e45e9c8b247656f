-- To be believed: what each public function promises, in the words that its `ensures` and the demands cite.
-- Assumes nothing.
use Rattle.std.specs.Prelude.{ℕ, ◌+◌, ◌-◌, ◌%◌, Bool, List, [], Option, Result, ◌≡◌, ltb, length, get_or, set}
use Rattle.std.specs.Iterator.{YieldsFirst}
use Rattle.octets.specs.Places.{pick}
use Rattle.tree.specs.Block.{numbers, behind, ended}
use Rattle.tree.specs.Levels.{width_of, mark_of}
use Rattle.tree.specs.Codes.{group_behind, field_behind}
use Rattle.tree.specs.Form.{told, form_of, told_end, is_fine}
use Rattle.tree.specs.Fields.{most_octets, base_of, codes_in, form_in, has_spar}
use Rattle.tree.specs.Wide.{field_fits}
use Rattle.tree.specs.declared.Field.{Field}
use Rattle.tree.specs.declared.Field.TheVariants.{Standard}
use Rattle.tree.specs.declared.Fault.{Fault}
use Rattle.tree.specs.declared.Level.{Level}

-- Level::width
abbrev pub TellsWidth : Level → ℕ → Type 0
TellsWidth level r = r ≡ width_of level

-- Level::mark
abbrev pub TellsMark : Level → ℕ → Type 0
TellsMark level r = r ≡ mark_of level

-- positions: the list that is left to give
abbrev pub TellsPositions : List ℕ → ℕ → Level → List ℕ → Type 0
TellsPositions s at level r = r ≡ pick (ltb most_octets (length s)) [] (numbers (width_of level) (mark_of level) 0 s at)

-- SetPositions::next: the first that is left
abbrev pub GivesPositions : List ℕ → Option ℕ → List ℕ → Type 0
GivesPositions = YieldsFirst (λ s. s)

-- bit8
abbrev pub TellsBit8 : List ℕ → ℕ → Bool → Type 0
TellsBit8 s e r = r ≡ ended s e

-- mark_last
abbrev pub MarksLast : List ℕ → ℕ → List ℕ → Type 0
MarksLast out₀ e out₁ = out₁ ≡ pick (ltb 0 e) (set out₀ (e - 1) (get_or out₀ (e - 1) 0 % 128 + 128)) out₀

-- is_fine
abbrev pub TellsFine : Result (Unit {0}) Fault → Bool → Type 0
TellsFine form r = r ≡ is_fine (form_of form)

-- field_form
abbrev pub TellsForm : List ℕ → ℕ → Result ℕ Fault → Type 0
TellsForm s at r = r ≡ told (form_in s at) (field_behind s at)

-- field_end
abbrev pub TellsEnd : List ℕ → ℕ → Option ℕ → Type 0
TellsEnd s at r = r ≡ told_end (form_in s at) (field_behind s at)

-- base_of
abbrev pub TellsBase : Field → ℕ → Type 0
TellsBase field r = r ≡ base_of field

-- has_spar
abbrev pub TellsSpar : List ℕ → ℕ → Bool → Type 0
TellsSpar s at r = r ≡ has_spar (codes_in Standard s at)

-- top_behind
abbrev pub TellsTopBehind : List ℕ → ℕ → ℕ → Type 0
TellsTopBehind s e r = r ≡ behind 128 s e

-- block_behind
abbrev pub TellsBlockBehind : List ℕ → ℕ → ℕ → Type 0
TellsBlockBehind s e r = r ≡ behind 64 s e

-- group_behind
abbrev pub TellsGroupBehind : List ℕ → ℕ → ℕ → Type 0
TellsGroupBehind s e r = r ≡ group_behind s e

-- field_fits
abbrev pub TellsFits : List ℕ → ℕ → Bool → Type 0
TellsFits s at r = r ≡ field_fits s at
