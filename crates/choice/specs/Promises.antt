-- To be believed: what each public function promises, in the words that its `ensures` and the demands cite.
-- Assumes nothing.
use Rattle.std.specs.Prelude.{ℕ, Bool, List, [], ◌≡◌, Option, Result}
use Rattle.tree.specs.Fields.{codes_in}
use Rattle.tree.specs.declared.Field.TheVariants.{Standard}
use Rattle.good.specs.Good.{good_field}
use Rattle.choice.specs.Wishes.{wishes_of, standard_codes}
use Rattle.choice.specs.Tables.{tables_no, tables_told}
use Rattle.choice.specs.Choosing.{unheard, choice, choice_told, far_codes}
use Rattle.choice.specs.Judging.{verdict, nak_of}
use Rattle.choice.specs.declared.TablesRefusal.{TablesRefusal}
use Rattle.choice.specs.declared.Pick.{Pick}
use Rattle.choice.specs.declared.ModeRefusal.{ModeRefusal}

-- is_good
abbrev pub TellsGood : List ℕ → Bool → Type 0
TellsGood t r = r ≡ good_field t

-- check_tables
abbrev pub ChecksTables : List ℕ → List ℕ → Result (Unit {0}) TablesRefusal → Type 0
ChecksTables own run r = tables_told r ≡ tables_no own run

-- first_ready
abbrev pub ChoosesReady : List ℕ → Option Pick → Type 0
ChoosesReady run r = choice_told r ≡ choice [] unheard run

-- first_common
abbrev pub ChoosesCommon : List ℕ → List ℕ → List ℕ → ℕ → Option Pick → Type 0
ChoosesCommon own run far place r = choice_told r ≡ choice (standard_codes own) (far_codes far place) run

-- judge_mode
abbrev pub JudgesMode : List ℕ → List ℕ → ℕ → Result (Unit {0}) ModeRefusal → Type 0
JudgesMode run s place r = nak_of r ≡ verdict (codes_in Standard s place) (wishes_of run)
