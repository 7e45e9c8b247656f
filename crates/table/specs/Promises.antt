-- To be believed: what each public function promises, in the words that its `ensures` and the demands cite.
-- Assumes nothing.
use Rattle.std.specs.Prelude.{ℕ, Bool, ◌≡◌}
use Rattle.table.specs.Phases.{carried_by, kind_number, is_mode, is_over}
use Rattle.table.specs.Rows.{act_of}
use Rattle.table.specs.declared.Phase.{Phase}
use Rattle.table.specs.declared.Kind.{Kind}
use Rattle.table.specs.declared.Carried.{Carried}
use Rattle.table.specs.declared.Heard.{Heard}
use Rattle.table.specs.declared.Act.{Act}
use Rattle.table.specs.declared.Settings.{Settings}

-- Phase::carried
abbrev pub TellsCarried : Phase → Carried → Type 0
TellsCarried phase r = r ≡ carried_by phase

-- Kind::number
abbrev pub TellsNumber : Kind → ℕ → Type 0
TellsNumber kind r = r ≡ kind_number kind

-- Kind::is_mode
abbrev pub TellsMode : Kind → Bool → Type 0
TellsMode kind r = r ≡ is_mode kind

-- Kind::is_over
abbrev pub TellsOver : Kind → Bool → Type 0
TellsOver kind r = r ≡ is_over kind

-- act_of
abbrev pub TellsAct : Kind → Settings → Bool → Heard → Act → Type 0
TellsAct kind settings asked heard r = r ≡ act_of kind settings asked heard
