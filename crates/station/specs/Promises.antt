-- To be believed: what each public function promises, in the words that its `ensures` and the demands cite.
-- Assumes nothing.
use Rattle.std.specs.Prelude.{ℕ, List, ◌≡◌, Err, length}
use Rattle.choice.specs.Tables.{tables_told}
use Rattle.choice.specs.declared.TablesRefusal.{TablesRefusal}
use Rattle.table.specs.declared.Settings.{Settings}
use Rattle.table.specs.declared.State.{State}
use Rattle.station.specs.Stepping.{told_no, step_of, Did, begun}
use Rattle.station.specs.declared.Event.{Event}
use Rattle.station.specs.declared.Stepped.{Stepped}
use Rattle.station.specs.declared.StepRefusal.{StepRefusal}

-- begin
abbrev pub TellsBegun : ℕ → State → Type 0
TellsBegun time r = r ≡ begun time

-- StepRefusal::from: the number stays
abbrev pub RefusesTables : TablesRefusal → StepRefusal → Type 0
RefusesTables refusal r = told_no (Err r) ≡ tables_told (Err refusal)

-- step
abbrev pub Steps : State → Settings → List ℕ → List ℕ → Event → List ℕ → ℕ → List ℕ → List ℕ → Stepped → List ℕ → List ℕ → Type 0
Steps state settings own wishes event field time out₀ store₀ r out₁ store₁ =
    Did (step_of state.phase settings own wishes event field time (length out₀) (length store₀)) out₀ store₀ r out₁ store₁
