-- To be believed: what each public function promises, in the words that its `ensures` and the demands cite.
-- Assumes nothing.
use Rattle.std.specs.Prelude.{ℕ, ◌≡◌, Option}
use Rattle.names.specs.Masks.{npar_places, spar_places}
use Rattle.names.specs.declared.Keep.{Keep}

-- npar_places
abbrev pub TellsNparPlaces : Keep → ℕ → Option ℕ → Type 0
TellsNparPlaces keep under r = r ≡ npar_places keep under

-- spar_places
abbrev pub TellsSparPlaces : Keep → ℕ → Option ℕ → Type 0
TellsSparPlaces keep under r = r ≡ spar_places keep under
