-- To be believed: what each public function promises, in the words that its `ensures` and the demands cite.
-- Assumes nothing.
use Rattle.std.specs.Prelude.{ℕ, List, ◌≡◌}
use Rattle.octets.specs.Bits.{bits, number}
use Rattle.fcs.specs.Division.{fcs}

-- fcs_of
abbrev pub TellsFcs : List ℕ → ℕ → Type 0
TellsFcs run r = r ≡ number (fcs (bits run))
