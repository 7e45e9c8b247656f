-- To be believed: what each public function promises, in the words that its `ensures` and the demands cite.
-- Assumes nothing.
use Rattle.std.specs.Prelude.{ℕ, Bool, Option, List, ◌≡◌, get_or, take, drop}
use Rattle.std.specs.Borrow.{Bor}
use Rattle.octets.specs.Bits.{bits, number}
use Rattle.octets.specs.Lay.{over}
use Rattle.octets.specs.Places.{bit_at, is_one, place_after}
use Rattle.octets.specs.declared.BitReader.{BitReader}

-- bit_at
abbrev pub TellsBit : List ℕ → ℕ → Option Bool → Type 0
TellsBit run at r = r ≡ bit_at run at

-- is_one
abbrev pub TellsOne : Option Bool → Bool → Type 0
TellsOne b r = r ≡ is_one b

-- place_after
abbrev pub TellsPlaceAfter : List ℕ → ℕ → ℕ → Type 0
TellsPlaceAfter run at r = r ≡ place_after run at

-- BitReader::new
abbrev pub IsReader : Bor (List ℕ) → ℕ → BitReader → Type 0
IsReader run at r = (r.run ≡ run) × (r.at ≡ at)

-- BitReader::next_bit
abbrev pub TellsNextBit : BitReader → Option Bool → Type 0
TellsNextBit r b = TellsBit r.run.now r.at b

-- BitReader::moved_on
abbrev pub IsMovedOn : BitReader → BitReader → Type 0
IsMovedOn r q = IsReader r.run (place_after r.run.now r.at) q

-- bit_after
abbrev pub TellsBitAfter : List ℕ → ℕ → Option Bool → Type 0
TellsBitAfter run at b = TellsBit run (place_after run at) b

-- octet_or_zero
abbrev pub TellsOctetOrZero : List ℕ → ℕ → ℕ → Type 0
TellsOctetOrZero run i r = r ≡ get_or run i 0

-- octet_at
abbrev pub TellsOctet : List ℕ → ℕ → ℕ → Type 0
TellsOctet run at r = r ≡ number (take 8 (drop at (bits run)))

-- copy_front
abbrev pub CopiesFront : List ℕ → ℕ → List ℕ → List ℕ → Type 0
CopiesFront from count to₀ to₁ = to₁ ≡ over (take count from) to₀
