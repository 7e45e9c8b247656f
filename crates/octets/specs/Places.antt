-- To be believed: what stands at a place of a run, counted in bits from 0, and the place after it.
-- Assumes nothing.
use Rattle.std.specs.Prelude.{ℕ, ◌+◌, Bool, true, false, Option, Some, None, List, ltb, length, get_or}
use Rattle.octets.specs.Bits.{bits}

-- a where the test holds, else b
abbrev pub pick : {A : Type 0} → Bool → A → A → A
pick true a b = a
pick false a b = b

-- two tests hold
abbrev pub both : Bool → Bool → Bool
both s t = pick s t false

-- whether a bit is a one; the end of the run is none
abbrev pub is_one : Option Bool → Bool
is_one (Some b) = b
is_one None = false

-- the bit at a place, or none at the end of the run
abbrev pub bit_at : List ℕ → ℕ → Option Bool
bit_at run at = pick (ltb at (length (bits run))) (Some (get_or (bits run) at false)) None

-- the highest place that a number of 64 bits can name
abbrev pub last_place : ℕ
last_place = 18446744073709551615

-- the place after a bit; the end of the run, and the last place of all, stay where they are
abbrev pub place_after : List ℕ → ℕ → ℕ
place_after run at = pick (ltb at last_place) (pick (ltb at (length (bits run))) (at + 1) at) at
