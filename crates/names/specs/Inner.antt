-- Inner: one position of those that are kept.
-- Assumes nothing.
use Rattle.std.specs.Prelude.{ℕ, ◌-◌, ◌/◌, ◌^◌, Bool, true, Option, Some, None}
use Rattle.octets.specs.Bits.{odd}

-- whether a position, counted from 1, is kept
abbrev pub kept_place : Option ℕ → ℕ → Bool
kept_place None q = true
kept_place (Some bits) q = odd (bits / 2 ^ (q - 1))
