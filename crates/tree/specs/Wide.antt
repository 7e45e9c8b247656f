-- To be believed: a field in any number of octets. A position above 511 has no code, since its number would be that of another parameter:
-- position 512 of NPar(2) under SPar(1) 1 (80 81, 85 times 00, C2) would be taken for SPar(2) 1 there (80 81 40 41 C0). So a field in
-- which one may stand has no codes.
-- Assumes nothing.
use Rattle.std.specs.Prelude.{ℕ, ◌+◌, ◌-◌, ◌/◌, ◌%◌, Bool, true, false, List, [], ◌∷◌, ltb, leb, drop}
use Rattle.octets.specs.Places.{pick, both}
use Rattle.tree.specs.Block.{behind}
use Rattle.tree.specs.Codes.{field_codes}
use Rattle.tree.specs.Fields.{base_of}
use Rattle.tree.specs.declared.Field.{Field}

-- the highest position that a code can tell
abbrev pub most_position : ℕ
most_position = 511

-- so many octets of a block have no higher one: 85 below level 1, where it is the first position of octet 86, and 73 at level 1, where it
-- is the last of octet 73
abbrev pub low_octets : ℕ
low_octets = most_position / 6

abbrev pub top_octets : ℕ
top_octets = most_position / 7

-- no higher one stands in an octet of a block below level 1 that is behind k others of it: behind 85 it ends the block, with its first
-- position or none
abbrev pub octet_fits : ℕ → ℕ → Bool
octet_fits k o = pick (ltb k low_octets) true (pick (ltb o 64) false (leb (o % 64) 1))

-- none stands in any block below level 1, wherever in the octets it begins; k octets of one are before
unfoldable pub low_fits : ℕ → List ℕ → Bool
low_fits k [] = true
low_fits k (o ∷ l) = both (octet_fits k o) (low_fits (pick (ltb o 64) (k + 1) 0) l)

-- none may stand in the block of level 1 at a place
abbrev pub top_fits : List ℕ → ℕ → Bool
top_fits l e = leb (behind 128 l e - e) top_octets

-- none may stand in the field at a place, nor in octets before or behind it, read as blocks below level 1
unfoldable pub field_fits : List ℕ → ℕ → Bool
field_fits l at = both (top_fits l at) (both (top_fits l (behind 128 l at)) (low_fits 0 l))

-- the codes of the field at a place; where a position above 511 may stand from there on, none
unfoldable pub codes_wide : Field → List ℕ → ℕ → List ℕ
codes_wide f l at = pick (field_fits (drop at l) 0) (field_codes (base_of f) l at) []
