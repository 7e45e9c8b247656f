-- To be believed: a standard field that an own table or a wish may hold (RULES, Own table, wishes, choice): well-formed,
-- filling its octets, in minimal form, at most 61 octets, with named parameters only and no non-standard bit.
-- Assumes nothing.
use Rattle.std.specs.Prelude.{ℕ, Bool, true, List, [], ◌∷◌, leb, eqb, length}
use Rattle.tree.specs.Codes.{field_base, field_codes, field_behind}
use Rattle.tree.specs.Form.{is_fine, field_form}
use Rattle.octets.specs.Places.{both}
use Rattle.meaning.specs.Minimal.{field_minimal}
use Rattle.names.specs.Named.{standard_code}

-- what an MS has room for behind octet 1 and an I of two octets
abbrev pub most_standard : ℕ
most_standard = 61

unfoldable pub all_standard : List ℕ → Bool
all_standard [] = true
all_standard (c ∷ l) = both (standard_code c) (all_standard l)

unfoldable pub good_field : List ℕ → Bool
good_field t =
    both (leb (length t) most_standard)
    (both (is_fine (field_form t 0))
    (both (eqb (field_behind t 0) (length t))
    (both (field_minimal t 0)
    (all_standard (field_codes (field_base 2) t 0)))))
