-- To be believed: a message as it came, with only its I struck.
-- Assumes nothing.
use Rattle.std.specs.Prelude.{ℕ, List, ◌++◌, take, drop}
use Rattle.tree.specs.Codes.{field_base, field_codes}
use Rattle.message.specs.Reader.{standard_at}
use Rattle.meaning.specs.Written.{written}
use Rattle.names.specs.Named.{named_code}
use Rattle.names.specs.Masks.{only}

-- octet 1, the named parameters of I in minimal form, and S and NS as they came
unfoldable pub only_i_struck : List ℕ → List ℕ
only_i_struck m = take 1 m ++ (written (field_base 1) (only named_code (field_codes (field_base 1) m 1)) ++ drop (standard_at m) m)
