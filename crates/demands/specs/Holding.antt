-- To be believed: what an own table and wishes may hold, rule by rule.
-- Assumes nothing.
use Rattle.std.specs.Prelude.{ℕ, ◌≤◌, true, ◌≡◌, length}
use mathlib.Core.List.{List, Memᴰ}
use Rattle.tree.specs.Codes.{field_base, field_codes, field_behind}
use Rattle.tree.specs.Fields.{is_in, has_spar}
use Rattle.tree.specs.Form.{Fine, field_form}
use Rattle.meaning.specs.Minimal.{field_minimal}
use Rattle.names.specs.Named.{standard_code}
use Rattle.choice.specs.Wishes.{Wish, wishes_of, records_of, wish_codes}

-- an S field in minimal form that fills its octets, at most 61 of them, with named parameters only and no non-standard bit
pub record MayHold (t : List ℕ) : Type 0 where
  pub few : length t ≤ 61
  pub form : field_form t 0 ≡ Fine
  pub whole : field_behind t 0 ≡ length t
  pub minimal : field_minimal t 0 ≡ true
  pub standard : (x : ℕ) → is_in x (field_codes (field_base 2) t 0) ≡ true → standard_code x ≡ true

-- at most 16 records, packed and filling their run, of ready (0 or 1), length, and such a field with at least one SPar(1)
pub record MayWish (run : List ℕ) : Type 0 where
  pub few : length (wishes_of run) ≤ 16
  pub filled : records_of (wishes_of run) ≡ run
  pub field : (w : Wish) → Memᴰ w (wishes_of run) → MayHold w.field
  pub spar : (w : Wish) → Memᴰ w (wishes_of run) → has_spar (wish_codes w) ≡ true
