-- The parts of a good field.
-- Assumes nothing.
use Prim.Native.Nat.{ℕ, ◌≤◌}
use mathlib.Core.Bool.{true}
use mathlib.Core.List.{List, [], ◌∷◌, ◌++◌}
use mathlib.Core.Path.{◌≡◌, refl}
use borrow.Author.Tests.{leb-true, eqb-true}
use lib.Dec.{leb, eqb}
use lib.ListN.{length}
use Rattle.tree.specs.Codes.{field_base, field_codes, field_behind}
use Rattle.tree.specs.Form.{Fine, is_fine, field_form}
use Rattle.tree.proofs.Forms.{is_fine_lem}
use Rattle.meaning.specs.Minimal.{field_minimal}
use Rattle.names.specs.Named.{standard_code}
use Rattle.octets.proofs.Laws.{both_true}
use Rattle.good.specs.Good.{most_standard, all_standard, good_field}

pub record GoodParts (t : List ℕ) : Type 0 where
  pub short : length t ≤ most_standard
  pub fine : field_form t 0 ≡ Fine
  pub whole : field_behind t 0 ≡ length t
  pub minimal : field_minimal t 0 ≡ true
  pub standard : all_standard (field_codes (field_base 2) t 0) ≡ true

-- a good field has them
pub good_parts : (t : List ℕ) → good_field t ≡ true → GoodParts t
unfolding good_field
good_parts t h =
    let a = both_true (leb (length t) most_standard) _ h in
    let b = both_true (is_fine (field_form t 0)) _ a.1 in
    let c = both_true (eqb (field_behind t 0) (length t)) _ b.1 in
    let d = both_true (field_minimal t 0) (all_standard (field_codes (field_base 2) t 0)) c.1 in
    record {
      short = leb-true (length t) most_standard a.0;
      fine = is_fine_lem (field_form t 0) b.0;
      whole = eqb-true (field_behind t 0) (length t) c.0;
      minimal = d.0;
      standard = d.1;
    }

-- codes of two lists that are all standard are so in each
pub all_split : (a r : List ℕ) → all_standard (a ++ r) ≡ true → (all_standard a ≡ true) × (all_standard r ≡ true)
unfolding all_standard
all_split [] r h = (refl, h)
all_split (c ∷ a) r h =
    let p = both_true (standard_code c) (all_standard (a ++ r)) h in
    let q = all_split a r p.1 in
    (rw p.0 q.0, q.1)
