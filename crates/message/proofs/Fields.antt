-- The form of a message with fields, put together from the forms of I, of S and of what is behind S.
-- Assumes nothing.
use Prim.Native.Nat.{ℕ, ◌<◌, ◌≤◌}
use mathlib.Core.Path.{◌≡◌, refl}
use mathlib.Core.Bool.{Bool, true, false}
use mathlib.Core.List.{List}
use native.Mathlib.Omega.{arith}
use borrow.Author.Tests.{eqb-true}
use lib.Dec.{eqb}
use lib.ListN.{length}
use Rattle.octets.specs.Places.{pick}
use Rattle.tree.specs.Form.{Form, Fine, Left, and_then, field_form}
use Rattle.tree.proofs.Forms.{and_parts, field_fits}
use Rattle.message.specs.Nonstandard.{ns_announced, tail_form}
use Rattle.message.specs.Reader.{standard_at, tail_at}

-- the form of all of it
abbrev pub whole : List ℕ → Form
whole l = and_then (field_form l 1) (and_then (field_form l (standard_at l)) (tail_form l (tail_at l)))

-- where it is fine, so is each part
pub parts_fine : (l : List ℕ) → whole l ≡ Fine → (field_form l 1 ≡ Fine) × (field_form l (standard_at l) ≡ Fine) × (tail_form l (tail_at l) ≡ Fine)
parts_fine l h =
    let a = and_parts (field_form l 1) _ h in
    let b = and_parts (field_form l (standard_at l)) (tail_form l (tail_at l)) a.1 in
    (a.0, b.0, b.1)

-- there is an octet of I, and what is behind S begins within the octets
pub parts_fit : (l : List ℕ) → whole l ≡ Fine → (1 < length l) × (tail_at l ≤ length l)
parts_fit l h = let a = parts_fine l h in omega (arith, field_fits l 1 a.0, field_fits l (standard_at l) a.1)

-- where no NS is announced, nothing stands behind S
pub nothing_behind : (l : List ℕ) (e : ℕ) → ns_announced l ≡ false → tail_form l e ≡ Fine → e ≡ length l
unfolding tail_form
nothing_behind l e a h = go (eqb e (length l)) refl (rw a at h)
  where
    go : (t : Bool) → eqb e (length l) ≡ t → pick t Fine (Left e) ≡ Fine → e ≡ length l
    go true q f = eqb-true e (length l) q
    go false q f = absurd (let z : ◌≡◌ {A = ℕ} 0 1 = cc in omega arith)
