-- `fill::put_four` meets its contract: where there is room for all four octets, they are one run laid over the list.
-- Assumes nothing.
use Prim.Native.Nat.{ℕ, ◌+◌, ◌-◌, ◌/◌, ◌%◌, ◌≤◌}
use mathlib.Core.Path.{◌≡◌, refl, sym, ◌∙◌}
use mathlib.Core.List.{List, [], ◌∷◌, append_assoc}
use native.Mathlib.Numerals.{towards_suc}
use native.Mathlib.Omega.{arith}
use lib.ListN.{length}
use lib.Seq.{sets-eq}
use Rattle.std.proofs.lemmas.List.{drop-drop}
use Rattle.tree.specs.Fields.{fours}
use Rattle.fill.proofs.Stored.{fours-length}
use Rattle.fill.proofs.put_four.Goals as goal

-- the octets of a number are the four that a code is stored as
octets_of : (c : ℕ) {o : List ℕ} → o ≡ c % 256 ∷ c / 256 % 256 ∷ c / 65536 % 256 ∷ c / 16777216 % 256 ∷ [] → o ≡ fours (c ∷ [])
unfolding fours
octets_of c e = e

pub returns-then-i-list : goal.returns-then-i-list
returns-then-i-list c =
    let a = c.args in
    let four : c.copy_from_slice.new.self ≡ fours (a.c ∷ []) = c.copy_from_slice.ensures.after ∙ rw c.to_le_bytes-octets.ensures (octets_of a.c refl) in
    let count : a.i + 4 - a.i ≡ length (fours (a.c ∷ [])) = omega (arith, fours-length (a.c ∷ [])) in
    let room : a.i + length (fours (a.c ∷ [])) ≤ length a.list.now = omega (arith, fours-length (a.c ∷ []), c.if-i-list.true) in
    rw (four, count, drop-drop) (sym (rw append_assoc at (sets-eq (fours (a.c ∷ [])) a.list.now a.i room)))

pub returns : goal.returns
unfolding fours
returns c =
    rw (
      c.put_octet-4.ensures,
      c.put_octet-3.ensures,
      c.put_octet-2.ensures,
      c.put_octet.ensures,
      c.to_le_bytes-octets.ensures,
    )
    (simp towards_suc)
