-- The positions of the first octet of a field.
-- Assumes nothing.
use Prim.Native.Nat.{ℕ, ◌+◌, ◌-◌, ◌/◌, ◌^◌, ◌≤◌, ◌<◌}
use mathlib.Core.Bool.{Bool, true, false}
use mathlib.Core.List.{List}
use mathlib.Core.Path.{◌≡◌, refl, ◌∙◌}
use native.Mathlib.Omega.{arith}
use borrow.Author.Tests.{le-ltb, lt-ltb}
use lib.Dec.{ltb}
use lib.ListN.{length, get_or}
use Rattle.octets.specs.Bits.{odd}
use Rattle.octets.specs.Places.{pick}
use Rattle.tree.specs.Block.{set_bits, numbers, behind}
use Rattle.tree.specs.Codes.{rest_codes, field_codes}
use Rattle.within.specs.Pairing.{next_place}
use Rattle.tree.specs.Fields.{base_of, codes_in, is_in, has_first}
use Rattle.tree.specs.declared.Field.{Field}
use Rattle.within.proofs.Apart.{from_ascending, in_front}
use Rattle.tree.proofs.Ascending.{numbers-ascending}
use Rattle.within.proofs.Beside.{rest_from}
use Rattle.tree.proofs.Lowest.{in_bits, codes_long}
use Rattle.tree.proofs.Wide.{low_short}
use Rattle.within.proofs.Taking.{numbers_next}

-- such a position is a code of the field exactly if its bit is set there
first_in : (b : ℕ) (l : List ℕ) (at q : ℕ) → length l ≤ 64 → 0 < q → q < 8 → is_in (b + q) (field_codes b l at) ≡ odd (get_or l at 0 / 2 ^ (q - 1))
unfolding field_codes
first_in b l at q h k less =
    let n : b + (q - 1) + 1 ≡ b + q = omega arith in
    in_front (b + q) (b + 512) (numbers 7 128 b l at) (rest_codes b l (behind 128 l at)) (omega arith) (rest_from b l (behind 128 l at) (low_short l h))
    ∙ rw (numbers_next 7 128 b l at)
    (in_front (b + q) (b + 8) (set_bits 7 b (get_or l at 0)) (numbers 7 128 (b + 7) l (next_place 128 l at)) (omega arith)
    (from_ascending (b + 8) (b + 7) _ (omega arith) (numbers-ascending 7 128 (b + 7) l (next_place 128 l at))))
    ∙ rw n at (in_bits 7 b (q - 1) (get_or l at 0) (omega arith))

module _ (f : Field) (l : List ℕ) (at q : ℕ) where
  -- in more octets than a message has there is none
  pub first_long : 64 < length l → has_first f l at q ≡ false
  unfolding has_first is_in
  first_long h = rw (codes_long f l at h) (go (ltb 0 q) (ltb q 8))
    where
      go : (s t : Bool) → pick s (pick t false false) false ≡ false
      go true true = refl
      go true false = refl
      go false t = refl

  -- it has positions 1 to 7
  pub first_low : q ≡ 0 → has_first f l at q ≡ false
  unfolding has_first
  first_low h = rw (le-ltb 0 q (omega arith))

  pub first_high : 7 < q → has_first f l at q ≡ false
  unfolding has_first
  first_high h = rw (lt-ltb 0 q (omega arith), le-ltb q 8 (omega arith))

  pub first_bit : length l ≤ 64 → (q ≡ 0 → ⊥) → q ≤ 7 → has_first f l at q ≡ odd (get_or l at 0 / 2 ^ (q - 1))
  unfolding has_first codes_in
  first_bit h z k =
      let p : 0 < q = omega arith in
      let r : q < 8 = omega arith in
      rw (lt-ltb 0 q p, lt-ltb q 8 r, le-ltb 64 (length l) h) (first_in (base_of f) l at q h p r)
