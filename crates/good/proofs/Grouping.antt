-- What stands behind the NPar(2) of a Par(2) block of S: its SPar(2) has the first position and no other, or it is not good.
-- Assumes nothing.
use Prim.Native.Nat.{ℕ, ◌+◌, ◌-◌, ◌/◌, ◌%◌, ◌^◌, ◌≤◌, ◌<◌}
use mathlib.Core.Bool.{Bool, true, false}
use mathlib.Core.List.{List, [], ◌∷◌, ◌++◌}
use mathlib.Core.Logic.{◌⊎◌, inl, inr, ⊎_elim}
use mathlib.Core.Path.{◌≡◌, refl, sym, ap, ◌∙◌}
use native.Mathlib.Nat.{div-eq_of_lt}
use native.Mathlib.Omega.{arith}
use borrow.Author.Tests.{ltb-true, ltb-false, eq-eqb, ne_eqb, eqb-true, eqb-false}
use lib.Dec.{ltb, eqb}
use lib.ListN.{length, get_or, drop}
use lib.Pow.{pow_mono}
use lib.Seq.{get_or-drop}
use Rattle.octets.specs.Bits.{num, odd}
use Rattle.octets.specs.Places.{pick}
use Rattle.tree.specs.Block.{set_bits, block_numbers, numbers, announced}
use Rattle.tree.specs.Order.{Ascending}
use Rattle.tree.proofs.Ascending.{numbers-ascending}
use Rattle.tree.proofs.Lowest.{lowest, bits_none, bits_below}
use Rattle.octets.proofs.Laws.{both_true}
use Rattle.good.specs.Goodness.{all_named}

-- ---- the only SPar(2)

-- a bit of a number below 2 is its lowest
lowest_named : (n q : ℕ) → n < 2 → odd (n / 2 ^ (q - 1)) ≡ true → q ≤ 1
lowest_named n q h e = go (ltb 1 q) refl
  where
    go : (t : Bool) → ltb 1 q ≡ t → q ≤ 1
    go true f =
        let z : n / 2 ^ (q - 1) ≡ 0 = div-eq_of_lt (omega (arith, pow_mono {i = 1} {j = q - 1} (omega (arith, ltb-true 1 q f)))) in
        absurd (omega (arith, ap num (rw z at e)))
    go false f = ltb-false 1 q f

-- so positions that ascend are none or the first
named_few : (n : ℕ) (ts : List ℕ) → n < 2 → Ascending 0 ts → all_named n ts ≡ true → (ts ≡ []) ⊎ (ts ≡ 1 ∷ [])
unfolding Ascending all_named
named_few n [] h r e = inl refl
named_few n (t ∷ []) h r e =
    let one : t ≡ 1 = omega (arith, r.0, lowest_named n t h (both_true (odd (n / 2 ^ (t - 1))) true e).0) in
    inr (rw one)
named_few n (t ∷ u ∷ ts) h r e =
    let p = both_true (odd (n / 2 ^ (t - 1))) _ e in
    let q = both_true (odd (n / 2 ^ (u - 1))) _ p.1 in
    absurd (omega (arith, r.0, r.1.0, lowest_named n u h q.0))

-- ---- whether it is set

-- an octet has something set exactly if it is not 0 below the delimiter
octet_some : (o : ℕ) → (o % 64 ≡ 0 → ⊥) → set_bits 6 0 o ≡ [] → ⊥
octet_some o h e = omega (arith, ap length (sym (bits_below 6 0 o ∙ e) ∙ (lowest 6 6 0 (o % 64) (omega arith) (omega arith) (omega arith)).1))

octet_none : (o : ℕ) → o % 64 ≡ 0 → set_bits 6 0 o ≡ []
octet_none o h = sym (bits_below 6 0 o) ∙ ap (set_bits 6 0) h ∙ bits_none 6 0

-- so the first octet of a block tells whether the first position is set, where no other may be
first_set : (r : List ℕ) → (block_numbers 6 64 0 r ≡ []) ⊎ (block_numbers 6 64 0 r ≡ 1 ∷ []) → eqb (get_or r 0 0 % 64) 0 ≡ eqb (length (block_numbers 6 64 0 r)) 0
unfolding block_numbers Ascending
first_set [] s = refl
first_set (o ∷ r) s =
    ⊎_elim
    (λ e. rw e (eq-eqb (o % 64) 0 (empty (eqb (o % 64) 0) refl (set_bits 6 0 o) refl e)))
    (λ e. rw e (ne_eqb (o % 64) 0 (λ z. first (ltb o 64) (rw (octet_none o z) at e))))
    s
  where
    rest : Bool → List ℕ
    rest t = pick t (block_numbers 6 64 6 r) []

    empty : (t : Bool) → eqb (o % 64) 0 ≡ t → (bits : List ℕ) → set_bits 6 0 o ≡ bits → bits ++ rest (ltb o 64) ≡ [] → o % 64 ≡ 0
    empty true e bits f k = eqb-true (o % 64) 0 e
    empty false e [] f k = absurd (octet_some o (eqb-false (o % 64) 0 e) f)
    empty false e (b ∷ bits) f k = absurd (omega (arith, ap length k))

    first : (t : Bool) → rest t ≡ 1 ∷ [] → ⊥
    first true e = omega (arith, (rw e at (numbers-ascending 6 64 6 r 0)).0)
    first false e = omega (arith, ap length e)

module _ (n : ℕ) (l : List ℕ) (e : ℕ) (u : n < 2) (h : all_named n (numbers 6 64 0 l e) ≡ true) where
  -- the SPar(2) positions that are all named are none or the first
  pub sub_few : (numbers 6 64 0 l e ≡ []) ⊎ (numbers 6 64 0 l e ≡ 1 ∷ [])
  sub_few = named_few n (numbers 6 64 0 l e) u (numbers-ascending 6 64 0 l e) h

  -- which the first octet tells
  pub sub_set : eqb (get_or l e 0 % 64) 0 ≡ eqb (announced 6 64 l e) 0
  sub_set =
      let at : e + 0 ≡ e = omega arith in
      let same : get_or (drop e l) 0 0 ≡ get_or l e 0 = rw at at (get_or-drop e l 0 0) in
      rw same at (first_set (drop e l) sub_few)
