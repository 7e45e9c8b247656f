-- Sums of polynomials modulo 2, and their long division by the generator: it is linear, so the FCS is the complement of one remainder.
-- Assumes nothing.
use Prim.Native.Nat.{ℕ, zero, suc, ◌+◌, ◌≤◌, max}
use mathlib.Core.Path.{◌≡◌, refl, sym, ap, ◌∙◌}
use mathlib.Core.Bool.{Bool, true, false, not}
use mathlib.Core.List.{List, [], ◌∷◌, ◌++◌, map}
use native.Mathlib.Omega.{arith}
use lib.ListN.{length, replicate, length-append, length-replicate, length-map}
use Rattle.fcs.specs.Division.{plus, plus_all, generator, rest, remainder_of_ones, remainder_of, fcs}

-- two coefficients in either order
plus_comm : (a b : Bool) → plus a b ≡ plus b a
plus_comm true true = refl
plus_comm true false = refl
plus_comm false true = refl
plus_comm false false = refl

-- three coefficients, grouped either way
plus_assoc : (a b c : Bool) → plus (plus a b) c ≡ plus a (plus b c)
plus_assoc true true true = refl
plus_assoc true true false = refl
plus_assoc true false c = refl
plus_assoc false b c = refl

-- a zero changes nothing
plus-false : (a : Bool) → plus a false ≡ a
plus-false true = refl
plus-false false = refl

-- a coefficient added twice goes away
plus_twice : (a b : Bool) → plus a (plus a b) ≡ b
plus_twice true true = refl
plus_twice true false = refl
plus_twice false b = refl

-- a sum has as many coefficients as the longer of the two
pub length_plus : (p q : List Bool) → length (plus_all p q) ≡ max (length p) (length q)
unfolding plus_all
length_plus [] q = omega arith
length_plus (a ∷ p) [] = omega arith
length_plus (a ∷ p) (b ∷ q) = omega (arith, length_plus p q)

-- two polynomials in either order
pub plus_all_comm : (p q : List Bool) → plus_all p q ≡ plus_all q p
unfolding plus_all
plus_all_comm [] [] = refl
plus_all_comm [] (b ∷ q) = refl
plus_all_comm (a ∷ p) [] = refl
plus_all_comm (a ∷ p) (b ∷ q) = rw (plus_comm a b, plus_all_comm p q)

-- three polynomials, grouped either way
plus_all_assoc : (p q r : List Bool) → plus_all (plus_all p q) r ≡ plus_all p (plus_all q r)
unfolding plus_all
plus_all_assoc [] q r = refl
plus_all_assoc (a ∷ p) [] r = refl
plus_all_assoc (a ∷ p) (b ∷ q) [] = refl
plus_all_assoc (a ∷ p) (b ∷ q) (c ∷ r) = rw (plus_assoc a b c, plus_all_assoc p q r)

-- a polynomial added twice goes away
plus_all_twice : (p q : List Bool) → length p ≤ length q → plus_all p (plus_all p q) ≡ q
unfolding plus_all
plus_all_twice [] q h = refl
plus_all_twice (a ∷ p) [] h = absurd (omega arith)
plus_all_twice (a ∷ p) (b ∷ q) h = rw (plus_twice a b, plus_all_twice p q (omega arith))

-- zeros added change nothing
pub plus_none : (j : ℕ) (q : List Bool) → j ≤ length q → plus_all (replicate j false) q ≡ q
unfolding plus_all
plus_none zero q h = refl
plus_none (suc j) [] h = absurd (omega arith)
plus_none (suc j) (b ∷ q) h = ap (λ (l : List Bool). b ∷ l) (plus_none j q (omega arith))

-- nor do zeros at the low end of what is added
plus_zeros : (p : List Bool) (j : ℕ) (q : List Bool) → length p + j ≤ length q → plus_all (p ++ replicate j false) q ≡ plus_all p q
unfolding plus_all
plus_zeros [] j q h = plus_none j q (omega arith)
plus_zeros (a ∷ p) j [] h = absurd (omega arith)
plus_zeros (a ∷ p) j (b ∷ q) h = ap (λ (l : List Bool). plus a b ∷ l) (plus_zeros p j q (omega arith))

-- what is added below the highest coefficients c leaves them as they are
plus_below : (c p q : List Bool) → plus_all (c ++ p) (replicate (length c) false ++ q) ≡ c ++ plus_all p q
unfolding plus_all
plus_below [] p q = refl
plus_below (a ∷ c) p q = rw (plus-false a, plus_below c p q)

-- what is added to the second of two may be added to their sum
plus_second : (g p q : List Bool) → plus_all p (plus_all g q) ≡ plus_all g (plus_all p q)
plus_second g p q = sym (plus_all_assoc p g q) ∙ rw (plus_all_comm p g) (plus_all_assoc g p q)

-- k steps take k coefficients away
pub length_rest : (k : ℕ) (p : List Bool) → k + 16 ≤ length p → length (rest k p) + k ≡ length p
unfolding rest
length_rest zero p h = omega arith
length_rest (suc k) [] h = absurd (omega arith)
length_rest (suc k) (true ∷ p) h =
    omega (arith, length_plus generator p, length_rest k (plus_all generator p) (omega (arith, length_plus generator p)))
length_rest (suc k) (false ∷ p) h = omega (arith, length_rest k p (omega arith))

-- the long division of a sum is the sum of the long divisions
rest_plus : (k : ℕ) (p q : List Bool) → k + 16 ≤ length p → k + 16 ≤ length q → rest k (plus_all p q) ≡ plus_all (rest k p) (rest k q)
unfolding rest plus_all
rest_plus zero p q h l = refl
rest_plus (suc k) [] q h l = absurd (omega arith)
rest_plus (suc k) (a ∷ p) [] h l = absurd (omega arith)
rest_plus (suc k) (true ∷ p) (true ∷ q) h l =
    ap (rest k)
    (sym
    (plus_all_assoc generator p (plus_all generator q)
    ∙ ap (plus_all generator) (plus_second generator p q)
    ∙ plus_all_twice generator (plus_all p q) (omega (arith, length_plus p q))))
    ∙ rest_plus k (plus_all generator p) (plus_all generator q) (omega (arith, length_plus generator p)) (omega (arith, length_plus generator q))
rest_plus (suc k) (true ∷ p) (false ∷ q) h l =
    ap (rest k) (sym (plus_all_assoc generator p q))
    ∙ rest_plus k (plus_all generator p) q (omega (arith, length_plus generator p)) (omega arith)
rest_plus (suc k) (false ∷ p) (true ∷ q) h l =
    ap (rest k) (sym (plus_second generator p q))
    ∙ rest_plus k p (plus_all generator q) (omega arith) (omega (arith, length_plus generator q))
rest_plus (suc k) (false ∷ p) (false ∷ q) h l = rest_plus k p q (omega arith) (omega arith)

-- what is added below the highest coefficients c may be added after their steps
rest_later : (c m p q : List Bool) → length c ≤ length p
    → rest (length (c ++ m)) (plus_all p (replicate (length c) false ++ q)) ≡ rest (length m) (plus_all (rest (length c) p) q)
unfolding rest plus_all
rest_later [] m p q h = refl
rest_later (b ∷ c) m [] q h = absurd (omega arith)
rest_later (b ∷ c) m (true ∷ p) q h =
    ap (rest (length (c ++ m))) (sym (plus_all_assoc generator p (replicate (length c) false ++ q)))
    ∙ rest_later c m (plus_all generator p) q (omega (arith, length_plus generator p))
rest_later (b ∷ c) m (false ∷ p) q h = rest_later c m p q (omega arith)

-- the long division in two parts: first the steps of c, then those of m
pub rest_parts : (p c m q : List Bool) → 16 ≤ length q
    → rest (length (c ++ m)) (plus_all p (c ++ q)) ≡ rest (length m) (plus_all (rest (length c) (plus_all (c ++ replicate 16 false) p)) q)
rest_parts p c m q h =
    let z = c ++ replicate 16 false in
    let w = replicate (length c) false ++ q in
    ap (rest (length (c ++ m)))
    (sym (rw (plus_all_comm z p, plus_all_assoc p z w, plus_below c (replicate 16 false) q, plus_none 16 q h)))
    ∙ rest_later c m (plus_all z p) q (omega (arith, length_plus z p, length-append c (replicate 16 false)))

-- the remainder of x^16 times the content, with sixteen ones added to its highest coefficients
abbrev pub remainder : List Bool → List Bool
remainder m = rest (length m) (plus_all (replicate 16 true) (m ++ replicate 16 false))

module _ (m : List Bool) where
  -- x^16 times the content has sixteen coefficients more
  length_content : length (m ++ replicate 16 false) ≡ length m + 16
  length_content = length-append m (replicate 16 false)

  -- the sum of a) and b) of 7.2.7 is that one remainder
  pub sum_remainder : plus_all (remainder_of_ones (length m)) (remainder_of m) ≡ remainder m
  sum_remainder =
      let ones = replicate 16 true ++ replicate (length m) false in
      sym (rest_plus (length m) ones (m ++ replicate 16 false) (omega (arith, length-replicate (length m) false)) (omega (arith, length_content)))
      ∙ ap (rest (length m)) (plus_zeros (replicate 16 true) (length m) (m ++ replicate 16 false) (omega (arith, length_content)))

  -- it has sixteen coefficients
  pub length_remainder : length (remainder m) ≡ 16
  length_remainder =
      let p = plus_all (replicate 16 true) (m ++ replicate 16 false) in
      let e : length p ≡ length m + 16 = omega (arith, length_plus (replicate 16 true) (m ++ replicate 16 false), length_content) in
      omega (arith, length_rest (length m) p (omega arith))

  -- the FCS is its complement
  pub fcs_remainder : fcs m ≡ map not (remainder m)
  unfolding fcs
  fcs_remainder = ap (map not) sum_remainder

  -- the FCS has sixteen coefficients
  pub length_fcs : length (fcs m) ≡ 16
  length_fcs = ap length fcs_remainder ∙ length-map (remainder m) not ∙ length_remainder
