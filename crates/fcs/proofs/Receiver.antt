-- The receiver of 7.2.7: its register, preset to ones, holds one and the same remainder after any content and its FCS.
-- Assumes nothing.
use mathlib.Core.Path.{◌≡◌, refl, ap, ◌∙◌}
use mathlib.Core.Bool.{Bool, true, false, not}
use mathlib.Core.List.{List, [], ◌∷◌, ◌++◌, map, append_assoc}
use native.Mathlib.Omega.{arith}
use lib.ListN.{length, replicate, length-append}
use Rattle.fcs.specs.Division.{plus_all, rest, remainder_of_ones, remainder_of, fcs}
use Rattle.fcs.proofs.Polynomials.{plus_all_comm, rest_parts, remainder, sum_remainder, length_remainder, fcs_remainder, length_fcs}

-- 0001 1101 0000 1111, x^15 through x^0
abbrev pub receiver_remainder : List Bool
receiver_remainder =
    false ∷ false ∷ false ∷ true ∷ true ∷ true ∷ false ∷ true ∷ false ∷ false ∷ false ∷ false ∷ true ∷ true ∷ true ∷ true ∷ []

-- a coefficient and its complement add up to one
plus_not : (p q : List Bool) → plus_all p (map not p ++ q) ≡ replicate (length p) true ++ q
unfolding plus_all
plus_not [] q = refl
plus_not (true ∷ p) q = rw (plus_not p q)
plus_not (false ∷ p) q = rw (plus_not p q)

-- the remainder of sixteen ones
ones_remainder : rest 16 (replicate 16 true ++ replicate 16 false) ≡ receiver_remainder
unfolding rest plus_all
ones_remainder = refl

-- the sum of a) and b) over a content and its FCS
pub received : (m : List Bool) → plus_all (remainder_of_ones (length (m ++ fcs m))) (remainder_of (m ++ fcs m)) ≡ receiver_remainder
received m =
    let z = replicate 16 false in
    sum_remainder (m ++ fcs m)
    ∙ ap (λ (l : List Bool). rest (length (m ++ fcs m)) (plus_all (replicate 16 true) l)) (append_assoc m (fcs m) z)
    ∙ rest_parts (replicate 16 true) m (fcs m) (fcs m ++ z) (omega (arith, length-append (fcs m) z))
    ∙ rw (plus_all_comm (m ++ z) (replicate 16 true), length_fcs m, fcs_remainder m, plus_not (remainder m) z, length_remainder m) ones_remainder
