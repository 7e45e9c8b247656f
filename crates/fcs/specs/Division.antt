-- To be believed: the frame check sequence (V.8 bis 7.2.7) by polynomial division modulo 2. A polynomial is the list of its
-- coefficients, the highest first.
-- Assumes nothing.
use Rattle.std.specs.Prelude.{ℕ, zero, suc, Bool, true, false, not, List, [], ◌∷◌, ◌++◌, map, length, replicate}

-- the sum of two coefficients modulo 2
abbrev pub plus : Bool → Bool → Bool
plus true b = not b
plus false b = b

-- the second polynomial with the first added to its highest coefficients
unfoldable pub plus_all : List Bool → List Bool → List Bool
plus_all [] q = q
plus_all (a ∷ p) [] = a ∷ p
plus_all (a ∷ p) (b ∷ q) = plus a b ∷ plus_all p q

-- x^12 + x^5 + 1: the generator x^16 + x^12 + x^5 + 1 less its highest term
abbrev pub generator : List Bool
generator =
    false ∷ false ∷ false ∷ true ∷ false ∷ false ∷ false ∷ false ∷ false ∷ false ∷ true ∷ false ∷ false ∷ false ∷ false ∷ true ∷ []

-- k steps of the long division by the generator: where the highest coefficient is one, the generator is subtracted there.
-- This is the remainder, where k is 16 less than the number of coefficients
unfoldable pub rest : ℕ → List Bool → List Bool
rest zero p = p
rest (suc k) [] = []
rest (suc k) (true ∷ p) = rest k (plus_all generator p)
rest (suc k) (false ∷ p) = rest k p

-- a) of 7.2.7: the remainder of x^k (x^15 + x^14 + .. + x + 1), all sixteen terms
abbrev pub remainder_of_ones : ℕ → List Bool
remainder_of_ones k = rest k (replicate 16 true ++ replicate k false)

-- b) of 7.2.7: the remainder of x^16 times the content
abbrev pub remainder_of : List Bool → List Bool
remainder_of content = rest (length content) (content ++ replicate 16 false)

-- the FCS of a content, its highest coefficient first: the ones' complement of the sum of a) and b)
unfoldable pub fcs : List Bool → List Bool
fcs content = map not (plus_all (remainder_of_ones (length content)) (remainder_of content))
