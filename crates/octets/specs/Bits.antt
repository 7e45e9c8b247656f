-- To be believed: the bits of a run of octets, bit 1 of each octet first (V.8 bis 7.2.2), and octets made of bits.
-- Assumes nothing.
use Rattle.std.specs.Prelude.{ℕ, zero, suc, ◌+◌, ◌*◌, ◌/◌, ◌%◌, ◌<◌, Bool, true, false, List, [], ◌∷◌, eqb, length, get_or, take, drop}

-- a bit as a number
abbrev pub num : Bool → ℕ
num true = 1
num false = 0

-- the lowest bit of a number
abbrev pub odd : ℕ → Bool
odd x = eqb (x % 2) 1

-- the eight bits of an octet, bit 1 first, before the bits r
abbrev pub oct_before : ℕ → List Bool → List Bool
oct_before x r =
    odd x ∷ odd (x / 2) ∷ odd (x / 4) ∷ odd (x / 8) ∷ odd (x / 16) ∷ odd (x / 32) ∷ odd (x / 64) ∷ odd (x / 128) ∷ r

-- the bits of a run of octets
unfoldable pub bits : List ℕ → List Bool
bits [] = []
bits (x ∷ xs) = oct_before x (bits xs)

-- the number whose binary digits are these, the lowest first
unfoldable pub number : List Bool → ℕ
number [] = 0
number (b ∷ bs) = num b + number bs * 2

-- n octets of the bits, bit 1 first, filled up with zeros
unfoldable pub pack : ℕ → List Bool → List ℕ
pack zero bs = []
pack (suc n) bs = number (take 8 bs) ∷ pack n (drop 8 bs)

-- as many octets as the bits need; the unused bits of the last one are zero
unfoldable pub packed : List Bool → List ℕ
packed bs = pack ((length bs + 7) / 8) bs

-- a list of octets: each number is below 256
abbrev pub AreOctets : List ℕ → Type 0
AreOctets t = (i : ℕ) → i < length t → get_or t i 0 < 256
