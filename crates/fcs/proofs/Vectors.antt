-- Examples that are computed from the definitions: the check value of CRC-16/X-25, the order of its coefficients, and the receiver's remainder.
-- Assumes nothing.
use Prim.Native.Nat.{ℕ}
use mathlib.Core.Path.{◌≡◌, refl}
use mathlib.Core.Bool.{true, false}
use mathlib.Core.List.{List, [], ◌∷◌, ◌++◌, reverse}
use native.Mathlib.Omega.{arith}
use lib.ListN.{length}
use Rattle.octets.specs.Bits.{bits, number, pack, packed}
use Rattle.fcs.specs.Division.{plus_all, rest, remainder_of_ones, remainder_of, fcs}
use Rattle.fcs.proofs.Receiver.{receiver_remainder}

-- "123456789"
abbrev nine : List ℕ
nine = 0x31 ∷ 0x32 ∷ 0x33 ∷ 0x34 ∷ 0x35 ∷ 0x36 ∷ 0x37 ∷ 0x38 ∷ 0x39 ∷ []

-- the check value is 906E, and its lower octet is sent first
check_value : packed (fcs (bits nine)) ≡ 0x6e ∷ 0x90 ∷ []
unfolding packed pack number fcs rest plus_all bits
check_value = refl

-- its coefficients, x^15 through x^0, in the order in which they are sent (Figure 3)
coefficients : fcs (bits nine)
    ≡ false ∷ true ∷ true ∷ true ∷ false ∷ true ∷ true ∷ false ∷ false ∷ false ∷ false ∷ false ∷ true ∷ false ∷ false ∷ true ∷ []
unfolding fcs rest plus_all bits
coefficients = refl

-- the other order gives other bits
not_reversed : fcs (bits nine) ≡ reverse (fcs (bits nine)) → ⊥
unfolding fcs rest plus_all bits
not_reversed e = let z : ◌≡◌ {A = ℕ} 0 1 = cc in omega arith

-- the sum of a) and b) over that content and its FCS
received : plus_all (remainder_of_ones (length (bits nine ++ fcs (bits nine)))) (remainder_of (bits nine ++ fcs (bits nine))) ≡ receiver_remainder
unfolding fcs rest plus_all bits
received = refl
