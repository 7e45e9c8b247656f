-- Inner: the register of 7.2.7's typical implementation, an octet at a time. It is a number of 16 bits whose lowest bit is the highest
-- coefficient. The laws show that it gives `fcs`.
-- Assumes nothing.
use Rattle.std.specs.Prelude.{ℕ, zero, suc, ◌/◌, ◌%◌, Bool, true, false, List, [], ◌∷◌, replicate}
use Rattle.std.specs.Int.Bits.{bit_xor}
use Rattle.octets.specs.Bits.{oct_before, bits, number, odd}
use Rattle.fcs.specs.Division.{plus_all, rest}

-- the number of the generator's coefficients
abbrev pub generator_number : ℕ
generator_number = 0x8408

abbrev pub reduced : Bool → ℕ → ℕ
reduced true x = bit_xor x generator_number
reduced false x = x

-- one step of the division in a register: its highest coefficient goes out, and the generator is subtracted where that was one
unfoldable pub divided : ℕ → ℕ
divided x = reduced (odd x) (x / 2)

-- k steps of it
unfoldable pub turns : ℕ → ℕ → ℕ
turns zero x = x
turns (suc k) x = turns k (divided x)

-- an octet into the register r: eight steps of the division of the octet's bits, added to the highest coefficients of r
unfoldable pub octet_step : ℕ → ℕ → ℕ
octet_step r b = number (rest 8 (plus_all (oct_before b (replicate 16 false)) (bits (r % 256 ∷ r / 256 ∷ []))))

-- a run of octets into the register
unfoldable pub register : ℕ → List ℕ → ℕ
register r [] = r
register r (b ∷ bs) = register (octet_step r b) bs
