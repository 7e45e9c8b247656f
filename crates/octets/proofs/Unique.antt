-- What the contracts fix: by the `ensures` alone no second reply, and no second content of a lent buffer, fits.
-- Assumes nothing.
use mathlib.Core.Path.{◌≡◌, sym, ap, ◌∙◌}
use Prim.Native.Nat.{ℕ}
use mathlib.Core.List.{List}
use denote.Ref.{Bor}
use Rattle.octets.specs.declared.BitReader.{BitReader}
use Rattle.octets.specs.Promises.{IsReader}

-- an operation that ensures `r ≡ x` has one reply: `bit_at`, `is_one`, `place_after`, `octet_at`, `BitReader::next_bit`, `bit_after`
-- and, with the buffer at exit for the reply, `copy_front` leaves one content: `CopiesFront`
pub one_reply : {A : Type 0} {x r r' : A} → r ≡ x → r' ≡ x → r ≡ r'
one_reply e e' = e ∙ sym e'

-- an operation that ensures `IsReader` of a run and a place has one reply: `BitReader::new`, `BitReader::moved_on`
pub one_reader : {s : Bor (List ℕ)} {n : ℕ} {r r' : BitReader} → IsReader s n r → IsReader s n r' → r ≡ r'
one_reader {s} {n} {r} {r'} e e' = ap (λ (t : Bor (List ℕ)). made t r.at) (one_reply e.0 e'.0) ∙ ap (made r'.run) (one_reply e.1 e'.1)
  where
    made : Bor (List ℕ) → ℕ → BitReader
    made t m = record { run = t; at = m }
