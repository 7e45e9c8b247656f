-- Inner: bits put into octets one after the other: what an output and a pen hold, and what a step adds.
-- Assumes nothing.
use Rattle.std.specs.Prelude.{ℕ, zero, suc, ◌+◌, ◌*◌, ◌/◌, ◌≤◌, Bool, true, false, List, [], ◌∷◌, ◌++◌, ◌≡◌, length, drop}
use Rattle.octets.specs.Bits.{odd, number, pack}
use Rattle.octets.specs.Lay.{put}
use Rattle.frame.specs.Limits.{most_bits}

-- the w lowest bits of a number, the lowest first
unfoldable pub low_bits : ℕ → ℕ → List Bool
low_bits zero v = []
low_bits (suc w) v = odd v ∷ low_bits w (v / 2)

-- where the next bit goes, and the bits of its octet that are not stored yet
pub record Pen : Type 0 where
  pub at : ℕ
  pub octet : ℕ

-- the bits bs were put into the output o: the whole octets of them stand in out, the others in the pen
pub record Holds (o : List ℕ) (bs : List Bool) (out : List ℕ) (pen : Pen) : Type 0 where
  pub at : pen.at ≡ length bs
  pub octets : out ≡ put (pack (length bs / 8) bs) o
  pub octet : pen.octet ≡ number (drop (length bs / 8 * 8) bs)

-- room bits more fit into the output and into a run
pub record Ready (out : List ℕ) (pen : Pen) (room : ℕ) : Type 0 where
  pub fits : pen.at + room ≤ length out * 8
  pub few : pen.at + room ≤ most_bits

-- the bits bs are added to whatever was put before
pub record Adds (bs : List Bool) (out₀ : List ℕ) (pen₀ : Pen) (out₁ : List ℕ) (pen₁ : Pen) : Type 0 where
  pub at : pen₁.at ≡ pen₀.at + length bs
  pub size : length out₁ ≡ length out₀
  pub adds : (o : List ℕ) (done : List Bool) → length o ≡ length out₀ → Holds o done out₀ pen₀ → Holds o (done ++ bs) out₁ pen₁

-- how many ones may still come, behind the bits, before the one that a zero follows
unfoldable pub left_after : ℕ → List Bool → ℕ
left_after k [] = k
left_after k (false ∷ bs) = left_after 4 bs
left_after zero (true ∷ bs) = left_after 4 bs
left_after (suc k) (true ∷ bs) = left_after k bs
