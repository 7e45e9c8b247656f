-- Inner: a word with the zeros that it needs: where five ones in a row begin, and what it becomes.
-- Assumes nothing.
use Rattle.std.specs.Prelude.{ℕ, ◌+◌, ◌/◌, ◌^◌, ◌<◌, ◌≤◌, ◌≡◌}
use Rattle.std.specs.Int.Bits.{bit_and}
use Rattle.frame.specs.Stuffing.{stuffed}
use Rattle.frame.specs.Pen.{low_bits}
use Rattle.frame.specs.declared.Wide.{Wide}

-- pairs of ones, and the places where five ones in a row begin
abbrev pub pairs : ℕ → ℕ
pairs word = bit_and word (word / 2)

unfoldable pub five_starts : ℕ → ℕ
five_starts word = bit_and (bit_and (pairs word) (pairs word / 4)) (word / 16)

-- the word's bits are the twelve of start, with the zeros that they need
pub record Widens (start : ℕ) (wide : Wide) : Type 0 where
  pub bits : low_bits (12 + wide.more) wide.word ≡ stuffed 4 (low_bits 12 start)
  pub low : wide.word < 2 ^ (12 + wide.more)
  pub few : wide.more ≤ 2
