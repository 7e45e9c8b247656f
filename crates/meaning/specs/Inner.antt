-- Inner: a part of an ascending list of codes.
-- Assumes nothing.
use Rattle.std.specs.Prelude.{ℕ, ◌<◌, true, List, ◌≡◌, length, get_or}
use Rattle.meaning.specs.Meaning.{ascending_from}

-- codes strictly ascending above b, and below a limit
pub record Between (b limit : ℕ) (l : List ℕ) : Type 0 where
  pub up : ascending_from b l ≡ true
  pub below : (i : ℕ) → i < length l → get_or l i 0 < limit
