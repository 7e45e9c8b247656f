-- Inner: the order of codes.
-- Assumes nothing.
use Rattle.std.specs.Prelude.{ℕ, ◌<◌, ◌≤◌, List, [], ◌∷◌}

-- each number is above the one before, and the first above b
unfoldable pub Ascending : ℕ → List ℕ → Type 0
Ascending b [] = Unit
Ascending b (c ∷ l) = (b < c) × Ascending c l

-- each number is below h
unfoldable pub AllBelow : ℕ → List ℕ → Type 0
AllBelow h [] = Unit
AllBelow h (c ∷ l) = (c < h) × AllBelow h l

-- each number is at least h
unfoldable pub AllFrom : ℕ → List ℕ → Type 0
AllFrom h [] = Unit
AllFrom h (c ∷ l) = (h ≤ c) × AllFrom h l
