-- Inner: bits of a content taken one after the other.
-- Assumes nothing.
use Rattle.std.specs.Prelude.{ℕ, zero, suc, ◌-◌, ◌<◌, ◌*◌, ◌≤◌, Bool, true, false, List, [], ◌∷◌, ◌++◌, ◌≡◌, length, take}
use Rattle.octets.specs.Bits.{bits}

-- what a bit adds to the content, where k ones may still come
abbrev pub taken : ℕ → Bool → List Bool
taken k true = true ∷ []
taken zero false = []
taken (suc k) false = false ∷ []

-- how many ones may still come behind it
abbrev pub left_behind : ℕ → Bool → ℕ
left_behind k true = k - 1
left_behind k false = 5

-- whether the last zero stands in the content
abbrev pub kept_behind : Bool → ℕ → Bool → Bool
kept_behind kept k true = kept
kept_behind kept zero false = false
kept_behind kept (suc k) false = true

-- the same of bits one after the other
unfoldable pub takens : ℕ → List Bool → List Bool
takens k [] = []
takens k (b ∷ bs) = taken k b ++ takens (left_behind k b) bs

unfoldable pub lefts_behind : ℕ → List Bool → ℕ
lefts_behind k [] = k
lefts_behind k (b ∷ bs) = lefts_behind (left_behind k b) bs

unfoldable pub kepts_behind : Bool → ℕ → List Bool → Bool
kepts_behind kept k [] = kept
kepts_behind kept k (b ∷ bs) = kepts_behind (kept_behind kept k b) (left_behind k b) bs

-- no sixth one is among them
unfoldable pub NoSix : ℕ → List Bool → Type 0
NoSix k [] = Unit {0}
NoSix k (b ∷ bs) = (b ≡ true → 0 < k) × NoSix (left_behind k b) bs

-- six ones and the zero before them close the content, where that zero stands in it and a zero follows
abbrev pub closes : Bool → List Bool → Bool
closes true [] = false
closes true (true ∷ r) = false
closes true (false ∷ r) = true
closes false r = false

-- the first n of the bits bs stand in plain, as many as it has room for
abbrev pub Stands : ℕ → List Bool → List ℕ → Type 0
Stands n bs plain = (k : ℕ) → k ≤ n → k ≤ length plain * 8 → take k (bits plain) ≡ take k bs
