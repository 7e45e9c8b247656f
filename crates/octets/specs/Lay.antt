-- To be believed: one list laid over the front of another.
-- Assumes nothing.
use Rattle.std.specs.Prelude.{ℕ, List, [], ◌∷◌, ◌++◌, length, drop}

-- d with xs over its front, where there is room for all of xs
unfoldable pub put : List ℕ → List ℕ → List ℕ
put xs d = xs ++ drop (length xs) d

-- d with as much of xs over its front as there is room for
unfoldable pub over : List ℕ → List ℕ → List ℕ
over [] d = d
over (x ∷ xs) [] = []
over (x ∷ xs) (y ∷ d) = x ∷ over xs d
