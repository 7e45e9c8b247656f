-- To be believed: a meaning (RULES, Parameter codes): a strictly ascending list of codes in which each code has its parents.
-- Assumes nothing.
use Rattle.std.specs.Prelude.{ℕ, ◌%◌, Bool, true, false, List, [], ◌∷◌, ltb, eqb}
use Rattle.octets.specs.Places.{pick}
use Rattle.tree.specs.Codes.{of_f, f_of, s_of, t_of, parent_of}
use Rattle.tree.specs.Fields.{is_in}

-- a possible shape: f is 1 or 2, t needs s, and s, t, n are not all 0
unfoldable pub shaped : ℕ → Bool
shaped c =
    pick (ltb (f_of c) 1) false
    (pick (ltb 2 (f_of c)) false
    (pick (eqb (c % of_f) 0) false
    (pick (eqb (s_of c) 0) (eqb (t_of c) 0) true)))

unfoldable pub all_shaped : List ℕ → Bool
all_shaped [] = true
all_shaped (c ∷ l) = pick (shaped c) (all_shaped l) false

-- each above the one before, the first above x
unfoldable pub ascending_from : ℕ → List ℕ → Bool
ascending_from x [] = true
ascending_from x (c ∷ l) = pick (ltb x c) (ascending_from c l) false

abbrev pub ascending : List ℕ → Bool
ascending [] = true
ascending (c ∷ l) = ascending_from c l

-- f.0.0.n and f.s.0.0 stand under none; any other code has its parent in the list
unfoldable pub has_parent : List ℕ → ℕ → Bool
has_parent l c =
    pick (eqb (parent_of c) c) true
    (pick (eqb (parent_of c % of_f) 0) true
    (is_in (parent_of c) l))

-- those of the second list have their parents in the first
unfoldable pub all_parented : List ℕ → List ℕ → Bool
all_parented all [] = true
all_parented all (c ∷ l) = pick (has_parent all c) (all_parented all l) false
