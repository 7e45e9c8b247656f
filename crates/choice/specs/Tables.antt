-- To be believed: the own table and the wishes as they are lent for a step, refusals 2, 3 and 4 of the rules.
-- Assumes nothing.
use Rattle.std.specs.Prelude.{ℕ, Bool, true, not, List, [], ◌∷◌, Result, Ok, Err}
use Rattle.octets.specs.Places.{pick, both}
use Rattle.tree.specs.Fields.{all_in}
use Rattle.good.specs.Good.{good_field}
use Rattle.choice.specs.Wishes.{Wish, wishes_of, standard_codes, wish_codes, good_wishes}
use Rattle.choice.specs.declared.TablesRefusal.{TablesRefusal}
use Rattle.choice.specs.declared.TablesRefusal.TheVariants.{BadOwn, BadWishes, Outside}

-- the own table: a standard field in minimal form, at most 61 octets, named parameters only and no non-standard bit
abbrev pub good_own : List ℕ → Bool
good_own own = good_field own

-- all wishes, ready or not, lie in the own table
unfoldable pub all_inside : List ℕ → List Wish → Bool
all_inside own [] = true
all_inside own (w ∷ ws) = both (all_in (wish_codes w) (standard_codes own)) (all_inside own ws)

-- 2, 3, 4, in that order; 0 where they are good
unfoldable pub tables_no : List ℕ → List ℕ → ℕ
tables_no own run =
    pick (not (good_own own)) 2
    (pick (not (good_wishes run)) 3
    (pick (not (all_inside own (wishes_of run))) 4
    0))

-- each answer's number
abbrev pub tables_told : Result (Unit {0}) TablesRefusal → ℕ
tables_told (Ok _) = 0
tables_told (Err BadOwn) = 2
tables_told (Err BadWishes) = 3
tables_told (Err Outside) = 4
