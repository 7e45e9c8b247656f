-- Inner: the wishes as records of their run, and small words of the inner functions.
-- Assumes nothing.
use Rattle.std.specs.Prelude.{ℕ, zero, suc, Bool, true, false, List, [], ◌∷◌, leb, eqb, length, take, drop, Option, Some, None}
use Rattle.octets.specs.Places.{pick, both}
use Rattle.tree.specs.Fields.{has_spar}
use Rattle.choice.specs.Wishes.{Wish, standard_codes}
use Rattle.good.specs.Goodness.{good_in}
use Rattle.choice.specs.Choosing.{Far, unheard, far_codes}
use Rattle.choice.specs.declared.FarList.{FarList}
use Rattle.choice.specs.declared.wishes.Record.{Record}
use Rattle.choice.specs.declared.wishes.Records.{Records}

-- ---- the records of a run

-- a record: its flag, its field, and what is behind it
pub record Found : Type 0 where
  pub flag : ℕ
  pub field : List ℕ
  pub behind : List ℕ

-- the records that a run begins with, k of them at most, up to the first that is cut short
unfoldable pub found_in : ℕ → List ℕ → List Found
found_in zero run = []
found_in (suc k) [] = []
found_in (suc k) (r ∷ []) = []
found_in (suc k) (r ∷ (n ∷ rest)) =
    pick (leb n (length rest)) (record { flag = r; field = take n rest; behind = drop n rest } ∷ found_in k (drop n rest)) []

-- the one that the code has, those that its iterator has left, and the wish that one is
abbrev pub found_of : Record → Found
found_of x = record { flag = x.flag; field = x.field.now; behind = x.behind.now }

abbrev pub found_left : Records → List Found
found_left s = found_in s.left s.rest.now

abbrev pub wish_of : Found → Wish
wish_of x = record { ready = eqb x.flag 1; field = x.field }

-- ---- good records

-- a wish's field by some names: good, with an SPar(1)
abbrev pub wish_in : List ℕ → List ℕ → Bool
wish_in n octets = both (good_in n octets) (has_spar (standard_codes octets))

-- k records at most, each with a field that passes a test, and nothing behind the last
unfoldable pub records_by : (List ℕ → Bool) → ℕ → List ℕ → Bool
records_by F zero [] = true
records_by F zero (r ∷ rest) = false
records_by F (suc k) [] = true
records_by F (suc k) (r ∷ []) = false
records_by F (suc k) (r ∷ (n ∷ rest)) =
    both (leb r 1)
    (both (leb n (length rest))
    (both (F (take n rest))
    (records_by F k (drop n rest))))

-- ---- the far list

-- the far list of the code, or none, by its codes
abbrev pub far_told : Option FarList → Far
far_told (Some far) = far_codes far.octets.now far.place
far_told None = unheard
