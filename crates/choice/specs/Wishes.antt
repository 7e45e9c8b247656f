-- To be believed: the wishes (RULES, Own table, wishes, choice), which are at most 16 records, packed and filling their run, of
-- ready (0 or 1), length, and a standard field with at least one SPar(1). An empty run is no wishes.
-- Assumes nothing.
use Rattle.std.specs.Prelude.{ℕ, zero, suc, Bool, true, false, List, [], ◌∷◌, ◌++◌, leb, eqb, length, take, drop}
use Rattle.octets.specs.Bits.{num}
use Rattle.octets.specs.Places.{pick, both}
use Rattle.tree.specs.Fields.{codes_in, has_spar}
use Rattle.tree.specs.declared.Field.TheVariants.{Standard}
use Rattle.good.specs.Good.{good_field}

abbrev pub most_wishes : ℕ
most_wishes = 16

pub record Wish : Type 0 where
  pub ready : Bool
  pub field : List ℕ

-- the records that a run begins with, k of them at most; reading ends where one is cut short
unfoldable pub wishes_in : ℕ → List ℕ → List Wish
wishes_in zero run = []
wishes_in (suc k) [] = []
wishes_in (suc k) (r ∷ []) = []
wishes_in (suc k) (r ∷ (n ∷ rest)) =
    pick (leb n (length rest)) (record { ready = eqb r 1; field = take n rest } ∷ wishes_in k (drop n rest)) []

abbrev pub wishes_of : List ℕ → List Wish
wishes_of run = wishes_in most_wishes run

-- the octets of wishes, as they are packed into a run: ready as 0 or 1, the length, and the field
unfoldable pub records_of : List Wish → List ℕ
records_of [] = []
records_of (w ∷ ws) = num w.ready ∷ (length w.field ∷ (w.field ++ records_of ws))

-- the parameters of a standard field that begins a run of octets, and of a wish
abbrev pub standard_codes : List ℕ → List ℕ
standard_codes octets = codes_in Standard octets 0

abbrev pub wish_codes : Wish → List ℕ
wish_codes w = standard_codes w.field

-- a wish's field has at least one SPar(1)
abbrev pub good_wish : List ℕ → Bool
good_wish octets = both (good_field octets) (has_spar (standard_codes octets))

-- k records at most, each good, and nothing behind the last
unfoldable pub good_records : ℕ → List ℕ → Bool
good_records zero [] = true
good_records zero (r ∷ rest) = false
good_records (suc k) [] = true
good_records (suc k) (r ∷ []) = false
good_records (suc k) (r ∷ (n ∷ rest)) =
    both (leb r 1)
    (both (leb n (length rest))
    (both (good_wish (take n rest))
    (good_records k (drop n rest))))

abbrev pub good_wishes : List ℕ → Bool
good_wishes run = good_records most_wishes run
