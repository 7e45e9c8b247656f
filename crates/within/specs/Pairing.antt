-- Inner: one field held beside another, block by block. l and t are the octets of the two; a pair has
-- the places behind what was looked at in each, and whether all of the first was found in the second.
-- Assumes nothing.
use Rattle.std.specs.Prelude.{ℕ, ◌+◌, ◌/◌, ◌%◌, ◌^◌, Bool, true, false, List, [], ◌∷◌, ◌++◌, Option, Some, None, is_some, ◌≡◌, ltb, length, get_or}
use Rattle.std.specs.Int.Count.{count_trailing_zeros}
use Rattle.octets.specs.Bits.{odd}
use Rattle.octets.specs.Places.{pick}
use Rattle.tree.specs.Block.{numbers, behind}
use Rattle.tree.specs.Codes.{sub_codes, subs_behind, group_codes, group_behind, par_codes, pars_behind, field_codes}
use Rattle.tree.specs.Order.{AllFrom}
use Rattle.tree.specs.Fields.{all_in}
use Rattle.tree.specs.declared.Level.{Level}
use Rattle.tree.specs.declared.Level.TheVariants.{Top, Low}
use Rattle.within.specs.declared.Places.{Places}
use Rattle.within.specs.declared.Walk.{Walk}

-- the place of a block's next octet; the end of the octets where the block ends
unfoldable pub next_place : ℕ → List ℕ → ℕ → ℕ
next_place m l k = pick (ltb k (length l)) (pick (ltb (get_or l k 0) m) (k + 1) (length l)) (length l)

-- the places that are told, if all was found
abbrev pub from_of : Option Places → ℕ
from_of None = 0
from_of (Some x) = x.from

abbrev pub to_of : Option Places → ℕ
to_of None = 0
to_of (Some x) = x.to

-- what stands in the first and in the second, whatever it is numbered from: whether all of it was found, and then the places behind it
pub record Compared (mine theirs : ℕ → List ℕ) (a b : ℕ) (r : Option Places) : Type 0 where
  pub told : (p : ℕ) → is_some r ≡ all_in (mine p) (theirs p)
  pub from : is_some r ≡ true → from_of r ≡ a
  pub to : is_some r ≡ true → to_of r ≡ b

-- the positions of a block; the same where the second has none, and stays where it is
abbrev pub BlockWithin : ℕ → ℕ → List ℕ → ℕ → List ℕ → ℕ → Option Places → Type 0
BlockWithin w m l e t k = Compared (λ p. numbers w m p l e) (λ p. numbers w m p t k) (behind m l e) (behind m t k)

abbrev pub BlockEmpty : ℕ → ℕ → List ℕ → ℕ → ℕ → Option Places → Type 0
BlockEmpty w m l e k = BlockWithin w m l e [] k

-- what stands in a Par(2) block behind its NPar(2)
abbrev pub GroupWithin : List ℕ → ℕ → List ℕ → ℕ → Option Places → Type 0
GroupWithin l e t k = Compared (λ c. group_codes c l e) (λ c. group_codes c t k) (group_behind l e) (group_behind t k)

-- ---- positions with what they announce, at either level: their codes under a code, read from a place on, and the place behind these

pub record Spars : Type 0 where
  pub codes : ℕ → List ℕ → ℕ → List ℕ
  pub past : List ℕ → ℕ → ℕ

abbrev pub subs : List ℕ → Spars
subs l = record { codes = λ c ts e. sub_codes c ts l e; past = λ ts e. subs_behind (length ts) l e }

abbrev pub pars : List ℕ → Spars
pars l = record { codes = λ b ss e. par_codes b ss l e; past = λ ss e. pars_behind (length ss) l e }

abbrev pub spars : Level → List ℕ → Spars
spars Top = pars
spars Low = subs

-- positions read from a place on in each
abbrev pub SomeWithin : Spars → Spars → List ℕ → ℕ → List ℕ → ℕ → Option Places → Type 0
SomeWithin x y mine i theirs j = Compared (λ c. x.codes c mine i) (λ c. y.codes c theirs j) (x.past mine i) (y.past theirs j)

-- those of a block
abbrev pub AllWithin : Spars → Spars → ℕ → ℕ → List ℕ → ℕ → List ℕ → ℕ → Option Places → Type 0
AllWithin x y w m l e t k = SomeWithin x y (numbers w m 0 l e) (behind m l e) (numbers w m 0 t k) (behind m t k)

-- position q, where it is set
abbrev pub one_of : Bool → ℕ → List ℕ
one_of set q = pick set (q ∷ []) []

-- one position that is set in the second was looked at: what is asked of it and of others above is asked of those, unless it was not found
pub record OneWithin (x y : Spars) (mine : Bool) (a : Places) (r : Option Places) : Type 0 where
  pub found : is_some r ≡ true → (q : ℕ) (qs qs' : List ℕ) → AllFrom (q + 1) qs → AllFrom (q + 1) qs' → (o : Option Places)
      → SomeWithin x y qs (from_of r) qs' (to_of r) o → SomeWithin x y (one_of mine q ++ qs) a.from (q ∷ qs') a.to o
  pub lost : is_some r ≡ false → (q : ℕ) (qs qs' : List ℕ) → AllFrom (q + 1) qs → AllFrom (q + 1) qs' → SomeWithin x y (one_of mine q ++ qs) a.from (q ∷ qs') a.to r

-- a field
pub record FieldWithin (l : List ℕ) (i : ℕ) (t : List ℕ) (j : ℕ) (r : Bool) : Type 0 where
  pub told : (b : ℕ) → r ≡ all_in (field_codes b l i) (field_codes b t j)

-- ---- a walk over the positions of two blocks: its next octets, and the next position of those that it has

abbrev pub next_octets : ℕ → List ℕ → List ℕ → Walk → Walk
next_octets m l t x = record { i = next_place m l x.i; j = next_place m t x.j; mine = get_or l x.i 0; theirs = get_or t x.j 0 % m; set = false }

abbrev pub next_bit : Walk → Walk
next_bit x =
    let zeros = count_trailing_zeros 8 x.theirs in
    let mine = x.mine / 2 ^ zeros in
    record { i = x.i; j = x.j; mine = mine / 2; theirs = x.theirs / 2 ^ zeros / 2; set = odd mine }
