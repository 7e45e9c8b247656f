-- Inner: a field rewritten block by block, as the code does it. A block's positions are sieved and written as a minimal block; a
-- block whose SPar is not kept is passed over whole. One law says that it is `kept`.
-- Assumes nothing.
use Rattle.std.specs.Prelude.{ℕ, zero, suc, ◌+◌, ◌*◌, ◌/◌, ◌^◌, List, [], ◌∷◌, ◌++◌, ◌≡◌, eqb, length, Option, Some, None}
use Rattle.std.proofs.lemmas.List.Edits.{sets}
use Rattle.octets.specs.Places.{pick}
use Rattle.tree.specs.Block.{numbers, behind, ended}
use Rattle.tree.specs.Codes.{of_t, group_behind, of_s}
use Rattle.tree.specs.Form.{form_at}
use Rattle.tree.specs.Form.{Fine}
use Rattle.message.specs.Kinds.{ms}
use Rattle.meaning.specs.Written.{block_octets, marked}
use Rattle.meaning.specs.Writing.{is_empty}
use Rattle.names.specs.Masks.{npar_places, spar_places, only}
use Rattle.names.specs.Inner.{kept_place}
use Rattle.names.specs.declared.Keep.{Keep}
use Rattle.names.specs.declared.Keep.TheVariants.{All, Named}
use Rattle.strike.specs.declared.Spot.{Spot}

-- the names of a block from the position above a number on, as the bits of a number; where all is kept, seven ones
abbrev pub names_at : Option ℕ → ℕ → ℕ
names_at None above = 127
names_at (Some bits) above = bits / 2 ^ above

-- by how many names the next octet of a block is further on; where all is kept they stay
abbrev pub names_step : Option ℕ → ℕ → ℕ
names_step None w = 0
names_step (Some bits) w = w

-- the positions that are kept of the block at place e, and the minimal block of them
abbrev pub sieved : ℕ → ℕ → Option ℕ → List ℕ → ℕ → List ℕ
sieved w m p l e = only (kept_place p) (numbers w m 0 l e)

abbrev pub block_kept : ℕ → ℕ → Option ℕ → List ℕ → ℕ → List ℕ
block_kept w m p l e = block_octets w m (sieved w m p l e)

-- so many blocks below level 1, one after the other from place e on, are well-formed
unfoldable pub SubsFine : ℕ → List ℕ → ℕ → Type 0
SubsFine zero l e = Unit {0}
SubsFine (suc k) l e = (form_at 64 l e ≡ Fine) × SubsFine k l (behind 64 l e)

-- the NPar(3) block of one SPar(2) position, and those of several, from place e on; p says which SPar(2) are kept
unfoldable pub sub_kept : Keep → ℕ → Option ℕ → ℕ → List ℕ → ℕ → List ℕ
sub_kept k c p t l e = pick (kept_place p t) (block_kept 6 64 (npar_places k (c + t * of_t)) l e) []

unfoldable pub subs_kept : Keep → ℕ → Option ℕ → List ℕ → List ℕ → ℕ → List ℕ
subs_kept k c p [] l e = []
subs_kept k c p (t ∷ ts) l e = sub_kept k c p t l e ++ subs_kept k c p ts l (behind 64 l e)

-- SPar(2) at place e and what it announces; nothing where none of it is kept
unfoldable pub lower_kept : Keep → ℕ → Option ℕ → List ℕ → ℕ → List ℕ
lower_kept k c p l e =
    pick (is_empty (sieved 6 64 p l e)) []
    (block_kept 6 64 p l e ++ subs_kept k c p (numbers 6 64 0 l e) l (behind 64 l e))

-- what stands in a Par(2) block behind its NPar(2), which ends before e
unfoldable pub group_kept : Keep → ℕ → List ℕ → ℕ → List ℕ
group_kept k c l e = pick (ended l e) [] (lower_kept k c (spar_places k c) l e)

-- the Par(2) block of the SPar(1) c at place e, that of one position, and those of several; p says which SPar(1) are kept
unfoldable pub whole_par : Keep → ℕ → List ℕ → ℕ → List ℕ
whole_par k c l e = marked (block_kept 6 64 (npar_places k c) l e ++ group_kept k c l (behind 64 l e))

unfoldable pub par_kept : Keep → ℕ → Option ℕ → ℕ → List ℕ → ℕ → List ℕ
par_kept k b p s l e = pick (kept_place p s) (whole_par k (b + s * of_s) l e) []

unfoldable pub pars_kept : Keep → ℕ → Option ℕ → List ℕ → List ℕ → ℕ → List ℕ
pars_kept k b p [] l e = []
pars_kept k b p (s ∷ ss) l e = par_kept k b p s l e ++ pars_kept k b p ss l (group_behind l (behind 64 l e))

-- SPar(1) at place e and what it announces
unfoldable pub rest_kept : Keep → ℕ → Option ℕ → List ℕ → ℕ → List ℕ
rest_kept k b p l e = block_kept 7 128 p l e ++ pars_kept k b p (numbers 7 128 0 l e) l (behind 128 l e)

-- the field at a place
unfoldable pub field_kept : Keep → ℕ → List ℕ → ℕ → List ℕ
field_kept k b l at = block_kept 7 128 (npar_places k b) l at ++ rest_kept k b (spar_places k b) l (behind 128 l at)

-- what is kept of S in a message of a type: all of an MS, which is type 1, else the named
abbrev pub standard_keep : ℕ → Keep
standard_keep kind = pick (eqb kind ms) All Named

-- octets were put into the output at the spot's place, and reading went on to a place
pub record Puts (octets : List ℕ) (from : ℕ) (out₀ : List ℕ) (to : ℕ) (out₁ : List ℕ) (r : Spot) : Type 0 where
  pub read : r.from ≡ from
  pub at : r.to ≡ to + length octets
  pub out : out₁ ≡ sets out₀ to octets
