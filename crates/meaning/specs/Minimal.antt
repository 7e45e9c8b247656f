-- To be believed: minimal form (RULES): no block has an octet without a set parameter at its end unless it is
-- the only one, and SPar(2) stands only if something in it is set. The places are those of a field's codes.
-- Assumes nothing.
use Rattle.std.specs.Prelude.{ℕ, zero, suc, ◌%◌, Bool, true, not, List, [], ◌∷◌, ltb, eqb, drop}
use Rattle.octets.specs.Places.{pick, both}
use Rattle.tree.specs.Block.{behind, announced, ended}
use Rattle.tree.specs.Codes.{group_behind}
use Rattle.message.specs.Kinds.{has_fields, type_of}
use Rattle.message.specs.Reader.{standard_at}

-- behind the first octet of a block: its last octet has a parameter set
unfoldable pub full_at_end : ℕ → List ℕ → Bool
full_at_end m [] = true
full_at_end m (o ∷ l) = pick (ltb o m) (full_at_end m l) (not (eqb (o % m) 0))

-- a block: only one octet, or something set in the last
unfoldable pub tight : ℕ → List ℕ → Bool
tight m [] = true
tight m (o ∷ l) = pick (ltb o m) (full_at_end m l) true

abbrev pub tight_at : ℕ → List ℕ → ℕ → Bool
tight_at m l e = tight m (drop e l)

-- k NPar(3) blocks, from place e on
unfoldable pub subs_minimal : ℕ → List ℕ → ℕ → Bool
subs_minimal zero l e = true
subs_minimal (suc k) l e = both (tight_at 64 l e) (subs_minimal k l (behind 64 l e))

-- behind NPar(2), which ends before e
unfoldable pub group_minimal : List ℕ → ℕ → Bool
group_minimal l e =
    pick (ended l e) true
    (both (not (eqb (announced 6 64 l e) 0)) (both (tight_at 64 l e) (subs_minimal (announced 6 64 l e) l (behind 64 l e))))

-- k Par(2) blocks, from place e on
unfoldable pub pars_minimal : ℕ → List ℕ → ℕ → Bool
pars_minimal zero l e = true
pars_minimal (suc k) l e =
    both (tight_at 64 l e) (both (group_minimal l (behind 64 l e)) (pars_minimal k l (group_behind l (behind 64 l e))))

-- the field at a place
unfoldable pub field_minimal : List ℕ → ℕ → Bool
field_minimal l at =
    both (tight_at 128 l at)
    (both (tight_at 128 l (behind 128 l at)) (pars_minimal (announced 7 128 l (behind 128 l at)) l (behind 128 l (behind 128 l at))))

-- a message: of MS, CL and CLR both fields
unfoldable pub message_minimal : List ℕ → Bool
message_minimal l = pick (has_fields (type_of l)) (both (field_minimal l 1) (field_minimal l (standard_at l))) true
