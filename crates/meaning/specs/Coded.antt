-- To be believed: a field in any number of octets in which every position that is set has a code (RULES, Parameter codes 2): none is
-- above 511. The places are those of a field's codes.
-- Assumes nothing.
use Rattle.std.specs.Prelude.{ℕ, zero, suc, Bool, true, List, [], ◌∷◌, leb}
use Rattle.octets.specs.Places.{pick, both}
use Rattle.tree.specs.Block.{numbers, behind, announced, ended}
use Rattle.tree.specs.Codes.{group_behind}
use Rattle.tree.specs.Wide.{most_position}

-- none of these positions is above 511
unfoldable pub none_above : List ℕ → Bool
none_above [] = true
none_above (q ∷ qs) = both (leb q most_position) (none_above qs)

-- a block, of w parameters to an octet, at a place
abbrev pub coded_at : ℕ → ℕ → List ℕ → ℕ → Bool
coded_at w m l e = none_above (numbers w m 0 l e)

-- k NPar(3) blocks, from place e on
unfoldable pub subs_coded : ℕ → List ℕ → ℕ → Bool
subs_coded zero l e = true
subs_coded (suc k) l e = both (coded_at 6 64 l e) (subs_coded k l (behind 64 l e))

-- behind NPar(2), which ends before e
unfoldable pub group_coded : List ℕ → ℕ → Bool
group_coded l e = pick (ended l e) true (both (coded_at 6 64 l e) (subs_coded (announced 6 64 l e) l (behind 64 l e)))

-- k Par(2) blocks, from place e on
unfoldable pub pars_coded : ℕ → List ℕ → ℕ → Bool
pars_coded zero l e = true
pars_coded (suc k) l e =
    both (coded_at 6 64 l e) (both (group_coded l (behind 64 l e)) (pars_coded k l (group_behind l (behind 64 l e))))

-- the field at a place
unfoldable pub field_coded : List ℕ → ℕ → Bool
field_coded l at =
    both (coded_at 7 128 l at)
    (both (coded_at 7 128 l (behind 128 l at)) (pars_coded (announced 7 128 l (behind 128 l at)) l (behind 128 l (behind 128 l at))))
