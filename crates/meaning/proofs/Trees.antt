-- The tree of a field, between its codes and its octets: each node has its position and the positions set under it.
-- Assumes nothing.
use Prim.Native.Nat.{ℕ, ◌+◌, ◌*◌, ◌<◌, ◌≤◌}
use mathlib.Core.Bool.{true}
use mathlib.Core.List.{List, [], ◌∷◌, ◌++◌}
use mathlib.Core.Path.{◌≡◌, refl}
use native.Mathlib.Omega.{arith}
use borrow.Author.Tests.{leb-true, le-leb}
use lib.Dec.{leb}
use Rattle.octets.proofs.Laws.{both_true}
use Rattle.tree.specs.Codes.{of_s}
use Rattle.tree.specs.Order.{Ascending, AllBelow}
use Rattle.tree.proofs.Numbering.{shift}
use Rattle.meaning.specs.Coded.{none_above}
use Rattle.meaning.specs.Written.{block_octets, marked}

-- an SPar(2) with its NPar(3) positions; an SPar(1) with its NPar(2) positions and its SPar(2) nodes; a field
pub data Sub : Type 0 where
  sub : ℕ → List ℕ → Sub

pub data Par : Type 0 where
  par : ℕ → List ℕ → List Sub → Par

pub data Tree : Type 0 where
  tree : List ℕ → List Par → Tree

abbrev pub sub_places : List Sub → List ℕ
sub_places [] = []
sub_places ((sub t ks) ∷ gs) = t ∷ sub_places gs

abbrev pub par_places : List Par → List ℕ
par_places [] = []
par_places ((par s ns gs) ∷ ps) = s ∷ par_places ps

-- ---- its codes

unfoldable pub subs_codes : ℕ → List Sub → List ℕ
subs_codes c [] = []
subs_codes c ((sub t ks) ∷ gs) = (c + t * 512) ∷ shift (c + t * 512) ks ++ subs_codes c gs

unfoldable pub pars_codes : ℕ → List Par → List ℕ
pars_codes b [] = []
pars_codes b ((par s ns gs) ∷ ps) =
    (b + s * of_s) ∷ (shift (b + s * of_s) ns ++ subs_codes (b + s * of_s) gs) ++ pars_codes b ps

unfoldable pub tree_codes : ℕ → Tree → List ℕ
tree_codes b (tree ns ps) = shift b ns ++ pars_codes b ps

-- ---- its octets

unfoldable pub subs_octets : List Sub → List ℕ
subs_octets [] = []
subs_octets ((sub t ks) ∷ gs) = block_octets 6 64 ks ++ subs_octets gs

unfoldable pub lower_octets : List Sub → List ℕ
lower_octets [] = []
lower_octets (g ∷ gs) = block_octets 6 64 (sub_places (g ∷ gs)) ++ subs_octets (g ∷ gs)

unfoldable pub par_octets : Par → List ℕ
par_octets (par s ns gs) = marked (block_octets 6 64 ns ++ lower_octets gs)

unfoldable pub pars_octets : List Par → List ℕ
pars_octets [] = []
pars_octets (p ∷ ps) = par_octets p ++ pars_octets ps

unfoldable pub tree_octets : Tree → List ℕ
tree_octets (tree ns ps) = block_octets 7 128 ns ++ (block_octets 7 128 (par_places ps) ++ pars_octets ps)

-- ---- a tree as it should be: positions rise from 1, and are at most 511

unfoldable pub Rising : ℕ → List ℕ → Type 0
Rising lo [] = Unit {0}
Rising lo (q ∷ qs) = (lo < q) × (q ≤ 511) × Rising q qs

-- those that ascend and are below 512 do, and those that do ascend
pub rising_all : (lo : ℕ) (l : List ℕ) → Ascending lo l × AllBelow 512 l → Rising lo l
unfolding Ascending AllBelow Rising
rising_all lo [] b = tt
rising_all lo (q ∷ l) b = (b.0.0, omega (arith, b.1.0), rising_all q l (b.0.1, b.1.1))

pub ascends : (lo : ℕ) (l : List ℕ) → Rising lo l → Ascending lo l
unfolding Ascending Rising
ascends lo [] r = tt
ascends lo (q ∷ l) r = (r.0, ascends q l r.2)

-- none of them is above 511, and those that ascend so far rise
pub rising_coded : (lo : ℕ) (l : List ℕ) → Rising lo l → none_above l ≡ true
unfolding Rising none_above
rising_coded lo [] r = refl
rising_coded lo (q ∷ l) r = rw (le-leb q 511 r.1) (rising_coded q l r.2)

pub coded_rising : (lo : ℕ) (l : List ℕ) → Ascending lo l → none_above l ≡ true → Rising lo l
unfolding Ascending Rising none_above
coded_rising lo [] a h = tt
coded_rising lo (q ∷ l) a h = let b = both_true (leb q 511) (none_above l) h in (a.0, leb-true q 511 b.0, coded_rising q l a.1 b.1)

unfoldable pub GoodSubs : List Sub → Type 0
GoodSubs [] = Unit {0}
GoodSubs ((sub t ks) ∷ gs) = Rising 0 ks × GoodSubs gs

unfoldable pub GoodPars : List Par → Type 0
GoodPars [] = Unit {0}
GoodPars ((par s ns gs) ∷ ps) = Rising 0 ns × Rising 0 (sub_places gs) × GoodSubs gs × GoodPars ps

unfoldable pub GoodTree : Tree → Type 0
GoodTree (tree ns ps) = Rising 0 ns × Rising 0 (par_places ps) × GoodPars ps
