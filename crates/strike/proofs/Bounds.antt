-- A good field has at most 28 octets: as many as the tables' standard positions reach to, block by block.
-- Assumes nothing.
use Prim.Native.Nat.{ℕ, zero, suc, ◌+◌, ◌-◌, ◌*◌, ◌/◌, ◌%◌, ◌≤◌, ◌<◌}
use mathlib.Core.Bool.{Bool, true, false}
use mathlib.Core.List.{List, [], ◌∷◌, ◌++◌}
use mathlib.Core.Path.{◌≡◌, refl, ap}
use native.Mathlib.Nat.{add-mul-div_right, div-add-mod'}
use native.Mathlib.Omega.{arith}
use borrow.Author.Tests.{ltb-true, ltb-false}
use lib.Dec.{ltb}
use lib.ListN.{length, length-append}
use Rattle.octets.specs.Bits.{AreOctets, num}
use Rattle.tree.specs.Codes.{field_base, of_f, of_s}
use Rattle.tree.specs.Order.{AllBelow}
use Rattle.meaning.specs.Written.{passed, block_from, block_octets, marked}
use Rattle.octets.proofs.Laws.{both_true}
use Rattle.meaning.proofs.Reading.{tree_at, tree_codes_lem, tree_good}
use Rattle.meaning.proofs.Trees.{Sub, sub, Par, par, Tree, tree, sub_places, par_places, subs_codes, pars_codes, tree_codes, subs_octets, lower_octets, par_octets, pars_octets, tree_octets, Rising, GoodSubs, GoodPars, GoodTree}
use Rattle.tree.proofs.Numbering.{shift}
use Rattle.names.specs.Tables.{Printed, npar_blocks, spar_blocks}
use Rattle.names.specs.Named.{printed_under, printed_at, is_standard, standard_code}
use Rattle.names.proofs.Printings.{printed_of_npar, printed_of_spar1, printed_of_spar2}
use Rattle.good.specs.Good.{all_standard, good_field}
use Rattle.good.proofs.Parts.{good_parts, all_split}
use Rattle.strike.proofs.Filtering.{rising_lower, next_length, length_marked, lower_most}
use Rattle.strike.proofs.Goodness.{good_tree}

-- ---- how far the standard positions reach

-- the last position that is printed as standard; 0 where there is none
abbrev before : Bool → ℕ → ℕ
before b zero = num b
before b (suc n) = suc (suc n)

unfoldable pub standard_end : List Printed → ℕ
standard_end [] = 0
standard_end (r ∷ printed) = before (is_standard r) (standard_end printed)

-- no standard position stands behind it
within_end : (printed : List Printed) (q : ℕ) → is_standard (printed_at printed q) ≡ true → q ≤ standard_end printed
unfolding printed_at standard_end
within_end [] q h = absurd (omega (arith, ap num h))
within_end (r ∷ printed) zero h = omega arith
within_end (r ∷ printed) (suc zero) h = rw h (go (standard_end printed))
  where
    go : (n : ℕ) → 1 ≤ before true n
    go zero = omega arith
    go (suc n) = omega arith
within_end (r ∷ printed) (suc (suc q)) h = go (standard_end printed) (within_end printed (suc q) h)
  where
    go : (n : ℕ) → suc q ≤ n → suc (suc q) ≤ before (is_standard r) n
    go zero k = absurd (omega arith)
    go (suc n) k = omega arith

-- ---- the octets of blocks

-- those of a block of w positions to an octet, the last of which is n
abbrev pub octets_to : ℕ → ℕ → ℕ
octets_to w n = 1 + (n - 1) / w

-- the sum of what is given for each of the positions 1 to n
unfoldable pub sum_to : (ℕ → ℕ) → ℕ → ℕ
sum_to f zero = 0
sum_to f (suc n) = f (suc n) + sum_to f n

-- of SPar(2) and all below it under the code c, if n is its last standard position; of a Par(2) block; of the field above b
unfoldable pub sub_room : ℕ → ℕ → ℕ
sub_room c t = octets_to 6 (standard_end (printed_under (c + t * 512) npar_blocks))

unfoldable pub lower_room : ℕ → ℕ → ℕ
lower_room c zero = 0
lower_room c (suc n) = octets_to 6 (suc n) + sum_to (sub_room c) (suc n)

unfoldable pub par_room : ℕ → ℕ → ℕ
par_room b s =
    octets_to 6 (standard_end (printed_under (b + s * of_s) npar_blocks))
    + lower_room (b + s * of_s) (standard_end (printed_under (b + s * of_s) spar_blocks))

unfoldable pub field_room : ℕ → ℕ
field_room b =
    octets_to 7 (standard_end (printed_under b npar_blocks))
    + (octets_to 7 (standard_end (printed_under b spar_blocks)) + sum_to (par_room b) (standard_end (printed_under b spar_blocks)))

-- S: NPar(1) 1, SPar(1) 2, and for its nine positions 4, 3, 4, 1, 2, 1, 1, 4, 5
room_s : field_room (field_base 2) ≡ 28
unfolding standard_end sum_to sub_room lower_room par_room field_room printed_under
room_s = refl

-- ---- a block of positions up to n

-- from the octet on whose positions stand above p
from_fits : (w m n : ℕ) → 0 < w → (p a : ℕ) (qs : List ℕ) → Rising p qs → AllBelow (suc n) qs → length (block_from w m p a qs) ≤ 1 + (n - p - 1) / w
unfolding Rising AllBelow
from_fits w m n wide p a [] r h = unfold block_from in omega arith
from_fits w m n wide p a (q ∷ qs) r h =
    let k = passed w p q in
    let x = p + k * w in
    let low : k * w ≤ q - p - 1 = omega (arith, div-add-mod' (q - p - 1) w) in
    let gap : n - p - 1 ≡ n - x - 1 + k * w = omega (arith, r.0, h.0) in
    let count : (n - p - 1) / w ≡ (n - x - 1) / w + k = rw gap (add-mul-div_right (n - x - 1) k {z = w} wide) in
    rw (next_length w m wide p a q qs) (omega (arith, from_fits w m n wide x 0 qs (rising_lower q x qs (omega (arith, r.0)) r.2) h.1))

-- a whole block
block_fits : (w m n : ℕ) (qs : List ℕ) → 0 < w → Rising 0 qs → AllBelow (suc n) qs → length (block_octets w m qs) ≤ octets_to w n
block_fits w m n qs wide r h = let e : n - 0 ≡ n = omega arith in rw e at (from_fits w m n wide 0 0 qs r h)

-- ---- sums over rising positions

-- to a later position it is no less
sum_more : (f : ℕ → ℕ) (a n : ℕ) → a ≤ n → sum_to f a ≤ sum_to f n
unfolding sum_to
sum_more f zero zero h = omega arith
sum_more f (suc a) zero h = absurd (omega arith)
sum_more f a (suc n) h = go (ltb a (suc n)) refl (sum_more f a n)
  where
    go : (t : Bool) → ltb a (suc n) ≡ t → (a ≤ n → sum_to f a ≤ sum_to f n) → sum_to f a ≤ f (suc n) + sum_to f n
    go true e ih = omega (arith, ih (omega (arith, ltb-true a (suc n) e)))
    go false e ih = let same : a ≡ suc n = omega (arith, ltb-false a (suc n) e) in rw same (omega arith)

-- and to q it has what is given for q besides
sum_next : (f : ℕ → ℕ) (a q : ℕ) → a < q → f q + sum_to f a ≤ sum_to f q
unfolding sum_to
sum_next f a zero h = absurd (omega arith)
sum_next f a (suc q) h = omega (arith, sum_more f a q (omega arith))

-- ---- the codes that are all standard

-- standard NPar positions under a code stand in its table
npar_below : (c lo : ℕ) (ks : List ℕ) → c % 512 ≡ 0 → Rising lo ks → all_standard (shift c ks) ≡ true → AllBelow (suc (standard_end (printed_under c npar_blocks))) ks
unfolding Rising AllBelow all_standard
npar_below c lo [] a r h = tt
npar_below c lo (k ∷ ks) a r h =
    let p = both_true (standard_code (c + k)) (all_standard (shift c ks)) h in
    let printed = printed_of_npar c k a (omega (arith, r.0)) (omega (arith, r.1)) in
    (omega (arith, within_end (printed_under c npar_blocks) k (rw printed at p.0)), npar_below c k ks a r.2 p.1)

-- so an NPar block has no more octets than they need
npar_fits : (w m c : ℕ) (ks : List ℕ) → 0 < w → c % 512 ≡ 0 → Rising 0 ks → all_standard (shift c ks) ≡ true
    → length (block_octets w m ks) ≤ octets_to w (standard_end (printed_under c npar_blocks))
npar_fits w m c ks wide a r h = block_fits w m (standard_end (printed_under c npar_blocks)) ks wide r (npar_below c 0 ks a r h)

-- ---- the octets of a tree

-- SPar(2) positions from lo on, up to the last standard one, n: they stand in the table, and their NPar(3) blocks have room
subs_fit : (c lo n : ℕ) (gs : List Sub) → c % of_s ≡ 0 → n ≡ standard_end (printed_under c spar_blocks) → lo ≤ n → Rising lo (sub_places gs) → GoodSubs gs → all_standard (subs_codes c gs) ≡ true
    → AllBelow (suc n) (sub_places gs) × (length (subs_octets gs) + sum_to (sub_room c) lo ≤ sum_to (sub_room c) n)
unfolding Rising GoodSubs AllBelow all_standard subs_codes subs_octets sub_room
subs_fit c lo n [] a e h r g s = (tt, omega (arith, sum_more (sub_room c) lo n h))
subs_fit c lo n ((sub t ks) ∷ gs) a e h r g s =
    let d = c + t * 512 in
    let p = both_true (standard_code d) _ s in
    let q = all_split (shift d ks) (subs_codes c gs) p.1 in
    let printed = printed_of_spar2 c t a (omega (arith, r.0)) (omega (arith, r.1)) in
    let in_table : t ≤ n = rw e (within_end (printed_under c spar_blocks) t (rw printed at p.0)) in
    let ih = subs_fit c t n gs a e in_table r.2 g.1 q.1 in (
      (omega arith, ih.0),
      rw (length-append (block_octets 6 64 ks) (subs_octets gs))
          (omega (arith, ih.1, sum_next (sub_room c) lo t r.0, npar_fits 6 64 d ks (omega arith) (omega arith) g.0 q.0)),
    )

-- where there is an SPar(2) node, n is not 0
lower_room_lem : (c n : ℕ) → 0 < n → lower_room c n ≡ octets_to 6 n + sum_to (sub_room c) n
unfolding lower_room
lower_room_lem c zero h = absurd (omega arith)
lower_room_lem c (suc n) h = refl

-- SPar(2) with all below it
lower_fits : (c n : ℕ) (gs : List Sub) → c % of_s ≡ 0 → n ≡ standard_end (printed_under c spar_blocks) → Rising 0 (sub_places gs) → GoodSubs gs → all_standard (subs_codes c gs) ≡ true
    → length (lower_octets gs) ≤ lower_room c n
lower_fits c n [] a e r g s = unfold lower_octets in omega arith
lower_fits c n ((sub t ks) ∷ gs) a e r g s =
    let some = sub t ks ∷ gs in
    let f = subs_fit c 0 n some a e (omega arith) r g s in
    let low : 0 < n = unfold Rising AllBelow in omega (arith, r.0, f.0.0) in
    rw (lower_room_lem c n low) (omega (arith, lower_most some, block_fits 6 64 n (sub_places some) (omega arith) r f.0, f.1))

-- SPar(1) positions likewise, with their Par(2) blocks
pars_fit : (b lo n : ℕ) (ps : List Par) → b % of_f ≡ 0 → n ≡ standard_end (printed_under b spar_blocks) → lo ≤ n → Rising lo (par_places ps) → GoodPars ps → all_standard (pars_codes b ps) ≡ true
    → AllBelow (suc n) (par_places ps) × (length (pars_octets ps) + sum_to (par_room b) lo ≤ sum_to (par_room b) n)
unfolding Rising GoodPars AllBelow all_standard pars_codes par_octets pars_octets par_room
pars_fit b lo n [] a e h r g s = (tt, omega (arith, sum_more (par_room b) lo n h))
pars_fit b lo n ((par q ns gs) ∷ ps) a e h r g s =
    let c = b + q * of_s in
    let B = block_octets 6 64 ns in
    let G = lower_octets gs in
    let p = both_true (standard_code c) _ s in
    let u = all_split (shift c ns ++ subs_codes c gs) (pars_codes b ps) p.1 in
    let v = all_split (shift c ns) (subs_codes c gs) u.0 in
    let printed = printed_of_spar1 b q a (omega (arith, r.1)) in
    let in_table : q ≤ n = rw e (within_end (printed_under b spar_blocks) q (rw printed at p.0)) in
    let ih = pars_fit b q n ps a e in_table r.2 g.3 u.1 in (
      (omega arith, ih.0),
      rw (length-append (marked (B ++ G)) (pars_octets ps), length_marked (B ++ G), length-append B G)
          (omega (
            arith,
            ih.1,
            sum_next (par_room b) lo q r.0,
            npar_fits 6 64 c ns (omega arith) (omega arith) g.0 v.0,
            lower_fits c (standard_end (printed_under c spar_blocks)) gs (omega arith) refl g.1 g.2 v.1,
          )),
    )

-- a tree of standard codes
tree_fits : (b : ℕ) (T : Tree) → b % of_f ≡ 0 → GoodTree T → all_standard (tree_codes b T) ≡ true → length (tree_octets T) ≤ field_room b
unfolding GoodTree tree_codes tree_octets field_room sum_to
tree_fits b (tree ns ps) a g s =
    let N = block_octets 7 128 ns in
    let S = block_octets 7 128 (par_places ps) in
    let n = standard_end (printed_under b spar_blocks) in
    let u = all_split (shift b ns) (pars_codes b ps) s in
    let f = pars_fit b 0 n ps a refl (omega arith) g.1 g.2 u.1 in
    rw (length-append N (S ++ pars_octets ps), length-append S (pars_octets ps))
    (omega (arith, npar_fits 7 128 b ns (omega arith) (omega arith) g.0 u.0, block_fits 7 128 n (par_places ps) (omega arith) g.1 f.0, f.1))

-- a good field has at most 28 octets
pub good_short : (t : List ℕ) → AreOctets t → good_field t ≡ true → length t ≤ 28
good_short t o h =
    let g = good_parts t h in
    let T = tree_at t 0 in
    let good = tree_good t (omega (arith, g.short)) 0 in
    omega (arith, tree_fits (field_base 2) T (omega arith) good (rw (tree_codes_lem (field_base 2) t 0) g.standard), room_s, ap length (good_tree t o g))
