-- What is put head by head is what is written of a field's codes, where each has its parents.
-- Assumes nothing.
use Prim.Native.Nat.{ℕ, suc, ◌+◌, ◌*◌, ◌/◌, ◌%◌, ◌<◌, ◌≤◌}
use mathlib.Core.Bool.{Bool, true, false}
use mathlib.Core.List.{List, [], ◌∷◌, ◌++◌, append_assoc, append-nil}
use mathlib.Core.Path.{◌≡◌, refl, sym, ap, ◌∙◌}
use native.Mathlib.Omega.{arith}
use borrow.Author.Tests.{le-ltb, eq-eqb, ne_eqb}
use lib.Arith.{digits_mod}
use lib.Dec.{ltb, eqb}
use lib.ListN.{length-append}
use Rattle.octets.specs.Places.{pick}
use Rattle.tree.specs.Codes.{field_base, of_f, of_s}
use Rattle.tree.proofs.Numbering.{shift}
use Rattle.meaning.specs.Written.{block_octets, run, from, positions, marked, written}
use Rattle.meaning.specs.Writing.{is_empty}
use Rattle.meaning.proofs.Blocks.{block_some}
use Rattle.meaning.proofs.Trees.{Sub, sub, Par, par, Tree, tree, sub_places, par_places, subs_codes, pars_codes, tree_codes, subs_octets, lower_octets, par_octets, pars_octets, tree_octets, Rising, GoodSubs, GoodPars, GoodTree}
use Rattle.meaning.proofs.Growing.{Within, within_join, cut_join, npar_within, subs_within, pars_within, shift_positions, subs_positions, pars_positions, tree_of}
use Rattle.meaning.proofs.Meanings.{Meant, grown, written_grown}
use Rattle.writer.specs.Inner.{ends_par, head_put, heads_from, field_put}
use Rattle.writer.proofs.Parents.{empty_some}

-- the heads from a limit on are those of the codes from there on
heads_from_lem : (lim : ℕ) (l : List ℕ) → heads_from lim l ≡ heads_from 0 (from lim l)
unfolding heads_from from
heads_from_lem lim [] = refl
heads_from_lem lim (h ∷ l) = go (ltb h lim) (heads_from_lem lim l)
  where
    go : (t : Bool) → heads_from lim l ≡ heads_from 0 (from lim l)
        → pick t (heads_from lim l) (head_put h (run (h + 512) l) (from (h + 512) l) ++ heads_from (h + 512) l) ≡ heads_from 0 (pick t (from lim l) (h ∷ l))
    go true ih = ih
    go false ih = rw (le-ltb h 0 (omega arith))

-- the first head's blocks, and then those of the codes behind the ones under it
pub heads_next : (h : ℕ) (l : List ℕ) → heads_from 0 (h ∷ l) ≡ head_put h (run (h + 512) l) (from (h + 512) l) ++ heads_from 0 (from (h + 512) l)
heads_next h l = rw (← (heads_from_lem (h + 512) l)) (unfold heads_from in rw (le-ltb h 0 (omega arith)))

-- of two lists the last octet is marked: that of the first if the second has none
pub marked_both : (X Y : List ℕ) → marked (X ++ Y) ≡ pick (is_empty Y) (marked X) X ++ marked Y
unfolding marked
marked_both X [] = rw (append-nil X, append-nil (marked X))
marked_both [] (y ∷ Y) = refl
marked_both (x ∷ []) (y ∷ Y) = refl
marked_both (x ∷ (z ∷ X)) (y ∷ Y) = ap (λ (l : List ℕ). x ∷ l) (marked_both (z ∷ X) (y ∷ Y))

-- ---- the SPar(2) nodes under an SPar(1), c, and what follows

-- the code of a node is not that of an SPar(1)
sub_apart : (c t q : ℕ) → c % of_s ≡ 0 → t < q → q ≤ 511 → eqb ((c + q * 512) % of_s) 0 ≡ false
sub_apart c t q z h k =
    let e : c + q * 512 ≡ c / of_s * of_s + q * 512 = omega arith in
    let m : (c + q * 512) % of_s ≡ q * 512 = ap (λ (x : ℕ). x % of_s) e ∙ digits_mod (c / of_s) (omega arith) in
    ne_eqb ((c + q * 512) % of_s) 0 (λ i. omega arith)

-- no SPar(2) follows where there are no nodes
ends_subs : (c t : ℕ) (gs : List Sub) (R : List ℕ) → c % of_s ≡ 0 → Rising t (sub_places gs) → ends_par R ≡ true → ends_par (subs_codes c gs ++ R) ≡ is_empty (subs_octets gs)
unfolding Rising subs_codes subs_octets
ends_subs c t [] R z r e = e
ends_subs c t ((sub q ks) ∷ gs) R z r e =
    rw (sub_apart c t q z r.0 r.1)
    (sym (empty_some (block_octets 6 64 ks ++ subs_octets gs) (λ n. omega (arith, length-append (block_octets 6 64 ks) (subs_octets gs), block_some 6 64 ks))))

-- their NPar(3) blocks, the last one with bit 8, and then what follows
heads_subs : (c t lim : ℕ) (gs : List Sub) (R : List ℕ) → c % of_s ≡ 0 → c + of_s ≤ lim → Rising t (sub_places gs) → GoodSubs gs → Within (c + of_s) lim R → ends_par R ≡ true
    → heads_from 0 (subs_codes c gs ++ R) ≡ marked (subs_octets gs) ++ heads_from 0 R
unfolding Rising GoodSubs subs_codes subs_octets marked
heads_subs c t lim [] R z h r g w e = refl
heads_subs c t lim ((sub q ks) ∷ gs) R z h r g w e =
    let d = c + q * 512 in
    let S = subs_codes c gs in
    let B = block_octets 6 64 ks in
    let behind = within_join (d + 512) (c + of_s) lim S R (omega arith) h (subs_within c q (d + 512) gs (omega arith) r.2 g.1) w in
    let cut = cut_join (suc d) (d + 512) lim (shift d ks) (S ++ R) (npar_within d ks g.0) behind in
    let ih = heads_subs c q lim gs R z h r.2 g.1 w e in
    rw (append_assoc (shift d ks) S R, heads_next d (shift d ks ++ (S ++ R)), cut.0, cut.1, shift_positions d ks, sub_apart c t q z r.0 r.1, append-nil B, ends_subs c q gs R z r.2 e, ih, marked_both B (subs_octets gs))
    (sym (append_assoc (pick (is_empty (subs_octets gs)) (marked B) B) (marked (subs_octets gs)) (heads_from 0 R)))

-- with their SPar(2)
lower_octets_lem : (c : ℕ) (gs : List Sub) → Rising 0 (sub_places gs) → GoodSubs gs
    → pick (is_empty (subs_codes c gs)) [] (block_octets 6 64 (positions 512 c (subs_codes c gs))) ++ subs_octets gs ≡ lower_octets gs
unfolding subs_codes subs_octets lower_octets
lower_octets_lem c [] r g = refl
lower_octets_lem c ((sub q ks) ∷ gs) r g = let G = (sub q ks) ∷ gs in
    ap (λ (x : List ℕ). block_octets 6 64 x ++ subs_octets G) (subs_positions c 0 G r g)

-- ---- the field

-- the SPar(1) nodes above b: no SPar(2) comes first, and their Par(2) blocks are put
heads_pars : (b t : ℕ) (ps : List Par) → b % of_s ≡ 0 → Rising t (par_places ps) → GoodPars ps → (ends_par (pars_codes b ps) ≡ true) × (heads_from 0 (pars_codes b ps) ≡ pars_octets ps)
unfolding Rising GoodPars pars_codes pars_octets par_octets heads_from
heads_pars b t [] z r g = (refl, refl)
heads_pars b t ((par s ns gs) ∷ ps) z r g =
    let c = b + s * of_s in
    let S = subs_codes c gs in
    let P = pars_codes b ps in
    let L = pick (is_empty S) [] (block_octets 6 64 (positions 512 c S)) in
    let B = block_octets 6 64 ns in
    let O = subs_octets gs in
    let top : c % of_s ≡ 0 = omega arith in
    let ih = heads_pars b s ps z r.2 g.3 in
    let under = subs_within c 0 (c + 512) gs (omega arith) g.1 g.2 in
    let behind = pars_within b s (c + of_s) ps (omega arith) r.2 g.3 in
    let low = cut_join (c + 512) (c + of_s) (b + of_f) S P under behind in
    let cut = cut_join (suc c) (c + 512) (b + of_f) (shift c ns) (S ++ P) (npar_within c ns g.0) (within_join (c + 512) (c + of_s) (b + of_f) S P (omega arith) (omega arith) under behind) in
    let whole : marked (B ++ lower_octets gs) ≡ pick (is_empty O) (marked (B ++ L)) (B ++ L) ++ marked O = ap marked (ap (λ (x : List ℕ). B ++ x) (sym (lower_octets_lem c gs g.1 g.2)) ∙ sym (append_assoc B L O)) ∙ marked_both (B ++ L) O in (
      eq-eqb (c % of_s) 0 top,
      rw (append_assoc (shift c ns) S P, heads_next c (shift c ns ++ (S ++ P)), cut.0, cut.1, shift_positions c ns, eq-eqb (c % of_s) 0 top, low.0, ends_subs c 0 gs P top g.1 ih.0, heads_subs c 0 (b + of_f) gs P top (omega arith) g.1 g.2 behind ih.0, ih.1, whole)
          (sym (append_assoc (pick (is_empty O) (marked (B ++ L)) (B ++ L)) (marked O) (pars_octets ps))),
    )

-- what is put of a good tree's codes is its octets
field_tree : (b : ℕ) (T : Tree) → b % of_s ≡ 0 → GoodTree T → field_put b (tree_codes b T) ≡ tree_octets T
unfolding GoodTree tree_codes tree_octets
field_tree b (tree ns ps) z g =
    let cut = cut_join (suc b) (b + 512) (b + of_f) (shift b ns) (pars_codes b ps) (npar_within b ns g.0) (pars_within b 0 (b + 512) ps (omega arith) g.1 g.2) in
    rw (cut.0, cut.1, shift_positions b ns, pars_positions b 0 ps g.1 g.2, (heads_pars b 0 ps z g.1 g.2).1)

-- and of a meaning's codes what is written of them
pub field_written : (f : ℕ) (l : List ℕ) → Meant (field_base f) l → field_put (field_base f) l ≡ written (field_base f) l
field_written f l h =
    let g = grown f l h in
    ap (field_put (field_base f)) (sym g.1) ∙ field_tree (field_base f) (tree_of (field_base f) l) (omega arith) g.0 ∙ sym (written_grown f l h)
