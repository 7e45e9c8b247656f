-- The octets of a tree, read where they stand, give its codes, end behind them, are well-formed and minimal, and have no position above
-- 511. And any octets that are read have a tree, which has the codes that are read.
-- Assumes nothing.
use Prim.Native.Nat.{ℕ, zero, suc, ◌+◌, ◌*◌, ◌≤◌, ◌<◌}
use mathlib.Core.Bool.{Bool, true, false}
use mathlib.Core.List.{List, [], ◌∷◌, ◌++◌, append_assoc}
use mathlib.Core.Path.{◌≡◌, refl, ap, ◌∙◌}
use native.Mathlib.Omega.{arith}
use borrow.Author.Tests.{ne_eqb}
use lib.Dec.{eqb}
use lib.ListN.{length, drop, length-append}
use lib.Seq.{drop-drop, drop-append_seam}
use Rattle.octets.specs.Places.{pick, both}
use Rattle.octets.proofs.Laws.{both_true}
use Rattle.tree.specs.Block.{numbers, behind, announced, ended}
use Rattle.tree.specs.Codes.{sub_codes, subs_behind, group_codes, group_behind, par_codes, pars_behind, rest_codes, rest_behind, field_codes, field_behind, of_s}
use Rattle.tree.specs.Form.{Form, Fine, subs_form, group_form, pars_form, rest_form, field_form}
use Rattle.tree.specs.Order.{Ascending}
use Rattle.tree.specs.Wide.{low_fits, field_fits}
use Rattle.meaning.specs.Coded.{none_above, coded_at, subs_coded, group_coded, pars_coded, field_coded}
use Rattle.meaning.specs.Written.{block_octets, marked}
use Rattle.meaning.specs.Minimal.{subs_minimal, group_minimal, pars_minimal, field_minimal}
use Rattle.meaning.proofs.Trees.{Sub, sub, Par, par, Tree, tree, sub_places, par_places, subs_codes, pars_codes, tree_codes, subs_octets, lower_octets, par_octets, pars_octets, tree_octets, Rising, GoodSubs, GoodPars, GoodTree, rising_all, ascends, rising_coded, coded_rising}
use Rattle.tree.proofs.Ascending.{numbers-ascending, numbers_between, low_between, top_between}
use Rattle.tree.proofs.Numbering.{numbers_shift}
use Rattle.tree.proofs.Wide.{fits_parts, fits_short}
use Rattle.meaning.proofs.Blocks.{closing, none, block_some, marked_block, top_stands, low_stands}

-- ---- octets of a tree

-- what is read from place e on: the codes that were meant, up to behind the octets, well-formed and minimal
pub record Reads (found codes : List ℕ) (end e : ℕ) (octets : List ℕ) (form : Form) (minimal : Bool) : Type 0 where
  pub told : found ≡ codes
  pub next : end ≡ e + length octets
  pub fine : form ≡ Fine
  pub tight : minimal ≡ true

-- the same, and with no position above 511
pub record ReadsCoded (found codes : List ℕ) (end e : ℕ) (octets : List ℕ) (form : Form) (minimal coded : Bool) : Type 0 where
  pub told : found ≡ codes
  pub next : end ≡ e + length octets
  pub fine : form ≡ Fine
  pub tight : minimal ≡ true
  pub low : coded ≡ true

-- a block is something
block_there : (qs Y : List ℕ) → none (block_octets 6 64 qs ++ Y) ≡ false
block_there qs Y = go (block_octets 6 64 qs) (block_some 6 64 qs)
  where
    go : (X : List ℕ) → 0 < length X → none (X ++ Y) ≡ false
    go [] h = absurd (omega arith)
    go (x ∷ X) h = refl

-- octets follow exactly if nodes do
none_subs : (gs : List Sub) → none (subs_octets gs) ≡ none gs
unfolding subs_octets
none_subs [] = refl
none_subs ((sub t ks) ∷ gs) = block_there ks (subs_octets gs)

none_lower : (gs : List Sub) → none (lower_octets gs) ≡ none gs
unfolding lower_octets
none_lower [] = refl
none_lower (g ∷ gs) = block_there (sub_places (g ∷ gs)) (subs_octets (g ∷ gs))

-- a block and what follows in its Par(2) block, marked: bit 8 stands in it if no nodes follow
pub marked_subs : (ks : List ℕ) (gs : List Sub) → Ascending 0 ks → marked (block_octets 6 64 ks ++ subs_octets gs) ≡ block_octets 6 (closing (none gs) * 64) ks ++ marked (subs_octets gs)
marked_subs ks gs r = rw (marked_block ks (subs_octets gs) r, none_subs gs)

pub marked_lower : (ns : List ℕ) (gs : List Sub) → Ascending 0 ns → marked (block_octets 6 64 ns ++ lower_octets gs) ≡ block_octets 6 (closing (none gs) * 64) ns ++ marked (lower_octets gs)
marked_lower ns gs r = rw (marked_block ns (lower_octets gs) r, none_lower gs)

-- the NPar(3) blocks
subs_read_coded : (c : ℕ) (gs : List Sub) (l : List ℕ) (e : ℕ) (R : List ℕ) → GoodSubs gs → drop e l ≡ marked (subs_octets gs) ++ R → ended l e ≡ none gs
    → ReadsCoded (sub_codes c (sub_places gs) l e) (subs_codes c gs) (subs_behind (length (sub_places gs)) l e) e (marked (subs_octets gs))
    (subs_form (length (sub_places gs)) l e) (subs_minimal (length (sub_places gs)) l e) (subs_coded (length (sub_places gs)) l e)
unfolding GoodSubs sub_codes subs_codes subs_behind subs_octets subs_form subs_minimal subs_coded
subs_read_coded c [] l e R w h b = unfold marked in record { told = refl; next = omega arith; fine = rw b; tight = refl; low = refl }
subs_read_coded c ((sub t ks) ∷ gs) l e R w h b =
    let B = block_octets 6 (closing (none gs) * 64) ks in
    let S = marked (subs_octets gs) in
    let up = ascends 0 ks w.0 in
    let whole : marked (block_octets 6 64 ks ++ subs_octets gs) ≡ B ++ S = marked_subs ks gs up in
    let s = low_stands (none gs) ks l e (S ++ R) up (h ∙ rw (whole, append_assoc B S R)) in
    let ih = subs_read_coded c gs l (behind 64 l e) R w.1 s.0.rest s.1 in
    record {
      told = rw (s.0.numbered (c + t * 512), ih.told);
      next = rw (whole, length-append B S) (omega (arith, ih.next, s.0.next));
      fine = rw (b, s.0.fine) ih.fine;
      tight = rw s.0.minimal ih.tight;
      low = rw (s.0.positions, rising_coded 0 ks w.0) ih.low;
    }

-- what stands behind NPar(2)
group_read_coded : (c : ℕ) (gs : List Sub) (l : List ℕ) (e : ℕ) (R : List ℕ) → Rising 0 (sub_places gs) → GoodSubs gs → drop e l ≡ marked (lower_octets gs) ++ R → ended l e ≡ none gs
    → ReadsCoded (group_codes c l e) (subs_codes c gs) (group_behind l e) e (marked (lower_octets gs)) (group_form l e) (group_minimal l e) (group_coded l e)
unfolding group_codes group_behind group_form group_minimal group_coded lower_octets
group_read_coded c [] l e R r w h b = unfold marked subs_codes in record { told = rw b; next = rw b (omega arith); fine = rw b; tight = rw b; low = rw b }
group_read_coded c ((sub t ks) ∷ gs) l e R r w h b =
    let some = sub t ks ∷ gs in
    let ts = t ∷ sub_places gs in
    let B = block_octets 6 64 ts in
    let S = marked (subs_octets some) in
    let up = ascends 0 ts r in
    let whole : marked (B ++ subs_octets some) ≡ B ++ S = marked_subs ts some up in
    let s = low_stands false ts l e (S ++ R) up (h ∙ rw (whole, append_assoc B S R)) in
    let ih = subs_read_coded c some l (behind 64 l e) R w s.0.rest s.1 in
    let set : eqb (length ts) 0 ≡ false = ne_eqb (length ts) 0 (λ e. omega arith) in
    record {
      told = rw (b, s.0.positions) ih.told;
      next = rw (b, s.0.positions, whole, length-append B S) (omega (arith, ih.next, s.0.next));
      fine = rw (b, s.0.positions, s.0.fine) ih.fine;
      tight = rw (b, s.0.positions, s.0.minimal, set) ih.tight;
      low = rw (b, s.0.positions, rising_coded 0 ts r) ih.low;
    }

-- the Par(2) blocks
pars_read_coded : (b : ℕ) (ps : List Par) (l : List ℕ) (e : ℕ) (R : List ℕ) → GoodPars ps → drop e l ≡ pars_octets ps ++ R
    → ReadsCoded (par_codes b (par_places ps) l e) (pars_codes b ps) (pars_behind (length (par_places ps)) l e) e (pars_octets ps)
    (pars_form (length (par_places ps)) l e) (pars_minimal (length (par_places ps)) l e) (pars_coded (length (par_places ps)) l e)
unfolding GoodPars par_codes pars_codes pars_behind par_octets pars_octets pars_form pars_minimal pars_coded
pars_read_coded b [] l e R w h = record { told = refl; next = omega arith; fine = refl; tight = refl; low = refl }
pars_read_coded b ((par s ns gs) ∷ ps) l e R w h =
    let c = b + s * of_s in
    let B = block_octets 6 (closing (none gs) * 64) ns in
    let G = marked (lower_octets gs) in
    let P = pars_octets ps in
    let up = ascends 0 ns w.0 in
    let whole : marked (block_octets 6 64 ns ++ lower_octets gs) ≡ B ++ G = marked_lower ns gs up in
    let a = low_stands (none gs) ns l e (G ++ (P ++ R)) up (h ∙ rw (whole, append_assoc (B ++ G) P R, append_assoc B G (P ++ R))) in
    let x = behind 64 l e in
    let g = group_read_coded c gs l x (P ++ R) w.1 w.2 a.0.rest a.1 in
    let goes : drop (group_behind l x) l ≡ P ++ R = rw (g.next, ← (drop-drop (length G) x l), a.0.rest) (drop-append_seam G (P ++ R)) in
    let ih = pars_read_coded b ps l (group_behind l x) R w.3 goes in
    record {
      told = rw (a.0.numbered c, g.told, ih.told);
      next = rw (whole, length-append (B ++ G) P, length-append B G) (omega (arith, ih.next, g.next, a.0.next));
      fine = rw (a.0.fine, g.fine) ih.fine;
      tight = rw (a.0.minimal, g.tight) ih.tight;
      low = rw (a.0.positions, rising_coded 0 ns w.0, g.low) ih.low;
    }

-- the octets of a tree, at any place of any octets, are read as that tree
pub tree_read_coded : (b : ℕ) (T : Tree) (l : List ℕ) (e : ℕ) (R : List ℕ) → GoodTree T → drop e l ≡ tree_octets T ++ R
    → ReadsCoded (field_codes b l e) (tree_codes b T) (field_behind l e) e (tree_octets T) (field_form l e) (field_minimal l e) (field_coded l e)
unfolding GoodTree tree_codes tree_octets field_codes rest_codes field_behind rest_behind field_form rest_form field_minimal field_coded
tree_read_coded b (tree ns ps) l e R w h =
    let N = block_octets 7 128 ns in
    let S = block_octets 7 128 (par_places ps) in
    let P = pars_octets ps in
    let a = top_stands ns l e (S ++ (P ++ R)) (ascends 0 ns w.0) (h ∙ rw (append_assoc N (S ++ P) R, append_assoc S P R)) in
    let x = behind 128 l e in
    let s = top_stands (par_places ps) l x (P ++ R) (ascends 0 (par_places ps) w.1) a.rest in
    let y = behind 128 l x in
    let t = pars_read_coded b ps l y R w.2 s.rest in
    record {
      told = rw (a.numbered b, s.positions, t.told);
      next = rw (s.positions, length-append N (S ++ P), length-append S P) (omega (arith, t.next, s.next, a.next));
      fine = rw (a.fine, s.positions, s.fine) t.fine;
      tight = rw (a.minimal, s.positions, s.minimal) t.tight;
      low = rw (a.positions, rising_coded 0 ns w.0, s.positions, rising_coded 0 (par_places ps) w.1) t.low;
    }

-- the same without a word of positions above 511
module _ {found codes : List ℕ} {end e : ℕ} {octets : List ℕ} {form : Form} {minimal coded : Bool} where
  plainly : ReadsCoded found codes end e octets form minimal coded → Reads found codes end e octets form minimal
  plainly r = record { told = r.told; next = r.next; fine = r.fine; tight = r.tight }

subs_read : (c : ℕ) (gs : List Sub) (l : List ℕ) (e : ℕ) (R : List ℕ) → GoodSubs gs → drop e l ≡ marked (subs_octets gs) ++ R → ended l e ≡ none gs
    → Reads (sub_codes c (sub_places gs) l e) (subs_codes c gs) (subs_behind (length (sub_places gs)) l e) e (marked (subs_octets gs))
    (subs_form (length (sub_places gs)) l e) (subs_minimal (length (sub_places gs)) l e)
subs_read c gs l e R w h b = plainly (subs_read_coded c gs l e R w h b)

group_read : (c : ℕ) (gs : List Sub) (l : List ℕ) (e : ℕ) (R : List ℕ) → Rising 0 (sub_places gs) → GoodSubs gs → drop e l ≡ marked (lower_octets gs) ++ R → ended l e ≡ none gs
    → Reads (group_codes c l e) (subs_codes c gs) (group_behind l e) e (marked (lower_octets gs)) (group_form l e) (group_minimal l e)
group_read c gs l e R r w h b = plainly (group_read_coded c gs l e R r w h b)

pars_read : (b : ℕ) (ps : List Par) (l : List ℕ) (e : ℕ) (R : List ℕ) → GoodPars ps → drop e l ≡ pars_octets ps ++ R
    → Reads (par_codes b (par_places ps) l e) (pars_codes b ps) (pars_behind (length (par_places ps)) l e) e (pars_octets ps)
    (pars_form (length (par_places ps)) l e) (pars_minimal (length (par_places ps)) l e)
pars_read b ps l e R w h = plainly (pars_read_coded b ps l e R w h)

pub tree_read : (b : ℕ) (T : Tree) (l : List ℕ) (e : ℕ) (R : List ℕ) → GoodTree T → drop e l ≡ tree_octets T ++ R
    → Reads (field_codes b l e) (tree_codes b T) (field_behind l e) e (tree_octets T) (field_form l e) (field_minimal l e)
tree_read b T l e R w h = plainly (tree_read_coded b T l e R w h)

-- ---- the tree of any octets

-- an SPar(2) node for each position, with the NPar(3) block that follows
unfoldable pub subs_at : List ℕ → List ℕ → ℕ → List Sub
subs_at [] l e = []
subs_at (t ∷ ts) l e = sub t (numbers 6 64 0 l e) ∷ subs_at ts l (behind 64 l e)

-- the SPar(2) nodes behind NPar(2), which ends before e
unfoldable pub group_at : List ℕ → ℕ → List Sub
group_at l e = pick (ended l e) [] (subs_at (numbers 6 64 0 l e) l (behind 64 l e))

-- an SPar(1) node for each position, with the Par(2) block that follows
unfoldable pub pars_at : List ℕ → List ℕ → ℕ → List Par
pars_at [] l e = []
pars_at (s ∷ ss) l e = par s (numbers 6 64 0 l e) (group_at l (behind 64 l e)) ∷ pars_at ss l (group_behind l (behind 64 l e))

-- the field at a place
unfoldable pub tree_at : List ℕ → ℕ → Tree
tree_at l e = tree (numbers 7 128 0 l e) (pars_at (numbers 7 128 0 l (behind 128 l e)) l (behind 128 l (behind 128 l e)))

-- ---- its codes are those that are read

-- below an SPar(1), with its SPar(2), and above
subs_codes_lem : (c : ℕ) (ts l : List ℕ) (e : ℕ) → subs_codes c (subs_at ts l e) ≡ sub_codes c ts l e
unfolding subs_codes subs_at sub_codes
subs_codes_lem c [] l e = refl
subs_codes_lem c (t ∷ ts) l e = rw (subs_codes_lem c ts l (behind 64 l e), numbers_shift 6 64 (c + t * 512) (drop e l))

group_codes_lem : (c : ℕ) (l : List ℕ) (e : ℕ) → subs_codes c (group_at l e) ≡ group_codes c l e
unfolding group_at group_codes
group_codes_lem c l e = go (ended l e)
  where
    ts : List ℕ
    ts = numbers 6 64 0 l e

    go : (b : Bool) → subs_codes c (pick b [] (subs_at ts l (behind 64 l e))) ≡ pick b [] (sub_codes c ts l (behind 64 l e))
    go true = unfold subs_codes in refl
    go false = subs_codes_lem c ts l (behind 64 l e)

pars_codes_lem : (b : ℕ) (ss l : List ℕ) (e : ℕ) → pars_codes b (pars_at ss l e) ≡ par_codes b ss l e
unfolding pars_codes pars_at par_codes
pars_codes_lem b [] l e = refl
pars_codes_lem b (s ∷ ss) l e =
    rw (pars_codes_lem b ss l (group_behind l (behind 64 l e)), numbers_shift 6 64 (b + s * of_s) (drop e l), group_codes_lem (b + s * of_s) l (behind 64 l e))

-- the tree of any octets has the codes that are read of them
pub tree_codes_lem : (b : ℕ) (l : List ℕ) (e : ℕ) → tree_codes b (tree_at l e) ≡ field_codes b l e
unfolding tree_codes tree_at field_codes rest_codes
tree_codes_lem b l e =
    let x = behind 128 l e in
    rw (numbers_shift 7 128 b (drop e l), pars_codes_lem b (numbers 7 128 0 l x) l (behind 128 l x))

-- ---- it is as it should be

-- its nodes have the positions that they were made of
pub places_subs : (ts l : List ℕ) (e : ℕ) → sub_places (subs_at ts l e) ≡ ts
unfolding subs_at
places_subs [] l e = refl
places_subs (t ∷ ts) l e = ap (λ (a : List ℕ). t ∷ a) (places_subs ts l (behind 64 l e))

pub places_pars : (ss l : List ℕ) (e : ℕ) → par_places (pars_at ss l e) ≡ ss
unfolding pars_at
places_pars [] l e = refl
places_pars (s ∷ ss) l e = ap (λ (a : List ℕ). s ∷ a) (places_pars ss l (group_behind l (behind 64 l e)))

-- in the octets of a message no position is above 511
pub rising_at : (l : List ℕ) → length l ≤ 64 → (w m e : ℕ) → w ≤ 7 → Rising 0 (numbers w m 0 l e)
rising_at l short w m e h = rising_all 0 _ (numbers_between w m 0 l e h short)

-- octets whose blocks are short enough for that have none, level by level
module _ (l : List ℕ) (low : low_fits 0 l ≡ true) where
  rising_low : (e : ℕ) → Rising 0 (numbers 6 64 0 l e)
  rising_low e = rising_all 0 _ (low_between 0 l e low)

  good_subs : (ts : List ℕ) (e : ℕ) → GoodSubs (subs_at ts l e)
  unfolding GoodSubs subs_at
  good_subs [] e = tt
  good_subs (t ∷ ts) e = (rising_low e, good_subs ts (behind 64 l e))

  good_group_lem : (e : ℕ) → Rising 0 (sub_places (group_at l e)) × GoodSubs (group_at l e)
  unfolding group_at
  good_group_lem e = go (ended l e)
    where
      ts : List ℕ
      ts = numbers 6 64 0 l e

      go : (b : Bool) → Rising 0 (sub_places (pick b [] (subs_at ts l (behind 64 l e)))) × GoodSubs (pick b [] (subs_at ts l (behind 64 l e)))
      go true = unfold Rising GoodSubs in (tt, tt)
      go false = (rw (places_subs ts l (behind 64 l e)) (rising_low e), good_subs ts (behind 64 l e))

  good_pars_lem : (ss : List ℕ) (e : ℕ) → GoodPars (pars_at ss l e)
  unfolding GoodPars pars_at
  good_pars_lem [] e = tt
  good_pars_lem (s ∷ ss) e =
      let g = good_group_lem (behind 64 l e) in
      (rising_low e, g.0, g.1, good_pars_lem ss (group_behind l (behind 64 l e)))

  fits_low : (e : ℕ) → coded_at 6 64 l e ≡ true
  fits_low e = rising_coded 0 _ (rising_low e)

  fits_subs : (k e : ℕ) → subs_coded k l e ≡ true
  unfolding subs_coded
  fits_subs zero e = refl
  fits_subs (suc k) e = rw (fits_low e) (fits_subs k (behind 64 l e))

  fits_group : (e : ℕ) → group_coded l e ≡ true
  unfolding group_coded
  fits_group e = rw (fits_low e, fits_subs (announced 6 64 l e) (behind 64 l e)) (go (ended l e))
    where
      go : (b : Bool) → pick b true true ≡ true
      go true = refl
      go false = refl

  fits_pars : (k e : ℕ) → pars_coded k l e ≡ true
  unfolding pars_coded
  fits_pars zero e = refl
  fits_pars (suc k) e = rw (fits_low e, fits_group (behind 64 l e)) (fits_pars k (group_behind l (behind 64 l e)))

-- a field that passes the test has no position above 511
pub fits_coded : (l : List ℕ) (e : ℕ) → field_fits l e ≡ true → field_coded l e ≡ true
unfolding field_coded
fits_coded l e h =
    let x = behind 128 l e in
    let f = fits_parts l e h in
    rw (rising_coded 0 _ (rising_all 0 _ (top_between 0 l e f.0)), rising_coded 0 _ (rising_all 0 _ (top_between 0 l x f.1)))
    (fits_pars l f.2 (announced 7 128 l x) (behind 128 l x))

-- where none is, the nodes are good, level by level
module _ (l : List ℕ) where
  coded_block : (w m e : ℕ) → coded_at w m l e ≡ true → Rising 0 (numbers w m 0 l e)
  coded_block w m e h = coded_rising 0 _ (numbers-ascending w m 0 l e) h

  coded_subs : (ts : List ℕ) (e : ℕ) → subs_coded (length ts) l e ≡ true → GoodSubs (subs_at ts l e)
  unfolding subs_coded GoodSubs subs_at
  coded_subs [] e h = tt
  coded_subs (t ∷ ts) e h = let b = both_true (coded_at 6 64 l e) _ h in (coded_block 6 64 e b.0, coded_subs ts (behind 64 l e) b.1)

  coded_group : (e : ℕ) → group_coded l e ≡ true → Rising 0 (sub_places (group_at l e)) × GoodSubs (group_at l e)
  unfolding group_coded group_at
  coded_group e h = go (ended l e) h
    where
      ts : List ℕ
      ts = numbers 6 64 0 l e

      x : ℕ
      x = behind 64 l e

      go : (b : Bool) → pick b true (both (none_above ts) (subs_coded (length ts) l x)) ≡ true
          → Rising 0 (sub_places (pick b [] (subs_at ts l x))) × GoodSubs (pick b [] (subs_at ts l x))
      go true h = unfold Rising GoodSubs in (tt, tt)
      go false h = let b = both_true (none_above ts) _ h in (rw (places_subs ts l x) (coded_block 6 64 e b.0), coded_subs ts x b.1)

  coded_pars : (ss : List ℕ) (e : ℕ) → pars_coded (length ss) l e ≡ true → GoodPars (pars_at ss l e)
  unfolding pars_coded GoodPars pars_at
  coded_pars [] e h = tt
  coded_pars (s ∷ ss) e h =
      let b = both_true (coded_at 6 64 l e) _ h in
      let c = both_true (group_coded l (behind 64 l e)) _ b.1 in
      let g = coded_group (behind 64 l e) c.0 in
      (coded_block 6 64 e b.0, g.0, g.1, coded_pars ss (group_behind l (behind 64 l e)) c.1)

-- the tree of a field without a position above 511 is as it should be, and so is that of a message's field
pub tree_coded : (l : List ℕ) (e : ℕ) → field_coded l e ≡ true → GoodTree (tree_at l e)
unfolding field_coded GoodTree tree_at
tree_coded l e h =
    let x = behind 128 l e in
    let ss = numbers 7 128 0 l x in
    let b = both_true (coded_at 7 128 l e) _ h in
    let c = both_true (coded_at 7 128 l x) _ b.1 in
    (coded_block l 7 128 e b.0, rw (places_pars ss l (behind 128 l x)) (coded_block l 7 128 x c.0), coded_pars l ss (behind 128 l x) c.1)

pub tree_fits : (l : List ℕ) (e : ℕ) → field_fits l e ≡ true → GoodTree (tree_at l e)
unfolding GoodTree tree_at
tree_fits l e h =
    let x = behind 128 l e in
    let ss = numbers 7 128 0 l x in
    let f = fits_parts l e h in
    (rising_all 0 _ (top_between 0 l e f.0), rw (places_pars ss l (behind 128 l x)) (rising_all 0 ss (top_between 0 l x f.1)), good_pars_lem l f.2 ss (behind 128 l x))

pub tree_good : (l : List ℕ) → length l ≤ 64 → (e : ℕ) → GoodTree (tree_at l e)
tree_good l short e = tree_fits l e (fits_short l e short)
