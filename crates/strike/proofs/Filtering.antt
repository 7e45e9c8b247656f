-- A tree filtered by a test of its codes: a node whose own code fails is dropped with all below it. What is left has the codes that
-- pass, is as good as the tree was, and has no more octets.
-- Assumes nothing.
use Prim.Native.Nat.{ℕ, zero, suc, ◌+◌, ◌-◌, ◌*◌, ◌/◌, ◌%◌, ◌≤◌, ◌<◌}
use mathlib.Core.Bool.{Bool, true, false}
use mathlib.Core.List.{List, [], ◌∷◌, ◌++◌}
use mathlib.Core.Path.{◌≡◌, refl, sym, ap, ◌∙◌}
use native.Mathlib.Nat.{div-add-mod', add-mul-div_right}
use native.Mathlib.Omega.{arith}
use lib.Arith.{digits_mod}
use lib.ListN.{length, length-append, length-replicate}
use Rattle.tree.specs.Codes.{of_f, of_s}
use Rattle.octets.specs.Places.{pick}
use Rattle.meaning.specs.Written.{passed, skipped, block_from, block_octets, marked}
use Rattle.meaning.proofs.Trees.{Sub, sub, Par, par, Tree, tree, sub_places, par_places, subs_codes, pars_codes, tree_codes, subs_octets, lower_octets, par_octets, pars_octets, tree_octets, Rising, GoodSubs, GoodPars, GoodTree}
use Rattle.tree.proofs.Numbering.{shift}
use Rattle.names.specs.Masks.{only}
use Rattle.names.proofs.Sieving.{only_append}

-- what is left of the SPar(2) nodes under c, of the SPar(1) nodes above b, and of a field's tree
unfoldable pub subs_only : (ℕ → Bool) → ℕ → List Sub → List Sub
subs_only f c [] = []
subs_only f c ((sub t ks) ∷ gs) = pick (f (c + t * 512)) (sub t (only (λ q. f (c + t * 512 + q)) ks) ∷ subs_only f c gs) (subs_only f c gs)

unfoldable pub pars_only : (ℕ → Bool) → ℕ → List Par → List Par
pars_only f b [] = []
pars_only f b ((par s ns gs) ∷ ps) =
    pick (f (b + s * of_s))
    (par s (only (λ q. f (b + s * of_s + q)) ns) (subs_only f (b + s * of_s) gs) ∷ pars_only f b ps)
    (pars_only f b ps)

unfoldable pub tree_only : (ℕ → Bool) → ℕ → Tree → Tree
tree_only f b (tree ns ps) = tree (only (λ q. f (b + q)) ns) (pars_only f b ps)

-- ---- it is as it should be

-- rising positions rise from further below too
pub rising_lower : (lo lo' : ℕ) (qs : List ℕ) → lo' ≤ lo → Rising lo qs → Rising lo' qs
unfolding Rising
rising_lower lo lo' [] h r = tt
rising_lower lo lo' (q ∷ qs) h r = (omega (arith, r.0), r.1, r.2)

-- those that pass rise as all do
rising_only : (g : ℕ → Bool) (lo : ℕ) (qs : List ℕ) → Rising lo qs → Rising lo (only g qs)
unfolding Rising only
rising_only g lo [] r = tt
rising_only g lo (q ∷ qs) r = go (g q) (rising_only g q qs r.2)
  where
    go : (t : Bool) → Rising q (only g qs) → Rising lo (pick t (q ∷ only g qs) (only g qs))
    go true h = (r.0, r.1, h)
    go false h = rising_lower q lo (only g qs) (omega (arith, r.0)) h

-- the positions of the nodes that are left
pub places_subs_only : (f : ℕ → Bool) (c : ℕ) (gs : List Sub) → sub_places (subs_only f c gs) ≡ only (λ t. f (c + t * 512)) (sub_places gs)
unfolding subs_only only
places_subs_only f c [] = refl
places_subs_only f c ((sub t ks) ∷ gs) = go (f (c + t * 512)) (places_subs_only f c gs)
  where
    S : List Sub
    S = subs_only f c gs

    go : {R : List ℕ} (u : Bool) → sub_places S ≡ R → sub_places (pick u (sub t (only (λ q. f (c + t * 512 + q)) ks) ∷ S) S) ≡ pick u (t ∷ R) R
    go true e = ap (λ (x : List ℕ). t ∷ x) e
    go false e = e

pub places_pars_only : (f : ℕ → Bool) (b : ℕ) (ps : List Par) → par_places (pars_only f b ps) ≡ only (λ s. f (b + s * of_s)) (par_places ps)
unfolding pars_only only
places_pars_only f b [] = refl
places_pars_only f b ((par s ns gs) ∷ ps) = go (f (b + s * of_s)) (places_pars_only f b ps)
  where
    S : List Par
    S = pars_only f b ps

    go : {R : List ℕ} (u : Bool) → par_places S ≡ R
        → par_places (pick u (par s (only (λ q. f (b + s * of_s + q)) ns) (subs_only f (b + s * of_s) gs) ∷ S) S) ≡ pick u (s ∷ R) R
    go true e = ap (λ (x : List ℕ). s ∷ x) e
    go false e = e

-- they are good, level by level
subs_good : (f : ℕ → Bool) (c : ℕ) (gs : List Sub) → GoodSubs gs → GoodSubs (subs_only f c gs)
unfolding GoodSubs subs_only
subs_good f c [] g = tt
subs_good f c ((sub t ks) ∷ gs) g = go (f (c + t * 512)) (subs_good f c gs g.1)
  where
    K : List ℕ
    K = only (λ q. f (c + t * 512 + q)) ks

    go : (u : Bool) → GoodSubs (subs_only f c gs) → GoodSubs (pick u (sub t K ∷ subs_only f c gs) (subs_only f c gs))
    go true h = (rising_only (λ q. f (c + t * 512 + q)) 0 ks g.0, h)
    go false h = h

pars_good : (f : ℕ → Bool) (b : ℕ) (ps : List Par) → GoodPars ps → GoodPars (pars_only f b ps)
unfolding GoodPars pars_only
pars_good f b [] g = tt
pars_good f b ((par s ns gs) ∷ ps) g = go (f c) (pars_good f b ps g.3)
  where
    c : ℕ
    c = b + s * of_s

    go : (u : Bool) → GoodPars (pars_only f b ps) → GoodPars (pick u (par s (only (λ q. f (c + q)) ns) (subs_only f c gs) ∷ pars_only f b ps) (pars_only f b ps))
    go true h =
        (rising_only (λ q. f (c + q)) 0 ns g.0, rw (places_subs_only f c gs) (rising_only (λ t. f (c + t * 512)) 0 (sub_places gs) g.1), subs_good f c gs g.2, h)
    go false h = h

pub tree_only_good : (f : ℕ → Bool) (b : ℕ) (T : Tree) → GoodTree T → GoodTree (tree_only f b T)
unfolding GoodTree tree_only
tree_only_good f b (tree ns ps) g =
    (rising_only (λ q. f (b + q)) 0 ns g.0, rw (places_pars_only f b ps) (rising_only (λ s. f (b + s * of_s)) 0 (par_places ps) g.1), pars_good f b ps g.2)

-- ---- its codes

-- what passes has its parents pass: the NPar positions and the SPar(2) positions under a code that is no field's own
pub record Parented (f : ℕ → Bool) : Type 0 where
  pub npar : (c q : ℕ) → c % 512 ≡ 0 → 0 < c % of_f → 0 < q → q < 512 → f (c + q) ≡ true → f c ≡ true
  pub spar : (c q : ℕ) → c % of_s ≡ 0 → 0 < c % of_f → 0 < q → q < 512 → f (c + q * 512) ≡ true → f c ≡ true

-- the codes of the positions that pass are the codes that do
shift_only : (f : ℕ → Bool) (c : ℕ) (ks : List ℕ) → shift c (only (λ q. f (c + q)) ks) ≡ only f (shift c ks)
unfolding only
shift_only f c [] = refl
shift_only f c (k ∷ ks) = go (f (c + k)) (shift_only f c ks)
  where
    K : List ℕ
    K = only (λ q. f (c + q)) ks

    go : {R : List ℕ} (t : Bool) → shift c K ≡ R → shift c (pick t (k ∷ K) K) ≡ pick t ((c + k) ∷ R) R
    go true e = ap (λ (x : List ℕ). (c + k) ∷ x) e
    go false e = e

-- the codes of an SPar(1) and of an SPar(2) are no field's own
own_par : (b s : ℕ) → b % of_f ≡ 0 → 0 < s → s ≤ 511 → 0 < (b + s * of_s) % of_f
own_par b s a lo hi =
    let e : b + s * of_s ≡ b / of_f * of_f + s * of_s = omega arith in
    let m : (b + s * of_s) % of_f ≡ s * of_s = ap (λ (x : ℕ). x % of_f) e ∙ digits_mod (b / of_f) (omega arith) in
    omega arith

own_sub : (c t : ℕ) → c % of_s ≡ 0 → 0 < t → t ≤ 511 → 0 < (c + t * 512) % of_f
own_sub c t a lo hi =
    let j = c / of_s in
    let e : c + t * 512 ≡ j / 512 * of_f + (j % 512 * of_s + t * 512) = omega arith in
    let m : (c + t * 512) % of_f ≡ j % 512 * of_s + t * 512 = ap (λ (x : ℕ). x % of_f) e ∙ digits_mod (j / 512) (omega arith) in
    omega arith

module _ (f : ℕ → Bool) (p : Parented f) where
  -- under a code that fails no NPar passes
  no_npar : (c lo : ℕ) (ks : List ℕ) → c % 512 ≡ 0 → 0 < c % of_f → f c ≡ false → Rising lo ks → only f (shift c ks) ≡ []
  unfolding Rising only
  no_npar c lo [] a s n r = refl
  no_npar c lo (k ∷ ks) a s n r = go (f (c + k)) refl (no_npar c k ks a s n r.2)
    where
      go : {R : List ℕ} (t : Bool) → f (c + k) ≡ t → R ≡ [] → pick t ((c + k) ∷ R) R ≡ []
      go true e h = let y : f c ≡ true = p.npar c k a s (omega (arith, r.0)) (omega (arith, r.1)) e in cc
      go false e h = h

  -- and no SPar(2) node is left
  no_subs : (c lo : ℕ) (gs : List Sub) → c % of_s ≡ 0 → 0 < c % of_f → f c ≡ false → Rising lo (sub_places gs) → subs_only f c gs ≡ []
  unfolding Rising subs_only
  no_subs c lo [] a s n r = refl
  no_subs c lo ((sub t ks) ∷ gs) a s n r = go (f (c + t * 512)) refl (no_subs c t gs a s n r.2)
    where
      go : {R : List Sub} (u : Bool) → f (c + t * 512) ≡ u → R ≡ [] → pick u (sub t (only (λ q. f (c + t * 512 + q)) ks) ∷ R) R ≡ []
      go true e h = let y : f c ≡ true = p.spar c t a s (omega (arith, r.0)) (omega (arith, r.1)) e in cc
      go false e h = h

  -- the codes of the SPar(2) nodes that are left
  subs_only_lem : (c lo : ℕ) (gs : List Sub) → c % of_s ≡ 0 → Rising lo (sub_places gs) → GoodSubs gs → subs_codes c (subs_only f c gs) ≡ only f (subs_codes c gs)
  unfolding Rising GoodSubs subs_codes subs_only only
  subs_only_lem c lo [] a r g = refl
  subs_only_lem c lo ((sub t ks) ∷ gs) a r g = go (f e) refl (subs_only_lem c t gs a r.2 g.1)
    where
      e : ℕ
      e = c + t * 512

      S : List Sub
      S = subs_only f c gs

      go : (u : Bool) → f e ≡ u → subs_codes c S ≡ only f (subs_codes c gs)
          → subs_codes c (pick u (sub t (only (λ q. f (e + q)) ks) ∷ S) S) ≡ pick u (e ∷ only f (shift e ks ++ subs_codes c gs)) (only f (shift e ks ++ subs_codes c gs))
      go true h ih = ap (λ (x : List ℕ). e ∷ x) (rw (shift_only f e ks, ih) (sym (only_append f (shift e ks) (subs_codes c gs))))
      go false h ih =
          let none : only f (shift e ks) ≡ [] = no_npar e 0 ks (omega arith) (own_sub c t a (omega (arith, r.0)) r.1) h g.0 in
          rw (only_append f (shift e ks) (subs_codes c gs), none) ih

  -- those of the SPar(1) nodes
  pars_only_lem : (b lo : ℕ) (ps : List Par) → b % of_f ≡ 0 → Rising lo (par_places ps) → GoodPars ps → pars_codes b (pars_only f b ps) ≡ only f (pars_codes b ps)
  unfolding Rising GoodPars pars_codes pars_only only
  pars_only_lem b lo [] a r g = refl
  pars_only_lem b lo ((par s ns gs) ∷ ps) a r g = go (f c) refl (pars_only_lem b s ps a r.2 g.3)
    where
      c : ℕ
      c = b + s * of_s

      S : List Par
      S = pars_only f b ps

      N : List ℕ
      N = shift c ns

      G : List ℕ
      G = subs_codes c gs

      own : 0 < c % of_f
      own = own_par b s a (omega (arith, r.0)) r.1

      below : subs_codes c (subs_only f c gs) ≡ only f G
      below = subs_only_lem c 0 gs (omega arith) g.1 g.2

      go : (u : Bool) → f c ≡ u → pars_codes b S ≡ only f (pars_codes b ps)
          → pars_codes b (pick u (par s (only (λ q. f (c + q)) ns) (subs_only f c gs) ∷ S) S)
          ≡ pick u (c ∷ only f ((N ++ G) ++ pars_codes b ps)) (only f ((N ++ G) ++ pars_codes b ps))
      go true h ih =
          ap (λ (x : List ℕ). c ∷ x)
          (rw (shift_only f c ns, below, ih) (rw (only_append f (N ++ G) (pars_codes b ps), only_append f N G)))
      go false h ih =
          let npar : only f N ≡ [] = no_npar c 0 ns (omega arith) own h g.0 in
          let spar : only f G ≡ [] = sym below ∙ (rw (no_subs c 0 gs (omega arith) own h g.1) (unfold subs_codes in refl)) in
          rw (only_append f (N ++ G) (pars_codes b ps), only_append f N G, npar, spar) ih

  -- the codes of what is left of a good tree are those of its codes that pass
  pub tree_only_codes : (b : ℕ) (T : Tree) → b % of_f ≡ 0 → GoodTree T → tree_codes b (tree_only f b T) ≡ only f (tree_codes b T)
  unfolding GoodTree tree_codes tree_only
  tree_only_codes b (tree ns ps) a g =
      rw (shift_only f b ns, pars_only_lem b 0 ps a g.1 g.2) (sym (only_append f (shift b ns) (pars_codes b ps)))

-- ---- its octets are no more

-- the octets passed are as many as are passed
length_skipped : (k a : ℕ) → length (skipped k a) ≡ k
length_skipped zero a = refl
length_skipped (suc k) a = ap suc (length-replicate k 0)

module _ (w m : ℕ) (wide : 0 < w) where
  -- how many octets a block has does not lie at what is set in them
  same_length : (p a a' : ℕ) (qs : List ℕ) → length (block_from w m p a qs) ≡ length (block_from w m p a' qs)
  unfolding block_from
  same_length p a a' [] = refl
  same_length p a a' (q ∷ qs) =
      let n = passed w p q in
      rw (length-append (skipped n a), length-append (skipped n a'), length_skipped n a, length_skipped n a') (ap (λ (x : ℕ). n + x) (same_length (p + n * w) _ _ qs))

  pub next_length : (p a q : ℕ) (qs : List ℕ) → length (block_from w m p a (q ∷ qs)) ≡ passed w p q + length (block_from w m (p + passed w p q * w) 0 qs)
  unfolding block_from
  next_length p a q qs =
      let n = passed w p q in
      rw (length-append (skipped n a), length_skipped n a) (ap (λ (x : ℕ). n + x) (same_length (p + n * w) _ 0 qs))

  -- begun n octets later, a block has at most n octets less
  later : (n p a a' : ℕ) (qs : List ℕ) → Rising (p + n * w) qs → length (block_from w m p a qs) ≤ n + length (block_from w m (p + n * w) a' qs)
  unfolding Rising
  later n p a a' [] r = unfold block_from in omega arith
  later n p a a' (q ∷ qs) r =
      let d = q - (p + n * w) - 1 in
      let gap : q - p - 1 ≡ d + n * w = omega (arith, r.0) in
      let count : passed w p q ≡ d / w + n = rw gap (add-mul-div_right d n {z = w} wide) in
      let on : p + (d / w + n) * w ≡ p + n * w + d / w * w = omega arith in
      rw (next_length p a q qs, next_length (p + n * w) a' q qs, count, on) (omega arith)

  fewer_from : (g : ℕ → Bool) (p a : ℕ) (qs : List ℕ) → Rising p qs → length (block_from w m p a (only g qs)) ≤ length (block_from w m p a qs)
  unfolding Rising only
  fewer_from g p a [] r = omega arith
  fewer_from g p a (q ∷ qs) r = go (g q) (fewer_from g x 0 qs up)
    where
      n : ℕ
      n = passed w p q

      x : ℕ
      x = p + n * w

      up : Rising x qs
      up = rising_lower q x qs (omega (arith, r.0, div-add-mod' (q - p - 1) w)) r.2

      go : (t : Bool) → length (block_from w m x 0 (only g qs)) ≤ length (block_from w m x 0 qs)
          → length (block_from w m p a (pick t (q ∷ only g qs) (only g qs))) ≤ length (block_from w m p a (q ∷ qs))
      go true h = rw (next_length p a q (only g qs), next_length p a q qs) (omega arith)
      go false h = rw (next_length p a q qs) (omega (arith, later n p a 0 (only g qs) (rising_only g x qs up)))

  -- a block of fewer positions has no more octets
  block_fewer : (g : ℕ → Bool) (qs : List ℕ) → Rising 0 qs → length (block_octets w m (only g qs)) ≤ length (block_octets w m qs)
  block_fewer g qs r = fewer_from g 0 0 qs r

-- marking changes no length
pub length_marked : (l : List ℕ) → length (marked l) ≡ length l
unfolding marked
length_marked [] = refl
length_marked (d ∷ []) = refl
length_marked (d ∷ (e ∷ l)) = ap suc (length_marked (e ∷ l))

subs_fewer : (f : ℕ → Bool) (c : ℕ) (gs : List Sub) → GoodSubs gs → length (subs_octets (subs_only f c gs)) ≤ length (subs_octets gs)
unfolding GoodSubs subs_octets subs_only
subs_fewer f c [] g = omega arith
subs_fewer f c ((sub t ks) ∷ gs) g = go (f (c + t * 512)) (subs_fewer f c gs g.1)
  where
    test : ℕ → Bool
    test q = f (c + t * 512 + q)

    S : List Sub
    S = subs_only f c gs

    go : (u : Bool) → length (subs_octets S) ≤ length (subs_octets gs) → length (subs_octets (pick u (sub t (only test ks) ∷ S) S)) ≤ length (block_octets 6 64 ks ++ subs_octets gs)
    go true h =
        rw (length-append (block_octets 6 64 (only test ks)), length-append (block_octets 6 64 ks)) (omega (arith, block_fewer 6 64 (omega arith) test ks g.0))
    go false h = rw (length-append (block_octets 6 64 ks)) (omega arith)

pub lower_most : (gs : List Sub) → length (lower_octets gs) ≤ length (block_octets 6 64 (sub_places gs)) + length (subs_octets gs)
unfolding lower_octets
lower_most [] = omega arith
lower_most (g ∷ gs) = rw (length-append (block_octets 6 64 (sub_places (g ∷ gs)))) (omega arith)

lower_fewer : (f : ℕ → Bool) (c : ℕ) (gs : List Sub) → Rising 0 (sub_places gs) → GoodSubs gs → length (lower_octets (subs_only f c gs)) ≤ length (lower_octets gs)
unfolding lower_octets
lower_fewer f c [] r g = unfold subs_only in omega arith
lower_fewer f c (x ∷ gs) r g =
    let some = x ∷ gs in
    let S = subs_only f c some in
    let test : ℕ → Bool = λ t. f (c + t * 512) in
    let few : length (block_octets 6 64 (sub_places S)) ≤ length (block_octets 6 64 (sub_places some)) = rw (places_subs_only f c some) (block_fewer 6 64 (omega arith) test (sub_places some) r) in
    rw (length-append (block_octets 6 64 (sub_places some))) (omega (arith, lower_most S, subs_fewer f c some g))

pars_fewer : (f : ℕ → Bool) (b : ℕ) (ps : List Par) → GoodPars ps → length (pars_octets (pars_only f b ps)) ≤ length (pars_octets ps)
unfolding GoodPars par_octets pars_octets pars_only
pars_fewer f b [] g = omega arith
pars_fewer f b ((par s ns gs) ∷ ps) g = go (f c) (pars_fewer f b ps g.3)
  where
    c : ℕ
    c = b + s * of_s

    test : ℕ → Bool
    test q = f (c + q)

    S : List Par
    S = pars_only f b ps

    few : length (marked (block_octets 6 64 (only test ns) ++ lower_octets (subs_only f c gs))) ≤ length (marked (block_octets 6 64 ns ++ lower_octets gs))
    few =
        rw (length_marked (block_octets 6 64 (only test ns) ++ lower_octets (subs_only f c gs)), length_marked (block_octets 6 64 ns ++ lower_octets gs), length-append (block_octets 6 64 (only test ns)), length-append (block_octets 6 64 ns))
        (omega (arith, block_fewer 6 64 (omega arith) test ns g.0, lower_fewer f c gs g.1 g.2))

    go : (u : Bool) → length (pars_octets S) ≤ length (pars_octets ps)
        → length (pars_octets (pick u (par s (only test ns) (subs_only f c gs) ∷ S) S)) ≤ length (marked (block_octets 6 64 ns ++ lower_octets gs) ++ pars_octets ps)
    go true h =
        rw (length-append (marked (block_octets 6 64 (only test ns) ++ lower_octets (subs_only f c gs))), length-append (marked (block_octets 6 64 ns ++ lower_octets gs))) (omega (arith, few))
    go false h = rw (length-append (marked (block_octets 6 64 ns ++ lower_octets gs))) (omega arith)

-- what is left of a good tree has no more octets than the tree
pub tree_fewer : (f : ℕ → Bool) (b : ℕ) (T : Tree) → GoodTree T → length (tree_octets (tree_only f b T)) ≤ length (tree_octets T)
unfolding GoodTree tree_octets tree_only
tree_fewer f b (tree ns ps) g =
    let one : ℕ → Bool = λ q. f (b + q) in
    let two : ℕ → Bool = λ s. f (b + s * of_s) in
    let P = pars_only f b ps in
    let few : length (block_octets 7 128 (par_places P)) ≤ length (block_octets 7 128 (par_places ps)) = rw (places_pars_only f b ps) (block_fewer 7 128 (omega arith) two (par_places ps) g.1) in
    rw (length-append (block_octets 7 128 (only one ns)), length-append (block_octets 7 128 (par_places P)), length-append (block_octets 7 128 ns), length-append (block_octets 7 128 (par_places ps)))
    (omega (arith, block_fewer 7 128 (omega arith) one ns g.0, pars_fewer f b ps g.2))
