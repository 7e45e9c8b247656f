-- A good tree and its codes: what is written of the codes is the tree's octets, the tree comes back from them, and a list that has
-- with each code those that it stands behind is that of a good tree.
-- Assumes nothing.
use Prim.Native.Nat.{ℕ, zero, suc, ◌+◌, ◌-◌, ◌*◌, ◌/◌, ◌%◌, ◌≤◌, ◌<◌}
use mathlib.Core.Bool.{Bool, true, false}
use mathlib.Core.List.{List, [], ◌∷◌, ◌++◌}
use mathlib.Core.Logic.{◌⊎◌, inl, inr, ⊎_elim}
use mathlib.Core.Path.{◌≡◌, refl, sym, ap, ◌∙◌}
use native.Mathlib.Nat.{mod-le, div-add-mod', le-div_iff_mul-le, mul-le-mul_right}
use native.Mathlib.Omega.{arith}
use borrow.Author.Tests.{ltb-true, ltb-false, lt-ltb, le-ltb, eqb-true, eq-eqb, ne_eqb}
use lib.Arith.{digits_div, digits_mod}
use lib.Dec.{ltb, eqb, lit<}
use lib.ListN.{length, length-append}
use Rattle.tree.specs.Codes.{of_f, of_s}
use Rattle.octets.specs.Places.{pick}
use Rattle.tree.specs.Fields.{is_in}
use Rattle.meaning.specs.Written.{block_octets, marked, run, from, positions, subs_written, lower_written, par_written, pars_written, rest_written, written}
use Rattle.meaning.proofs.Trees.{Sub, sub, Par, par, Tree, tree, sub_places, par_places, subs_codes, pars_codes, tree_codes, subs_octets, lower_octets, par_octets, pars_octets, tree_octets, Rising, GoodSubs, GoodPars, GoodTree}
use Rattle.tree.proofs.Numbering.{shift}

-- ---- an ascending list, and where it is cut

-- strictly ascending, each at least lo and below lim
unfoldable pub Within : ℕ → ℕ → List ℕ → Type 0
Within lo lim [] = Unit {0}
Within lo lim (c ∷ l) = (lo ≤ c) × (c < lim) × Within (suc c) lim l

-- a list stands within a wider range too
pub within_wider : (lo lo' lim : ℕ) (l : List ℕ) → lo' ≤ lo → Within lo lim l → Within lo' lim l
unfolding Within
within_wider lo lo' lim [] h w = tt
within_wider lo lo' lim (c ∷ l) h w = (omega arith, w.1, w.2)

-- two lists, one below mid and one from mid on, are one
pub within_join : (lo mid lim : ℕ) (a r : List ℕ) → lo ≤ mid → mid ≤ lim → Within lo mid a → Within mid lim r → Within lo lim (a ++ r)
unfolding Within
within_join lo mid lim [] r h k w v = within_wider mid lo lim r h v
within_join lo mid lim (c ∷ a) r h k w v = (w.0, omega arith, within_join (suc c) mid lim a r w.1 k w.2 v)

-- which is cut there again
pub cut_join : (lo mid lim : ℕ) (a r : List ℕ) → Within lo mid a → Within mid lim r → (run mid (a ++ r) ≡ a) × (from mid (a ++ r) ≡ r)
unfolding Within run from
cut_join lo mid lim [] [] w v = (refl, refl)
cut_join lo mid lim [] (y ∷ r) w v = rw (le-ltb y mid v.0) (refl, refl)
cut_join lo mid lim (c ∷ a) r w v =
    let ih = cut_join (suc c) mid lim a r w.2 v in
    rw (lt-ltb c mid w.1) (ap (λ (x : List ℕ). c ∷ x) ih.0, ih.1)

-- the codes below mid with which a list begins, and the others, are the list
pub run_from : (mid : ℕ) (l : List ℕ) → run mid l ++ from mid l ≡ l
unfolding run from
run_from mid [] = refl
run_from mid (c ∷ l) = go (ltb c mid) (run_from mid l)
  where
    go : (t : Bool) → run mid l ++ from mid l ≡ l → pick t (c ∷ run mid l) [] ++ pick t (from mid l) (c ∷ l) ≡ c ∷ l
    go true ih = ap (λ (x : List ℕ). c ∷ x) ih
    go false ih = refl

-- both ascend as it does
pub cut_within : (lo mid lim : ℕ) (l : List ℕ) → Within lo lim l → Within lo mid (run mid l) × Within mid lim (from mid l)
unfolding Within run from
cut_within lo mid lim [] w = (tt, tt)
cut_within lo mid lim (c ∷ l) w = go (ltb c mid) refl (cut_within (suc c) mid lim l w.2)
  where
    go : (t : Bool) → ltb c mid ≡ t → Within (suc c) mid (run mid l) × Within mid lim (from mid l)
        → Within lo mid (pick t (c ∷ run mid l) []) × Within mid lim (pick t (from mid l) (c ∷ l))
    go true e ih = ((w.0, ltb-true c mid e, ih.0), ih.1)
    go false e ih = (tt, (ltb-false c mid e, w.1, w.2))

-- the code e of a node, those under it, which end before e + g, and the rest
node_within : (g lo e lim : ℕ) (a r : List ℕ) → 0 < g → lo ≤ e → e + g ≤ lim → Within (suc e) (e + g) a → Within (e + g) lim r → Within lo lim ((e ∷ a) ++ r)
unfolding Within
node_within g lo e lim a r p h k w v = (h, omega arith, within_join (suc e) (e + g) lim a r (omega arith) k w v)

-- ---- the numbers of a list

-- one of two tests holds
pub either : (s t : Bool) → pick s true t ≡ true → (s ≡ true) ⊎ (t ≡ true)
either true t e = inl refl
either false t e = inr e

-- the second is enough
pub second : (s t : Bool) → t ≡ true → pick s true t ≡ true
second true t e = refl
second false t e = e

-- a number of two lists together is one of either
in_append : (x : ℕ) (a r : List ℕ) → is_in x (a ++ r) ≡ pick (is_in x a) true (is_in x r)
unfolding is_in
in_append x [] r = refl
in_append x (y ∷ a) r = go (eqb y x) (in_append x a r)
  where
    go : (t : Bool) → is_in x (a ++ r) ≡ pick (is_in x a) true (is_in x r) → pick t true (is_in x (a ++ r)) ≡ pick (pick t true (is_in x a)) true (is_in x r)
    go true ih = refl
    go false ih = ih

-- one of the first or of the second
pub in_either : (x : ℕ) (a r : List ℕ) → is_in x (a ++ r) ≡ true → (is_in x a ≡ true) ⊎ (is_in x r ≡ true)
in_either x a r m = either (is_in x a) (is_in x r) (sym (in_append x a r) ∙ m)

-- one of the first is one of both
pub in_front : (x : ℕ) (a r : List ℕ) → is_in x a ≡ true → is_in x (a ++ r) ≡ true
in_front x a r m = in_append x a r ∙ rw m

-- and so is one of the second
pub in_back : (x : ℕ) (a r : List ℕ) → is_in x r ≡ true → is_in x (a ++ r) ≡ true
in_back x a r m = in_append x a r ∙ second (is_in x a) (is_in x r) m

-- a list's number is its first or one of the others
pub in_cons : (x y : ℕ) (l : List ℕ) → is_in x (y ∷ l) ≡ true → (y ≡ x) ⊎ (is_in x l ≡ true)
unfolding is_in
in_cons x y l m = ⊎_elim (λ e. inl (eqb-true y x e)) inr (either (eqb y x) (is_in x l) m)

-- the first is one
pub in_first : (x : ℕ) (l : List ℕ) → is_in x (x ∷ l) ≡ true
unfolding is_in
in_first x l = rw (eq-eqb x x refl)

-- the others are
pub in_rest : (x y : ℕ) (l : List ℕ) → is_in x l ≡ true → is_in x (y ∷ l) ≡ true
unfolding is_in
in_rest x y l m = second (eqb y x) (is_in x l) m

-- each number of a list within a range is in the range
pub within_at : (x lo lim : ℕ) (l : List ℕ) → Within lo lim l → is_in x l ≡ true → (lo ≤ x) × (x < lim)
unfolding Within is_in
within_at x lo lim [] w m = let z : ◌≡◌ {A = ℕ} 0 1 = cc in omega arith
within_at x lo lim (y ∷ l) w m =
    ⊎_elim (λ e. (omega arith, omega arith)) (λ k. let h = within_at x (suc y) lim l w.2 k in (omega arith, h.1)) (in_cons x y l m)

-- ---- the positions of a tree's codes

-- an NPar's codes ascend as its positions do
pub shift_within : (h p lo : ℕ) (ks : List ℕ) → lo ≤ suc (h + p) → Rising p ks → Within lo (h + 512) (shift h ks)
unfolding Within Rising
shift_within h p lo [] e r = tt
shift_within h p lo (k ∷ ks) e r = (omega arith, omega arith, shift_within h k (suc (h + k)) ks (omega arith) r.2)

-- those of a whole NPar
pub npar_within : (h : ℕ) (ks : List ℕ) → Rising 0 ks → Within (suc h) (h + 512) (shift h ks)
npar_within h ks r = shift_within h 0 (suc h) ks (omega arith) r

-- the positions of an NPar's codes
pub shift_positions : (h : ℕ) (ks : List ℕ) → positions 1 h (shift h ks) ≡ ks
unfolding positions
shift_positions h [] = refl
shift_positions h (k ∷ ks) =
    let m : eqb ((h + k - h) % 1) 0 ≡ true = eq-eqb ((h + k - h) % 1) 0 (omega arith) in
    let d : (h + k - h) / 1 ≡ k = omega arith in
    rw (m, d) (ap (λ (x : List ℕ). k ∷ x) (shift_positions h ks))

-- the codes within the range of an NPar are those of their positions, which rise
pub positions_shift : (h p lo : ℕ) (l : List ℕ) → lo ≡ suc (h + p) → Within lo (h + 512) l → (shift h (positions 1 h l) ≡ l) × Rising p (positions 1 h l)
unfolding Within Rising positions
positions_shift h p lo [] e w = (refl, tt)
positions_shift h p lo (c ∷ l) e w =
    let m : eqb ((c - h) % 1) 0 ≡ true = eq-eqb ((c - h) % 1) 0 (omega arith) in
    let d : (c - h) / 1 ≡ c - h = omega arith in
    let s : h + (c - h) ≡ c = omega arith in
    let ih = positions_shift h (c - h) (suc c) l (omega arith) w.2 in
    rw (m, d) (rw (s, ih.0) refl, (omega arith, omega arith, ih.1))

-- codes between two multiples of g have no position
positions_pass : (g b q : ℕ) (lo : ℕ) (a r : List ℕ) → b + q * g < lo → Within lo (b + q * g + g) a → positions g b (a ++ r) ≡ positions g b r
unfolding positions Within
positions_pass g b q lo [] r h w = refl
positions_pass g b q lo (c ∷ a) r h w =
    let e : c - b ≡ q * g + (c - (b + q * g)) = omega arith in
    let m : (c - b) % g ≡ c - (b + q * g) = ap (λ (x : ℕ). x % g) e ∙ digits_mod q (omega arith) in
    rw (ne_eqb ((c - b) % g) 0 (λ z. omega arith)) (positions_pass g b q (suc c) a r (omega arith) w.2)

-- a node's code has one, those under it have none
pub positions_node : (g b q : ℕ) (a r : List ℕ) → 0 < g → Within (suc (b + q * g)) (b + q * g + g) a → positions g b (((b + q * g) ∷ a) ++ r) ≡ q ∷ positions g b r
unfolding positions
positions_node g b q a r h w =
    let e : b + q * g - b ≡ q * g + 0 = omega arith in
    let m : eqb ((b + q * g - b) % g) 0 ≡ true = rw e (eq-eqb ((q * g + 0) % g) 0 (digits_mod q h)) in
    let d : (b + q * g - b) / g ≡ q = rw e (digits_div q h) in
    rw (m, d) (ap (λ (x : List ℕ). q ∷ x) (positions_pass g b q (suc (b + q * g)) a r (omega arith) w))

-- ---- the tree of a list of codes

-- the SPar(2) nodes under c: a list begins with the code of one, then come those under it, then the next
unfoldable pub subs_of : ℕ → ℕ → List ℕ → List Sub
subs_of zero c l = []
subs_of (suc k) c [] = []
subs_of (suc k) c (t ∷ l) = sub ((t - c) / 512) (positions 1 t (run (t + 512) l)) ∷ subs_of k c (from (t + 512) l)

-- the node at position s of the codes under c
unfoldable pub par_of : ℕ → ℕ → List ℕ → Par
par_of s c l = par s (positions 1 c (run (c + 512) l)) (subs_of (length (from (c + 512) l)) c (from (c + 512) l))

-- the SPar(1) nodes above b
unfoldable pub pars_of : ℕ → ℕ → List ℕ → List Par
pars_of zero b l = []
pars_of (suc k) b [] = []
pars_of (suc k) b (c ∷ l) = par_of ((c - b) / of_s) c (run (c + of_s) l) ∷ pars_of k b (from (c + of_s) l)

-- the tree of the codes above b
unfoldable pub tree_of : ℕ → List ℕ → Tree
tree_of b l = tree (positions 1 b (run (b + 512) l)) (pars_of (length (from (b + 512) l)) b (from (b + 512) l))

-- ---- below an SPar(1)

-- the codes of SPar(2) nodes ascend
pub subs_within : (c t lo : ℕ) (gs : List Sub) → lo ≤ c + t * 512 + 512 → Rising t (sub_places gs) → GoodSubs gs → Within lo (c + of_s) (subs_codes c gs)
unfolding Within Rising GoodSubs subs_codes
subs_within c t lo [] h r g = tt
subs_within c t lo ((sub q ks) ∷ gs) h r g =
    let e = c + q * 512 in
    node_within 512 lo e (c + of_s) (shift e ks) (subs_codes c gs) (lit< tt) (omega arith) (omega arith)
    (npar_within e ks g.0) (subs_within c q (e + 512) gs (omega arith) r.2 g.1)

-- and the nodes' own have the positions
pub subs_positions : (c t : ℕ) (gs : List Sub) → Rising t (sub_places gs) → GoodSubs gs → positions 512 c (subs_codes c gs) ≡ sub_places gs
unfolding Rising GoodSubs subs_codes positions
subs_positions c t [] r g = refl
subs_positions c t ((sub q ks) ∷ gs) r g =
    let e = c + q * 512 in
    positions_node 512 c q (shift e ks) (subs_codes c gs) (lit< tt) (npar_within e ks g.0)
    ∙ ap (λ (x : List ℕ). q ∷ x) (subs_positions c q gs r.2 g.1)

-- the nodes come back from their codes, and what is written of these is their octets
subs_back : (k c t : ℕ) (gs : List Sub) → length (subs_codes c gs) ≤ k → Rising t (sub_places gs) → GoodSubs gs
    → (subs_of k c (subs_codes c gs) ≡ gs) × (subs_written k (subs_codes c gs) ≡ subs_octets gs)
unfolding Rising GoodSubs subs_codes subs_of subs_written subs_octets
subs_back zero c t [] h r g = (refl, refl)
subs_back (suc k) c t [] h r g = (refl, refl)
subs_back zero c t ((sub q ks) ∷ gs) h r g = absurd (omega arith)
subs_back (suc k) c t ((sub q ks) ∷ gs) h r g =
    let e = c + q * 512 in
    let S = subs_codes c gs in
    let cut = cut_join (suc e) (e + 512) (c + of_s) (shift e ks) S (npar_within e ks g.0) (subs_within c q (e + 512) gs (omega arith) r.2 g.1) in
    let d : (e - c) / 512 ≡ q = omega arith in
    let ih = subs_back k c q gs (omega (arith, length-append (shift e ks) S)) r.2 g.1 in
    rw (cut.0, cut.1, shift_positions e ks, d) (ap (λ (x : List Sub). sub q ks ∷ x) ih.0, ap (λ (x : List ℕ). block_octets 6 64 ks ++ x) ih.1)

-- so what is written of them with their SPar(2) is the octets with it
lower_back : (c : ℕ) (gs : List Sub) → Rising 0 (sub_places gs) → GoodSubs gs → lower_written c (subs_codes c gs) ≡ lower_octets gs
unfolding subs_codes lower_written lower_octets
lower_back c [] r g = refl
lower_back c ((sub q ks) ∷ gs) r g =
    let G = (sub q ks) ∷ gs in
    ap (λ (x : List ℕ). block_octets 6 64 x ++ subs_written (length (subs_codes c G)) (subs_codes c G)) (subs_positions c 0 G r g)
    ∙ ap (λ (x : List ℕ). block_octets 6 64 (sub_places G) ++ x) (subs_back (length (subs_codes c G)) c 0 G (omega arith) r g).1

-- ---- an SPar(1) with all under it

-- the codes under an SPar(1) ascend
pub par_within : (c : ℕ) (ns : List ℕ) (gs : List Sub) → Rising 0 ns → Rising 0 (sub_places gs) → GoodSubs gs → Within (suc c) (c + of_s) (shift c ns ++ subs_codes c gs)
par_within c ns gs n r g =
    within_join (suc c) (c + 512) (c + of_s) (shift c ns) (subs_codes c gs) (omega arith) (omega arith)
    (npar_within c ns n) (subs_within c 0 (c + 512) gs (omega arith) r g)

-- the node comes back from them, and what is written of them is its octets
par_back : (s c : ℕ) (ns : List ℕ) (gs : List Sub) → Rising 0 ns → Rising 0 (sub_places gs) → GoodSubs gs
    → (par_of s c (shift c ns ++ subs_codes c gs) ≡ par s ns gs) × (par_written c (shift c ns ++ subs_codes c gs) ≡ par_octets (par s ns gs))
unfolding par_of par_written par_octets
par_back s c ns gs n r g =
    let S = subs_codes c gs in
    let cut = cut_join (suc c) (c + 512) (c + of_s) (shift c ns) S (npar_within c ns n) (subs_within c 0 (c + 512) gs (omega arith) r g) in
    rw (cut.0, cut.1, shift_positions c ns) (
      ap (par s ns) (subs_back (length S) c 0 gs (omega arith) r g).0,
      ap (λ (x : List ℕ). marked (block_octets 6 64 ns ++ x)) (lower_back c gs r g),
    )

-- ---- a field

-- the codes of SPar(1) nodes ascend
pub pars_within : (b t lo : ℕ) (ps : List Par) → lo ≤ b + t * of_s + of_s → Rising t (par_places ps) → GoodPars ps → Within lo (b + of_f) (pars_codes b ps)
unfolding Within Rising GoodPars pars_codes
pars_within b t lo [] h r g = tt
pars_within b t lo ((par s ns gs) ∷ ps) h r g =
    let c = b + s * of_s in
    node_within of_s lo c (b + of_f) (shift c ns ++ subs_codes c gs) (pars_codes b ps) (lit< tt) (omega arith) (omega arith)
    (par_within c ns gs g.0 g.1 g.2) (pars_within b s (c + of_s) ps (omega arith) r.2 g.3)

-- and the nodes' own have the positions
pub pars_positions : (b t : ℕ) (ps : List Par) → Rising t (par_places ps) → GoodPars ps → positions of_s b (pars_codes b ps) ≡ par_places ps
unfolding Rising GoodPars pars_codes positions
pars_positions b t [] r g = refl
pars_positions b t ((par s ns gs) ∷ ps) r g =
    let c = b + s * of_s in
    positions_node of_s b s (shift c ns ++ subs_codes c gs) (pars_codes b ps) (lit< tt) (par_within c ns gs g.0 g.1 g.2)
    ∙ ap (λ (x : List ℕ). s ∷ x) (pars_positions b s ps r.2 g.3)

-- the nodes come back from their codes, and what is written of these is their octets
pars_back : (k b t : ℕ) (ps : List Par) → length (pars_codes b ps) ≤ k → Rising t (par_places ps) → GoodPars ps
    → (pars_of k b (pars_codes b ps) ≡ ps) × (pars_written k (pars_codes b ps) ≡ pars_octets ps)
unfolding Rising GoodPars pars_codes pars_of pars_written pars_octets
pars_back zero b t [] h r g = (refl, refl)
pars_back (suc k) b t [] h r g = (refl, refl)
pars_back zero b t ((par s ns gs) ∷ ps) h r g = absurd (omega arith)
pars_back (suc k) b t ((par s ns gs) ∷ ps) h r g =
    let c = b + s * of_s in
    let X = shift c ns ++ subs_codes c gs in
    let P = pars_codes b ps in
    let cut = cut_join (suc c) (c + of_s) (b + of_f) X P (par_within c ns gs g.0 g.1 g.2) (pars_within b s (c + of_s) ps (omega arith) r.2 g.3) in
    let d : (c - b) / of_s ≡ s = omega arith in
    let this = par_back s c ns gs g.0 g.1 g.2 in
    let ih = pars_back k b s ps (omega (arith, length-append X P)) r.2 g.3 in
    rw (cut.0, cut.1, d, this.0, this.1) (ap (λ (x : List Par). par s ns gs ∷ x) ih.0, ap (λ (x : List ℕ). par_octets (par s ns gs) ++ x) ih.1)

-- a good tree's codes ascend, and stay in their field
pub tree_within : (b : ℕ) (T : Tree) → GoodTree T → Within (suc b) (b + of_f) (tree_codes b T)
unfolding GoodTree tree_codes
tree_within b (tree ns ps) g =
    within_join (suc b) (b + 512) (b + of_f) (shift b ns) (pars_codes b ps) (omega arith) (omega arith)
    (npar_within b ns g.0) (pars_within b 0 (b + 512) ps (omega arith) g.1 g.2)

-- a good tree comes back from its codes, and what is written of these is its octets
tree_both : (b : ℕ) (T : Tree) → GoodTree T → (tree_of b (tree_codes b T) ≡ T) × (written b (tree_codes b T) ≡ tree_octets T)
unfolding GoodTree tree_codes tree_of written rest_written tree_octets
tree_both b (tree ns ps) g =
    let P = pars_codes b ps in
    let cut = cut_join (suc b) (b + 512) (b + of_f) (shift b ns) P (npar_within b ns g.0) (pars_within b 0 (b + 512) ps (omega arith) g.1 g.2) in
    let back = pars_back (length P) b 0 ps (omega arith) g.1 g.2 in
    rw (cut.0, cut.1, shift_positions b ns, pars_positions b 0 ps g.1 g.2, back.0, back.1) (refl, refl)

-- the tree of a good tree's codes is that tree
pub tree_back : (b : ℕ) (T : Tree) → GoodTree T → tree_of b (tree_codes b T) ≡ T
tree_back b T g = (tree_both b T g).0

-- what is written of a good tree's codes is its octets
pub written_tree : (b : ℕ) (T : Tree) → GoodTree T → written b (tree_codes b T) ≡ tree_octets T
written_tree b T g = (tree_both b T g).1

-- two good trees with the same codes are the same
pub tree_unique : (b : ℕ) (T U : Tree) → GoodTree T → GoodTree U → tree_codes b T ≡ tree_codes b U → T ≡ U
tree_unique b T U g h e = sym (tree_back b T g) ∙ ap (tree_of b) e ∙ tree_back b U h

-- ---- lists that have with each number the multiple of g that it stands behind

-- a number from a multiple of g on stands behind no lesser one
floor_from : (g mid x : ℕ) → 0 < g → mid % g ≡ 0 → mid ≤ x → mid ≤ x - x % g
floor_from g mid x p e h =
    let q : mid ≡ mid / g * g = omega (arith, div-add-mod' mid g) in
    let le : mid / g ≤ x / g = (le-div_iff_mul-le p).1 (omega arith) in
    omega (arith, div-add-mod' x g, mul-le-mul_right g le)

-- a number less than g behind a multiple of g stands behind that
floor_is : (g h x : ℕ) → h % g ≡ 0 → h ≤ x → x < h + g → x - x % g ≡ h
floor_is g h x e l u =
    let q : x ≡ h / g * g + (x - h) = omega (arith, div-add-mod' h g) in
    let m : x % g ≡ x - h = ap (λ (y : ℕ). y % g) q ∙ digits_mod (h / g) (omega arith) in
    omega arith

-- with each number the list has the multiple of g that it stands behind
unfoldable pub Closed : ℕ → List ℕ → Type 0
Closed g l = (x : ℕ) → is_in x l ≡ true → is_in (x - x % g) l ≡ true

-- two such lists are one
closed_join : (g : ℕ) (a r : List ℕ) → Closed g a → Closed g r → Closed g (a ++ r)
unfolding Closed
closed_join g a r h k x m = ⊎_elim (λ n. in_front (x - x % g) a r (h x n)) (λ n. in_back (x - x % g) a r (k x n)) (in_either x a r m)

-- and one, cut at a multiple of g, is two
closed_cut : (g lo mid lim : ℕ) (a r : List ℕ) → 0 < g → mid % g ≡ 0 → Within lo mid a → Within mid lim r → Closed g (a ++ r) → Closed g a × Closed g r
unfolding Closed
closed_cut g lo mid lim a r p e w v h = (
  (λ x m.
      ⊎_elim (λ n. n) (λ n. absurd (omega (arith, (within_at x lo mid a w m).1, (within_at (x - x % g) mid lim r v n).0)))
      (in_either (x - x % g) a r (h x (in_front x a r m)))),
  (λ x m.
      ⊎_elim (λ n. absurd (omega (arith, floor_from g mid x p e (within_at x mid lim r v m).0, (within_at (x - x % g) lo mid a w n).1))) (λ n. n)
      (in_either (x - x % g) a r (h x (in_back x a r m)))),
)

-- a node and those under it are such a list
closed_node : (g h : ℕ) (a : List ℕ) → h % g ≡ 0 → 0 < g → Within (suc h) (h + g) a → Closed g (h ∷ a)
unfolding Closed
closed_node g h a e p w x m =
    let there : h ≤ x × x < h + g = ⊎_elim (λ i. (omega arith, omega arith)) (λ k. let b = within_at x (suc h) (h + g) a w k in (omega arith, b.1)) (in_cons x h a m) in
    rw (floor_is g h x e there.0 there.1) (in_first h a)

-- the first of such a list is a multiple
closed_first : (g h lim : ℕ) (l : List ℕ) → Within (suc h) lim l → Closed g (h ∷ l) → h % g ≡ 0
unfolding Closed
closed_first g h lim l w c =
    let low = mod-le h g in
    ⊎_elim (λ e. omega arith) (λ m. omega (arith, (within_at (h - h % g) (suc h) lim l w m).0)) (in_cons (h - h % g) h l (c h (in_first h l)))

-- a node and those under it, and the rest, where m more is a multiple too
closed_under : (g m h lim : ℕ) (l : List ℕ) → 0 < g → 0 < m → (h + m) % g ≡ 0 → Within (suc h) lim l → Closed g (h ∷ l)
    → Closed g (h ∷ run (h + m) l) × Closed g (from (h + m) l)
unfolding Within
closed_under g m h lim l p q e w s =
    let cut = cut_within (suc h) (h + m) lim l w in
    closed_cut g h (h + m) lim (h ∷ run (h + m) l) (from (h + m) l) p e (omega arith, omega arith, cut.0) cut.1 (rw (run_from (h + m) l) s)

-- ---- an ascending list with its multiples is that of a tree

-- the codes from the first SPar(2) on are those of good nodes
subs_grown : (k c p lo : ℕ) (l : List ℕ) → length l ≤ k → c % 512 ≡ 0 → c + p * 512 < lo → Within lo (c + of_s) l → Closed 512 l
    → (subs_codes c (subs_of k c l) ≡ l) × Rising p (sub_places (subs_of k c l)) × GoodSubs (subs_of k c l)
unfolding subs_of subs_codes GoodSubs Rising Within
subs_grown zero c p lo [] n z h w s = (refl, tt, tt)
subs_grown (suc k) c p lo [] n z h w s = (refl, tt, tt)
subs_grown zero c p lo (t ∷ l) n z h w s = absurd (omega arith)
subs_grown (suc k) c p lo (t ∷ l) n z h w s =
    let N = run (t + 512) l in
    let F = from (t + 512) l in
    let q = (t - c) / 512 in
    let first : t % 512 ≡ 0 = closed_first 512 t (c + of_s) l w.2 s in
    let e : c + q * 512 ≡ t = omega arith in
    let cut = cut_within (suc t) (t + 512) (c + of_s) l w.2 in
    let ks = positions_shift t 0 (suc t) N (omega arith) cut.0 in
    let here : shift (c + q * 512) (positions 1 t N) ≡ N = ap (λ (x : ℕ). shift x (positions 1 t N)) e ∙ ks.0 in
    let whole : N ++ F ≡ l = run_from (t + 512) l in
    let under = closed_under 512 512 t (c + of_s) l (lit< tt) (lit< tt) (omega arith) w.2 s in
    let ih = subs_grown k c q (t + 512) F (omega (arith, length-append N F, ap length whole)) z (omega arith) cut.1 under.1 in (
      rw (e, here, ih.0) (ap (λ (x : List ℕ). t ∷ x) whole),
      (omega arith, omega arith, ih.1),
      (ks.1, ih.2),
    )

-- and so are all under an SPar(1)
par_grown : (c : ℕ) (l : List ℕ) → c % 512 ≡ 0 → Within (suc c) (c + of_s) l → Closed 512 (c ∷ l)
    → (shift c (positions 1 c (run (c + 512) l)) ++ subs_codes c (subs_of (length (from (c + 512) l)) c (from (c + 512) l)) ≡ l)
    × Rising 0 (positions 1 c (run (c + 512) l))
    × Rising 0 (sub_places (subs_of (length (from (c + 512) l)) c (from (c + 512) l)))
    × GoodSubs (subs_of (length (from (c + 512) l)) c (from (c + 512) l))
par_grown c l z w s =
    let N = run (c + 512) l in
    let S = from (c + 512) l in
    let cut = cut_within (suc c) (c + 512) (c + of_s) l w in
    let ns = positions_shift c 0 (suc c) N (omega arith) cut.0 in
    let whole : N ++ S ≡ l = run_from (c + 512) l in
    let under = closed_under 512 512 c (c + of_s) l (lit< tt) (lit< tt) (omega arith) w s in
    let gs = subs_grown (length S) c 0 (c + 512) S (omega arith) z (omega arith) cut.1 under.1 in
    (rw (ns.0, gs.0) whole, ns.1, gs.1, gs.2)

-- and those from the first SPar(1) on
pub pars_grown : (k b p lo : ℕ) (l : List ℕ) → length l ≤ k → b % of_s ≡ 0 → b + p * of_s < lo → Within lo (b + of_f) l → Closed 512 l → Closed of_s l
    → (pars_codes b (pars_of k b l) ≡ l) × Rising p (par_places (pars_of k b l)) × GoodPars (pars_of k b l)
unfolding par_of pars_of pars_codes GoodPars Rising Within
pars_grown zero b p lo [] n z h w s u = (refl, tt, tt)
pars_grown (suc k) b p lo [] n z h w s u = (refl, tt, tt)
pars_grown zero b p lo (c ∷ l) n z h w s u = absurd (omega arith)
pars_grown (suc k) b p lo (c ∷ l) n z h w s u =
    let R = run (c + of_s) l in
    let F = from (c + of_s) l in
    let q = (c - b) / of_s in
    let first : c % of_s ≡ 0 = closed_first of_s c (b + of_f) l w.2 u in
    let e : b + q * of_s ≡ c = omega arith in
    let cut = cut_within (suc c) (c + of_s) (b + of_f) l w.2 in
    let whole : R ++ F ≡ l = run_from (c + of_s) l in
    let ss = closed_under 512 of_s c (b + of_f) l (lit< tt) (lit< tt) (omega arith) w.2 s in
    let us = closed_under of_s of_s c (b + of_f) l (lit< tt) (lit< tt) (omega arith) w.2 u in
    let this = par_grown c R (omega arith) cut.0 ss.0 in
    let here : shift (b + q * of_s) (positions 1 c (run (c + 512) R)) ++ subs_codes (b + q * of_s) (subs_of (length (from (c + 512) R)) c (from (c + 512) R)) ≡ R =
    ap (λ (x : ℕ). shift x (positions 1 c (run (c + 512) R)) ++ subs_codes x (subs_of (length (from (c + 512) R)) c (from (c + 512) R))) e ∙ this.0 in
    let ih = pars_grown k b q (c + of_s) F (omega (arith, length-append R F, ap length whole)) z (omega arith) cut.1 ss.1 us.1 in (
      rw (here, ih.0, e) (ap (λ (x : List ℕ). c ∷ x) whole),
      (omega arith, omega arith, ih.1),
      (this.1, this.2, this.3, ih.2),
    )

-- ---- a tree's codes have their multiples

-- the codes of SPar(2) nodes
subs_closed : (c : ℕ) (gs : List Sub) → c % 512 ≡ 0 → GoodSubs gs → Closed 512 (subs_codes c gs)
unfolding GoodSubs subs_codes Closed is_in
subs_closed c [] z g = λ x m. cc
subs_closed c ((sub q ks) ∷ gs) z g =
    let e = c + q * 512 in
    closed_join 512 (e ∷ shift e ks) (subs_codes c gs) (closed_node 512 e (shift e ks) (omega arith) (lit< tt) (npar_within e ks g.0))
    (subs_closed c gs z g.1)

-- the codes of SPar(1) nodes
pub pars_closed : (b : ℕ) (ps : List Par) → b % of_s ≡ 0 → GoodPars ps → Closed 512 (pars_codes b ps) × Closed of_s (pars_codes b ps)
unfolding GoodPars pars_codes Closed is_in
pars_closed b [] z g = ((λ x m. cc), (λ x m. cc))
pars_closed b ((par s ns gs) ∷ ps) z g =
    let c = b + s * of_s in
    let S = subs_codes c gs in
    let P = pars_codes b ps in
    let ih = pars_closed b ps z g.3 in
    let node = closed_node 512 c (shift c ns) (omega arith) (lit< tt) (npar_within c ns g.0) in (
      closed_join 512 (c ∷ (shift c ns ++ S)) P (closed_join 512 (c ∷ shift c ns) S node (subs_closed c gs (omega arith) g.2)) ih.0,
      closed_join of_s (c ∷ (shift c ns ++ S)) P (closed_node of_s c (shift c ns ++ S) (omega arith) (lit< tt) (par_within c ns gs g.0 g.1 g.2)) ih.1,
    )
