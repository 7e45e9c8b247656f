-- A meaning's codes and the good trees are the same: codes in which each has its parents are those of a good tree, and a good tree's
-- codes are such. A message's are those of I and, behind them, those of S.
-- Assumes nothing.
use Prim.Native.Nat.{ℕ, zero, suc, ◌+◌, ◌-◌, ◌*◌, ◌/◌, ◌%◌, ◌≤◌, ◌<◌}
use mathlib.Core.Bool.{Bool, true, false}
use mathlib.Core.List.{List, [], ◌∷◌, ◌++◌}
use mathlib.Core.Logic.{◌⊎◌, inl, inr, ⊎_elim}
use mathlib.Core.Path.{◌≡◌, refl, sym, ap, ◌∙◌}
use native.Mathlib.Omega.{arith}
use borrow.Author.Tests.{ltb-true, ltb-false, lt-ltb, le-ltb, eqb-true, eqb-false, eq-eqb, ne_eqb}
use lib.Dec.{ltb, eqb}
use lib.ListN.{length, get_or}
use Rattle.octets.specs.Places.{pick}
use Rattle.octets.proofs.Laws.{both_true}
use Rattle.tree.specs.Codes.{field_base, f_of, s_of, t_of, parent_of, of_f, of_s}
use Rattle.tree.specs.Fields.{is_in}
use Rattle.meaning.specs.Meaning.{shaped, all_shaped, ascending_from, ascending, has_parent, all_parented}
use Rattle.meaning.specs.Written.{run, from, written}
use Rattle.meaning.specs.Inner.{Between}
use Rattle.meaning.proofs.Trees.{Tree, tree, pars_codes, tree_codes, tree_octets, GoodTree}
use Rattle.tree.proofs.Numbering.{shift}
use Rattle.meaning.proofs.Growing.{Within, within_wider, within_join, within_at, cut_join, cut_within, run_from, either, second, in_either, in_front, in_back, in_cons, in_first, in_rest, npar_within, pars_within, tree_within, positions_shift, tree_of, written_tree, Closed, pars_grown, pars_closed}

-- ---- tests of all numbers of a list

-- the first does not hold, and the second does
past : (s t : Bool) → pick s false t ≡ true → (s ≡ false) × (t ≡ true)
past true t e = (sym e, cc)
past false t e = (refl, e)

-- what stands at a place of a list is one of its numbers
in_at : (l : List ℕ) (i : ℕ) → i < length l → is_in (get_or l i 0) l ≡ true
in_at [] i h = absurd (omega arith)
in_at (y ∷ l) zero h = in_first y l
in_at (y ∷ l) (suc i) h = in_rest (get_or l i 0) y l (in_at l i (omega arith))

-- all pass a test
unfoldable every : (ℕ → Bool) → List ℕ → Bool
every p [] = true
every p (c ∷ l) = pick (p c) (every p l) false

-- the shapes are such a test
every_shaped : (l : List ℕ) → all_shaped l ≡ every shaped l
unfolding all_shaped every
every_shaped [] = refl
every_shaped (c ∷ l) = ap (λ (t : Bool). pick (shaped c) t false) (every_shaped l)

-- and so are the parents
every_parented : (all l : List ℕ) → all_parented all l ≡ every (has_parent all) l
unfolding all_parented every
every_parented all [] = refl
every_parented all (c ∷ l) = ap (λ (t : Bool). pick (has_parent all c) t false) (every_parented all l)

-- each passes that all pass
every_at : (p : ℕ → Bool) (x : ℕ) (l : List ℕ) → every p l ≡ true → is_in x l ≡ true → p x ≡ true
unfolding every is_in
every_at p x [] a m = cc
every_at p x (y ∷ l) a m =
    let b = both_true (p y) (every p l) a in
    ⊎_elim (λ e. ap p (sym e) ∙ b.0) (λ k. every_at p x l b.1 k) (in_cons x y l m)

-- all pass that each passes
every_of : (p : ℕ → Bool) (l : List ℕ) → ((x : ℕ) → is_in x l ≡ true → p x ≡ true) → every p l ≡ true
unfolding every
every_of p [] h = refl
every_of p (y ∷ l) h = rw (h y (in_first y l)) (every_of p l (λ x m. h x (in_rest x y l m)))

-- each code of shaped ones is shaped
shaped_at : (l : List ℕ) → all_shaped l ≡ true → (x : ℕ) → is_in x l ≡ true → shaped x ≡ true
shaped_at l a x m = every_at shaped x l (sym (every_shaped l) ∙ a) m

-- and if each is, all are
shaped_of : (l : List ℕ) → ((x : ℕ) → is_in x l ≡ true → shaped x ≡ true) → all_shaped l ≡ true
shaped_of l h = every_shaped l ∙ every_of shaped l h

-- each code of a list that has its parents has its own
parented_at : (l : List ℕ) → all_parented l l ≡ true → (x : ℕ) → is_in x l ≡ true → has_parent l x ≡ true
parented_at l a x m = every_at (has_parent l) x l (sym (every_parented l l) ∙ a) m

-- and if each has, all have
parented_of : (l : List ℕ) → ((x : ℕ) → is_in x l ≡ true → has_parent l x ≡ true) → all_parented l l ≡ true
parented_of l h = every_parented l l ∙ every_of (has_parent l) l h

-- ---- an ascending list

-- a list begins later where its numbers do
within_higher : (lo lo' lim : ℕ) (l : List ℕ) → Within lo lim l → ((x : ℕ) → is_in x l ≡ true → lo' ≤ x) → Within lo' lim l
unfolding Within
within_higher lo lo' lim [] w h = tt
within_higher lo lo' lim (y ∷ l) w h = (h y (in_first y l), w.1, w.2)

-- a list within a range ascends
within_ascends : (b lim : ℕ) (l : List ℕ) → Within (suc b) lim l → ascending_from b l ≡ true
unfolding Within ascending_from
within_ascends b lim [] w = refl
within_ascends b lim (c ∷ l) w = rw (lt-ltb b c w.0) (within_ascends c lim l w.2)

-- and is between its ends
pub within_between : (b lim : ℕ) (l : List ℕ) → Within (suc b) lim l → Between b lim l
within_between b lim l w = record { up = within_ascends b lim l w; below = λ i h. (within_at (get_or l i 0) (suc b) lim l w (in_at l i h)).1 }

-- a list between two ends is within their range
pub between_within : (b lim : ℕ) (l : List ℕ) → Between b lim l → Within (suc b) lim l
unfolding Within ascending_from
between_within b lim [] h = tt
between_within b lim (c ∷ l) h =
    let u = both_true (ltb b c) (ascending_from c l) h.up in (
      ltb-true b c u.0,
      h.below 0 (omega arith),
      between_within c lim l (record { up = u.1; below = λ i k. h.below (suc i) (omega arith) }),
    )

-- ---- shapes and parents

-- what the test of a code's shape tells
pub record Possible (c : ℕ) : Type 0 where
  pub low : field_base 1 ≤ c
  pub high : c < field_base 3
  pub some : 0 < c % of_f
  pub under : s_of c ≡ 0 → t_of c ≡ 0

-- a code that passes the test has the shape
pub shaped_possible : (c : ℕ) → shaped c ≡ true → Possible c
unfolding shaped
shaped_possible c e =
    let three = pick (eqb (s_of c) 0) (eqb (t_of c) 0) true in
    let two = pick (eqb (c % of_f) 0) false three in
    let p = past (ltb (f_of c) 1) (pick (ltb 2 (f_of c)) false two) e in
    let q = past (ltb 2 (f_of c)) two p.1 in
    let r = past (eqb (c % of_f) 0) three q.1 in
    let f = ltb-false (f_of c) 1 p.0 in
    let g = ltb-false 2 (f_of c) q.0 in
    record {
      low = omega arith;
      high = omega arith;
      some = omega (arith, eqb-false (c % of_f) 0 r.0);
      under = λ z. eqb-true (t_of c) 0 (rw (eq-eqb (s_of c) 0 z) at r.1);
    }

-- and one that has it passes
pub possible_shaped : (c : ℕ) → Possible c → shaped c ≡ true
unfolding shaped
possible_shaped c h =
    rw (le-ltb (f_of c) 1 (omega arith), le-ltb 2 (f_of c) (omega arith), ne_eqb (c % of_f) 0 (λ z. omega arith)) (go (eqb (s_of c) 0) refl)
  where
    go : (t : Bool) → eqb (s_of c) 0 ≡ t → pick t (eqb (t_of c) 0) true ≡ true
    go true e = eq-eqb (t_of c) 0 (h.under (eqb-true (s_of c) 0 e))
    go false e = refl

-- a code's parent is one of the two multiples that it stands behind
parent_either : (P : ℕ → Type 0) (x : ℕ) → (0 < x % 512 → P (x - x % 512)) → (x % 512 ≡ 0 → P (x - x % of_s)) → P (parent_of x)
parent_either P x h k = go (ltb 0 (x % 512)) refl
  where
    go : (t : Bool) → ltb 0 (x % 512) ≡ t → P (pick t (x - x % 512) (x - x % of_s))
    go true e = h (ltb-true 0 (x % 512) e)
    go false e = k (omega (arith, ltb-false 0 (x % 512) e))

-- what the test of a code's parent p tells: it has none, or the list has it
abbrev Parent : List ℕ → ℕ → ℕ → Type 0
Parent l x p = (p ≡ x) ⊎ ((p % of_f ≡ 0) ⊎ (is_in p l ≡ true))

-- a code that passes the test has its parent
has_parent_lem : (l : List ℕ) (x : ℕ) → has_parent l x ≡ true → Parent l x (parent_of x)
unfolding has_parent
has_parent_lem l x h =
    let p = parent_of x in
    ⊎_elim (λ e. inl (eqb-true p x e)) (λ k. inr (⊎_elim (λ e. inl (eqb-true (p % of_f) 0 e)) inr (either (eqb (p % of_f) 0) (is_in p l) k)))
    (either (eqb p x) (pick (eqb (p % of_f) 0) true (is_in p l)) h)

-- and one that has it passes
parent_has : (l : List ℕ) (x : ℕ) → Parent l x (parent_of x) → has_parent l x ≡ true
unfolding has_parent
parent_has l x c =
    let p = parent_of x in
    let t = pick (eqb (p % of_f) 0) true (is_in p l) in
    ⊎_elim (λ e. rw (eq-eqb p x e))
    (λ k. second (eqb p x) t (⊎_elim (λ e. rw (eq-eqb (p % of_f) 0 e)) (λ m. second (eqb (p % of_f) 0) (is_in p l) m) k)) c

-- ---- the codes of a field

-- the codes of one field in a meaning: they ascend from b on, stay in the field, and have possible shapes and their parents
pub record Meant (b : ℕ) (l : List ℕ) : Type 0 where
  pub codes : Between b (b + of_f) l
  pub shapes : all_shaped l ≡ true
  pub parents : all_parented l l ≡ true

-- the codes of a good tree are such
pub tree_means : (f : ℕ) (T : Tree) → 0 < f → f ≤ 2 → GoodTree T → Meant (field_base f) (tree_codes (field_base f) T)
unfolding GoodTree tree_codes Closed
tree_means f (tree ns ps) lo hi g =
    let b = field_base f in
    let N = shift b ns in
    let P = pars_codes b ps in
    let wn : Within (suc b) (b + 512) N = npar_within b ns g.0 in
    let wp : Within (b + of_s) (b + of_f) P = pars_within b 0 (b + of_s) ps (omega arith) g.1 g.2 in
    let c = pars_closed b ps (omega arith) g.2 in
    record {
      codes = within_between b (b + of_f) (N ++ P) (tree_within b (tree ns ps) g);
      shapes = shaped_of (N ++ P) (λ x m.
          possible_shaped x (⊎_elim
          (λ n. let h = within_at x (suc b) (b + 512) N wn n in omega arith)
          (λ n. let h = within_at x (b + of_s) (b + of_f) P wp n in omega arith)
          (in_either x N P m)));
      parents = parented_of (N ++ P) (λ x m.
          parent_has (N ++ P) x (inr (⊎_elim
          (λ n. inl (let h = within_at x (suc b) (b + 512) N wn n in parent_either (λ (p : ℕ). p % of_f ≡ 0) x (λ z. omega arith) (λ z. omega arith)))
          (λ n. inr (in_back (parent_of x) N P (parent_either (λ (p : ℕ). is_in p P ≡ true) x (λ z. c.0 x n) (λ z. c.1 x n))))
          (in_either x N P m))));
    }

-- a code from f.0.1.0 on that stands behind f.0.0.0 has a t and no s
no_top : (f y : ℕ) → field_base f + 512 ≤ y → y < field_base f + of_f → (y - y % of_s) % of_f ≡ 0 → (s_of y ≡ 0) × (0 < t_of y)
no_top f y lo hi e =
    let p : y - y % of_s ≡ field_base f = omega arith in
    let q : y / of_s ≡ f * 512 = omega arith in
    let r : y / 512 ≡ f * of_s + (y - field_base f) / 512 = omega arith in
    (omega arith, omega arith)

module _ (f : ℕ) (l : List ℕ) (h : Meant (field_base f) l) where
  -- a field's codes are within its range
  meant_within : Within (suc (field_base f)) (field_base f + of_f) l
  meant_within = between_within (field_base f) (field_base f + of_f) l h.codes

  -- and each is
  meant_range : (x : ℕ) → is_in x l ≡ true → (field_base f < x) × (x < field_base f + of_f)
  meant_range x m = within_at x (suc (field_base f)) (field_base f + of_f) l meant_within m

  -- from f.0.1.0 on they have with f.s.t.n also f.s.t.0
  meant_group : (x : ℕ) → is_in x l ≡ true → field_base f + 512 ≤ x → is_in (x - x % 512) l ≡ true
  meant_group x m k =
      let r = meant_range x m in
      parent_either (λ (p : ℕ). Parent l x p → is_in (x - x % 512) l ≡ true) x
      (λ z c. ⊎_elim (λ e. absurd (omega arith)) (λ d. ⊎_elim (λ e. absurd (omega arith)) (λ n. n) d) c)
      (λ z c. let e : x - x % 512 ≡ x = omega arith in rw e m)
      (has_parent_lem l x (parented_at l h.parents x m))

  -- and f.s.0.0
  meant_top : (x : ℕ) → is_in x l ≡ true → field_base f + 512 ≤ x → is_in (x - x % of_s) l ≡ true
  meant_top x m k =
      let y = x - x % 512 in
      let n = meant_group x m k in
      let r = meant_range x m in
      let s = shaped_possible y (shaped_at l h.shapes y n) in
      let d : y - y % of_s ≡ x - x % of_s = omega arith in
      let none : (y - y % of_s) % of_f ≡ 0 → ⊥ = λ e. let t = no_top f y (omega arith) (omega arith) e in omega (arith, s.under t.0) in
      parent_either (λ (p : ℕ). Parent l y p → is_in (x - x % of_s) l ≡ true) y
      (λ z c. absurd (omega arith))
      (λ z c. rw (← d) (⊎_elim (λ e. rw e n) (λ e. ⊎_elim (λ i. absurd (none i)) (λ i. i) e) c))
      (has_parent_lem l y (parented_at l h.parents y n))

  -- so they are those of a good tree
  pub grown : GoodTree (tree_of (field_base f) l) × (tree_codes (field_base f) (tree_of (field_base f) l) ≡ l)
  unfolding GoodTree tree_codes tree_of Closed
  grown =
      let b = field_base f in
      let N = run (b + 512) l in
      let F = from (b + 512) l in
      let cut = cut_within (suc b) (b + 512) (b + of_f) l meant_within in
      let whole : N ++ F ≡ l = run_from (b + 512) l in
      let there : (x : ℕ) → is_in x F ≡ true → is_in x l ≡ true = λ x m. rw whole at (in_back x N F m) in
      let low : (x : ℕ) → is_in x F ≡ true → b + 512 ≤ x = λ x m. (within_at x (b + 512) (b + of_f) F cut.1 m).0 in
      let high : (x : ℕ) → is_in x N ≡ true → x < b + 512 = λ x m. (within_at x (suc b) (b + 512) N cut.0 m).1 in
      let back : (x : ℕ) → b + 512 ≤ x → is_in x l ≡ true → is_in x F ≡ true = λ x k m. ⊎_elim (λ n. absurd (omega (arith, high x n))) (λ n. n) (in_either x N F (rw whole m)) in
      let group : Closed 512 F = λ x m. let k = low x m in back (x - x % 512) (omega arith) (meant_group x (there x m) k) in
      let top : Closed of_s F = λ x m. let n = meant_top x (there x m) (low x m) in back (x - x % of_s) (omega (arith, meant_range (x - x % of_s) n)) n in
      let ns = positions_shift b 0 (suc b) N (omega arith) cut.0 in
      let ps = pars_grown (length F) b 0 (b + 512) F (omega arith) (omega arith) (omega arith) cut.1 group top in
      ((ns.1, ps.1, ps.2), rw (ns.0, ps.0) whole)

  -- and what is written of them is that tree's octets
  pub written_grown : written (field_base f) l ≡ tree_octets (tree_of (field_base f) l)
  written_grown = ap (written (field_base f)) (sym grown.1) ∙ written_tree (field_base f) (tree_of (field_base f) l) grown.0

-- ---- the codes of a message

-- a code that has its parent in one list has it in another that has it too
parent_moves : (l m : List ℕ) (x : ℕ) → (is_in (parent_of x) l ≡ true → is_in (parent_of x) m ≡ true) → has_parent l x ≡ true → has_parent m x ≡ true
parent_moves l m x f h = parent_has m x (⊎_elim inl (λ d. inr (⊎_elim inl (λ n. inr (f n)) d)) (has_parent_lem l x h))

-- a parent is of the field of its code
parent_side : (x : ℕ) → (parent_of x ≤ x) × (field_base 2 < x → field_base 2 ≤ parent_of x)
parent_side x = parent_either (λ (p : ℕ). (p ≤ x) × (field_base 2 < x → field_base 2 ≤ p)) x (λ z. (omega arith, λ h. omega arith)) (λ z. (omega arith, λ h. omega arith))

-- an ascending list of numbers above b ascends from it
ascending_from_lem : (b : ℕ) (l : List ℕ) → ascending l ≡ true → ((x : ℕ) → is_in x l ≡ true → b < x) → ascending_from b l ≡ true
unfolding ascending_from
ascending_from_lem b [] a h = refl
ascending_from_lem b (c ∷ l) a h = rw (lt-ltb b c (h c (in_first c l))) a

-- and one that ascends from b ascends
from_ascending : (b : ℕ) (l : List ℕ) → ascending_from b l ≡ true → ascending l ≡ true
unfolding ascending_from
from_ascending b [] a = refl
from_ascending b (c ∷ l) a = (both_true (ltb b c) (ascending_from c l) a).1

-- a part of a meaning in one field, with the parents that its codes have in the whole, is one
part_means : (b : ℕ) (l m : List ℕ) → all_shaped l ≡ true → all_parented l l ≡ true → Within (suc b) (b + of_f) m → ((x : ℕ) → is_in x m ≡ true → is_in x l ≡ true)
    → ((x : ℕ) → is_in x m ≡ true → is_in (parent_of x) l ≡ true → is_in (parent_of x) m ≡ true) → Meant b m
part_means b l m s p w i k = record {
  codes = within_between b (b + of_f) m w;
  shapes = shaped_of m (λ x n. shaped_at l s x (i x n));
  parents = parented_of m (λ x n. parent_moves l m x (k x n) (parented_at l p x (i x n)));
}

-- a meaning's codes below 2.0.0.0 are a meaning of I, the others one of S, and together they are the whole
pub meaning_cut : (l : List ℕ) → all_shaped l ≡ true → ascending l ≡ true → all_parented l l ≡ true
    → Meant (field_base 1) (run (field_base 2) l) × Meant (field_base 2) (from (field_base 2) l) × (run (field_base 2) l ++ from (field_base 2) l ≡ l)
meaning_cut l s u p =
    let A = run (field_base 2) l in
    let F = from (field_base 2) l in
    let whole : A ++ F ≡ l = run_from (field_base 2) l in
    let front : (x : ℕ) → is_in x A ≡ true → is_in x l ≡ true = λ x m. rw whole at (in_front x A F m) in
    let back : (x : ℕ) → is_in x F ≡ true → is_in x l ≡ true = λ x m. rw whole at (in_back x A F m) in
    let side : (x : ℕ) → is_in x l ≡ true → (is_in x A ≡ true) ⊎ (is_in x F ≡ true) = λ x m. in_either x A F (rw whole m) in
    let shape : (x : ℕ) → is_in x l ≡ true → Possible x = λ x m. shaped_possible x (shaped_at l s x m) in
    let up = ascending_from_lem (field_base 1) l u (λ x m. omega (arith, shape x m)) in
    let w = between_within (field_base 1) (field_base 3) l (record { up = up; below = λ i k. (shape (get_or l i 0) (in_at l i k)).high }) in
    let cut = cut_within (suc (field_base 1)) (field_base 2) (field_base 3) l w in
    let low : (x : ℕ) → is_in x A ≡ true → x < field_base 2 = λ x m. (within_at x (suc (field_base 1)) (field_base 2) A cut.0 m).1 in
    let high : (x : ℕ) → is_in x F ≡ true → field_base 2 < x = λ x m. omega (arith, within_at x (field_base 2) (field_base 3) F cut.1 m, shape x (back x m)) in
    let rest = within_higher (field_base 2) (suc (field_base 2)) (field_base 3) F cut.1 high in (
      part_means (field_base 1) l A s p cut.0 front (λ x m n. ⊎_elim (λ k. k) (λ k. absurd (omega (arith, high (parent_of x) k, low x m, (parent_side x).0))) (side (parent_of x) n)),
      part_means (field_base 2) l F s p rest back (λ x m n. ⊎_elim (λ k. absurd (omega (arith, low (parent_of x) k, (parent_side x).1 (high x m)))) (λ k. k) (side (parent_of x) n)),
      whole,
    )

-- a meaning of I with one of S behind it is a meaning, which is cut into the two again
pub meaning_join : (a r : List ℕ) → Meant (field_base 1) a → Meant (field_base 2) r
    → (all_shaped (a ++ r) ≡ true) × (ascending (a ++ r) ≡ true) × (all_parented (a ++ r) (a ++ r) ≡ true) × (run (field_base 2) (a ++ r) ≡ a) × (from (field_base 2) (a ++ r) ≡ r)
meaning_join a r h k =
    let wa = meant_within 1 a h in
    let wr = within_wider (suc (field_base 2)) (field_base 2) (field_base 3) r (omega arith) (meant_within 2 r k) in
    let w = within_join (suc (field_base 1)) (field_base 2) (field_base 3) a r (omega arith) (omega arith) wa wr in
    let cut = cut_join (suc (field_base 1)) (field_base 2) (field_base 3) a r wa wr in (
      shaped_of (a ++ r) (λ x m. ⊎_elim (shaped_at a h.shapes x) (shaped_at r k.shapes x) (in_either x a r m)),
      from_ascending (field_base 1) (a ++ r) (within_ascends (field_base 1) (field_base 3) (a ++ r) w),
      parented_of (a ++ r) (λ x m.
          ⊎_elim
          (λ n. parent_moves a (a ++ r) x (in_front (parent_of x) a r) (parented_at a h.parents x n))
          (λ n. parent_moves r (a ++ r) x (in_back (parent_of x) a r) (parented_at r k.parents x n))
          (in_either x a r m)),
      cut.0,
      cut.1,
    )
