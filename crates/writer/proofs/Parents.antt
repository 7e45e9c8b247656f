-- A list of codes judged code by code: its order, and that each code has its parents.
-- Assumes nothing.
use Prim.Native.Nat.{ℕ, zero, suc, ◌-◌, ◌*◌, ◌/◌, ◌%◌, ◌<◌, ◌≤◌, max}
use mathlib.Core.Path.{◌≡◌, refl, sym, ap, ◌∙◌}
use mathlib.Core.Bool.{Bool, true, false, ◌&&◌}
use mathlib.Core.List.{List, [], ◌∷◌}
use mathlib.Core.Logic.{◌⊎◌, inl, inr, ⊎_elim}
use native.Mathlib.Nat.{suc-mul, mod-lt, mod-add-div', mul-mod_left, mul-le-mul_right, lt_of_mul-lt-mul_right}
use native.Mathlib.Numerals.{add-one}
use native.Mathlib.Omega.{arith}
use borrow.Author.Tests.{ltb-true, eqb-false, eq-eqb, ne_eqb}
use lib.Dec.{ltb, eqb}
use lib.ListN.{length, get_or}
use Rattle.std.specs.Prelude.{Result, Ok, Err, is_ok}
use Rattle.std.specs.Ordering.{nat_cmp}
use Rattle.std.specs.List.{list_all, IsAllAdjacentAnswer}
use Rattle.std.specs.List.Sorted.{IsBinarySearchResult}
use Rattle.std.proofs.lemmas.List.Sorted.{searched}
use Rattle.std.proofs.lemmas.Bool.{cases_lt}
use Rattle.octets.specs.Places.{pick}
use Rattle.tree.specs.Codes.{n_of, of_f, of_s}
use Rattle.tree.specs.Fields.{is_in}
use Rattle.message.specs.Kinds.{known}
use Rattle.meaning.specs.Meaning.{shaped, all_shaped, ascending_from, ascending, has_parent, all_parented}
use Rattle.meaning.specs.Writing.{is_empty}
use Rattle.writer.specs.Inner.{stands_under}
use Rattle.meaning.proofs.Growing.{in_cons, in_first, in_rest}
use Rattle.octets.proofs.Laws.{both_true}

-- a list is empty if its length is 0
pub empty_test : (l : List ℕ) → is_empty l ≡ eqb (length l) 0
empty_test [] = refl
empty_test (x ∷ l) = sym (ne_eqb (suc (length l)) 0 (λ e. omega arith))

pub empty_none : (l : List ℕ) → length l ≡ 0 → is_empty l ≡ true
empty_none l h = empty_test l ∙ eq-eqb (length l) 0 h

pub empty_some : (l : List ℕ) → (length l ≡ 0 → ⊥) → is_empty l ≡ false
empty_some l h = empty_test l ∙ ne_eqb (length l) 0 h

-- ---- the shapes

pub shaped_each : (l : List ℕ) → list_all shaped l ≡ all_shaped l
unfolding all_shaped
shaped_each [] = refl
shaped_each (c ∷ l) = go (shaped c) (shaped_each l)
  where
    go : (t : Bool) → list_all shaped l ≡ all_shaped l → t && list_all shaped l ≡ pick t (all_shaped l) false
    go true e = e
    go false e = refl

-- ---- the order

-- a list ascends if each code is below the next, and the first two that are not stop it
adjacent_up : (l : List ℕ) → ((k d : ℕ) → suc k < length l → true ≡ ltb (get_or l k d) (get_or l (suc k) d)) → true ≡ ascending l
unfolding ascending_from
adjacent_up [] h = refl
adjacent_up (c ∷ []) h = refl
adjacent_up (c ∷ (d ∷ l)) h = rw (sym (h 0 0 (omega arith))) (adjacent_up (d ∷ l) (λ k e m. h (suc k) e (omega arith)))

adjacent_stops : (l : List ℕ) (k : ℕ) → suc k < length l → ((d : ℕ) → false ≡ ltb (get_or l k d) (get_or l (suc k) d)) → false ≡ ascending l
unfolding ascending_from
adjacent_stops [] k h s = absurd (omega arith)
adjacent_stops (c ∷ []) k h s = absurd (omega arith)
adjacent_stops (c ∷ (d ∷ l)) zero h s = rw (sym (s 0))
adjacent_stops (c ∷ (d ∷ l)) (suc k) h s = go (ltb c d) (adjacent_stops (d ∷ l) k (omega arith) s)
  where
    go : (t : Bool) → false ≡ ascending_from d l → false ≡ pick t (ascending_from d l) false
    go true e = e
    go false e = refl

pub adjacent_ascending : (l : List ℕ) (r : Bool) → IsAllAdjacentAnswer (λ x y b. b ≡ ltb x y) l r → r ≡ ascending l
adjacent_ascending l true h = adjacent_up l (λ k d m. rw (add-one k) at (h k d (omega arith)))
adjacent_ascending l false h = adjacent_stops l h.0 (omega (arith, h.1)) (λ d. rw (add-one h.0) at (h.2 d))

-- behind its first code a list ascends too
ascending_rest : (c : ℕ) (l : List ℕ) → ascending_from c l ≡ true → ascending l ≡ true
unfolding ascending_from
ascending_rest c [] u = refl
ascending_rest c (d ∷ l) u = (both_true (ltb c d) (ascending_from d l) u).1

-- its codes rise
rises_above : (b : ℕ) (l : List ℕ) (i : ℕ) → ascending_from b l ≡ true → i < length l → b < get_or l i 0
unfolding ascending_from
rises_above b [] i u h = absurd (omega arith)
rises_above b (c ∷ l) zero u h = ltb-true b c (both_true (ltb b c) (ascending_from c l) u).0
rises_above b (c ∷ l) (suc i) u h =
    let u' = both_true (ltb b c) (ascending_from c l) u in
    omega (arith, ltb-true b c u'.0, rises_above c l i u'.1 (omega arith))

rises : (l : List ℕ) → ascending l ≡ true → (i j : ℕ) → i ≤ j → j < length l → get_or l i 0 ≤ get_or l j 0
rises [] u i j h k = absurd (omega arith)
rises (c ∷ l) u zero zero h k = omega arith
rises (c ∷ l) u zero (suc j) h k = omega (arith, rises_above c l j u (omega arith))
rises (c ∷ l) u (suc i) zero h k = absurd (omega arith)
rises (c ∷ l) u (suc i) (suc j) h k = rises l (ascending_rest c l u) i j (omega arith) (omega arith)

-- ---- what is in a list

-- a number in a list is at most the highest of them
abbrev highest : List ℕ → ℕ
highest [] = 0
highest (c ∷ l) = max c (highest l)

in_most : (x : ℕ) (l : List ℕ) → is_in x l ≡ true → x ≤ highest l
unfolding is_in
in_most x [] h = let v : ◌≡◌ {A = ℕ} 0 1 = cc in absurd (omega arith)
in_most x (c ∷ l) h = ⊎_elim (λ e. omega arith) (λ i. omega (arith, in_most x l i)) (in_cons x c l h)

-- a type fits its four bits
pub known_most : (kind : ℕ) → known kind ≡ true → kind ≤ 11
known_most kind h = in_most kind (1 ∷ 2 ∷ 3 ∷ 4 ∷ 5 ∷ 8 ∷ 9 ∷ 10 ∷ 11 ∷ []) h

-- what is in a list that ascends from b is above b
in_above : (b x : ℕ) (l : List ℕ) → ascending_from b l ≡ true → is_in x l ≡ true → b < x
unfolding ascending_from is_in
in_above b x [] u h = let v : ◌≡◌ {A = ℕ} 0 1 = cc in absurd (omega arith)
in_above b x (c ∷ l) u h =
    let u' = both_true (ltb b c) (ascending_from c l) u in
    let k = ltb-true b c u'.0 in
    ⊎_elim (λ e. omega arith) (λ i. omega (arith, in_above c x l u'.1 i)) (in_cons x c l h)

-- a number that no code is, is not in a list; and what the search in an ascending list tells
not_in : (x : ℕ) (l : List ℕ) → ((k : ℕ) → k < length l → get_or l k 0 ≡ x → ⊥) → false ≡ is_in x l
unfolding is_in
not_in x [] h = refl
not_in x (c ∷ l) h = rw (ne_eqb c x (h 0 (omega arith))) (not_in x l (λ k i. h (suc k) (omega arith)))

in_there : (x : ℕ) (l : List ℕ) (i : ℕ) → i < length l → get_or l i 0 ≡ x → is_in x l ≡ true
in_there x [] i h e = absurd (omega arith)
in_there x (c ∷ l) zero h e = rw e (in_first x l)
in_there x (c ∷ l) (suc i) h e = in_rest x c l (in_there x l i (omega arith) e)

pub searched_in : (l : List ℕ) (x : ℕ) (r : Result ℕ ℕ) → ascending l ≡ true → IsBinarySearchResult (λ y. nat_cmp y x) l r → is_ok r ≡ is_in x l
searched_in l x (Ok i) u h = let found = searched l x (Ok i) h (rises l u) in sym (in_there x l i found.0 found.1)
searched_in l x (Err i) u h =
    let m = searched l x (Err i) h (rises l u) in
    not_in x l (λ k n e. elim (cases_lt k i) [
      | inl low ↦ omega (arith, m.1 k low)
      | inr high ↦ omega (arith, m.2 k high n)
    ])

-- ---- parents

-- p is the highest multiple of m that is not above c
pub record Floor (m c p : ℕ) : Type 0 where
  pub whole : p % m ≡ 0
  pub least : p ≤ c
  pub most : (g : ℕ) → g % m ≡ 0 → g ≤ c → g ≤ p

pub floor : (m c : ℕ) → 0 < m → Floor m c (c - c % m)
floor m c pos =
    let e : c - c % m ≡ c / m * m = omega (arith, mod-add-div' c m) in
    record {
      whole = rw e (mul-mod_left (c / m) m);
      least = omega arith;
      most = λ g z h.
          let k : g / m < suc (c / m) = lt_of_mul-lt-mul_right m (omega (arith, mod-add-div' g m, mod-add-div' c m, mod-lt c pos, suc-mul (c / m) m)) in
          let j : g / m ≤ c / m = omega arith in
          omega (arith, mod-add-div' g m, mul-le-mul_right m j);
    }

-- where two tests fail, the same is said
pick_other : (a b x y : Bool) → (a ≡ false → b ≡ false → x ≡ y) → pick a true (pick b true x) ≡ pick a true (pick b true y)
pick_other true b x y h = refl
pick_other false true x y h = refl
pick_other false false x y h = h refl refl

-- of a list, of which the codes rest are still to come, g is the last multiple of m before them, or 0
pub record Latest (m : ℕ) (all rest : List ℕ) (g : ℕ) : Type 0 where
  pub whole : g % m ≡ 0
  pub there : 0 < g → is_in g all ≡ true
  pub high : (x : ℕ) → is_in x all ≡ true → x % m ≡ 0 → (x ≤ g) ⊎ (is_in x rest ≡ true)
  pub low : (x : ℕ) → is_in x rest ≡ true → g ≤ x
  pub inside : (x : ℕ) → is_in x rest ≡ true → is_in x all ≡ true

module _ {m : ℕ} {all rest : List ℕ} {c g : ℕ} (x : Latest m all (c ∷ rest) g) (up : ascending_from c rest ≡ true) where
  -- a multiple comes, or another code
  pub latest_take : {h : ℕ} → c % m ≡ 0 → h ≡ c → Latest m all rest h
  latest_take z e = rw e (record {
    whole = z;
    there = λ h. x.inside c (in_first c rest);
    high = λ y i w. ⊎_elim (λ k. inl (omega (arith, x.low c (in_first c rest)))) (λ k. ⊎_elim (λ q. inl (omega arith)) (λ q. inr q) (in_cons y c rest k)) (x.high y i w);
    low = λ y i. omega (arith, in_above c y rest up i);
    inside = λ y i. x.inside y (in_rest y c rest i);
  })

  pub latest_pass : {h : ℕ} → (c % m ≡ 0 → ⊥) → h ≡ g → Latest m all rest h
  latest_pass z e = rw e (record {
    whole = x.whole;
    there = x.there;
    high = λ y i w. ⊎_elim (λ k. inl k) (λ k. ⊎_elim (λ q. absurd (z (ap (λ (n : ℕ). n % m) q ∙ w))) (λ q. inr q) (in_cons y c rest k)) (x.high y i w);
    low = λ y i. x.low y (in_rest y c rest i);
    inside = λ y i. x.inside y (in_rest y c rest i);
  })

  -- the floor of a code, if it is another number, is in the list if it is the last multiple before the code
  latest_floor : (p : ℕ) → Floor m c p → (p ≡ c → ⊥) → 0 < p → eqb p g ≡ is_in p all
  latest_floor p f other pos = go (is_in p all) refl
    where
      go : (t : Bool) → is_in p all ≡ t → eqb p g ≡ t
      go true i =
          let above : g ≤ p = f.most g x.whole (x.low c (in_first c rest)) in
          eq-eqb p g (⊎_elim (λ k. omega arith) (λ k. ⊎_elim (λ q. absurd (other (sym q))) (λ q. absurd (omega (arith, f.least, in_above c p rest up q))) (in_cons p c rest k)) (x.high p i f.whole))
      go false i = ne_eqb p g (λ e. let there : is_in p all ≡ true = rw e (x.there (omega arith)) in let v : ◌≡◌ {A = ℕ} 0 1 = cc in omega arith)

  -- and so it is judged to be
  latest_judged : 0 < m → let p = c - c % m in pick (eqb p c) true (pick (eqb (p % of_f) 0) true (eqb p g)) ≡ pick (eqb p c) true (pick (eqb (p % of_f) 0) true (is_in p all))
  latest_judged pos = let p = c - c % m in
      pick_other (eqb p c) (eqb (p % of_f) 0) (eqb p g) (is_in p all) (λ u v. latest_floor p (floor m c pos) (eqb-false p c u) (omega (arith, eqb-false (p % of_f) 0 v)))

-- so a code of an ascending list has its parent in it if that is the last one before it of its kind
pub stands_parent : {all rest : List ℕ} {c top group : ℕ} → Latest 512 all (c ∷ rest) group → Latest of_s all (c ∷ rest) top → ascending_from c rest ≡ true → stands_under c top group ≡ has_parent all c
unfolding has_parent
stands_parent {all} {rest} {c} {top} {group} x y up = go (ltb 0 (n_of c))
  where
    go : (t : Bool) → let p = pick t (c - c % 512) (c - c % of_s) in
        pick (eqb p c) true (pick (eqb (p % of_f) 0) true (pick t (eqb p group) (eqb p top))) ≡ pick (eqb p c) true (pick (eqb (p % of_f) 0) true (is_in p all))
    go true = latest_judged x up (omega arith)
    go false = latest_judged y up (omega arith)

-- the codes of an ascending list have their parents if those that are still to come have
pub record Parenting (list rest : List ℕ) (top group : ℕ) : Type 0 where
  pub judged : all_parented list rest ≡ all_parented list list
  pub up : ascending rest ≡ true
  pub groups : Latest 512 list rest group
  pub tops : Latest of_s list rest top

module _ {list rest : List ℕ} {c top group : ℕ} (x : Parenting list (c ∷ rest) top group) where
  parent : stands_under c top group ≡ has_parent list c
  parent = stands_parent x.groups x.tops x.up

  -- the next code has not its parent, or has
  pub parenting_fails : stands_under c top group ≡ false → false ≡ all_parented list list
  unfolding all_parented
  parenting_fails e = rw (sym parent ∙ e) at x.judged

  pub parenting_turn : {top' group' : ℕ} → stands_under c top group ≡ true → Latest 512 list rest group' → Latest of_s list rest top' → Parenting list rest top' group'
  unfolding all_parented
  parenting_turn e g t = record { judged = rw (sym parent ∙ e) at x.judged; up = ascending_rest c rest x.up; groups = g; tops = t }

-- none is
pub parenting_end : {list : List ℕ} {top group : ℕ} → Parenting list [] top group → true ≡ all_parented list list
unfolding all_parented
parenting_end x = x.judged
