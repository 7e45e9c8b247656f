-- The records that the wishes' run begins with: each step of the iterator over them, and what is asked of them, as it is asked of the wishes.
-- Assumes nothing.
use Prim.Native.Nat.{ℕ, zero, suc, ◌+◌, ◌-◌, ◌≤◌, ◌<◌}
use mathlib.Core.Bool.{Bool, true, false}
use mathlib.Core.List.{List, [], ◌∷◌}
use mathlib.Core.Path.{◌≡◌, refl, sym, ap, ◌∙◌}
use native.Mathlib.Omega.{arith}
use borrow.Author.Tests.{leb-true, le-leb, lt-leb, ne_eqb}
use lib.Dec.{leb, eqb}
use lib.ListN.{length, get_or, take, drop, length-drop}
use lib.Seq.{length-take-le, take_all}
use Rattle.std.specs.Prelude.{Option, Some, None, map, ◌&&◌, ◌||◌, cond}
use Rattle.std.specs.List.{list_any, find, enumerate_from}
use Rattle.octets.specs.Places.{pick, both}
use Rattle.tree.specs.Fields.{all_in, has_spar}
use Rattle.choice.specs.Wishes.{wishes_in, standard_codes}
use Rattle.choice.specs.Choosing.{Far, suits, Choosing, chosen, refused, first_suiting}
use Rattle.choice.specs.Judging.{fits_some, fits_ready}
use Rattle.choice.specs.Inner.{Found, found_in, wish_of, records_by}
use Rattle.choice.proofs.Truths.{both_false}

-- ---- what stands at the front of a run

-- no record where none may follow, in fewer than two octets, or where the field is cut short
pub found_none : (k : ℕ) (l : List ℕ) → k ≡ 0 → found_in k l ≡ []
unfolding found_in
found_none k l z = rw z

pub found_short : (k : ℕ) (l : List ℕ) → length l < 2 → found_in k l ≡ []
unfolding found_in
found_short zero l h = refl
found_short (suc k) [] h = refl
found_short (suc k) (r ∷ []) h = refl
found_short (suc k) (r ∷ (n ∷ l)) h = absurd (omega arith)

pub found_cut : (k : ℕ) (l : List ℕ) → length (drop 2 l) < get_or l 1 0 → found_in k l ≡ []
unfolding found_in
found_cut zero l h = refl
found_cut (suc k) [] h = refl
found_cut (suc k) (r ∷ []) h = refl
found_cut (suc k) (r ∷ (n ∷ l)) h = rw (lt-leb n (length l) h)

-- else there is one, and those behind it
pub found_next : (k : ℕ) (l : List ℕ) → (k ≡ 0 → ⊥) → 2 ≤ length l → get_or l 1 0 ≤ length (drop 2 l)
    → found_in k l
    ≡ record { flag = get_or l 0 0; field = take (get_or l 1 0) (drop 2 l); behind = drop (get_or l 1 0) (drop 2 l) } ∷ found_in (k - 1) (drop (get_or l 1 0) (drop 2 l))
unfolding found_in
found_next zero l z s h = absurd (z refl)
found_next (suc k) [] z s h = absurd (omega arith)
found_next (suc k) (r ∷ []) z s h = absurd (omega arith)
found_next (suc k) (r ∷ (n ∷ l)) z s h = let d : suc k - 1 ≡ k = omega arith in rw (le-leb n (length l) h, d)

-- in the words of the code: the length, and the octets behind it
module _ (k : ℕ) (l : List ℕ) {size : ℕ} (s : size ≡ get_or l 1 0) (two : 2 ≤ length l) where
  abbrev rest : List ℕ
  rest = take (length l - 2) (drop 2 l)

  rest_is : rest ≡ drop 2 l
  rest_is = take_all (length l - 2) (drop 2 l) (omega (arith, length-drop 2 l))

  pub found_over : length rest < size → found_in k l ≡ []
  found_over h = found_cut k l (rw (s, rest_is) at h)

  pub found_front : (k ≡ 0 → ⊥) → size ≤ length rest → {field behind : List ℕ} → field ≡ take size rest → behind ≡ drop size rest
      → found_in k l ≡ record { flag = get_or l 0 0; field = field; behind = behind } ∷ found_in (k - 1) behind
  found_front z h f b = rw (f, b, s, rest_is) (found_next k l z two (rw (s, rest_is) at h))

-- the wishes are those of the records
pub wishes_found : (k : ℕ) (l : List ℕ) → wishes_in k l ≡ map wish_of (found_in k l)
unfolding wishes_in found_in
wishes_found zero l = refl
wishes_found (suc k) [] = refl
wishes_found (suc k) (r ∷ []) = refl
wishes_found (suc k) (r ∷ (n ∷ l)) = go (leb n (length l)) (wishes_found k (drop n l))
  where
    x : Found
    x = record { flag = r; field = take n l; behind = drop n l }

    go : (t : Bool) → wishes_in k (drop n l) ≡ map wish_of (found_in k (drop n l)) → pick t (wish_of x ∷ wishes_in k (drop n l)) [] ≡ map wish_of (pick t (x ∷ found_in k (drop n l)) [])
    go true h = rw h
    go false h = refl

-- ---- good records

module _ (F : List ℕ → Bool) where
  -- the first of some records is as good as its flag, its field, and what is behind it
  pub first_good : (k : ℕ) (l : List ℕ) (x : Found) (xs : List Found) → found_in k l ≡ x ∷ xs
      → (j : ℕ) × (xs ≡ found_in j x.behind) × (records_by F k l ≡ both (both (leb x.flag 1) (F x.field)) (records_by F j x.behind))
  unfolding found_in records_by
  first_good zero l x xs e = cc
  first_good (suc k) [] x xs e = cc
  first_good (suc k) (r ∷ []) x xs e = cc
  first_good (suc k) (r ∷ (n ∷ l)) x xs e = go (leb n (length l)) e
    where
      y : Found
      y = record { flag = r; field = take n l; behind = drop n l }

      turn : (a b c : Bool) → both a (both true (both b c)) ≡ both (both a b) c
      turn true b c = refl
      turn false b c = refl

      go : (t : Bool) → pick t (y ∷ found_in k (drop n l)) [] ≡ x ∷ xs
          → (j : ℕ) × (xs ≡ found_in j x.behind) × (both (leb r 1) (both t (both (F (take n l)) (records_by F k (drop n l)))) ≡ both (both (leb x.flag 1) (F x.field)) (records_by F j x.behind))
      go true h =
          let p : x ≡ y = cc in
          let q : xs ≡ found_in k (drop n l) = cc in
          (k, rw p q, rw p (turn (leb r 1) (F (take n l)) (records_by F k (drop n l))))
      go false h = cc

  -- where there is none, only no octets are good
  pub none_good : (k : ℕ) (l : List ℕ) → found_in k l ≡ [] → records_by F k l ≡ eqb (length l) 0
  unfolding found_in records_by
  none_good zero [] e = refl
  none_good zero (r ∷ l) e = sym (ne_eqb (length (r ∷ l)) 0 (omega arith))
  none_good (suc k) [] e = refl
  none_good (suc k) (r ∷ []) e = sym (ne_eqb (length (r ∷ [])) 0 (omega arith))
  none_good (suc k) (r ∷ (n ∷ l)) e = go (leb n (length l)) e ∙ sym (ne_eqb (length (r ∷ (n ∷ l))) 0 (omega arith))
    where
      go : (t : Bool) → pick t (record { flag = r; field = take n l; behind = drop n l } ∷ found_in k (drop n l)) [] ≡ []
          → both (leb r 1) (both t (both (F (take n l)) (records_by F k (drop n l)))) ≡ false
      go true h = cc
      go false h = both_false (leb r 1)

-- ---- what is asked of the wishes

-- a mode that has an SPar(1) fits one that is ready, or any
module _ (mode : List ℕ) (h : has_spar mode ≡ true) where
  pub any_ready : (xs : List Found) → list_any (λ x. eqb x.flag 1 && all_in mode (standard_codes x.field)) xs ≡ fits_ready mode (map wish_of xs)
  unfolding fits_ready
  any_ready [] = refl
  any_ready (x ∷ xs) = rw (h, any_ready xs) (go (eqb x.flag 1) (all_in mode (standard_codes x.field)) (fits_ready mode (map wish_of xs)))
    where
      go : (a b c : Bool) → (a && b) || c ≡ pick (both a b) true c
      go true true c = refl
      go true false c = refl
      go false b c = refl

  pub any_fits : (xs : List Found) → list_any (λ x. all_in mode (standard_codes x.field)) xs ≡ fits_some mode (map wish_of xs)
  unfolding fits_some
  any_fits [] = refl
  any_fits (x ∷ xs) = rw (h, any_fits xs) (go (all_in mode (standard_codes x.field)) (fits_some mode (map wish_of xs)))
    where
      go : (a b : Bool) → a || b ≡ pick a true b
      go true b = refl
      go false b = refl

-- the record that was found, behind so many, in so many octets, as a choice
abbrev pub found_told : ℕ → Option (ℕ × Found) → Choosing
found_told total None = refused 11
found_told total (Some (n, x)) = chosen (record { number = n + 1; at = total - length x.behind - length x.field; length = length x.field })

-- the choice is the first that suits
pub first_found : (own : List ℕ) (far : Far) (total k : ℕ) (l : List ℕ) (n at : ℕ) → at + length l ≡ total
    → found_told total (find (λ p. suits own far (wish_of p.1)) (enumerate_from n (found_in k l))) ≡ first_suiting own far (wishes_in k l) n at
unfolding found_in wishes_in first_suiting
first_found own far total zero l n at h = refl
first_found own far total (suc k) [] n at h = refl
first_found own far total (suc k) (r ∷ []) n at h = refl
first_found own far total (suc k) (r ∷ (m ∷ l)) n at h =
    go (λ i a e. first_found own far total k (drop m l) i a e) (leb m (length l)) refl
  where
    x : Found
    x = record { flag = r; field = take m l; behind = drop m l }

    Others : Type 0
    Others = (i a : ℕ) → a + length (drop m l) ≡ total
        → found_told total (find (λ p. suits own far (wish_of p.1)) (enumerate_from i (found_in k (drop m l)))) ≡ first_suiting own far (wishes_in k (drop m l)) i a

    here : Others → (t : Bool) → m ≤ length l
        → found_told total (cond t (Some (n, x)) (find (λ p. suits own far (wish_of p.1)) (enumerate_from (n + 1) (found_in k (drop m l)))))
        ≡ pick t (chosen (record { number = n + 1; at = at + 2; length = length (take m l) })) (first_suiting own far (wishes_in k (drop m l)) (n + 1) (at + 2 + length (take m l)))
    here others true g =
        let p : total - length (drop m l) - length (take m l) ≡ at + 2 = omega (arith, length-drop m l, length-take-le m l g, h) in
        rw p
    here others false g = others (n + 1) (at + 2 + length (take m l)) (omega (arith, length-drop m l, length-take-le m l g, h))

    go : Others → (t : Bool) → leb m (length l) ≡ t
        → found_told total (find (λ p. suits own far (wish_of p.1)) (enumerate_from n (pick t (x ∷ found_in k (drop m l)) [])))
        ≡ first_suiting own far (pick t (wish_of x ∷ wishes_in k (drop m l)) []) n at
    go others true e = here others (suits own far (wish_of x)) (leb-true m (length l) e)
    go others false e = refl

-- no more are found than may be
pub found_few : (k : ℕ) (l : List ℕ) → length (found_in k l) ≤ k
unfolding found_in
found_few zero l = omega arith
found_few (suc k) [] = omega arith
found_few (suc k) (r ∷ []) = omega arith
found_few (suc k) (r ∷ (n ∷ l)) = go (leb n (length l)) (found_few k (drop n l))
  where
    go : (t : Bool) → length (found_in k (drop n l)) ≤ k → length (pick t (record { flag = r; field = take n l; behind = drop n l } ∷ found_in k (drop n l)) []) ≤ suc k
    go true h = omega arith
    go false h = omega arith

-- and each lies in the run
abbrev found_or : Found → Option (ℕ × Found) → Found
found_or y None = y
found_or y (Some p) = p.1

pub found_fits : (test : ℕ × Found → Bool) (k : ℕ) (l : List ℕ) (n i : ℕ) (x : Found) → find test (enumerate_from n (found_in k l)) ≡ Some (i, x)
    → length x.behind + length x.field ≤ length l
unfolding found_in
found_fits test zero l n i x e = cc
found_fits test (suc k) [] n i x e = cc
found_fits test (suc k) (r ∷ []) n i x e = cc
found_fits test (suc k) (r ∷ (m ∷ l)) n i x e = go (λ d. found_fits test k (drop m l) (n + 1) i x d) (leb m (length l)) refl e
  where
    y : Found
    y = record { flag = r; field = take m l; behind = drop m l }

    Others : Type 0
    Others = find test (enumerate_from (n + 1) (found_in k (drop m l))) ≡ Some (i, x) → length x.behind + length x.field ≤ length (drop m l)

    here : Others → (t : Bool) → m ≤ length l → cond t (Some (n, y)) (find test (enumerate_from (n + 1) (found_in k (drop m l)))) ≡ Some (i, x) → length x.behind + length x.field ≤ length (r ∷ (m ∷ l))
    here others true g h =
        let p : y ≡ x = ap (found_or y) h in
        rw (← p) (omega (arith, length-drop m l, length-take-le m l g))
    here others false g h = omega (arith, others h, length-drop m l)

    go : Others → (t : Bool) → leb m (length l) ≡ t → find test (enumerate_from n (pick t (y ∷ found_in k (drop m l)) [])) ≡ Some (i, x) → length x.behind + length x.field ≤ length (r ∷ (m ∷ l))
    go others true g h = here others (test (n, y)) (leb-true m (length l) g) h
    go others false g h = cc
