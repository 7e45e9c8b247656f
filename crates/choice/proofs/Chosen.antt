-- The choice: it is the first wish that suits, and it depends on nothing but the codes of the own table, the far list and the wishes.
-- Assumes nothing.
use Prim.Native.Nat.{ℕ, zero, suc, ◌+◌, ◌≤◌}
use mathlib.Core.Bool.{Bool, true, false}
use mathlib.Core.List.Memᴰ
use mathlib.Core.List.{List, [], ◌∷◌, ◌++◌, append_assoc, Memᴰ}
use mathlib.Core.Logic.{⊎_elim}
use mathlib.Core.Path.{◌≡◌, refl, sym, ap, ◌∙◌}
use native.Mathlib.Omega.{arith}
use borrow.Author.Tests.{leb-true}
use lib.Dec.{leb, eqb}
use lib.ListN.{length, take, drop, length-append, length-drop}
use lib.Seq.{drop-drop, length-take-le}
use Rattle.octets.specs.Places.{pick}
use Rattle.tree.specs.Fields.{is_in, all_in}
use Rattle.tree.proofs.Within.{all_in_same, is_in-all_in, all_in-is_in}
use Rattle.names.specs.Masks.{only}
use Rattle.names.specs.Named.{named_code}
use Rattle.names.proofs.Sieving.{in_only}
use Rattle.choice.specs.Wishes.{Wish, most_wishes, wishes_in, wishes_of, standard_codes, wish_codes, good_wish, good_wishes}
use Rattle.choice.specs.Tables.{tables_no}
use Rattle.choice.specs.Choosing.{Far, unheard, heard, suits, Choosing, chosen, refused, first_suiting, choice, First}
use Rattle.choice.specs.declared.Pick.{Pick}
use Rattle.choice.proofs.Truths.{same_tests}
use Rattle.octets.proofs.Laws.{both_true}
use Rattle.choice.proofs.Tabled.{good_fields, wish_named, tables_good}

-- ---- the first that suits

-- what was chosen; of no choice, nothing
abbrev picked : Choosing → Pick
picked (chosen p) = p
picked (refused n) = record { number = 0; at = 0; length = 0 }

-- a choice is none or one
abbrev many : Choosing → ℕ
many (chosen p) = 1
many (refused n) = 0

-- the choice is among the wishes that octets begin with, k of them at most, from a place on, and none before them suits
record Ahead (own : List ℕ) (far : Far) (run : List ℕ) (p : Pick) (k at : ℕ) (l : List ℕ) (before : List Wish) : Type 0 where
  ends : at + length l ≡ length run
  octets : drop at run ≡ l
  count : length before + k ≡ most_wishes
  wishes : wishes_of run ≡ before ++ wishes_in k l
  none : (w : Wish) → Memᴰ w before → suits own far w ≡ false
  told : first_suiting own far (wishes_in k l) (length before) at ≡ chosen p

-- one record ahead, whose field is n octets of some
module _ (own : List ℕ) (far : Far) (run : List ℕ) (p : Pick) (k at : ℕ) (before : List Wish) (r n : ℕ) (l : List ℕ) (h : n ≤ length l) where
  abbrev wish : Wish
  wish = record { ready = eqb r 1; field = take n l }

  abbrev others : List Wish
  others = wishes_in k (drop n l)

  module _ (ends : at + length (r ∷ (n ∷ l)) ≡ length run) (octets : drop at run ≡ r ∷ (n ∷ l)) (count : length before + suc k ≡ most_wishes)
      (wishes : wishes_of run ≡ before ++ (wish ∷ others)) (none : (w : Wish) → Memᴰ w before → suits own far w ≡ false) where
    -- its field
    field_at : drop (at + 2) run ≡ l
    field_at = sym (drop-drop 2 at run) ∙ ap (drop 2) octets

    -- it is chosen, and the first that suits
    here : suits own far wish ≡ true → chosen (record { number = length before + 1; at = at + 2; length = length (take n l) }) ≡ chosen p → First own far run p
    here s q =
        let size : length (take n l) ≡ n = length-take-le n l h in
        let a : p.number ≡ length before + 1 = sym (ap (λ (c : Choosing). (picked c).number) q) in
        let b : p.at ≡ at + 2 = sym (ap (λ (c : Choosing). (picked c).at) q) in
        let c : p.length ≡ n = sym (ap (λ (c : Choosing). (picked c).length) q) ∙ size in
        record {
          before = before;
          wish = wish;
          rest = others;
          wishes = wishes;
          none = none;
          suited = s;
          number = a;
          few = omega (arith, count);
          field = rw (c, b, field_at);
          inside = omega (arith, ends);
        }

    -- it is not, and the choice is ahead still
    onward : suits own far wish ≡ false → first_suiting own far others (length before + 1) (at + 2 + length (take n l)) ≡ chosen p
        → Ahead own far run p k (at + 2 + length (take n l)) (drop n l) (before ++ (wish ∷ []))
    onward s t =
        let size : length (take n l) ≡ n = length-take-le n l h in
        record {
          ends = omega (arith, ends, size, length-drop n l);
          octets = rw size (sym (drop-drop n (at + 2) run) ∙ ap (drop n) field_at);
          count = omega (arith, length-append before (wish ∷ []), count);
          wishes = wishes ∙ sym (append_assoc before (wish ∷ []) others);
          none = λ w m. ⊎_elim (none w) (λ d. ap (suits own far) (Memᴰ.eq_of_singleton d) ∙ s) (Memᴰ.append_cases before m);
          told = rw (length-append before (wish ∷ [])) t;
        }

-- so it is one of them
first_from : (own : List ℕ) (far : Far) (run : List ℕ) (p : Pick) (k at : ℕ) (l : List ℕ) (before : List Wish) → Ahead own far run p k at l before → First own far run p
unfolding wishes_in first_suiting
first_from own far run p zero at l before a = absurd (omega (arith, ap many a.told))
first_from own far run p (suc k) at [] before a = absurd (omega (arith, ap many a.told))
first_from own far run p (suc k) at (r ∷ []) before a = absurd (omega (arith, ap many a.told))
first_from own far run p (suc k) at (r ∷ (n ∷ l)) before a = go (λ i m b d. first_from own far run p k i m b d) (leb n (length l)) refl a.wishes a.told
  where
    w : Wish
    w = record { ready = eqb r 1; field = take n l }

    Further : Type 0
    Further = (i : ℕ) (m : List ℕ) (b : List Wish) → Ahead own far run p k i m b → First own far run p

    test : Further → (h : n ≤ length l) → wishes_of run ≡ before ++ (w ∷ wishes_in k (drop n l)) → (t : Bool) → suits own far w ≡ t
        → pick t (chosen (record { number = length before + 1; at = at + 2; length = length (take n l) })) (first_suiting own far (wishes_in k (drop n l)) (length before + 1) (at + 2 + length (take n l))) ≡ chosen p
        → First own far run p
    test further h ws true s q = here own far run p k at before r n l h a.ends a.octets a.count ws a.none s q
    test further h ws false s q =
        further (at + 2 + length (take n l)) (drop n l) (before ++ (w ∷ []))
        (onward own far run p k at before r n l h a.ends a.octets a.count ws a.none s q)

    go : Further → (t : Bool) → leb n (length l) ≡ t → wishes_of run ≡ before ++ pick t (w ∷ wishes_in k (drop n l)) []
        → first_suiting own far (pick t (w ∷ wishes_in k (drop n l)) []) (length before) at ≡ chosen p → First own far run p
    go further true e ws q = test further (leb-true n (length l) e) ws (suits own far w) refl q
    go further false e ws q = absurd (omega (arith, ap many q))

-- what is chosen is the first wish that suits
pub chosen_first : (own : List ℕ) (far : Far) (run : List ℕ) (p : Pick) → choice own far run ≡ chosen p → First own far run p
unfolding choice
chosen_first own far run p e =
    first_from own far run p most_wishes 0 run []
    (record { ends = omega arith; octets = refl; count = refl; wishes = refl; none = λ w m. absurd (Memᴰ.not-nil m); told = e })

-- it is one of the wishes
pub first_member : {own : List ℕ} {far : Far} {run : List ℕ} {p : Pick} (f : First own far run p) → Memᴰ f.wish (wishes_of run)
first_member f = rw f.wishes (Memᴰ.append_right f.before (Memᴰ.head refl))

-- and it is ready
pub first_is_ready : (own : List ℕ) (far : Far) (run : List ℕ) (p : Pick) (f : First own far run p) → f.wish.ready ≡ true
first_is_ready own unheard run p f = f.suited
first_is_ready own (heard far) run p f = (both_true f.wish.ready _ f.suited).0

-- with a far list, what is chosen lies in the own table and in that list
pub chosen_common : (own far run : List ℕ) (p : Pick) → choice own (heard far) run ≡ chosen p
    → let codes = standard_codes (take p.length (drop p.at run)) in (all_in codes own ≡ true) × (all_in codes far ≡ true)
chosen_common own far run p e =
    let f = chosen_first own (heard far) run p e in
    rw f.field (both_true (all_in (wish_codes f.wish) own) (all_in (wish_codes f.wish) far) (both_true f.wish.ready _ f.suited).1)

-- and from good tables, far list or none, it is a good field with an SPar(1) that lies in the own table
pub chosen_good : (own run : List ℕ) (far : Far) (p : Pick) → tables_no own run ≡ 0 → choice (standard_codes own) far run ≡ chosen p
    → let field = take p.length (drop p.at run) in (good_wish field ≡ true) × (all_in (standard_codes field) (standard_codes own) ≡ true)
chosen_good own run far p n e =
    let f = chosen_first (standard_codes own) far run p e in
    let g = tables_good own run n in
    rw f.field (good_fields most_wishes run g.wishes f.wish (first_member f), g.inside f.wish (first_member f))

-- of wishes of which none is chosen, none suits
none_suits : (own : List ℕ) (far : Far) (ws : List Wish) (n at : ℕ) → first_suiting own far ws n at ≡ refused 11 → (w : Wish) → Memᴰ w ws → suits own far w ≡ false
unfolding first_suiting
none_suits own far [] n at e w m = absurd (Memᴰ.not-nil m)
none_suits own far (v ∷ ws) n at e w m =
    go (suits own far v) refl e (none_suits own far ws (n + 1) (at + 2 + length v.field))
  where
    go : (t : Bool) → suits own far v ≡ t
        → pick t (chosen (record { number = n + 1; at = at + 2; length = length v.field })) (first_suiting own far ws (n + 1) (at + 2 + length v.field)) ≡ refused 11
        → (first_suiting own far ws (n + 1) (at + 2 + length v.field) ≡ refused 11 → (u : Wish) → Memᴰ u ws → suits own far u ≡ false)
        → suits own far w ≡ false
    go true s q others = absurd (omega (arith, ap many q))
    go false s q others = ⊎_elim (λ d. rw d s) (others q w) (Memᴰ.cases_cons m)

-- and of wishes of which none suits, none is chosen
suits_none : (own : List ℕ) (far : Far) (ws : List Wish) (n at : ℕ) → ((w : Wish) → Memᴰ w ws → suits own far w ≡ false) → first_suiting own far ws n at ≡ refused 11
unfolding first_suiting
suits_none own far [] n at h = refl
suits_none own far (v ∷ ws) n at h =
    rw (h v (Memᴰ.head refl)) (suits_none own far ws (n + 1) (at + 2 + length v.field) (λ w m. h w (Memᴰ.tail m)))

-- there is no choice exactly if no wish suits
pub no_choice : (own : List ℕ) (far : Far) (run : List ℕ)
    → (choice own far run ≡ refused 11 → (w : Wish) → Memᴰ w (wishes_of run) → suits own far w ≡ false)
    × (((w : Wish) → Memᴰ w (wishes_of run) → suits own far w ≡ false) → choice own far run ≡ refused 11)
unfolding choice
no_choice own far run = (none_suits own far (wishes_of run) 0 0, suits_none own far (wishes_of run) 0 0)

-- ---- what it depends on

-- the choice is the same where the same wishes suit
same_suits : (own own' : List ℕ) (far far' : Far) (ws : List Wish) (n at : ℕ) → ((w : Wish) → Memᴰ w ws → suits own far w ≡ suits own' far' w)
    → first_suiting own far ws n at ≡ first_suiting own' far' ws n at
unfolding first_suiting
same_suits own own' far far' [] n at h = refl
same_suits own own' far far' (v ∷ ws) n at h =
    rw (h v (Memᴰ.head refl), same_suits own own' far far' ws (n + 1) (at + 2 + length v.field) (λ w m. h w (Memᴰ.tail m)))

same_choice : (own own' : List ℕ) (far far' : Far) (run : List ℕ) → ((w : Wish) → Memᴰ w (wishes_of run) → suits own far w ≡ suits own' far' w)
    → choice own far run ≡ choice own' far' run
unfolding choice
same_choice own own' far far' run h = same_suits own own' far far' (wishes_of run) 0 0 h

-- with no far list the own table is not looked at
pub choice_unheard : (own own' run : List ℕ) → choice own unheard run ≡ choice own' unheard run
choice_unheard own own' run = same_choice own own' unheard unheard run (λ w m. refl)

-- far lists with the same codes lead to the same choice
pub choice_same_far : (own far far' run : List ℕ) → ((x : ℕ) → is_in x far ≡ is_in x far') → choice own (heard far) run ≡ choice own (heard far') run
choice_same_far own far far' run h = same_choice own own (heard far) (heard far') run (λ w m. rw (all_in_same (wish_codes w) far far' h))

-- and so do own tables with the same codes
pub choice_same_own : (own own' : List ℕ) (far : Far) (run : List ℕ) → ((x : ℕ) → is_in x own ≡ is_in x own') → choice own far run ≡ choice own' far run
choice_same_own own own' unheard run h = choice_unheard own own' run
choice_same_own own own' (heard far) run h =
    same_choice own own' (heard far) (heard far) run (λ w m. rw (all_in_same (wish_codes w) own own' h))

-- codes that pass a test lie in a list exactly if they lie in what passes of it
pub within_only : (f : ℕ → Bool) (a m : List ℕ) → ((x : ℕ) → is_in x a ≡ true → f x ≡ true) → all_in a (only f m) ≡ all_in a m
within_only f a m h =
    same_tests (all_in a (only f m)) (all_in a m)
    (λ e. is_in-all_in a m (λ x i. sym (passes x i) ∙ all_in-is_in x a (only f m) e i))
    (λ e. is_in-all_in a (only f m) (λ x i. passes x i ∙ all_in-is_in x a m e i))
  where
    passes : (x : ℕ) → is_in x a ≡ true → is_in x (only f m) ≡ is_in x m
    passes x i = in_only f x m ∙ rw (h x i)

-- striking the far list once more does not change the choice: the codes of good wishes are named
pub choice_struck : (own far run : List ℕ) → good_wishes run ≡ true → choice own (heard (only named_code far)) run ≡ choice own (heard far) run
choice_struck own far run g =
    same_choice own own (heard (only named_code far)) (heard far) run (λ w m. rw (within_only named_code (wish_codes w) far (wish_named run g w m)))
