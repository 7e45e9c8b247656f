-- The own table and the wishes that are found good: what that says of each wish, and of the octets of their run.
-- Assumes nothing.
use Prim.Native.Nat.{ℕ, zero, suc, ◌≤◌}
use mathlib.Core.Bool.{Bool, true, false, not}
use mathlib.Core.List.Memᴰ
use mathlib.Core.List.{List, [], ◌∷◌, ◌++◌, Memᴰ}
use mathlib.Core.Logic.{⊎_elim}
use mathlib.Core.Path.{◌≡◌, refl, sym, ap, ◌∙◌}
use native.Mathlib.Omega.{arith}
use borrow.Author.Tests.{leb-true, le-leb}
use lib.Dec.{leb, eqb}
use lib.ListN.{length, take, drop, take-append-drop, length-append}
use lib.Seq.{length-take-le, take-append_seam, drop-append_seam}
use Rattle.octets.specs.Bits.{num}
use Rattle.octets.specs.Places.{pick}
use Rattle.tree.specs.Codes.{field_base, field_codes, field_behind}
use Rattle.tree.specs.Form.{is_fine, field_form}
use Rattle.tree.specs.Fields.{is_in, all_in, has_spar}
use Rattle.tree.specs.declared.Field.TheVariants.{Standard}
use Rattle.tree.proofs.Within.{in_cases}
use Rattle.message.proofs.Room.{codes_in_lem}
use Rattle.meaning.specs.Minimal.{field_minimal}
use Rattle.names.specs.Named.{named_code, standard_code}
use Rattle.names.proofs.Strictness.{keeps_named}
use Rattle.good.specs.Good.{most_standard, all_standard, good_field}
use Rattle.choice.specs.Wishes.{records_of, Wish, most_wishes, wishes_in, wishes_of, standard_codes, wish_codes, good_wish, good_records, good_wishes}
use Rattle.choice.specs.Tables.{good_own, all_inside, tables_no}
use Rattle.choice.proofs.Truths.{never}
use Rattle.octets.proofs.Laws.{both_true}

-- ---- good records

-- the first of good records: a flag of 0 or 1, all its octets, a good field, and good records behind it
good_step : (k r n : ℕ) (l : List ℕ) → good_records (suc k) (r ∷ (n ∷ l)) ≡ true
    → (r ≤ 1) × (n ≤ length l) × (good_wish (take n l) ≡ true) × (good_records k (drop n l) ≡ true)
unfolding good_records
good_step k r n l g =
    let a = both_true (leb r 1) _ g in
    let b = both_true (leb n (length l)) _ a.1 in
    let c = both_true (good_wish (take n l)) _ b.1 in
    (leb-true r 1 a.0, leb-true n (length l) b.0, c.0, c.1)

-- each wish of good records has a good field
pub good_fields : (k : ℕ) (l : List ℕ) → good_records k l ≡ true → (w : Wish) → Memᴰ w (wishes_in k l) → good_wish w.field ≡ true
unfolding wishes_in
good_fields zero l g w m = absurd (Memᴰ.not-nil m)
good_fields (suc k) [] g w m = absurd (Memᴰ.not-nil m)
good_fields (suc k) (r ∷ []) g w m = absurd (Memᴰ.not-nil m)
good_fields (suc k) (r ∷ (n ∷ l)) g w m =
    let s = good_step k r n l g in
    ⊎_elim (λ e. rw e s.2) (λ d. good_fields k (drop n l) s.3 w d)
    (Memᴰ.cases_cons (rw (le-leb n (length l) s.1) at m))

-- a flag of 0 or 1 is what its test tells
flag_told : (r : ℕ) → r ≤ 1 → num (eqb r 1) ≡ r
flag_told zero h = refl
flag_told (suc zero) h = refl
flag_told (suc (suc r)) h = absurd (omega arith)

-- good records fill their run: its octets are those of the wishes and no others, and each flag is 0 or 1
pub good_fill : (k : ℕ) (l : List ℕ) → good_records k l ≡ true → records_of (wishes_in k l) ≡ l
unfolding wishes_in good_records records_of
good_fill zero [] g = refl
good_fill zero (r ∷ l) g = never g
good_fill (suc k) [] g = refl
good_fill (suc k) (r ∷ []) g = never g
good_fill (suc k) (r ∷ (n ∷ l)) g =
    let s = good_step k r n l g in
    rw (le-leb n (length l) s.1, flag_told r s.0, length-take-le n l s.1, good_fill k (drop n l) s.3, take-append-drop n l)

-- and the records of wishes with good fields and are read back, where there are not too many
pub records_good : (k : ℕ) (ws : List Wish) → length ws ≤ k → ((w : Wish) → Memᴰ w ws → good_wish w.field ≡ true)
    → (good_records k (records_of ws) ≡ true) × (wishes_in k (records_of ws) ≡ ws)
unfolding wishes_in good_records records_of
records_good zero [] h g = (refl, refl)
records_good zero (w ∷ ws) h g = absurd (omega arith)
records_good (suc k) [] h g = (refl, refl)
records_good (suc k) (w ∷ ws) h g =
    let f = w.field in
    let r = records_good k ws (omega arith) (λ v m. g v (Memᴰ.tail m)) in
    let n : leb (length f) (length (f ++ records_of ws)) ≡ true = le-leb (length f) (length (f ++ records_of ws)) (omega (arith, length-append f (records_of ws))) in
    let s = take-append_seam f (records_of ws) in
    let d = drop-append_seam f (records_of ws) in
    (rw (low w.ready, n, s, g w (Memᴰ.head refl), d) r.0, rw (n, back w.ready, s, d, r.1))
  where
    low : (b : Bool) → leb (num b) 1 ≡ true
    low true = refl
    low false = refl

    back : (b : Bool) → eqb (num b) 1 ≡ b
    back true = refl
    back false = refl

-- no more are read than may be
pub few_wishes : (k : ℕ) (l : List ℕ) → length (wishes_in k l) ≤ k
unfolding wishes_in
few_wishes zero l = omega arith
few_wishes (suc k) [] = omega arith
few_wishes (suc k) (r ∷ []) = omega arith
few_wishes (suc k) (r ∷ (n ∷ l)) = go (leb n (length l)) (few_wishes k (drop n l))
  where
    go : (t : Bool) → length (wishes_in k (drop n l)) ≤ k → length (pick t (record { ready = eqb r 1; field = take n l } ∷ wishes_in k (drop n l)) []) ≤ suc k
    go true h = omega arith
    go false h = omega arith

-- ---- the codes of good fields

-- each of standard codes is one
pub standard_at_lem : (x : ℕ) (l : List ℕ) → all_standard l ≡ true → is_in x l ≡ true → standard_code x ≡ true
unfolding all_standard is_in
standard_at_lem x [] a i = never i
standard_at_lem x (y ∷ l) a i =
    let p = both_true (standard_code y) (all_standard l) a in
    ⊎_elim (λ (e : y ≡ x). ap standard_code (sym e) ∙ p.0) (λ (k : is_in x l ≡ true). standard_at_lem x l p.1 k) (in_cases x y l i)

-- a good field has none but standard codes
pub good_standard : (t : List ℕ) (x : ℕ) → good_field t ≡ true → is_in x (standard_codes t) ≡ true → standard_code x ≡ true
unfolding good_field
good_standard t x g i =
    let a = both_true (leb (length t) most_standard) _ g in
    let b = both_true (is_fine (field_form t 0)) _ a.1 in
    let c = both_true (eqb (field_behind t 0) (length t)) _ b.1 in
    let d = both_true (field_minimal t 0) _ c.1 in
    standard_at_lem x (field_codes (field_base 2) t 0) d.1 (rw (codes_in_lem Standard t 0 (omega (arith, leb-true (length t) most_standard a.0))) at i)

-- so each code of good wishes is named
pub wish_named : (run : List ℕ) → good_wishes run ≡ true → (w : Wish) → Memᴰ w (wishes_of run) → (x : ℕ) → is_in x (wish_codes w) ≡ true → named_code x ≡ true
wish_named run g w m x i =
    keeps_named x (good_standard w.field x (both_true (good_field w.field) _ (good_fields most_wishes run g w m)).0 i)

-- ---- the tables

-- each of wishes that all lie inside does
pub inside_each : (own : List ℕ) (ws : List Wish) → all_inside own ws ≡ true → (w : Wish) → Memᴰ w ws → all_in (wish_codes w) (standard_codes own) ≡ true
unfolding all_inside
inside_each own [] a w m = absurd (Memᴰ.not-nil m)
inside_each own (v ∷ ws) a w m =
    let p = both_true (all_in (wish_codes v) (standard_codes own)) (all_inside own ws) a in
    ⊎_elim (λ e. rw e p.0) (λ d. inside_each own ws p.1 w d) (Memᴰ.cases_cons m)

-- and if each does, all do
pub inside_all : (own : List ℕ) (ws : List Wish) → ((w : Wish) → Memᴰ w ws → all_in (wish_codes w) (standard_codes own) ≡ true) → all_inside own ws ≡ true
unfolding all_inside
inside_all own [] h = refl
inside_all own (v ∷ ws) h = rw (h v (Memᴰ.head refl)) (inside_all own ws (λ w m. h w (Memᴰ.tail m)))

-- what good tables are: a good own table; at most 16 wishes, whose records are the run, each flag 0 or 1 and nothing behind the last; each
-- wish a good field with an SPar(1) that lies in the own table
pub record GoodTables (own run : List ℕ) : Type 0 where
  pub table : good_field own ≡ true
  pub wishes : good_wishes run ≡ true
  pub few : length (wishes_of run) ≤ most_wishes
  pub fill : records_of (wishes_of run) ≡ run
  pub field : (w : Wish) → Memᴰ w (wishes_of run) → good_field w.field ≡ true
  pub spar : (w : Wish) → Memᴰ w (wishes_of run) → has_spar (wish_codes w) ≡ true
  pub inside : (w : Wish) → Memᴰ w (wishes_of run) → all_in (wish_codes w) (standard_codes own) ≡ true

-- tables that are not refused are good
pub tables_good : (own run : List ℕ) → tables_no own run ≡ 0 → GoodTables own run
unfolding tables_no
tables_good own run e =
    let p = passed (good_own own) (good_wishes run) (all_inside own (wishes_of run)) e in
    let f : (w : Wish) → Memᴰ w (wishes_of run) → (good_field w.field ≡ true) × (has_spar (wish_codes w) ≡ true) =
    λ w m. both_true (good_field w.field) (has_spar (wish_codes w)) (good_fields most_wishes run p.1 w m) in
    record {
      table = p.0;
      wishes = p.1;
      few = few_wishes most_wishes run;
      fill = good_fill most_wishes run p.1;
      field = λ w m. (f w m).0;
      spar = λ w m. (f w m).1;
      inside = inside_each own (wishes_of run) p.2;
    }
  where
    passed : (a b c : Bool) → ◌≡◌ {A = ℕ} (pick (not a) 2 (pick (not b) 3 (pick (not c) 4 0))) 0 → (a ≡ true) × (b ≡ true) × (c ≡ true)
    passed true true true q = (refl, refl, refl)
    passed true true false q = absurd (omega arith)
    passed true false c q = absurd (omega arith)
    passed false b c q = absurd (omega arith)

-- and good tables are not refused
pub good_tables : (own run : List ℕ) → GoodTables own run → tables_no own run ≡ 0
unfolding tables_no
good_tables own run g = rw (g.table, g.wishes, inside_all own (wishes_of run) g.inside)
