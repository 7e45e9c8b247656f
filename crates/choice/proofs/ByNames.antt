-- Fields and wishes judged by names: by those of all standard parameters they are good, and by those of a good own table they are good
-- and lie in it.
-- Assumes nothing.
use Prim.Native.Nat.{ℕ, zero, suc, ◌≤◌, ◌<◌}
use mathlib.Core.Bool.{Bool, true, false}
use mathlib.Core.List.{List, [], ◌∷◌}
use mathlib.Core.Path.{◌≡◌, refl, sym, ◌∙◌}
use native.Mathlib.Omega.{arith}
use borrow.Author.Tests.{leb-true, le-leb, lt-leb}
use lib.Dec.{leb, eqb}
use lib.ListN.{length, take, drop}
use Rattle.std.specs.Prelude.{Option, Some}
use Rattle.std.specs.Bool.{then_some}
use Rattle.std.specs.Option.{option_eq}
use Rattle.octets.specs.Places.{pick, both}
use Rattle.tree.specs.Codes.{field_base, field_codes, field_behind}
use Rattle.tree.specs.Form.{is_fine, field_form}
use Rattle.tree.specs.Fields.{is_in, all_in, has_spar}
use Rattle.tree.specs.declared.Field.TheVariants.{Standard}
use Rattle.message.proofs.Room.{codes_in_lem}
use Rattle.meaning.specs.Minimal.{field_minimal}
use Rattle.names.specs.Named.{standard_code}
use Rattle.good.specs.Good.{most_standard, all_standard, good_field}
use Rattle.good.proofs.Parts.{good_parts}
use Rattle.choice.specs.Wishes.{Wish, most_wishes, wishes_in, wishes_of, standard_codes, good_wish, good_records, good_wishes}
use Rattle.choice.specs.Tables.{all_inside}
use Rattle.good.specs.Goodness.{Names, good_blocks, good_in, all_pass, good_by}
use Rattle.choice.specs.Inner.{wish_in, records_by}
use Rattle.good.proofs.Allowed.{both_none}
use Rattle.good.proofs.Judgement.{field_judged_lem}
use Rattle.choice.proofs.Tabled.{standard_at_lem}

-- ---- a field

-- judged by the names of a test it is good with codes that pass the test
named_good : {P : ℕ → Bool} {n : List ℕ} → Names P n → (t : List ℕ) → good_in n t ≡ good_by P t
unfolding good_in good_by
named_good {P} {n} names t = go (leb (length t) most_standard) refl
  where
    pieces : (f e m a g : Bool) → both f (both m a) ≡ g → both g e ≡ both f (both e (both m a))
    pieces false e m a g h = rw (sym h)
    pieces true true m a g h = rw (sym h) (go m a)
      where
        go : (m a : Bool) → both (both m a) true ≡ both m a
        go true true = refl
        go true false = refl
        go false a = refl
    pieces true false m a g h = both_none g

    go : (s : Bool) → leb (length t) most_standard ≡ s
        → both s (both (good_blocks n t) (eqb (field_behind t 0) (length t)))
        ≡ both s (both (is_fine (field_form t 0)) (both (eqb (field_behind t 0) (length t)) (both (field_minimal t 0) (all_pass P (field_codes (field_base 2) t 0)))))
    go true h =
        pieces (is_fine (field_form t 0)) (eqb (field_behind t 0) (length t)) (field_minimal t 0) (all_pass P (field_codes (field_base 2) t 0)) (good_blocks n t)
        (field_judged_lem names t (omega (arith, leb-true (length t) most_standard h)))
    go false h = refl

-- what is asked of it one after the other: its length, its blocks, and that no octet is behind it
pub long_bad : (n t : List ℕ) → most_standard < length t → false ≡ good_in n t
unfolding good_in
long_bad n t h = rw (lt-leb (length t) most_standard h)

pub blocks_tell : (n t : List ℕ) → length t ≤ most_standard → {r : Option ℕ} → r ≡ then_some (good_blocks n t) (field_behind t 0) → option_eq eqb r (Some (length t)) ≡ good_in n t
unfolding good_in
blocks_tell n t short e = rw (e, le-leb (length t) most_standard short) (go (good_blocks n t))
  where
    go : (g : Bool) → option_eq eqb (then_some g (field_behind t 0)) (Some (length t)) ≡ both g (eqb (field_behind t 0) (length t))
    go true = refl
    go false = refl

-- the test may be that codes are standard
pass_standard : (l : List ℕ) → all_pass standard_code l ≡ all_standard l
unfolding all_pass all_standard
pass_standard [] = refl
pass_standard (c ∷ l) = rw (pass_standard l)

by_standard : (t : List ℕ) → good_by standard_code t ≡ good_field t
unfolding good_by good_field
by_standard t = rw (pass_standard (field_codes (field_base 2) t 0))

-- or that they are in a list
pass_in : (m l : List ℕ) → all_pass (λ c. is_in c m) l ≡ all_in l m
unfolding all_pass all_in
pass_in m [] = refl
pass_in m (c ∷ l) = rw (pass_in m l) (go (is_in c m))
  where
    go : (s : Bool) → both s (all_in l m) ≡ pick s (all_in l m) false
    go true = refl
    go false = refl

-- and what is in standard codes is standard
in_standard : (m l : List ℕ) → all_standard m ≡ true → all_in l m ≡ true → all_standard l ≡ true
unfolding all_in all_standard
in_standard m [] s h = refl
in_standard m (c ∷ l) s h = go (is_in c m) refl (in_standard m l s) h
  where
    go : (t : Bool) → is_in c m ≡ t → (all_in l m ≡ true → all_standard l ≡ true) → pick t (all_in l m) false ≡ true → both (standard_code c) (all_standard l) ≡ true
    go true e f k = rw (standard_at_lem c m s e, f k)
    go false e f k = cc

by_own : (own t : List ℕ) → good_field own ≡ true → good_by (λ c. is_in c (field_codes (field_base 2) own 0)) t ≡ both (good_field t) (all_in (standard_codes t) (standard_codes own))
unfolding good_by good_field
by_own own t g = go (leb (length t) most_standard) refl
  where
    parts : (length own ≤ most_standard) × (all_standard (field_codes (field_base 2) own 0) ≡ true)
    parts = let p = good_parts own g in (p.short, p.standard)

    m : List ℕ
    m = field_codes (field_base 2) own 0

    cs : List ℕ
    cs = field_codes (field_base 2) t 0

    pieces : (f e n a i : Bool) → (i ≡ true → a ≡ true) → both f (both e (both n i)) ≡ both (both f (both e (both n a))) i
    pieces f e n a true h = rw (h refl) (last (both f (both e (both n true))))
      where
        last : (x : Bool) → x ≡ both x true
        last true = refl
        last false = refl
    pieces f e n a false h = rw (both_none n, both_none e, both_none f) (sym (both_none (both f (both e (both n a)))))

    go : (s : Bool) → leb (length t) most_standard ≡ s
        → both s (both (is_fine (field_form t 0)) (both (eqb (field_behind t 0) (length t)) (both (field_minimal t 0) (all_pass (λ c. is_in c m) cs))))
        ≡ both (both s (both (is_fine (field_form t 0)) (both (eqb (field_behind t 0) (length t)) (both (field_minimal t 0) (all_standard cs))))) (all_in (standard_codes t) (standard_codes own))
    go true h =
        rw (pass_in m cs, codes_in_lem Standard t 0 (omega (arith, leb-true (length t) most_standard h)), codes_in_lem Standard own 0 (omega (arith, parts.0)))
        (pieces (is_fine (field_form t 0)) (eqb (field_behind t 0) (length t)) (field_minimal t 0) (all_standard cs) (all_in cs m) (λ i. in_standard m cs parts.1 i))
    go false h = refl

-- so by the names of all standard parameters it is good, and by those of a good own table it is good and lies in it
pub good_standard_names : {n : List ℕ} → Names standard_code n → (t : List ℕ) → good_in n t ≡ good_field t
good_standard_names names t = named_good names t ∙ by_standard t

good_own_names : {n : List ℕ} (own : List ℕ) → good_field own ≡ true → Names (λ c. is_in c (field_codes (field_base 2) own 0)) n → (t : List ℕ)
    → good_in n t ≡ both (good_field t) (all_in (standard_codes t) (standard_codes own))
good_own_names own g names t = named_good names t ∙ by_own own t g

-- a good field in the words that its names are learnt by
pub good_learnt : (own : List ℕ) → good_field own ≡ true → good_by standard_code own ≡ true
good_learnt own g = by_standard own ∙ g

-- ---- the wishes

-- records whose fields are wishes are good
records_good : (F : List ℕ → Bool) → ((t : List ℕ) → F t ≡ good_wish t) → (k : ℕ) (run : List ℕ) → records_by F k run ≡ good_records k run
unfolding records_by good_records
records_good F h zero [] = refl
records_good F h zero (r ∷ run) = refl
records_good F h (suc k) [] = refl
records_good F h (suc k) (r ∷ []) = refl
records_good F h (suc k) (r ∷ (n ∷ run)) = rw (h (take n run), records_good F h k (drop n run))

-- those whose fields lie in the own table too are so, and all wishes lie in it
records_inside : (own : List ℕ) (F : List ℕ → Bool) → ((t : List ℕ) → F t ≡ both (good_wish t) (all_in (standard_codes t) (standard_codes own))) → (k : ℕ) (run : List ℕ)
    → records_by F k run ≡ both (good_records k run) (all_inside own (wishes_in k run))
unfolding records_by good_records wishes_in all_inside
records_inside own F h zero [] = refl
records_inside own F h zero (r ∷ run) = refl
records_inside own F h (suc k) [] = refl
records_inside own F h (suc k) (r ∷ []) = refl
records_inside own F h (suc k) (r ∷ (n ∷ run)) =
    rw (h (take n run), records_inside own F h k (drop n run))
    (go (leb r 1) (leb n (length run)) (good_wish (take n run)) (good_records k (drop n run)) (wishes_in k (drop n run)))
  where
    pieces : (g i s d : Bool) → both (both g i) (both s d) ≡ both (both g s) (both i d)
    pieces false i s d = refl
    pieces true true true d = refl
    pieces true true false d = refl
    pieces true false s d = sym (both_none s)

    i : Bool
    i = all_in (standard_codes (take n run)) (standard_codes own)

    go : (a b g s : Bool) (ws : List Wish) → both a (both b (both (both g i) (both s (all_inside own ws))))
        ≡ both (both a (both b (both g s))) (all_inside own (pick b (record { ready = eqb r 1; field = take n run } ∷ ws) []))
    go false b g s ws = refl
    go true false g s ws = refl
    go true true g s ws = pieces g i s (all_inside own ws)

module _ {n : List ℕ} where
  pub wishes_standard : Names standard_code n → (run : List ℕ) → records_by (wish_in n) most_wishes run ≡ good_wishes run
  wishes_standard names run = records_good (wish_in n) (λ t. rw (good_standard_names names t)) most_wishes run

  pub wishes_own : (own : List ℕ) → good_field own ≡ true → Names (λ c. is_in c (field_codes (field_base 2) own 0)) n → (run : List ℕ)
      → records_by (wish_in n) most_wishes run ≡ both (good_wishes run) (all_inside own (wishes_of run))
  wishes_own own g names run =
      records_inside own (wish_in n) (λ t. rw (good_own_names own g names t) (turn (good_field t) (all_in (standard_codes t) (standard_codes own)) (has_spar (standard_codes t)))) most_wishes run
    where
      turn : (a i h : Bool) → both (both a i) h ≡ both (both a h) i
      turn false i h = refl
      turn true true true = refl
      turn true true false = refl
      turn true false true = refl
      turn true false false = refl
