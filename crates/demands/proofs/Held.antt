-- An own table and wishes are good exactly if they hold what the rules allow.
-- Assumes nothing.
use Prim.Native.Nat.{ℕ}
use mathlib.Core.Bool.{true}
use mathlib.Core.List.{List, [], ◌∷◌, Memᴰ}
use mathlib.Core.Logic.{◌↔◌}
use mathlib.Core.Path.{◌≡◌, refl, ap}
use borrow.Author.Tests.{le-leb, eq-eqb}
use lib.ListN.{length}
use Rattle.tree.specs.Codes.{field_base, field_codes, field_behind}
use Rattle.tree.specs.Fields.{is_in, all_in, has_spar}
use Rattle.tree.specs.Form.{is_fine}
use Rattle.tree.proofs.Within.{in_first, in_rest}
use Rattle.names.specs.Named.{standard_code}
use Rattle.good.specs.Good.{all_standard, good_field}
use Rattle.good.proofs.Parts.{good_parts}
use Rattle.choice.specs.Wishes.{Wish, most_wishes, wishes_of, standard_codes, wish_codes, good_wishes}
use Rattle.choice.specs.Tables.{all_inside}
use Rattle.choice.proofs.Tabled.{good_fields, good_fill, records_good, few_wishes, standard_at_lem, inside_each, inside_all}
use Rattle.octets.proofs.Laws.{both_true}
use Rattle.demands.specs.Holding.{MayHold, MayWish}

-- ---- one field

-- codes that are each standard are all
all_standard_lem : (l : List ℕ) → ((x : ℕ) → is_in x l ≡ true → standard_code x ≡ true) → all_standard l ≡ true
unfolding all_standard
all_standard_lem [] h = refl
all_standard_lem (c ∷ l) h = rw (h c (in_first c l)) (all_standard_lem l (λ x i. h x (in_rest x c l i)))

pub own_holds : (t : List ℕ) → (good_field t ≡ true) ↔ MayHold t
unfolding good_field
own_holds t = (
  λ g. let p = good_parts t g in
      record { few = p.short; form = p.fine; whole = p.whole; minimal = p.minimal; standard = λ x i. standard_at_lem x (field_codes (field_base 2) t 0) p.standard i },
  λ h. rw (le-leb (length t) 61 h.few, ap is_fine h.form, eq-eqb (field_behind t 0) (length t) h.whole, h.minimal) (all_standard_lem (field_codes (field_base 2) t 0) h.standard),
)

-- ---- the wishes

pub wishes_hold : (run : List ℕ) → (good_wishes run ≡ true) ↔ MayWish run
wishes_hold run = (
  λ g. let f : (w : Wish) → Memᴰ w (wishes_of run) → (good_field w.field ≡ true) × (has_spar (wish_codes w) ≡ true) =
      λ w m. both_true (good_field w.field) (has_spar (wish_codes w)) (good_fields most_wishes run g w m) in
      record { few = few_wishes most_wishes run; filled = good_fill most_wishes run g; field = λ w m. (own_holds w.field).0 (f w m).0; spar = λ w m. (f w m).1 },
  λ h. rw h.filled at (records_good most_wishes (wishes_of run) h.few (λ w m. rw ((own_holds w.field).1 (h.field w m)) (h.spar w m))).0,
)

-- all lie inside exactly if each does
pub wishes_inside : (own : List ℕ) (ws : List Wish) → (all_inside own ws ≡ true) ↔ ((w : Wish) → Memᴰ w ws → all_in (wish_codes w) (standard_codes own) ≡ true)
wishes_inside own ws = (inside_each own ws, inside_all own ws)
