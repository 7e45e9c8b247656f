-- What the contracts of the public operations fix: by the `ensures` alone no second answer fits.
-- Assumes nothing.
use Prim.Native.Nat.{ℕ}
use mathlib.Core.List.{List}
use mathlib.Core.Path.{◌≡◌, refl, sym, ap, ◌∙◌}
use lib.Dec.{eqb}
use Rattle.std.specs.Prelude.{Option, Some, None, Result, Ok, Err}
use Rattle.octets.specs.Places.{pick}
use Rattle.octets.proofs.Unique.{one_reply}
use Rattle.choice.specs.Wishes.{Wish}
use Rattle.choice.specs.Tables.{tables_no, tables_told}
use Rattle.choice.specs.Choosing.{Far, Choosing, chosen, refused, choice_told, choice}
use Rattle.choice.specs.Judging.{verdict, nak_of}
use Rattle.choice.specs.declared.Pick.{Pick}
use Rattle.choice.specs.declared.TablesRefusal.{TablesRefusal}
use Rattle.choice.specs.declared.TablesRefusal.TheVariants.{BadOwn, BadWishes, Outside}
use Rattle.choice.specs.declared.ModeRefusal.{ModeRefusal}
use Rattle.choice.specs.declared.ModeRefusal.TheVariants.{NotReady, NoFit}

-- the answer that a number tells
abbrev back : ℕ → Result (Unit {0}) TablesRefusal
back n =
    pick (eqb n (tables_told (Ok tt))) (Ok tt)
    (pick (eqb n (tables_told (Err BadOwn))) (Err BadOwn)
    (pick (eqb n (tables_told (Err BadWishes))) (Err BadWishes) (Err Outside)))

-- each answer has a number of its own
back_told : (r : Result (Unit {0}) TablesRefusal) → back (tables_told r) ≡ r
back_told (Ok tt) = refl
back_told (Err BadOwn) = refl
back_told (Err BadWishes) = refl
back_told (Err Outside) = refl

-- `check_tables` has one answer
pub tables_unique : (own run : List ℕ) (r r' : Result (Unit {0}) TablesRefusal) → tables_told r ≡ tables_no own run → tables_told r' ≡ tables_no own run → r ≡ r'
tables_unique own run r r' e e' = sym (back_told r) ∙ ap back (one_reply e e') ∙ back_told r'

-- the answer that a choosing tells
abbrev choice_back : Choosing → Option Pick
choice_back (chosen p) = Some p
choice_back (refused n) = None

choice_back_lem : (r : Option Pick) → choice_back (choice_told r) ≡ r
choice_back_lem (Some p) = refl
choice_back_lem None = refl

-- `first_ready` and `first_common` have one
pub choice_unique : (own : List ℕ) (far : Far) (run : List ℕ) (r r' : Option Pick) → choice_told r ≡ choice own far run → choice_told r' ≡ choice own far run → r ≡ r'
choice_unique own far run r r' e e' = sym (choice_back_lem r) ∙ ap choice_back (one_reply e e') ∙ choice_back_lem r'

-- the answer that a NAK tells
abbrev nak_back : ℕ → Result (Unit {0}) ModeRefusal
nak_back n = pick (eqb n (nak_of (Ok tt))) (Ok tt) (pick (eqb n (nak_of (Err NotReady))) (Err NotReady) (Err NoFit))

nak_back_lem : (r : Result (Unit {0}) ModeRefusal) → nak_back (nak_of r) ≡ r
nak_back_lem (Ok tt) = refl
nak_back_lem (Err NotReady) = refl
nak_back_lem (Err NoFit) = refl

-- and so has `judge_mode`
pub verdict_unique : (mode : List ℕ) (ws : List Wish) (r r' : Result (Unit {0}) ModeRefusal) → nak_of r ≡ verdict mode ws → nak_of r' ≡ verdict mode ws → r ≡ r'
verdict_unique mode ws r r' e e' = sym (nak_back_lem r) ∙ ap nak_back (one_reply e e') ∙ nak_back_lem r'
