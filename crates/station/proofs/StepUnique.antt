-- What the contracts of `step`, `begin` and the conversion of refusals fix: no second answer, output or store fits them.
-- Assumes nothing.
use Prim.Native.Nat.{ℕ}
use mathlib.Core.List.{List}
use mathlib.Core.Path.{◌≡◌, refl, sym, ap, ◌∙◌}
use lib.Dec.{eqb}
use Rattle.std.specs.Prelude.{Result, Ok, Err}
use Rattle.octets.specs.Places.{pick}
use Rattle.octets.proofs.Unique.{one_reply}
use Rattle.choice.specs.declared.TablesRefusal.{TablesRefusal}
use Rattle.table.specs.declared.State.{State}
use Rattle.station.specs.Acting.{Outcome}
use Rattle.station.specs.Stepping.{told_no, Reply, step_told, begun, Did}
use Rattle.station.specs.Promises.{RefusesTables}
use Rattle.station.specs.declared.Stepped.{Stepped}
use Rattle.station.specs.declared.StepRefusal.{StepRefusal}
use Rattle.station.specs.declared.StepRefusal.TheVariants.{BadLent, BadOwn, BadWishes, Outside, TimeBefore, TimedOut, UnknownType, NotInTable, NothingToPropose}

pub begin_unique : (time : ℕ) (r r' : State) → r ≡ begun time → r' ≡ begun time → r ≡ r'
begin_unique time r r' e e' = one_reply e e'

-- what a number tells
abbrev told_back : ℕ → Result (Unit {0}) StepRefusal
told_back n =
    pick (eqb n (told_no (Ok tt))) (Ok tt)
    (pick (eqb n (told_no (Err BadLent))) (Err BadLent)
    (pick (eqb n (told_no (Err BadOwn))) (Err BadOwn)
    (pick (eqb n (told_no (Err BadWishes))) (Err BadWishes)
    (pick (eqb n (told_no (Err Outside))) (Err Outside)
    (pick (eqb n (told_no (Err TimeBefore))) (Err TimeBefore)
    (pick (eqb n (told_no (Err TimedOut))) (Err TimedOut)
    (pick (eqb n (told_no (Err UnknownType))) (Err UnknownType)
    (pick (eqb n (told_no (Err NotInTable))) (Err NotInTable)
    (Err NothingToPropose)))))))))

-- each has a number of its own
told_back_lem : (t : Result (Unit {0}) StepRefusal) → told_back (told_no t) ≡ t
told_back_lem (Ok tt) = refl
told_back_lem (Err BadLent) = refl
told_back_lem (Err BadOwn) = refl
told_back_lem (Err BadWishes) = refl
told_back_lem (Err Outside) = refl
told_back_lem (Err TimeBefore) = refl
told_back_lem (Err TimedOut) = refl
told_back_lem (Err UnknownType) = refl
told_back_lem (Err NotInTable) = refl
told_back_lem (Err NothingToPropose) = refl

-- so a refusal of the tables has one that it passes on as
err_once : (r r' : StepRefusal) → ◌≡◌ {A = Result (Unit {0}) StepRefusal} (Err r) (Err r') → r ≡ r'
err_once r r' e = ap (λ (t : Result (Unit {0}) StepRefusal). elim t [ Ok x ↦ r | Err y ↦ y ]) e

pub refusal_unique : (x : TablesRefusal) (r r' : StepRefusal) → RefusesTables x r → RefusesTables x r' → r ≡ r'
refusal_unique x r r' e e' = err_once r r' (sym (told_back_lem (Err r)) ∙ ap told_back (one_reply e e') ∙ told_back_lem (Err r'))

-- the answer that a reply tells
abbrev step_back : Reply → Stepped
step_back x =
    record {
      told = told_back x.no;
      signal = x.signal;
      first = x.first;
      second = x.second;
      stored = x.stored;
      state = record { phase = x.next };
    }

step_back_lem : (r : Stepped) → step_back (step_told r) ≡ r
step_back_lem r = rw (told_back_lem r.told)

pub step_unique : (o : Outcome) (out₀ store₀ : List ℕ) (r r' : Stepped) (out₁ out₁' store₁ store₁' : List ℕ) → Did o out₀ store₀ r out₁ store₁ → Did o out₀ store₀ r' out₁' store₁'
    → (r ≡ r') × (out₁ ≡ out₁') × (store₁ ≡ store₁')
step_unique o out₀ store₀ r r' out₁ out₁' store₁ store₁' d d' = (
  sym (step_back_lem r) ∙ ap step_back (one_reply d.reply d'.reply) ∙ step_back_lem r',
  one_reply d.output d'.output,
  one_reply d.store d'.store,
)
