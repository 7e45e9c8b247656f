-- `choice::choose` meets its contract: the record that is found is the first wish that suits.
-- Assumes nothing.
use Prim.Native.Nat.{ℕ, ◌+◌, ◌≤◌}
use mathlib.Core.List.{List}
use mathlib.Core.Logic.{inl}
use mathlib.Core.Path.{◌≡◌, sym, ap, ◌∙◌}
use native.Mathlib.Omega.{arith}
use lib.ListN.{length}
use Rattle.std.proofs.Common.{rules, tests}
use Rattle.std.specs.Prelude.{Option, Some}
use Rattle.std.specs.List.{find, enumerate_from}
use Rattle.std.specs.Option.{option_map}
use Rattle.std.proofs.lemmas.Iterator.Consumers.{YieldsList-at, YieldsList-from_first, YieldsList-from_enumerate}
use Rattle.std.proofs.lemmas.Iterator.Search.{find_from_yields_List}
use Rattle.choice.specs.Wishes.{most_wishes, standard_codes}
use Rattle.choice.specs.Choosing.{Far, suits, choice}
use Rattle.choice.specs.declared.wishes.Record.{Record}
use Rattle.choice.specs.Inner.{Found, found_in, found_of, found_left, wish_of, far_told}
use Rattle.choice.proofs.Records.{found_few, found_fits, found_told, first_found}
use Rattle.choice.proofs.choose.Goals as goal

-- what is found lies in the run, and is the choice
record Answer (own : List ℕ) (far : Far) (run : List ℕ) (r : Option (ℕ × Record)) : Type 0 where
  told : found_told (length run) (option_map (λ p. (p.0, found_of p.1)) r) ≡ choice own far run
  fits : (n : ℕ) (x : Record) → r ≡ Some (n, x) → length x.behind.now + length x.field.now ≤ length run

answer : (own : List ℕ) (far : Far) (run : List ℕ) (r : Option (ℕ × Record))
    → option_map (λ p. (p.0, found_of p.1)) r ≡ find (λ p. suits own far (wish_of p.1)) (enumerate_from 0 (found_in most_wishes run)) → Answer own far run r
unfolding choice
answer own far run r e = record {
  told = ap (found_told (length run)) e ∙ first_found own far (length run) most_wishes run 0 0 (omega arith);
  fits = λ n x s. found_fits (λ p. suits own far (wish_of p.1)) most_wishes run 0 n (found_of x) (sym e ∙ ap (option_map (λ p. (p.0, found_of p.1))) s);
}

pub find-requires-clause-can : goal.find-requires-clause-can
find-requires-clause-can c =
    let left : found_left c.enumerate.result.iter ≡ found_in most_wishes c.args.run.now = ap found_left c.enumerate.ensures.source ∙ c.of.ensures in
    (tt, tt, inl (omega (arith, c.enumerate.ensures.count, ap length left, found_few most_wishes c.args.run.now)))

pub returns-in_err-before : goal.returns-in_err-before
returns-in_err-before c =
    let told = answer (standard_codes c.args.own.now) (far_told c.args.far) c.args.run.now c.find.result
    (find_from_yields_List (λ (p : ℕ × Found). suits (standard_codes c.args.own.now) (far_told c.args.far) (wish_of p.1)) c.find.new.self _ c.find.result c.find.ensures.ran
    (YieldsList-from_enumerate (YieldsList-at c.enumerate.ensures.source (YieldsList-from_first found_of found_left (found_in most_wishes c.args.run.now) c.of.ensures)) c.enumerate.ensures.count)
    (λ x b q k. search (rules, tests))) in
    rw c.from_residual.ensures (rw c.in_err-before.was at told.told)

pub overflow_sub-result : goal.overflow_sub-result
overflow_sub-result c =
    let told = answer (standard_codes c.args.own.now) (far_told c.args.far) c.args.run.now c.find.result
    (find_from_yields_List (λ (p : ℕ × Found). suits (standard_codes c.args.own.now) (far_told c.args.far) (wish_of p.1)) c.find.new.self _ c.find.result c.find.ensures.ran
    (YieldsList-from_enumerate (YieldsList-at c.enumerate.ensures.source (YieldsList-from_first found_of found_left (found_in most_wishes c.args.run.now) c.of.ensures)) c.enumerate.ensures.count)
    (λ x b q k. search (rules, tests))) in
    omega (arith, told.fits c.in_ok-before.before c.in_ok-before.wish c.in_ok-before.was)

pub overflow_sub-result-2 : goal.overflow_sub-result-2
overflow_sub-result-2 c =
    let told = answer (standard_codes c.args.own.now) (far_told c.args.far) c.args.run.now c.find.result
    (find_from_yields_List (λ (p : ℕ × Found). suits (standard_codes c.args.own.now) (far_told c.args.far) (wish_of p.1)) c.find.new.self _ c.find.result c.find.ensures.ran
    (YieldsList-from_enumerate (YieldsList-at c.enumerate.ensures.source (YieldsList-from_first found_of found_left (found_in most_wishes c.args.run.now) c.of.ensures)) c.enumerate.ensures.count)
    (λ x b q k. search (rules, tests))) in
    omega (arith, told.fits c.in_ok-before.before c.in_ok-before.wish c.in_ok-before.was)

pub returns : goal.returns
returns c =
    let told = answer (standard_codes c.args.own.now) (far_told c.args.far) c.args.run.now c.find.result
    (find_from_yields_List (λ (p : ℕ × Found). suits (standard_codes c.args.own.now) (far_told c.args.far) (wish_of p.1)) c.find.new.self _ c.find.result c.find.ensures.ran
    (YieldsList-from_enumerate (YieldsList-at c.enumerate.ensures.source (YieldsList-from_first found_of found_left (found_in most_wishes c.args.run.now) c.of.ensures)) c.enumerate.ensures.count)
    (λ x b q k. search (rules, tests))) in
    rw c.in_ok-before.was at told.told
