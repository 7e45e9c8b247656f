-- `choice::check_tables` meets its contract, refusal by refusal.
-- Assumes nothing.
use mathlib.Core.Bool.{true}
use mathlib.Core.Path.{◌≡◌, sym, ◌∙◌}
use Rattle.octets.proofs.Laws.{both_true}
use Rattle.good.specs.Good.{good_field}
use Rattle.choice.specs.Wishes.{wishes_of, good_wishes}
use Rattle.choice.specs.Tables.{all_inside, tables_no}
use Rattle.choice.proofs.ByNames.{good_standard_names, good_learnt, wishes_standard, wishes_own}
use Rattle.choice.proofs.check_tables.Goals as goal

pub returns-then-not-is_good_in : goal.returns-then-not-is_good_in
unfolding tables_no
returns-then-not-is_good_in c = rw (sym (good_standard_names c.standard-names.ensures _) ∙ sym c.is_good_in.ensures ∙ c.if-not-is_good_in.true)

pub learn-requires : goal.learn-requires
learn-requires c =
    let own_good : good_field c.args.own.now ≡ true = sym (good_standard_names c.standard-names.ensures _) ∙ sym c.is_good_in.ensures ∙ c.if-not-is_good_in.false in
    good_learnt _ own_good

pub returns-then-are_good_wishes : goal.returns-then-are_good_wishes
unfolding tables_no
returns-then-are_good_wishes c =
    let own_good : good_field c.args.own.now ≡ true = sym (good_standard_names c.standard-names.ensures _) ∙ sym c.is_good_in.ensures ∙ c.if-not-is_good_in.false in
    let a = c.args in
    let w = both_true (good_wishes a.run.now) (all_inside a.own.now (wishes_of a.run.now)) (sym (wishes_own _ own_good c.learn.ensures _) ∙ sym c.are_good_wishes.ensures ∙ c.if-are_good_wishes.true) in
    rw (own_good, w.0, w.1)

pub returns-then-are_good_wishes-2 : goal.returns-then-are_good_wishes-2
unfolding tables_no
returns-then-are_good_wishes-2 c =
    let own_good : good_field c.args.own.now ≡ true = sym (good_standard_names c.standard-names.ensures _) ∙ sym c.is_good_in.ensures ∙ c.if-not-is_good_in.false in
    let w = sym (wishes_standard c.put_standard.ensures _) ∙ sym c.are_good_wishes-2.ensures ∙ c.if-are_good_wishes-2.true in
    let i = rw w at (sym (wishes_own _ own_good c.learn.ensures _) ∙ sym c.are_good_wishes.ensures ∙ c.if-are_good_wishes.false) in
    rw (own_good, w, i)

pub returns : goal.returns
unfolding tables_no
returns c =
    let own_good : good_field c.args.own.now ≡ true = sym (good_standard_names c.standard-names.ensures _) ∙ sym c.is_good_in.ensures ∙ c.if-not-is_good_in.false in
    let w = sym (wishes_standard c.put_standard.ensures _) ∙ sym c.are_good_wishes-2.ensures ∙ c.if-are_good_wishes-2.false in
    rw (own_good, w)
