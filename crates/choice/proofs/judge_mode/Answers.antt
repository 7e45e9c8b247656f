-- `choice::judge_mode` meets its contract.
-- Assumes nothing.
use mathlib.Core.Path.{sym, ◌∙◌}
use lib.Dec.{eqb}
use Rattle.std.proofs.Common.{rules, tests}
use Rattle.std.specs.Prelude.{◌&&◌}
use Rattle.std.proofs.lemmas.Iterator.Consumers.{YieldsList-from_first}
use Rattle.std.proofs.lemmas.Iterator.Search.{any_from_yields_List}
use Rattle.tree.specs.Fields.{all_in, codes_in}
use Rattle.tree.specs.declared.Field.TheVariants.{Standard}
use Rattle.choice.specs.Wishes.{most_wishes, standard_codes}
use Rattle.choice.specs.Judging.{verdict}
use Rattle.choice.specs.Inner.{Found, found_in, found_of, found_left}
use Rattle.choice.proofs.Judged.{no_spar}
use Rattle.choice.proofs.Records.{any_ready, any_fits, wishes_found}
use Rattle.choice.proofs.judge_mode.Goals as goal

pub returns-then-not-has_spar : goal.returns-then-not-has_spar
returns-then-not-has_spar c = sym (no_spar _ _ (sym c.has_spar.ensures ∙ c.if-not-has_spar.true))

pub returns-then-any : goal.returns-then-any
unfolding verdict
returns-then-any c =
    let ready = any_from_yields_List (λ (x : Found). eqb x.flag 1 && all_in (codes_in Standard c.args.s.now c.args.place) (standard_codes x.field)) c.any.new.self _ c.any.result c.any.ensures.ran
    (YieldsList-from_first found_of found_left (found_in most_wishes c.args.run.now) c.of.ensures) (λ x b q k. search (rules, tests))
    ∙ any_ready (codes_in Standard c.args.s.now c.args.place) (sym c.has_spar.ensures ∙ c.if-not-has_spar.false) (found_in most_wishes c.args.run.now) in
    rw (wishes_found most_wishes c.args.run.now, sym ready ∙ c.if-any.true)

pub returns-then-any-2 : goal.returns-then-any-2
unfolding verdict
returns-then-any-2 c =
    let ready = any_from_yields_List (λ (x : Found). eqb x.flag 1 && all_in (codes_in Standard c.args.s.now c.args.place) (standard_codes x.field)) c.any.new.self _ c.any.result c.any.ensures.ran
    (YieldsList-from_first found_of found_left (found_in most_wishes c.args.run.now) c.of.ensures) (λ x b q k. search (rules, tests))
    ∙ any_ready (codes_in Standard c.args.s.now c.args.place) (sym c.has_spar.ensures ∙ c.if-not-has_spar.false) (found_in most_wishes c.args.run.now) in
    let some = any_from_yields_List (λ (x : Found). all_in (codes_in Standard c.args.s.now c.args.place) (standard_codes x.field)) c.any-2.new.self _ c.any-2.result c.any-2.ensures.ran
    (YieldsList-from_first found_of found_left (found_in most_wishes c.args.run.now) c.of-2.ensures) (λ x b q k. search (rules, tests))
    ∙ any_fits (codes_in Standard c.args.s.now c.args.place) (sym c.has_spar.ensures ∙ c.if-not-has_spar.false) (found_in most_wishes c.args.run.now) in
    rw (wishes_found most_wishes c.args.run.now, sym ready ∙ c.if-any.false, sym some ∙ c.if-any-2.true)

pub returns : goal.returns
unfolding verdict
returns c =
    let ready = any_from_yields_List (λ (x : Found). eqb x.flag 1 && all_in (codes_in Standard c.args.s.now c.args.place) (standard_codes x.field)) c.any.new.self _ c.any.result c.any.ensures.ran
    (YieldsList-from_first found_of found_left (found_in most_wishes c.args.run.now) c.of.ensures) (λ x b q k. search (rules, tests))
    ∙ any_ready (codes_in Standard c.args.s.now c.args.place) (sym c.has_spar.ensures ∙ c.if-not-has_spar.false) (found_in most_wishes c.args.run.now) in
    let some = any_from_yields_List (λ (x : Found). all_in (codes_in Standard c.args.s.now c.args.place) (standard_codes x.field)) c.any-2.new.self _ c.any-2.result c.any-2.ensures.ran
    (YieldsList-from_first found_of found_left (found_in most_wishes c.args.run.now) c.of-2.ensures) (λ x b q k. search (rules, tests))
    ∙ any_fits (codes_in Standard c.args.s.now c.args.place) (sym c.has_spar.ensures ∙ c.if-not-has_spar.false) (found_in most_wishes c.args.run.now) in
    rw (wishes_found most_wishes c.args.run.now, sym ready ∙ c.if-any.false, sym some ∙ c.if-any-2.false)
