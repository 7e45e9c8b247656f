-- `choice::are_good_wishes` meets its contract: record by record.
-- Assumes nothing.
use mathlib.Core.Path.{sym, ◌∙◌}
use Rattle.choice.specs.Inner.{found_of, wish_in}
use Rattle.choice.proofs.Records.{first_good, none_good}
use Rattle.choice.proofs.are_good_wishes.Goals as goal

pub returns-then-not-is_good_record : goal.returns-then-not-is_good_record
returns-then-not-is_good_record c =
    let i = c.loop-wish.invariant in
    let g = first_good (wish_in c.args.names.now.bits) i.0 _ (found_of c.in-Some.wish) _ (sym i.1 ∙ c.in-Some.ensures.steps) in
    sym (rw (sym c.is_good_record.ensures ∙ c.if-not-is_good_record.true) at g.2) ∙ i.2

pub loop-wish-preserved : goal.loop-wish-preserved
loop-wish-preserved c =
    let i = c.loop-wish.invariant in
    let g = first_good (wish_in c.args.names.now.bits) i.0 _ (found_of c.in-Some.wish) _ (sym i.1 ∙ c.in-Some.ensures.steps) in
    (g.0, g.1, sym (rw (sym c.is_good_record.ensures ∙ c.if-not-is_good_record.false) at g.2) ∙ i.2)

pub returns : goal.returns
returns c =
    let i = c.loop-wish.invariant in
    c.is_empty.ensures ∙ sym (none_good (wish_in c.args.names.now.bits) i.0 c.loop-wish.behind.now (sym i.1 ∙ c.in-None.ensures.steps.0)) ∙ i.2
