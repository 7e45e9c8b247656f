-- `fill::fill_fields` meets its contract: in each list the codes are laid from its front; an empty one stays as it is.
-- Assumes nothing.
use mathlib.Core.Path.{◌≡◌, ◌∙◌}
use mathlib.Core.List.{[]}
use Rattle.octets.specs.Lay.{over}
use Rattle.tree.specs.Fields.{fours}
use Rattle.tree.specs.declared.Field.TheVariants.{Identification, Standard}
use Rattle.tree.proofs.Lowest.{codes_long}
use Rattle.fill.specs.Promises.{codes_of_both}
use Rattle.fill.proofs.Stored.{numbers_over, fours_over, over_none}
use Rattle.fill.proofs.fill_fields.Goals as goal
use Rattle.fill.proofs.fill_fields.Goals.{then-list-ne0, else-list-ne0}

pub returns-then-s-gt-MOST_OCTETS : goal.returns-then-s-gt-MOST_OCTETS
unfolding over fours
returns-then-s-gt-MOST_OCTETS c =
    let a = c.args in
    let long = c.if-s-gt-MOST_OCTETS.true in
    let none : codes_of_both a.s.now a.identification a.standard ≡ [] = rw (codes_long Identification a.s.now a.identification long, codes_long Standard a.s.now a.standard long) in
    record { count = rw none; list = rw none; octets = rw none }

pub returns-then-octets-eq0 : goal.returns-then-octets-eq0
returns-then-octets-eq0 c =
    let f = c.fill_both.ensures in
    record { count = f.0; list = f.1 ∙ numbers_over _ _; octets = over_none _ _ c.if-octets-eq0.true }

pub returns : goal.returns
returns c =
    let a = c.args in
    let cs = codes_of_both a.s.now a.identification a.standard in
    let f = c.fill_both-2.ensures in
    let numbers : c.if-list-ne0.list ≡ over cs a.list.now =
    elim c.if-list-ne0.branch [ then-list-ne0 w ↦ w.list-is ∙ w.fill_both-then-list-ne0.ensures.1 ∙ numbers_over _ _ | else-list-ne0 w ↦ w.list-is ∙ over_none _ _ w.if-list-ne0.false ] in
    record { count = f.0; list = numbers; octets = f.1 ∙ fours_over _ _ }
