-- `one` of ParsAnnounced meets its contract: the position is set in the other alone, or in both and its Par(2) blocks are compared, NPar(2) first.
-- Assumes nothing.
use mathlib.Core.Path.{refl, ◌∙◌}
use Rattle.within.proofs.Beside.{par_lost, par_found}
use Rattle.within.proofs.Stepping.{pars_stepped, one_passed, one_both}
use Rattle.within.proofs.ParsAnnounced.one.Goals as goal

pub returns-then-not-mine : goal.returns-then-not-mine
returns-then-not-mine c =
    let p = c.args.pair in
    one_passed (pars_stepped p.s.now p.mine_low) (pars_stepped p.t.now p.theirs_low) c.args.at c.if-not-mine.true refl refl
    (c.group_behind.ensures ∙ rw c.block_behind.ensures)

pub returns-in_err-middle : goal.returns-in_err-middle
returns-in_err-middle c =
    let p = c.args.pair in
    rw c.from_residual.ensures
    (one_both (pars_stepped p.s.now p.mine_low) (pars_stepped p.t.now p.theirs_low) c.args.at c.if-not-mine.false
    (par_lost _ _ p.mine_low p.theirs_low _ _ c.in_err-middle.ensures refl))

pub returns : goal.returns
returns c =
    let p = c.args.pair in
    one_both (pars_stepped p.s.now p.mine_low) (pars_stepped p.t.now p.theirs_low) c.args.at c.if-not-mine.false
    (par_found _ _ p.mine_low p.theirs_low _ _ c.in_ok-middle.ensures refl c.group_within.ensures)
