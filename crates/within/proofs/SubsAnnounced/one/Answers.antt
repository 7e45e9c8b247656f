-- `one` of SubsAnnounced meets its contract: the position is set in the other alone, or in both and its NPar(3) blocks are compared.
-- Assumes nothing.
use mathlib.Core.Path.{refl}
use Rattle.within.proofs.Beside.{sub_found}
use Rattle.within.proofs.Stepping.{subs_stepped, one_passed, one_both}
use Rattle.within.proofs.SubsAnnounced.one.Goals as goal

pub returns-then-mine : goal.returns-then-mine
returns-then-mine c =
    let p = c.args.pair in
    one_both (subs_stepped p.s.now p.mine_low) (subs_stepped p.t.now p.theirs_low) c.args.at c.if-mine.true
    (sub_found p.s.now p.t.now p.mine_low p.theirs_low _ _ c.block_within.ensures)

pub returns : goal.returns
returns c =
    let p = c.args.pair in
    one_passed (subs_stepped p.s.now p.mine_low) (subs_stepped p.t.now p.theirs_low) c.args.at c.if-mine.false refl refl c.block_behind.ensures
