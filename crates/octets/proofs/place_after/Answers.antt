-- `octets::place_after` meets its contract: its ways are the three cases of `place_after` (`after_in`, `after_end`, `after_last`).
-- Assumes nothing.
use mathlib.Core.Path.{sym}
use Rattle.octets.proofs.Laws.{after_in, after_end, after_last}
use Rattle.octets.proofs.place_after.Goals.{else-at-lt-LAST_PLACE-via-then-at-lt-LAST_PLACE+else-at-run, else-at-lt-LAST_PLACE-via-else-at-lt-LAST_PLACE}
use Rattle.octets.proofs.place_after.Goals as goal

pub returns-then-at-run : goal.returns-then-at-run
returns-then-at-run c =
    let a = c.args in
    sym (after_in a.run.now a.at c.if-at-lt-LAST_PLACE.true c.if-at-run.true)

pub returns : goal.returns
returns c =
    let a = c.args in
    elim c.else-at-lt-LAST_PLACE.branch [
      | else-at-lt-LAST_PLACE-via-then-at-lt-LAST_PLACE+else-at-run w ↦ sym (after_end a.run.now a.at w.if-at-run.false)
      | else-at-lt-LAST_PLACE-via-else-at-lt-LAST_PLACE w ↦ sym (after_last a.run.now a.at w.if-at-lt-LAST_PLACE.false)
    ]
