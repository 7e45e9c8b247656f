-- `strike::Source::put_par` meets its contract: the Par(2) block is put, or passed over whole.
-- Assumes nothing.
use mathlib.Core.Path.{sym, ◌∙◌}
use native.Mathlib.Omega.{arith}
use Rattle.strike.proofs.Going.{puts_none, par_kept_lem, par_passed}
use Rattle.strike.proofs.Passing.{whole_passed}
use Rattle.strike.proofs.Source.put_par.Goals as goal

pub put_whole-requires : goal.put_whole-requires
put_whole-requires c = let a = c.args in
    (c.requires.0, c.requires.1, omega arith, rw (par_kept_lem a.self.keep a.branch.base a.branch.places a.q a.self.s.now a.spot.from (sym c.is_kept.ensures ∙ c.if-is_kept.true)) at c.requires.5)

pub returns-then-is_kept : goal.returns-then-is_kept
returns-then-is_kept c = let a = c.args in
    rw (par_kept_lem a.self.keep a.branch.base a.branch.places a.q a.self.s.now a.spot.from (sym c.is_kept.ensures ∙ c.if-is_kept.true)) c.put_whole.ensures

pub returns : goal.returns
returns c = let a = c.args in
    rw (par_passed a.self.keep a.branch.base a.branch.places a.q a.self.s.now a.spot.from (sym c.is_kept.ensures ∙ c.if-is_kept.false))
    (puts_none (c.top_behind.ensures ∙ whole_passed a.self.s.now a.spot.from c.requires.1) a.out.now a.spot.to)
