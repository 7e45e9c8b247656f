-- `strike::Source::put_sub` meets its contract: the NPar(3) block is put, or passed over.
-- Assumes nothing.
use mathlib.Core.Path.{sym, ◌∙◌}
use native.Mathlib.Omega.{arith}
use Rattle.tree.proofs.Forms.{fine_behind}
use Rattle.strike.proofs.Going.{puts_none, sub_kept_lem, sub_passed}
use Rattle.strike.proofs.Source.put_sub.Goals as goal

pub put_block-requires : goal.put_block-requires
put_block-requires c = let a = c.args in
    let e = sub_kept_lem a.self.keep a.branch.base a.branch.places a.t a.self.s.now a.spot.from c.npar_places-npars.ensures (sym c.is_kept.ensures ∙ c.if-is_kept.true) in
    (omega (arith, fine_behind 64 a.self.s.now a.spot.from c.requires.0), rw e at c.requires.3)

pub returns-then-is_kept : goal.returns-then-is_kept
returns-then-is_kept c = let a = c.args in
    rw (sub_kept_lem a.self.keep a.branch.base a.branch.places a.t a.self.s.now a.spot.from c.npar_places-npars.ensures (sym c.is_kept.ensures ∙ c.if-is_kept.true)) c.put_block.ensures

pub returns : goal.returns
returns c = let a = c.args in
    rw (sub_passed a.self.keep a.branch.base a.branch.places a.t a.self.s.now a.spot.from (sym c.is_kept.ensures ∙ c.if-is_kept.false)) (puts_none c.block_behind.ensures a.out.now a.spot.to)
