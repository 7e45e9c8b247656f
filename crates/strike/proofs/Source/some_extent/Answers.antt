-- `strike::Source::some_extent` meets its contract: nothing is kept where no position is, something where more than one octet is left, and else the first says it.
-- Assumes nothing.
use mathlib.Core.Path.{sym, ◌∙◌}
use native.Mathlib.Omega.{arith}
use borrow.Author.Tests.{eq-eqb, ne_eqb}
use Rattle.strike.proofs.Sifting.{sieves_new}
use Rattle.strike.proofs.Extents.{framed, keeps_nothing, keeps_more, keeps_first}
use Rattle.strike.proofs.Source.some_extent.Goals as goal

pub returns-then-eq : goal.returns-then-eq
returns-then-eq c = let a = c.args in
    sym (keeps_nothing (framed a.level a.self.s.now a.self.short) a.places a.e c.if-eq.ensures)

pub returns-then-extent-gt1 : goal.returns-then-extent-gt1
returns-then-extent-gt1 c = let a = c.args in
    let x = c.block_extent-extent.ensures in
    (sym (keeps_more (framed a.level a.self.s.now a.self.short) a.places a.e (omega arith)), x.0, x.1)

pub returns-then-nothing : goal.returns-then-nothing
returns-then-nothing c = let a = c.args in
    sym (keeps_first a.self.s.now a.self.short a.e _ _ (omega (arith, c.block_extent-extent.ensures.0)) (sieves_new c.new.ensures) c.octet_or_zero.ensures c.keep-nothing.ensures) ∙ eq-eqb c.keep-nothing.result 0 c.if-nothing.true

pub returns : goal.returns
returns c = let a = c.args in
    let x = c.block_extent-extent.ensures in (
      sym (keeps_first a.self.s.now a.self.short a.e _ _ (omega (arith, x.0)) (sieves_new c.new.ensures) c.octet_or_zero.ensures c.keep-nothing.ensures) ∙ ne_eqb c.keep-nothing.result 0 c.if-nothing.false,
      x.0,
      x.1,
    )
