-- `writer::Sheet::put_pars` meets its contract.
-- Assumes nothing.
use mathlib.Core.Path.{sym, ◌∙◌}
use native.Mathlib.Omega.{arith}
use Rattle.std.proofs.lemmas.Result.{err_from_is_err_and}
use Rattle.writer.proofs.Putting.{parting_head, parting_under, parting_behind, parting_fewer, parting_over, parting_lower_over, parting_on, parting_closed, parting_end}
use Rattle.writer.proofs.Sheet.put_pars.Goals as goal

pub put_block-requires : goal.put_block-requires
put_block-requires c = (parting_under c.loop-head.invariant c.in-Some.ensures.cases.0 c.cut.ensures, omega arith, omega (arith, parting_head c.loop-head.invariant c.in-Some.ensures.cases.0))

pub returns-in_err-put_block : goal.returns-in_err-put_block
returns-in_err-put_block c =
    let p = err_from_is_err_and c.from_residual.result c.from_residual.ensures.1 in
    rw p.1 (parting_over c.loop-head.invariant c.in-Some.ensures.cases.0 c.cut.ensures c.in_err-put_block.ensures)

pub put_lower-requires : goal.put_lower-requires
put_lower-requires c = (parting_behind c.loop-head.invariant c.in-Some.ensures.cases.0 c.cut.ensures, parting_head c.loop-head.invariant c.in-Some.ensures.cases.0)

pub returns-in_err-put_lower : goal.returns-in_err-put_lower
returns-in_err-put_lower c =
    let p = err_from_is_err_and c.from_residual-in_err-put_lower.result c.from_residual-in_err-put_lower.ensures.1 in
    rw p.1 (parting_lower_over c.loop-head.invariant c.in-Some.ensures.cases.0 c.cut.ensures c.in_ok-put_block.ensures c.in_err-put_lower.ensures)

pub loop-head-smaller-then-ends_par : goal.loop-head-smaller-then-ends_par
loop-head-smaller-then-ends_par c = parting_fewer c.loop-head.invariant c.in-Some.ensures.cases.0 c.cut.ensures

pub loop-head-preserved-then-ends_par : goal.loop-head-preserved-then-ends_par
loop-head-preserved-then-ends_par c = parting_closed c.loop-head.invariant c.in-Some.ensures.cases.0 c.cut.ensures c.in_ok-put_block.ensures c.in_ok-put_lower.ensures (sym c.ends_par.ensures ∙ c.if-ends_par.true) c.mark_last.ensures

pub loop-head-smaller : goal.loop-head-smaller
loop-head-smaller c = parting_fewer c.loop-head.invariant c.in-Some.ensures.cases.0 c.cut.ensures

pub loop-head-preserved : goal.loop-head-preserved
loop-head-preserved c = parting_on c.loop-head.invariant c.in-Some.ensures.cases.0 c.cut.ensures c.in_ok-put_block.ensures c.in_ok-put_lower.ensures (sym c.ends_par.ensures ∙ c.if-ends_par.false)

pub returns : goal.returns
returns c = parting_end c.loop-head.invariant c.in_default.ensures.cases
