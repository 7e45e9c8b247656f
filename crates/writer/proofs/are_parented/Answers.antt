-- `writer::are_parented` meets its contract.
-- Assumes nothing.
use Prim.Native.Nat.{◌+◌}
use mathlib.Core.List.{◌∷◌}
use mathlib.Core.Path.{sym, ◌∙◌}
use native.Mathlib.Omega.{arith}
use lib.ListN.{get_or, drop, drop_of_length-le}
use Rattle.octets.proofs.Laws.{drop_next}
use Rattle.writer.proofs.Parents.{latest_take, latest_pass, Parenting, parenting_fails, parenting_turn, parenting_end}
use Rattle.writer.proofs.are_parented.Goals as goal
use Rattle.writer.proofs.are_parented.Goals.{then-code-eq0+then-code-eq0-2, then-code-eq0+else-code-eq0-2, else-code-eq0}

pub returns-then-not-stands_under : goal.returns-then-not-stands_under
returns-then-not-stands_under c =
    let i = c.loop-code.code-index in
    let here : let list = c.args.list.now in Parenting list (get_or list i 0 ∷ drop (i + 1) list) c.loop-code.top c.loop-code.group = rw (drop_next c.args.list.now i c.loop-code-test.true) at c.loop-code.invariant in
    parenting_fails here (sym c.stands_under.ensures ∙ c.if-not-stands_under.true)

pub loop-code-preserved : goal.loop-code-preserved
loop-code-preserved c =
    let i = c.loop-code.code-index in
    let x : let list = c.args.list.now in Parenting list (get_or list i 0 ∷ drop (i + 1) list) c.loop-code.top c.loop-code.group = rw (drop_next c.args.list.now i c.loop-code-test.true) at c.loop-code.invariant in
    let came = c.if-code-eq0.branch in
    parenting_turn x (sym c.stands_under.ensures ∙ c.if-not-stands_under.false)
    (elim came [
      | then-code-eq0+then-code-eq0-2 w ↦ latest_take x.groups x.up w.if-code-eq0.true w.group-is
      | then-code-eq0+else-code-eq0-2 w ↦ latest_take x.groups x.up w.if-code-eq0.true w.group-is
      | else-code-eq0 w ↦ latest_pass x.groups x.up w.if-code-eq0.false w.group-is
    ])
    (elim came [
      | then-code-eq0+then-code-eq0-2 w ↦ latest_take x.tops x.up w.if-code-eq0-2.true w.top-is
      | then-code-eq0+else-code-eq0-2 w ↦ latest_pass x.tops x.up w.if-code-eq0-2.false w.top-is
      | else-code-eq0 w ↦ latest_pass x.tops x.up (λ z. w.if-code-eq0.false (omega (arith, z))) w.top-is
    ])

pub returns : goal.returns
returns c = parenting_end (rw (drop_of_length-le c.args.list.now {i = c.loop-code.code-index} c.loop-code-test.false) at c.loop-code.invariant)
