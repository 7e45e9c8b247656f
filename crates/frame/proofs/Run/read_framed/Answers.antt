-- `frame::Run::read_framed` meets its contract: opening flags, a content, closing flags, each by its own law. Assumes nothing.
use mathlib.Core.Path.{sym, ◌∙◌}
use native.Mathlib.Omega.{arith}
use lib.ListN.{drop, length-drop}
use Rattle.frame.specs.Run.{seen}
use Rattle.frame.proofs.Flags.{flags_most, flags_fit}
use Rattle.frame.proofs.Sights.{length_seen}
use Rattle.frame.proofs.Ranges.{contained}
use Rattle.frame.proofs.Framing.{is_upto, behind_opening, framed_none, framed_nothing, framed_upto}
use Rattle.frame.proofs.Run.read_framed.Goals as goal

pub returns-then-not-contains : goal.returns-then-not-contains
returns-then-not-contains c =
    let run = c.args.self in
    let r = c.new.ensures in
    let e = contained c.new.result c.count_flags-opening.result r.start r.end r.exhausted c.contains.ensures.value in
    framed_none (seen run) c.args.start run.count c.count_flags-opening.result (length_seen run) c.count_flags-opening.ensures (sym e ∙ c.if-not-contains.true)

pub overflow_add-start : goal.overflow_add-start
overflow_add-start c =
    let run = c.args.self in
    omega (arith, behind_opening (seen run) c.args.start run.count c.count_flags-opening.result (length_seen run) c.count_flags-opening.ensures c.requires, run.few)

pub read_content-requires : goal.read_content-requires
read_content-requires c =
    let run = c.args.self in
    behind_opening (seen run) c.args.start run.count c.count_flags-opening.result (length_seen run) c.count_flags-opening.ensures c.requires

pub returns-in_err-found : goal.returns-in_err-found
returns-in_err-found c =
    let run = c.args.self in
    let r = c.new.ensures in
    let e = contained c.new.result c.count_flags-opening.result r.start r.end r.exhausted c.contains.ensures.value in
    rw c.from_residual.ensures
    (framed_nothing (seen run) c.args.start run.count c.count_flags-opening.result (length_seen run) c.count_flags-opening.ensures (sym e ∙ c.if-not-contains.false) _ c.read_content.result c.read_content.ensures c.in_err-found.was)

pub overflow_mul-result : goal.overflow_mul-result
overflow_mul-result c = omega (arith, c.count_flags-closing.ensures, flags_most 3 (drop c.in_ok-found.found.next (seen c.args.self)))

pub overflow_add-result : goal.overflow_add-result
overflow_add-result c =
    let run = c.args.self in
    let next = c.in_ok-found.found.next in
    let u = is_upto _ (seen run) run.count _ c.read_content.result c.read_content.ensures _ c.in_ok-found.was in
    omega (arith, u.within, c.count_flags-closing.ensures, flags_fit 3 (drop next (seen run)), length-drop next (seen run), length_seen run, run.few)

pub returns : goal.returns
returns c =
    let run = c.args.self in
    let r = c.new.ensures in
    let e = contained c.new.result c.count_flags-opening.result r.start r.end r.exhausted c.contains.ensures.value in
    framed_upto (seen run) c.args.start run.count c.count_flags-opening.result (length_seen run) c.count_flags-opening.ensures (sym e ∙ c.if-not-contains.false) _ c.read_content.result c.read_content.ensures _ c.count_flags-closing.result c.in_ok-found.was c.count_flags-closing.ensures
