-- `frame::Run::read_content` meets its contract. The loop's invariant is the record `Lined`, with one law for a turn and one for each end. Assumes nothing.
use Prim.Native.Nat.{◌+◌, ◌/◌}
use native.Mathlib.Omega.{arith}
use Rattle.frame.specs.Run.{seen}
use Rattle.frame.proofs.Sights.{length_seen}
use Rattle.frame.proofs.Progress.{lined_start, lined_end, with_octet, octet_taken, six_kept, six_found}
use Rattle.frame.proofs.Run.read_content.Goals as goal

pub loop-here-init : goal.loop-here-init
loop-here-init c = let a = c.args in lined_start (seen a.self) a.start a.plain.now c.none-kept.result c.none-kept.ensures.0 c.none-kept.ensures.1

pub take_octet-requires : goal.take_octet-requires
take_octet-requires c =
    let now = c.loop-here.invariant in
    omega (arith, now.keeps.size, now.few, c.loop-here-test.true, c.args.self.few)

pub loop-here-preserved : goal.loop-here-preserved
loop-here-preserved c =
    let run = c.args.self in
    let x = c.octet_at-octet in
    octet_taken run.octets.now run.count c.args.start c.loop-here.here c.loop-here.line x.result run.held c.loop-here-test.true (omega arith) (omega arith) x.ensures c.loop-here.invariant c.in-Continue.ensures

-- the last turn: nothing is left behind its eight bits
pub returns-in-Continue : goal.returns-in-Continue
returns-in-Continue c =
    let run = c.args.self in
    let x = c.octet_at-octet in
    let here = c.loop-here.here in
    let line = with_octet c.loop-here.line x.result in
    lined_end (seen run) c.args.start c.take_octet.new.plain c.in-Continue.next (line / 2097152) (here + 8)
    (octet_taken run.octets.now run.count c.args.start here c.loop-here.line x.result run.held c.loop-here-test.true (omega arith) (omega arith) x.ensures c.loop-here.invariant c.in-Continue.ensures)
    (omega (arith, length_seen run))

pub end_content-requires : goal.end_content-requires
end_content-requires c =
    let run = c.args.self in
    let x = c.octet_at-octet in
    let g = c.in-Break.ensures in (
      omega (arith, c.loop-here-test.true, g.0.few, run.few),
      six_kept run.octets.now run.count c.args.start c.loop-here.here c.loop-here.line x.result run.held c.loop-here-test.true (omega arith) (omega arith) x.ensures c.loop-here.invariant _ _ g,
    )

pub returns-in-Break : goal.returns-in-Break
returns-in-Break c =
    let run = c.args.self in
    let x = c.octet_at-octet in
    six_found run.octets.now run.count c.args.start c.loop-here.here c.loop-here.line x.result run.held c.loop-here-test.true (omega arith) (omega arith) x.ensures c.loop-here.invariant _ _ c.in-Break.ensures c.end_content.ensures

pub returns : goal.returns
returns c =
    let run = c.args.self in
    lined_end (seen run) c.args.start c.loop-here.plain c.loop-here.kept (c.loop-here.line / 2097152) c.loop-here.here c.loop-here.invariant (omega (arith, c.loop-here-test.false, length_seen run))
