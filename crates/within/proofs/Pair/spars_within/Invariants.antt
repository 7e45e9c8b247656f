-- `within::Pair::spars_within` meets its contract. The loop's invariant: what is asked of the blocks is asked of the positions that are left (`Going`).
-- Assumes nothing.
use Rattle.tree.specs.Levels.{width_of, mark_of}
use Rattle.within.specs.Pairing.{spars}
use Rattle.within.proofs.Walking.{ahead, Going}
use Rattle.within.proofs.Pair.spars_within.Given as goal

abbrev pub invariant-walk : goal.invariant-walk
invariant-walk g l =
    let v = g.A.Announced.LEVEL in
    let s = l.self.s.now in
    let t = l.self.t.now in
    Going (spars v s) (spars v t) (width_of v) (mark_of v) s l.fn.at.from t l.fn.at.to l.found l.walk

abbrev pub decreases-walk : goal.decreases-walk
decreases-walk g l = ahead l.self.t.now l.walk
