-- `station::sending::carry_out` meets its contract: behind the first message there is room for the second, which is put there.
-- Assumes nothing.
use mathlib.Core.Path.{refl}
use native.Mathlib.Omega.{arith}
use Rattle.station.proofs.Sendings.{laid_second}
use Rattle.station.proofs.Planning.{did_plan}
use Rattle.station.proofs.sending.carry_out.Goals as goal

pub returns : goal.returns
returns c =
    let e = c.put_outgoing-first.ensures in
    let f = c.put_outgoing-second.ensures in
    did_plan c.args.plan refl e.0 f.0 (laid_second _ _ c.args.out.now _ _ _ (omega (arith, c.requires.0, e.0, e.2, f.0, f.2)) e.0 e.1 f.1) c.put_stored-stored.ensures
