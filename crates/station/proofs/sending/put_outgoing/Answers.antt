-- `station::sending::put_outgoing` meets its contract: where there is no message nothing is put.
-- Assumes nothing.
use mathlib.Core.Path.{refl, sym}
use native.Mathlib.Omega.{arith}
use Rattle.octets.proofs.Laying.{put-nil}
use Rattle.station.proofs.sending.put_outgoing.Goals as goal

pub returns-in-None : goal.returns-in-None
returns-in-None c = rw c.in-None.is (refl, sym (put-nil _), omega arith)
