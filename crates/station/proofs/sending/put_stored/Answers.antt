-- `station::sending::put_stored` meets its contract: the field is well-formed and there is room, so what is kept of it is written.
-- Assumes nothing.
use mathlib.Core.Path.{refl, sym}
use Rattle.octets.proofs.Laying.{put-nil}
use Rattle.station.proofs.FarSide.{stores_kept}
use Rattle.station.proofs.sending.put_stored.Goals as goal

pub returns-in-Some : goal.returns-in-Some
returns-in-Some c = rw (c.in-Some.is, c.unwrap_or.ensures) (stores_kept c.in-Some.kept.message c.requires c.rewrite_field.ensures)

pub returns-in-None : goal.returns-in-None
returns-in-None c = rw c.in-None.is (refl, sym (put-nil _))
