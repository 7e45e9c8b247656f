-- `station::lent::Tables::list` meets its contract.
-- Assumes nothing.
use mathlib.Core.Path.{refl}
use Rattle.station.specs.Sending.{sent_list}
use Rattle.station.proofs.lent.Tables.list.Goals as goal

pub returns : goal.returns
unfolding sent_list
returns c = refl
