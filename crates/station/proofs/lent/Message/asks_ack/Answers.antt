-- `station::lent::Message::asks_ack` meets its contract.
-- Assumes nothing.
use Rattle.station.specs.Acting.{asks_ack}
use Rattle.station.proofs.lent.Message.asks_ack.Goals as goal

pub returns : goal.returns
unfolding asks_ack
returns c = c.says.ensures
