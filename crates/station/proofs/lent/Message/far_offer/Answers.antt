-- `station::lent::Message::far_offer` meets its contract.
-- Assumes nothing.
use Rattle.station.specs.Acting.{far_offer}
use Rattle.station.proofs.lent.Message.far_offer.Goals as goal

pub returns : goal.returns
unfolding far_offer
returns c = rw (c.says.ensures, c.says-2.ensures)
