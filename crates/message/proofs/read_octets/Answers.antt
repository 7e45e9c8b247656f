-- `message::read_octets` meets its contract: the list of octets has room for all codes.
-- Assumes nothing.
use Rattle.message.proofs.Parting.{octets_read}
use Rattle.message.proofs.read_octets.Goals as goal

pub returns : goal.returns
returns c = octets_read c.read_both.ensures
