-- `message::read_message` meets its contract: the list of numbers has room for all codes.
-- Assumes nothing.
use Rattle.message.proofs.Parting.{numbers_read}
use Rattle.message.proofs.read_message.Goals as goal

pub returns : goal.returns
returns c = numbers_read c.read_both.ensures
