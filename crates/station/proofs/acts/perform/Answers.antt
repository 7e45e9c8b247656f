-- `station::acts::perform` meets its contract: each act is the plan that it makes.
-- Assumes nothing.
use Rattle.meaning.specs.Writing.{message_octets}
use Rattle.station.proofs.acts.perform.Goals as goal

pub returns-in-SendNak1 : goal.returns-in-SendNak1
unfolding message_octets
returns-in-SendNak1 c = rw c.in-SendNak1.is c.refuse.ensures
