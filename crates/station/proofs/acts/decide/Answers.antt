-- `station::acts::decide` meets its contract: a message that the act of the table looks at stands there.
-- Assumes nothing.
use Rattle.station.proofs.Needing.{needs_standing}
use Rattle.station.proofs.acts.decide.Goals as goal

pub perform-requires : goal.perform-requires
perform-requires c =
    needs_standing c.carried-carried.result.kind c.args.call.settings c.carried-carried.result.ack c.in-Some.heard _ c.act_of-act.ensures c.in-Some.ensures.1
