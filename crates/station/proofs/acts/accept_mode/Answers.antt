-- `station::acts::accept_mode` meets its contract: ACK(1) is sent, or nothing.
-- Assumes nothing.
use mathlib.Core.Path.{sym, ◌∙◌}
use Rattle.station.proofs.FarSide.{accepts_asked, accepts_unasked}
use Rattle.station.proofs.acts.accept_mode.Goals as goal

pub returns-then-asks_ack : goal.returns-then-asks_ack
returns-then-asks_ack c = c.sends.ensures ∙ accepts_asked c.args.mode c.args.time (sym c.asks_ack.ensures ∙ c.if-asks_ack.true)

pub returns : goal.returns
returns c = c.sends-2.ensures ∙ accepts_unasked c.args.mode c.args.time (sym c.asks_ack.ensures ∙ c.if-asks_ack.false)
