-- `strike::strike_message` meets its contract: an output that is large enough leaves the answer to what the message is found to be.
-- Assumes nothing.
use Rattle.message.proofs.Checked.{parted_accepted}
use Rattle.strike.proofs.MessageStruck.{strikes_small, fault_struck, strikes_all}
use Rattle.strike.proofs.strike_message.Goals as goal

pub returns-then-out-lt-MOST_OCTETS : goal.returns-then-out-lt-MOST_OCTETS
returns-then-out-lt-MOST_OCTETS c = strikes_small _ _ c.if-out-lt-MOST_OCTETS.true

pub put_struck-requires : goal.put_struck-requires
put_struck-requires c = (c.in_ok-parts.ensures, c.if-out-lt-MOST_OCTETS.false)

pub returns-in_err-parts : goal.returns-in_err-parts
returns-in_err-parts c =
    fault_struck _ _ c.in_err-parts.field-0.0 c.from_residual.result c.if-out-lt-MOST_OCTETS.false c.in_err-parts.ensures c.from_residual.ensures.1

pub returns : goal.returns
returns c =
    strikes_all _ _ _ _ c.if-out-lt-MOST_OCTETS.false (parted_accepted _ _ c.in_ok-parts.ensures) c.put_struck.ensures
