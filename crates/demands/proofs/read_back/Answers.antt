-- `demands::read_back` meets its contract: where information is read, its octets are read as a message.
-- Assumes nothing.
use native.Mathlib.Omega.{arith}
use Rattle.demands.proofs.Trips.{passed_on, found_size, found_read}
use Rattle.demands.proofs.read_back.Goals as goal

pub slice_bounds-read_message-end : goal.slice_bounds-read_message-end
slice_bounds-read_message-end c =
    omega (arith, found_size _ _ _ _ _ c.read_frame.ensures c.in_ok-size.size (passed_on _ _ c.in_ok-size.ensures.cases))

pub returns : goal.returns
returns c =
    found_read _ _ _ _ _ c.read_frame.ensures c.in_ok-size.size (passed_on _ _ c.in_ok-size.ensures.cases) _ _ _ c.read_message.ensures
