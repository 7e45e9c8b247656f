-- `demands::there_and_back` meets its contract: the message that was written is the one that is framed.
-- Assumes nothing.
use native.Mathlib.Omega.{arith}
use Rattle.demands.proofs.Trips.{passed_on, written_size, writing_returned}
use Rattle.demands.proofs.there_and_back.Goals as goal

pub slice_bounds-framed_back-end : goal.slice_bounds-framed_back-end
slice_bounds-framed_back-end c =
    omega (arith, written_size _ _ _ _ _ _ _ c.write_message-written.ensures c.in_ok-size.size (passed_on _ _ c.in_ok-size.ensures.cases))

pub returns : goal.returns
returns c =
    writing_returned _ _ _ _ _ _ _ c.write_message-written.ensures c.in_ok-size.size (passed_on _ _ c.in_ok-size.ensures.cases) _ _ _ _ c.framed_back.ensures
