-- `demands::framed_back` meets its contract: the frame that was written is the one that is read.
-- Assumes nothing.
use mathlib.Core.Path.{refl}
use Rattle.octets.specs.Bits.{AreOctets}
use Rattle.demands.proofs.Trips.{passed_on, framing_read}
use Rattle.demands.proofs.framed_back.Goals as goal

pub returns : goal.returns
returns c =
    let o : AreOctets c.args.message.now = λ i l. (c.type_inv.message i).fits in
    framing_read _ _ _ _ _ c.write_frame-written.ensures o refl c.in_ok-count.count (passed_on _ _ c.in_ok-count.ensures.cases) _ _ _ c.read_back.ensures
