-- `frame::Kept::keep_bits` meets its contract: the rest at hand and the value behind it fit a word, and either stay at hand (`gains_stay`) or fill
-- an octet, which is stored (`gains_store`). Assumes nothing.
use Rattle.frame.proofs.Keeping.{low_stay, low_store, gains_stay, gains_store}
use Rattle.frame.proofs.Kept.keep_bits.Goals as goal

pub invariant_of-result : goal.invariant_of-result
invariant_of-result c = record { low = low_stay c.args.self c.requires c.if-shift-width-lt8.true }

pub invariant_of-result-2 : goal.invariant_of-result-2
invariant_of-result-2 c = record { low = low_store c.args.self c.requires c.if-shift-width-lt8.false }

pub returns-then-shift-width-lt8 : goal.returns-then-shift-width-lt8
returns-then-shift-width-lt8 c = gains_stay c.args.self c.requires c.args.plain.now c.if-shift-width-lt8.true

pub returns : goal.returns
returns c =
    rw c.store_octet.ensures (gains_store c.args.self c.requires c.args.plain.now c.if-shift-width-lt8.false)
