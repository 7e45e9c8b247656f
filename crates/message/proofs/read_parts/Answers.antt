-- `message::read_parts` meets its contract: the codes and the NS of a message whose parts are known.
-- Assumes nothing.
use mathlib.Core.Path.{sym, ◌∙◌}
use Rattle.message.proofs.Checked.{some_octet}
use Rattle.message.proofs.Parting.{tail_fits, read_one, read_both}
use Rattle.message.proofs.read_parts.Goals as goal

pub bounds-s-0 : goal.bounds-s-0
bounds-s-0 c = some_octet _ _ c.requires

pub bounds-s-0-2 : goal.bounds-s-0-2
bounds-s-0-2 c = some_octet _ _ c.requires

pub returns-then-not-has_fields : goal.returns-then-not-has_fields
returns-then-not-has_fields c = read_one _ _ c.requires _ _ (sym c.has_fields.ensures ∙ c.if-not-has_fields.true)

pub ns_span-requires : goal.ns_span-requires
ns_span-requires c = tail_fits _ _ c.requires

pub returns : goal.returns
returns c = read_both _ _ c.requires _ _ _ _ _ _ c.fill_fields.ensures c.ns_span.ensures
