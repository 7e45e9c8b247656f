-- `message::is_known` meets its contract: a number is known where it is the type of one.
-- Assumes nothing.
use mathlib.Core.Path.{◌∙◌}
use Rattle.message.proofs.Types.{told_known}
use Rattle.message.proofs.is_known.Goals as goal

pub returns : goal.returns
returns c = c.is_ok.ensures.value ∙ told_known _ _ c.try_from.ensures
