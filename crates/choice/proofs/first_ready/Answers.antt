-- `choice::first_ready` meets its contract: with no far list the own table is not looked at.
-- Assumes nothing.
use mathlib.Core.Path.{◌∙◌}
use Rattle.choice.proofs.Chosen.{choice_unheard}
use Rattle.choice.proofs.first_ready.Goals as goal

pub returns : goal.returns
returns c = c.choose.ensures ∙ choice_unheard _ _ _
