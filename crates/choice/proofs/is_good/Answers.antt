-- `choice::is_good` meets its contract: it is judged by the names of all standard parameters.
-- Assumes nothing.
use mathlib.Core.Path.{◌∙◌}
use Rattle.choice.proofs.ByNames.{good_standard_names}
use Rattle.choice.proofs.is_good.Goals as goal

pub returns : goal.returns
returns c = c.is_good_in.ensures ∙ good_standard_names c.standard.ensures _
