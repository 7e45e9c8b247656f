-- `choice::learn::NameSet::put_standard` meets its contract: the sixteen numbers are those of the standard codes.
-- Assumes nothing.
use Rattle.good.proofs.Standards.{standard_names_lem}
use Rattle.choice.proofs.learn.NameSet.put_standard.Goals as goal

pub returns : goal.returns
returns c = standard_names_lem
