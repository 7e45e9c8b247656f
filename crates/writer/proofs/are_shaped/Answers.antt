-- `writer::are_shaped` meets its contract: the test of each code is `shaped`.
-- Assumes nothing.
use Rattle.std.proofs.Common.{◌∙◌, rules, tests}
use Rattle.std.proofs.lemmas.Iterator.{YieldsList-from_slice}
use Rattle.std.proofs.lemmas.Iterator.Search.{all_from_yields_List}
use Rattle.meaning.specs.Meaning.{shaped}
use Rattle.writer.proofs.Parents.{shaped_each}
use Rattle.writer.proofs.are_shaped.Goals as goal

pub returns : goal.returns
returns c = all_from_yields_List shaped _ _ _ c.all.ensures.ran (YieldsList-from_slice c.args.list.now (cc)) (λ x b q k. search (rules, tests)) ∙ shaped_each c.args.list.now
