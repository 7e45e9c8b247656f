-- `choice::judge::is_good_in` meets its contract: too long, or good if its blocks are and fill its octets.
-- Assumes nothing.
use mathlib.Core.Path.{◌∙◌}
use borrow.Author.Tests.{lt-leb}
use Rattle.choice.proofs.ByNames.{long_bad, blocks_tell}
use Rattle.choice.proofs.judge.is_good_in.Goals as goal

pub returns-then-t-le-MOST_STANDARD : goal.returns-then-t-le-MOST_STANDARD
returns-then-t-le-MOST_STANDARD c = c.eq.ensures ∙ blocks_tell _ _ c.if-t-le-MOST_STANDARD.true c.field_good.ensures

pub returns-else-t-le-MOST_STANDARD : goal.returns-else-t-le-MOST_STANDARD
returns-else-t-le-MOST_STANDARD c = lt-leb _ _ c.if-t-le-MOST_STANDARD.false ∙ long_bad _ _ c.if-t-le-MOST_STANDARD.false
