-- `writer::cut` meets its contract: as many codes are below the limit as the run of them is long.
-- Assumes nothing.
use Rattle.std.proofs.Common.{ℕ, Bool, ltb, ◌∙◌, rules, tests}
use Rattle.std.proofs.lemmas.Iterator.{YieldsList-from_slice}
use Rattle.std.proofs.lemmas.Iterator.Consumers.{count_from_yields_List}
use Rattle.std.proofs.lemmas.Iterator.Search.{YieldsList-from_take_while}
use Rattle.std.proofs.lemmas.List.Folds.{length-prefix_len}
use Rattle.writer.proofs.Putting.{run_length, run_part, from_part}
use Rattle.writer.proofs.cut.Goals as goal

pub returns : goal.returns
returns c =
    let a = c.args in
    let below : ℕ → Bool = λ x. ltb x a.limit in
    let n = count_from_yields_List c.take_while.result _ c.count.ensures.ran (YieldsList-from_take_while _ below (YieldsList-from_slice a.list.now (cc)) c.take_while.ensures.closure c.take_while.ensures.done (λ x b q k. search (rules, tests)))
    ∙ length-prefix_len below a.list.now
    ∙ run_length a.limit a.list.now in
    (c.split_at.ensures.front ∙ run_part a.limit _ a.list.now n, c.split_at.ensures.back ∙ from_part a.limit _ a.list.now n)
