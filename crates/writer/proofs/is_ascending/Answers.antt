-- `writer::is_ascending` meets its contract: the test of two codes in a row is that the first is below the second.
-- Assumes nothing.
use Rattle.std.proofs.Common.{◌≡◌, ltb, rules, tests}
use Rattle.std.proofs.lemmas.List.Sorted.{answers_always}
use Rattle.writer.proofs.Parents.{adjacent_ascending}
use Rattle.writer.proofs.is_ascending.Goals as goal

pub returns : goal.returns
returns c = adjacent_ascending c.args.list.now c.is_sorted_by.result (c.is_sorted_by.ensures.cases ltb (answers_always _ (λ a r. r ≡ ltb a.0.now a.1.0.now) _ (λ f a r q k. search (rules, tests))))
