-- The iterator over the records gives those that the run begins with.
-- Assumes nothing.
use mathlib.Core.Path.{ap}
use native.Mathlib.Omega.{arith}
use lib.ListN.{length}
use Rattle.choice.proofs.Records.{found_none, found_short, found_over, found_front}
use Rattle.choice.proofs.wishes.RecordsIterator.next.Goals as goal

pub returns-then-self-eq0-clause-steps : goal.returns-then-self-eq0-clause-steps
returns-then-self-eq0-clause-steps c = let e = found_none _ _ c.if-self-eq0.true in (e, e)

pub returns-in_default-clause-steps : goal.returns-in_default-clause-steps
returns-in_default-clause-steps c = let e = found_short _ _ c.in_default.len_below in (e, e)

pub returns-then-rest-size-clause-steps : goal.returns-then-rest-size-clause-steps
returns-then-rest-size-clause-steps c =
    let e = found_over c.args.self.now.left c.args.self.now.rest.now c.from-size.ensures c.in-len2-up.len_at_least c.if-rest-size.true in (e, e)

pub returns-clause-steps : goal.returns-clause-steps
returns-clause-steps c =
    found_front c.args.self.now.left c.args.self.now.rest.now c.from-size.ensures c.in-len2-up.len_at_least c.if-self-eq0.false c.if-rest-size.false c.split_at.ensures.front c.split_at.ensures.back

pub returns-clause-goes : goal.returns-clause-goes
returns-clause-goes c = record {
  on = λ f. (tt, tt, omega (arith, ap length (returns-clause-steps c)));
  keeps = tt;
  rests = λ f. tt;
}
