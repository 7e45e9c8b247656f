-- `choice::judge::block_good` meets its contract. The loop's invariant: the block is good exactly if what is left of it is (`Looked`).
-- Assumes nothing.
use Rattle.good.proofs.Allowed.{Looked}
use Rattle.choice.proofs.judge.block_good.Given as goal

abbrev pub invariant-loop-i : goal.invariant-loop-i
invariant-loop-i l = Looked l.w l.m l.names l.s l.e l.allowed l.i
