-- `frame::Run::flag_at` meets its contract: eight bits that make 126 are a flag. Assumes nothing.
use native.Mathlib.Omega.{arith}
use Rattle.frame.proofs.Sights.{flag_seen, flag_unseen}
use Rattle.frame.proofs.Run.flag_at.Goals as goal

pub returns-then-self-at-lt8 : goal.returns-then-self-at-lt8
returns-then-self-at-lt8 c = let run = c.args.self in flag_unseen run.octets.now run.count c.args.at run.held c.if-self-at-lt8.true

pub returns : goal.returns
returns c = let run = c.args.self in flag_seen run.octets.now run.count c.args.at c.octet_at.result run.held (omega arith) c.octet_at.ensures
