-- `frame::Run::read_whole` meets its contract: a frame with nothing behind it is checked, anything else has bad flags. Assumes nothing.
use mathlib.Core.Path.{refl}
use Rattle.std.specs.Prelude.{Err}
use Rattle.frame.specs.Run.{seen}
use Rattle.frame.specs.declared.FrameReadRefusal.TheVariants.{BadFlags}
use Rattle.frame.proofs.Sights.{length_seen}
use Rattle.frame.proofs.Checking.{reads_refused, reads_as}
use Rattle.frame.proofs.Framing.{is_upto, alone_nothing, alone_more, alone_checked}
use Rattle.frame.proofs.Run.read_whole.Goals as goal

pub returns-in_default : goal.returns-in_default
returns-in_default c =
    let run = c.args.self in
    reads_refused _ c.args.out.now 2 (Err BadFlags) (alone_nothing (seen run) run.count (length_seen run) _ c.read_framed.result c.read_framed.ensures c.in_default.is) refl

pub returns-then-found-self : goal.returns-then-found-self
returns-then-found-self c =
    let run = c.args.self in
    reads_refused _ c.args.out.now 2 (Err BadFlags) (alone_more (seen run) run.count (length_seen run) _ c.read_framed.result c.read_framed.ensures _ c.in-Some.is c.if-found-self.true) refl

pub returns : goal.returns
returns c =
    let run = c.args.self in
    let u = is_upto _ (seen run) run.count _ c.read_framed.result c.read_framed.ensures _ c.in-Some.is in
    reads_as (alone_checked (seen run) run.count (length_seen run) _ c.read_framed.result c.read_framed.ensures _ _ u c.if-found-self.false) (c.check_content.ensures u.content u.long u.stands)
