-- `writer::write_message` meets its contract.
-- Assumes nothing.
use mathlib.Core.Path.{◌≡◌, ap}
use native.Mathlib.Omega.{arith}
use borrow.Author.Tests.{lt-ltb}
use lib.ListN.{length}
use Rattle.meaning.specs.Writing.{message_octets, write_message}
use Rattle.writer.specs.declared.MessageWriteRefusal.TheVariants.{BadLent}
use Rattle.writer.proofs.Checking.{refusal_writes, message_sent}
use Rattle.writer.proofs.write_message.Goals as goal

pub returns-then-out-lt-MOST_OCTETS : goal.returns-then-out-lt-MOST_OCTETS
unfolding write_message
returns-then-out-lt-MOST_OCTETS c = refusal_writes BadLent (rw (lt-ltb _ _ c.if-out-lt-MOST_OCTETS.true))

pub returns-in-Ok : goal.returns-in-Ok
returns-in-Ok c = let d = c.in_ok-draft.draft in
    let octets = message_octets d.kind d.revision d.codes.list.now d.ns.now in
    let all : c.put_message.new.self ≡ octets = rw c.new-sheet.ensures at c.in-Ok.ensures in
    let sent = c.send.ensures in
    rw (c.in_ok-draft.ensures.same.writes _ c.if-out-lt-MOST_OCTETS.false, sent.count.0, all)
    (message_sent octets (omega (arith, sent.count, ap length all)) c.if-out-lt-MOST_OCTETS.false (rw all at sent.front))
