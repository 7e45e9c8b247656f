-- `station::sending::put_message` meets its contract: three octets are stored, and the field, which is minimal, is copied behind them.
-- Assumes nothing.
use mathlib.Core.Path.{refl, sym}
use native.Mathlib.Omega.{arith}
use borrow.Author.Rules.{rules}
use Rattle.octets.specs.Bits.{AreOctets}
use Rattle.message.specs.Kinds.{type_number}
use Rattle.station.proofs.Sendings.{bit_octet, sent_length, sent_short, sent_laid}
use Rattle.station.proofs.sending.put_message.Goals as goal

pub returns : goal.returns
returns c =
    let a = c.args in
    let k = type_number a.kind in
    let own = a.standard.now in
    let r = c.requires in
    let o : AreOctets own = search rules in
    let n = sent_length k a.offer own r.0 o r.1 in (
      sym n,
      rw c.first_octet.ensures (sent_laid k a.offer own r.0 o r.1 _ _ _ _ a.out.now _ _ r.2 (bit_octet a.offer.v8) (bit_octet a.offer.short_v8) (bit_octet a.offer.ack) refl refl (rw c.first_octet.ensures at c.copy_front.ensures)),
      omega (arith, n, sent_short k a.offer own r.0 o r.1),
    )
