-- `frame::Run::end_content` meets its contract: six ones close the content where the zero before them stands in it and a zero follows. Assumes nothing.
use Prim.Native.Nat.{◌+◌}
use mathlib.Core.Path.{sym, ◌∙◌}
use Rattle.frame.proofs.Keeping.{last_stands}
use Rattle.frame.proofs.Ending.{ends_content, closes-zero}
use Rattle.frame.proofs.Run.end_content.Goals as goal

pub returns : goal.returns
returns c =
    let a = c.args in
    let six = a.sixth in
    let at = a.here + six.place in
    ends_content _ at a.plain.now _ six.kept six.real
    (closes-zero a.self.octets.now a.self.count (at + 1) c.bit_at.result a.self.held c.if-self-behind.false c.bit_at.ensures six.real c.if-not-real.false (sym c.is_one.ensures ∙ c.if-is_one.false))
    (λ bs h. rw c.store_octet.ensures (last_stands bs a.plain.now six.kept h))
