-- `frame::check_content` meets its contract: each way out is one of refusals 3 to 6 (RULES, Frames 9), or the information. Assumes nothing.
use Prim.Native.Nat.{◌-◌, ◌/◌}
use mathlib.Core.Path.{◌≡◌, refl, sym, ◌∙◌}
use native.Mathlib.Omega.{arith}
use lib.ListN.{length, take}
use lib.Seq.{length-take-le}
use Rattle.octets.specs.Bits.{AreOctets}
use Rattle.octets.proofs.Laying.{over_fits}
use Rattle.std.specs.Prelude.{Err}
use Rattle.frame.specs.declared.FrameReadRefusal.TheVariants.{SplitOctet, TooShort, TooLong, WrongCheck}
use Rattle.frame.proofs.Checking.{reads_refused, reads_given, checked_3, checked_4, checked_5, checked_6, checked_ok}
use borrow.Author.Rules.{rules}
use Rattle.frame.proofs.check_content.Goals as goal

pub returns-then-size-ne0 : goal.returns-then-size-ne0
returns-then-size-ne0 c =
    let a = c.args in
    λ cs l s. reads_refused _ a.out.now 3 (Err SplitOctet) (checked_3 cs a.size l c.if-size-ne0.true) refl

pub returns-then-octets-lt-FEWEST_CONTENT : goal.returns-then-octets-lt-FEWEST_CONTENT
returns-then-octets-lt-FEWEST_CONTENT c =
    let a = c.args in
    λ cs l s. reads_refused _ a.out.now 4 (Err TooShort) (checked_4 cs a.size l c.if-size-ne0.false c.if-octets-lt-FEWEST_CONTENT.true) refl

pub returns-then-octets-gt-MOST_CONTENT : goal.returns-then-octets-gt-MOST_CONTENT
returns-then-octets-gt-MOST_CONTENT c =
    let a = c.args in
    λ cs l s. reads_refused _ a.out.now 5 (Err TooLong) (checked_5 cs a.size l c.if-size-ne0.false c.if-octets-gt-MOST_CONTENT.true) refl

pub returns-then-f-from_le_bytes : goal.returns-then-f-from_le_bytes
returns-then-f-from_le_bytes c =
    let a = c.args in
    let ox : AreOctets a.plain.now = λ i h. search rules in
    λ cs l s. reads_refused _ a.out.now 6 (Err WrongCheck) (checked_6 a.plain.now a.size c.requires.0 (a.size / 8 - 2) _ _ _ c.if-size-ne0.false (omega arith) (omega arith) (omega arith) ox refl refl c.fcs_of-f.ensures cs l s (λ e. c.if-f-from_le_bytes.true (e ∙ sym c.from_le_bytes.ensures))) refl

pub returns : goal.returns
returns c =
    let a = c.args in
    let ox : AreOctets a.plain.now = λ i h. search rules in
    let k : length (take (a.size / 8 - 2) a.plain.now) ≡ a.size / 8 - 2 = length-take-le (a.size / 8 - 2) a.plain.now (omega arith) in
    λ cs l s. reads_given _ (take (a.size / 8 - 2) a.plain.now) a.out.now _ (a.size / 8 - 2)
    (checked_ok a.plain.now a.size c.requires.0 (a.size / 8 - 2) _ _ _ c.if-size-ne0.false (omega arith) (omega arith) (omega arith) ox refl refl c.fcs_of-f.ensures cs l s (c.if-f-from_le_bytes.false ∙ c.from_le_bytes.ensures))
    k
    (c.copy_front.ensures ∙ over_fits (take (a.size / 8 - 2) a.plain.now) a.out.now (omega arith))
