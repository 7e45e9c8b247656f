-- `within::next_place` meets its contract: the block has a next octet, or ends there, or no octet stands at the place.
-- Assumes nothing.
use Prim.Native.Nat.{◌<◌}
use mathlib.Core.Path.{◌≡◌, sym, ap, ◌∙◌}
use borrow.Author.Tests.{ltb-true, ltb-false}
use lib.ListN.{length, get_or}
use Rattle.std.specs.Prelude.{is_some}
use Rattle.std.proofs.lemmas.List.{get_or_read}
use Rattle.within.proofs.Taking.{place_on, place_end, place_out}
use Rattle.within.proofs.next_place.Goals as goal

pub returns-in-Some : goal.returns-in-Some
returns-in-Some c =
    let t = c.args.t.now in
    let l = c.in-Some.ensures.lookup in
    let h : c.args.k < length t = ltb-true _ _ (sym l.0) in
    let o : c.in-Some.o.now ≡ get_or t c.args.k 0 = get_or_read t c.args.k _ h l.1 0 in
    sym (place_on _ t c.args.k h (rw (o, c.mark.ensures) at c.if-o-mark.true))

pub returns-in_default : goal.returns-in_default
returns-in_default c =
    let t = c.args.t.now in
    let l = c.in-Some.ensures.lookup in
    let h : c.args.k < length t = ltb-true _ _ (sym l.0) in
    let o : c.in-Some.o.now ≡ get_or t c.args.k 0 = get_or_read t c.args.k _ h l.1 0 in
    sym (place_end _ t c.args.k (rw (o, c.mark.ensures) at c.if-o-mark.false))

pub returns-in_default-2 : goal.returns-in_default-2
returns-in_default-2 c = sym (place_out _ _ _ (ltb-false _ _ (sym c.get.ensures.lookup.0 ∙ ap is_some c.in_default.is)))
