-- `octets::bit_at` meets its contract: a place whose octet is one of the run has that bit of the octet (`bit_in`), and any other none (`bit_end`).
-- Assumes nothing.
use mathlib.Core.Path.{sym, ap, ◌∙◌}
use borrow.Author.Tests.{ltb-true, ltb-false}
use Rattle.std.specs.Prelude.{Some, ◌/◌, ◌^◌, ◌%◌}
use Rattle.std.proofs.lemmas.Grind.{get_or_default_zero}
use Rattle.octets.specs.Bits.{odd}
use Rattle.octets.proofs.Laws.{bit_in, bit_end}
use Rattle.octets.proofs.bit_at.Goals as goal

pub returns-in_err-octet : goal.returns-in_err-octet
returns-in_err-octet c =
    let a = c.args in
    c.from_residual.ensures ∙ sym (bit_end a.run.now a.at (ltb-false _ _ (sym c.in_err-octet.ensures.lookup.0)))

pub returns : goal.returns
returns c =
    let a = c.args in
    let h = c.in_ok-octet.ensures.lookup in
    let l = ltb-true _ _ (sym h.0) in
    ap (λ x. Some (odd (x / 2 ^ (a.at % 8)))) (h.1 ∙ get_or_default_zero a.run.now (a.at / 8) _ l) ∙ sym (bit_in a.run.now a.at l)
