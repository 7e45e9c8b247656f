-- `frame::Kept::take_octet` meets its contract: bits that are not marked are all taken (`passes_whole`). Assumes nothing.
use Prim.Native.Nat.{ℕ, ◌/◌, ◌%◌, ◌^◌}
use mathlib.Core.Path.{◌≡◌, ap, ◌∙◌}
use native.Mathlib.Omega.{arith}
use lib.Pow.{shr-shr}
use Rattle.octets.specs.Bits.{odd}
use Rattle.frame.specs.Content.{five_ones}
use Rattle.frame.proofs.Starts.{five_at}
use Rattle.frame.proofs.Taking.{marks_none, octet_marks, passes_whole}
use Rattle.frame.proofs.Kept.take_octet.Goals as goal

pub take_fives-requires : goal.take_fives-requires
take_fives-requires c =
    let line = c.args.line in
    (c.requires, omega arith, octet_marks line c.five_starts-fives.result (λ i. ap (λ (v : ℕ). odd (v / 2 ^ i)) c.five_starts-fives.ensures ∙ five_at (line / 524288) i))

pub returns : goal.returns
returns c =
    let line = c.args.line in
    let r = c.five_starts-fives.result in
    let told : (i : ℕ) → odd (r / 2 ^ i) ≡ five_ones (line / 524288 / 2 ^ i) = λ i. ap (λ (v : ℕ). odd (v / 2 ^ i)) c.five_starts-fives.ensures ∙ five_at (line / 524288) i in
    let d : line / 8192 / 2048 ≡ line / 16777216 = shr-shr line 13 11 in
    passes_whole (line / 8192) 8 (marks_none 8 (r % 256) (line / 8192) (octet_marks line r told) c.if-fives-ne0.false) (rw d c.keep_bits.ensures)
