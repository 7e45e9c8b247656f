-- `octets::octet_at` meets its contract: the two octets that it reads hold the eight bits (`octet_window`).
-- Assumes nothing.
use mathlib.Core.Path.{sym}
use Rattle.octets.proofs.Window.{octet_window}
use borrow.Author.Rules.{rules}
use Rattle.octets.proofs.octet_at.Goals as goal

pub returns : goal.returns
returns c =
    let a = c.args in
    rw (c.octet_or_zero-high.ensures, c.octet_or_zero-low.ensures) (sym (octet_window a.run.now a.at (λ i l. search rules)))
