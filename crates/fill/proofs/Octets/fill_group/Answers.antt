-- `fill::Octets::fill_group` meets its contract: nothing where bit 8 ends the Par(2) block there.
-- Assumes nothing.
use mathlib.Core.Path.{refl, sym, ◌∙◌}
use native.Mathlib.Omega.{arith}
use Rattle.tree.specs.Codes.{group_codes, group_behind}
use Rattle.fill.specs.Storing.{laid}
use Rattle.fill.proofs.Octets.fill_group.Goals as goal

pub returns-then-bit8 : goal.returns-then-bit8
unfolding group_codes group_behind laid
returns-then-bit8 g c = rw (sym c.bit8.ensures ∙ c.if-bit8.true) (record { count = omega arith; list = refl; at = refl })

pub fill_subs-requires : goal.fill_subs-requires
unfolding group_codes
fill_subs-requires g c =
    let room = rw (sym c.bit8.ensures ∙ c.if-bit8.false) at c.requires.1 in
    (c.requires.0, rw c.block_behind-at.ensures room)

pub returns : goal.returns
unfolding group_codes group_behind
returns g c = rw (sym c.bit8.ensures ∙ c.if-bit8.false) (rw c.block_behind-at.ensures at c.fill_subs.ensures)
