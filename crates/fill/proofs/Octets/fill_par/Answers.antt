-- `fill::Octets::fill_par` meets its contract: the group is read behind the unit.
-- Assumes nothing.
use native.Mathlib.Omega.{arith}
use lib.ListN.{length-append}
use Rattle.tree.specs.Block.{numbers, behind}
use Rattle.tree.specs.Codes.{group_codes}
use Rattle.fill.proofs.Stored.{fills_then}
use Rattle.fill.proofs.Octets.fill_par.Goals as goal

pub fill_unit-middle-requires : goal.fill_unit-middle-requires
fill_unit-middle-requires g c =
    let a = c.args in
    let s = a.self.run.now in
    let at = a.start.at in
    (c.requires.0, omega (arith, c.requires.1), omega (arith, c.requires.2, length-append (numbers 6 64 a.code s at) (group_codes a.code s (behind 64 s at))))

pub fill_group-requires : goal.fill_group-requires
fill_group-requires g c =
    let a = c.args in
    let s = a.self.run.now in
    let at = a.start.at in
    let f = c.fill_unit-middle.ensures in (
      c.requires.1,
      rw f.at (omega (arith, f.count, c.requires.2, length-append (numbers 6 64 a.code s at) (group_codes a.code s (behind 64 s at)))),
    )

pub returns : goal.returns
returns g c = let f = c.fill_unit-middle.ensures in fills_then f (rw f.at at c.fill_group.ensures)
