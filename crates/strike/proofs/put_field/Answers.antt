-- `strike::put_field` meets its contract: NPar(1), SPar(1) and its Par(2) blocks are put.
-- Assumes nothing.
use Prim.Native.Nat.{◌≤◌}
use native.Mathlib.Omega.{arith}
use lib.ListN.{length}
use Rattle.tree.specs.Block.{behind}
use Rattle.tree.proofs.Forms.{fine_behind}
use Rattle.tree.proofs.Lowest.{base_small}
use Rattle.strike.proofs.Passing.{field_parts}
use Rattle.strike.proofs.Going.{behind_within, field_room_one, field_room_two, field_room_three, field_puts}
use Rattle.strike.proofs.put_field.Goals as goal

pub invariant_of-source : goal.invariant_of-source
invariant_of-source c = record { short = c.requires.0 }

pub put_block-first-requires : goal.put_block-first-requires
put_block-first-requires c = let a = c.args in (
  omega (arith, fine_behind 128 a.s.now a.at (field_parts a.s.now a.at c.requires.1).0),
  field_room_one a.keep c.base_of-base.result a.s.now a.at c.npar_places-npars.ensures a.out.now a.to (rw (← c.base_of-base.ensures) at c.requires.2),
)

pub put_block-second-requires : goal.put_block-second-requires
put_block-second-requires c = let a = c.args in (
  omega (arith, c.put_block-first.ensures.read, fine_behind 128 a.s.now (behind 128 a.s.now a.at) (field_parts a.s.now a.at c.requires.1).1),
  field_room_two a.keep c.base_of-base.result a.s.now a.at c.npar_places-npars.ensures a.out.now a.to (rw (← c.base_of-base.ensures) at c.requires.2) c.put_block-first.ensures c.spar_places-spars.ensures,
)

pub put_pars-requires : goal.put_pars-requires
put_pars-requires c = let a = c.args in
    let w = field_parts a.s.now a.at c.requires.1 in
    let f : c.put_block-first.result.from ≤ length a.s.now = omega (arith, c.put_block-first.ensures.read, fine_behind 128 a.s.now a.at w.0) in (
      f,
      rw c.put_block-second.ensures.read (behind_within 128 a.s.now c.put_block-first.result.from f),
      rw (c.put_block-second.ensures.read, c.put_block-first.ensures.read) w.2,
      rw c.base_of-base.ensures (base_small a.field),
      field_room_three a.keep c.base_of-base.result a.s.now a.at c.npar_places-npars.ensures a.out.now a.to (rw (← c.base_of-base.ensures) at c.requires.2) c.put_block-first.ensures c.spar_places-spars.ensures c.put_block-second.ensures,
    )

pub returns : goal.returns
returns c = let a = c.args in
    rw (← c.base_of-base.ensures) (field_puts a.keep c.base_of-base.result a.s.now a.at c.npar_places-npars.ensures a.out.now a.to (rw (← c.base_of-base.ensures) at c.requires.2) c.put_block-first.ensures c.spar_places-spars.ensures
    c.put_block-second.ensures c.put_pars.ensures)
