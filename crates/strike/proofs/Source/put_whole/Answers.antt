-- `strike::Source::put_whole` meets its contract: NPar(2), what is behind it, and bit 8 in the last octet.
-- Assumes nothing.
use native.Mathlib.Omega.{arith}
use Rattle.tree.proofs.Forms.{fine_behind}
use Rattle.strike.proofs.Going.{puts_size, whole_room, whole_room_behind, whole_last, whole_puts}
use Rattle.strike.proofs.Source.put_whole.Goals as goal

pub put_block-middle-requires : goal.put_block-middle-requires
put_block-middle-requires c = let a = c.args in
    (omega (arith, fine_behind 64 a.self.s.now a.spot.from c.requires.0), whole_room a.self.keep a.c a.self.s.now a.spot.from c.npar_places-npars.ensures a.out.now a.spot.to c.requires.3)

pub put_group-end-requires : goal.put_group-end-requires
put_group-end-requires c = let a = c.args in (
  omega (arith, c.put_block-middle.ensures.read, fine_behind 64 a.self.s.now a.spot.from c.requires.0),
  omega (arith, c.put_block-middle.ensures.read, fine_behind 64 a.self.s.now a.spot.from c.requires.0),
  rw c.put_block-middle.ensures.read c.requires.1,
  c.requires.2,
  whole_room_behind a.self.keep a.c a.self.s.now a.spot.from c.npar_places-npars.ensures a.out.now a.spot.to c.requires.3 c.put_block-middle.ensures,
)

pub overflow_sub-last : goal.overflow_sub-last
overflow_sub-last c = omega (arith, whole_last c.args.self.keep c.args.c c.args.self.s.now c.args.spot.from c.npar_places-npars.ensures c.args.out.now c.args.spot.to c.requires.3 c.put_block-middle.ensures c.put_group-end.ensures)

pub bounds-out-last : goal.bounds-out-last
bounds-out-last c = omega (arith, whole_last c.args.self.keep c.args.c c.args.self.s.now c.args.spot.from c.npar_places-npars.ensures c.args.out.now c.args.spot.to c.requires.3 c.put_block-middle.ensures c.put_group-end.ensures)

pub bounds-out-last-2 : goal.bounds-out-last-2
bounds-out-last-2 c = omega (arith, whole_last c.args.self.keep c.args.c c.args.self.s.now c.args.spot.from c.npar_places-npars.ensures c.args.out.now c.args.spot.to c.requires.3 c.put_block-middle.ensures c.put_group-end.ensures)

pub returns : goal.returns
returns c = let a = c.args in
    whole_puts a.self.keep a.c a.self.s.now a.spot.from c.npar_places-npars.ensures a.out.now a.spot.to c.requires.3 c.put_block-middle.ensures c.put_group-end.ensures

pub shape_of-out : goal.shape_of-out
shape_of-out c = puts_size (returns c)
