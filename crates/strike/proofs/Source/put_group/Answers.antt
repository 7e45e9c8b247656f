-- `strike::Source::put_group` meets its contract: nothing is put, or SPar(2) and then its NPar(3) blocks.
-- Assumes nothing.
use mathlib.Core.Path.{sym, ◌∙◌}
use native.Mathlib.Omega.{arith}
use borrow.Author.Tests.{lt-leb, le-leb}
use Rattle.tree.proofs.Forms.{fine_behind}
use Rattle.strike.proofs.Passing.{group_passed, group_parts}
use Rattle.strike.proofs.Going.{puts_none, behind_within, group_ended, group_empty, group_room, group_room_behind, group_puts}
use Rattle.strike.proofs.Source.put_group.Goals as goal

pub bounds-self-from : goal.bounds-self-from
bounds-self-from c = omega (arith, c.requires.0, c.requires.1)

pub returns-then-self-from-ge128 : goal.returns-then-self-from-ge128
returns-then-self-from-ge128 c = let a = c.args in
    let g = group_ended a.self.keep a.c a.self.s.now a.spot.from (le-leb 128 _ c.if-self-from-ge128.true) in
    rw g.0 (puts_none (sym g.1) a.out.now a.spot.to)

pub returns-in_default : goal.returns-in_default
returns-in_default c = let a = c.args in
    rw (group_empty a.self.keep a.c a.self.s.now a.spot.from c.spar_places-spars.ensures (lt-leb 128 _ c.if-self-from-ge128.false) c.in_default.ensures)
    (puts_none (c.top_behind-end.ensures ∙ group_passed a.self.s.now a.spot.from c.requires.2 (lt-leb 128 _ c.if-self-from-ge128.false)) a.out.now a.spot.to)

pub put_extent-next-requires : goal.put_extent-next-requires
put_extent-next-requires c = let a = c.args in (
  c.in-Some.ensures.1,
  c.in-Some.ensures.2,
  omega (arith, fine_behind 64 a.self.s.now a.spot.from (group_parts a.self.s.now a.spot.from c.requires.2 (lt-leb 128 _ c.if-self-from-ge128.false)).0),
  group_room a.self.keep a.c a.self.s.now a.spot.from c.spar_places-spars.ensures (lt-leb 128 _ c.if-self-from-ge128.false)
      c.in-Some.ensures.0 a.out.now a.spot.to c.requires.4,
)

pub put_subs-requires : goal.put_subs-requires
put_subs-requires c = let a = c.args in (
  c.requires.1,
  rw c.put_extent-next.ensures.read (behind_within 64 a.self.s.now a.spot.from c.requires.1),
  rw c.put_extent-next.ensures.read (group_parts a.self.s.now a.spot.from c.requires.2 (lt-leb 128 _ c.if-self-from-ge128.false)).1,
  group_room_behind a.self.keep a.c a.self.s.now a.spot.from c.spar_places-spars.ensures
      (lt-leb 128 _ c.if-self-from-ge128.false) c.in-Some.ensures.0 a.out.now a.spot.to c.requires.4 c.put_extent-next.ensures,
)

pub returns : goal.returns
returns c = let a = c.args in
    group_puts a.self.keep a.c a.self.s.now a.spot.from c.spar_places-spars.ensures (lt-leb 128 _ c.if-self-from-ge128.false) c.in-Some.ensures.0
    a.out.now a.spot.to c.requires.4 c.put_extent-next.ensures c.put_subs.ensures
