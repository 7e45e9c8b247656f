-- `fill::Octets::fill_block` meets its contract. The loop's invariant: all but the codes from octet i on are stored (`OctetsGoing`), and the block from i on ends where the one from e on does.
-- Assumes nothing.
use Prim.Native.Nat.{◌^◌}
use mathlib.Core.Path.{◌≡◌, refl, sym, ◌∙◌}
use native.Mathlib.Omega.{arith}
use Rattle.tree.specs.Levels.{width_of}
use Rattle.tree.proofs.Forms.{behind_stop, behind_go, behind_out}
use Rattle.tree.proofs.Giving.{mark_power, mark_some, width_most}
use Rattle.fill.proofs.Rows.{codes_stepped, octets_start, octet_seven, octets_room, octets_turn, octets_last, octets_end}
use Rattle.fill.proofs.Stored.{fills_run}
use Rattle.fill.proofs.Octets.fill_block.Goals as goal

pub loop-i-init : goal.loop-i-init
loop-i-init g c = (octets_start codes_stepped _ _, refl, refl)

pub nonzero_rem-o : goal.nonzero_rem-o
nonzero_rem-o g c =
    rw c.mark-mark.ensures (mark_some c.args.level)

pub fill_bits-count-requires : goal.fill_bits-count-requires
fill_bits-count-requires g c =
    let v = c.args.level in
    let y = c.loop-i.invariant.0 in
    let e : c.mark-mark.result ≡ 2 ^ width_of v = c.mark-mark.ensures ∙ mark_power v in (
      rw e (octet_seven (width_of v) _ (width_most v)),
      omega (arith, y.reach, c.loop-i-test.true, c.args.self.few, c.requires.0),
      octets_room codes_stepped y e (width_most v) c.loop-i-test.true (rw (mark_power v) at c.requires.1),
    )

pub returns-then-mark-o : goal.returns-then-mark-o
returns-then-mark-o g c =
    let v = c.args.level in
    let l = c.loop-i in
    let e : c.mark-mark.result ≡ 2 ^ width_of v = c.mark-mark.ensures ∙ mark_power v in
    let f = octets_last codes_stepped l.invariant.0 e (width_most v) c.loop-i-test.true (fills_run c.fill_bits-count.ensures) c.if-mark-o.true in
    record {
      count = rw (mark_power v) f.count;
      list = rw (mark_power v) f.list;
      at = sym (behind_stop _ l.i _ c.loop-i-test.true (omega (arith, c.mark-mark.ensures, c.if-mark-o.true))) ∙ l.invariant.1;
    }

pub overflow_add-above : goal.overflow_add-above
overflow_add-above g c =
    let p = c.requires in
    omega (arith, c.loop-i.invariant.0.reach, c.loop-i-test.true, p.0, c.args.self.few, c.width-width.ensures, width_most c.args.level)

pub loop-i-preserved : goal.loop-i-preserved
loop-i-preserved g c =
    let v = c.args.level in
    let l = c.loop-i in
    let e : c.mark-mark.result ≡ 2 ^ width_of v = c.mark-mark.ensures ∙ mark_power v in (
      rw c.width-width.ensures (octets_turn codes_stepped l.invariant.0 e (width_most v) c.loop-i-test.true (fills_run c.fill_bits-count.ensures) c.if-mark-o.false),
      sym (behind_go _ l.i _ c.loop-i-test.true (omega (arith, c.mark-mark.ensures, c.if-mark-o.false))) ∙ l.invariant.1,
      omega arith,
    )

pub returns : goal.returns
returns g c =
    let v = c.args.level in
    let l = c.loop-i in
    let f = octets_end codes_stepped l.invariant.0 c.loop-i-test.false in
    record {
      count = rw (mark_power v) f.count;
      list = rw (mark_power v) f.list;
      at = l.invariant.2 ∙ sym (behind_out _ l.i _ c.loop-i-test.false) ∙ l.invariant.1;
    }
