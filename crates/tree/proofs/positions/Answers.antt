-- `tree::positions` meets its contract: at first no bit is left, and the octets from the place on. Assumes nothing.
use mathlib.Core.Logic.{inl, inr}
use mathlib.Core.Path.{ap}
use Rattle.tree.specs.Block.{set_bits}
use Rattle.tree.proofs.Giving.{from_place}
use Rattle.tree.proofs.positions.Goals as goal
use Rattle.tree.proofs.positions.Goals.{then-s-le-MOST_OCTETS, else-s-le-MOST_OCTETS}

pub returns : goal.returns
unfolding set_bits
returns c =
    let a = c.args in
    from_place _ _ a.at a.s.now c.if-s-le-MOST_OCTETS.read.now _ c.min.ensures
    (elim c.if-s-le-MOST_OCTETS.branch [
      | then-s-le-MOST_OCTETS w ↦ inl (w.if-s-le-MOST_OCTETS.true, ap (λ (p : _). p.now) w.read-is)
      | else-s-le-MOST_OCTETS w ↦ inr (w.if-s-le-MOST_OCTETS.false, ap (λ (p : _). p.now) w.read-is)
    ])
