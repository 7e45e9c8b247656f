-- `station::lent::Tables::mode` meets its contract.
-- Assumes nothing.
use Prim.Native.Nat.{◌+◌, ◌-◌}
use mathlib.Core.Path.{◌≡◌}
use native.Mathlib.Omega.{arith}
use Rattle.station.specs.Sending.{sent_mode}
use Rattle.station.proofs.lent.Tables.mode.Goals as goal

pub returns : goal.returns
unfolding sent_mode
returns c =
    let wish = c.args.wish in
    let size : wish.at + wish.length - wish.at ≡ wish.length = omega arith in
    rw (size, c.mode_offer.ensures)
