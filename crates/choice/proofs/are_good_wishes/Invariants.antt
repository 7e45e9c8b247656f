-- `choice::are_good_wishes` meets its contract. The loop's invariant: the records of the octets behind are left, and those octets decide.
-- Assumes nothing.
use Prim.Native.Nat.{ℕ}
use mathlib.Core.Path.{◌≡◌}
use Rattle.choice.specs.Wishes.{most_wishes}
use Rattle.choice.specs.Inner.{found_in, found_left, wish_in, records_by}
use Rattle.choice.proofs.are_good_wishes.Given as goal

abbrev pub invariant-loop-wish : goal.invariant-loop-wish
invariant-loop-wish l =
    (k : ℕ) × (found_left l.wish-iterator ≡ found_in k l.behind) × (records_by (wish_in l.names.bits) k l.behind ≡ records_by (wish_in l.names.bits) most_wishes l.run)
