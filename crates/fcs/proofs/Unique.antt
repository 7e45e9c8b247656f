-- What `fcs::fcs_of` ensures leaves one reply only.
-- Assumes nothing.
use Prim.Native.Nat.{ℕ}
use mathlib.Core.Path.{◌≡◌}
use mathlib.Core.List.{List}
use Rattle.fcs.specs.Promises.{TellsFcs}

-- two replies that fit are the same
one_fcs : (run : List ℕ) (r q : ℕ) → TellsFcs run r → TellsFcs run q → r ≡ q
one_fcs run r q e f = cc
