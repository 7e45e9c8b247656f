-- A run of octets stored from the front on.
-- Assumes nothing.
use Prim.Native.Nat.{ℕ, ◌+◌, ◌≤◌}
use mathlib.Core.List.{List}
use mathlib.Core.Path.{◌≡◌, ◌∙◌}
use native.Mathlib.Omega.{arith}
use lib.ListN.{length}
use lib.Seq.{sets, sets-eq}
use Rattle.octets.specs.Lay.{put}

-- from the front on, where there is room
pub sets_front : (l xs : List ℕ) → length xs ≤ length l → sets l 0 xs ≡ put xs l
unfolding put
sets_front l xs h = let z : 0 + length xs ≡ length xs = omega arith in sets-eq xs l 0 (omega arith) ∙ rw z
