-- Tests of all numbers below one, which compute.
-- Assumes nothing.
use Prim.Native.Nat.{ℕ, zero, suc, ◌<◌}
use mathlib.Core.Path.{◌≡◌, refl}
use mathlib.Core.Bool.{Bool, true, false}
use native.Mathlib.Omega.{arith}
use borrow.Author.Tests.{eqb-true, eqb-false}
use lib.Dec.{eqb}
use Rattle.octets.specs.Places.{pick}

-- a test holds of all numbers below n
unfoldable pub every : (ℕ → Bool) → ℕ → Bool
every p zero = true
every p (suc n) = pick (p n) (every p n) false

pub every_at : (p : ℕ → Bool) (n i : ℕ) → i < n → every p n ≡ true → p i ≡ true
unfolding every
every_at p zero i h e = absurd (omega arith)
every_at p (suc n) i h e = go (p n) refl e (eqb i n) refl (every_at p n i)
  where
    go : (t : Bool) → p n ≡ t → pick t (every p n) false ≡ true → (u : Bool) → eqb i n ≡ u → (i < n → every p n ≡ true → p i ≡ true) → p i ≡ true
    go false q f u g below = cc
    go true q f true g below = rw (eqb-true i n g) q
    go true q f false g below = below (omega (arith, h, eqb-false i n g)) f
