-- To be believed: the verdict on a mode select that was received (RULES, Own table, wishes, choice). It fits a wish if it has an
-- SPar(1) and all its standard parameters lie there. It is accepted if it fits a ready wish; NAK(2) if it fits only wishes not ready; else
-- NAK(3).
-- Assumes nothing.
use Rattle.std.specs.Prelude.{ℕ, Bool, true, false, ◌≡◌, Result, Ok, Err}
use mathlib.Core.List.{List, [], ◌∷◌, Memᴰ}
use Rattle.octets.specs.Places.{pick, both}
use Rattle.tree.specs.Fields.{all_in, has_spar}
use Rattle.choice.specs.Wishes.{Wish, wish_codes}
use Rattle.choice.specs.declared.ModeRefusal.{ModeRefusal}
use Rattle.choice.specs.declared.ModeRefusal.TheVariants.{NotReady, NoFit}

-- the mode's codes fit a wish
abbrev pub fits : List ℕ → Wish → Bool
fits mode w = both (has_spar mode) (all_in mode (wish_codes w))

-- some wish, or some ready wish, that the mode fits
unfoldable pub fits_some : List ℕ → List Wish → Bool
fits_some mode [] = false
fits_some mode (w ∷ ws) = pick (fits mode w) true (fits_some mode ws)

unfoldable pub fits_ready : List ℕ → List Wish → Bool
fits_ready mode [] = false
fits_ready mode (w ∷ ws) = pick (both w.ready (fits mode w)) true (fits_ready mode ws)

-- the NAK that the mode is refused with, 0 where it is accepted
unfoldable pub verdict : List ℕ → List Wish → ℕ
verdict mode ws = pick (fits_ready mode ws) 0 (pick (fits_some mode ws) 2 3)

-- what each answer stands for: accepted, NAK(2), NAK(3)
abbrev pub nak_of : Result (Unit {0}) ModeRefusal → ℕ
nak_of (Ok _) = 0
nak_of (Err NotReady) = 2
nak_of (Err NoFit) = 3

-- a mode fits one of the wishes: it has an SPar(1), and all its codes lie there
pub record Fitting (mode : List ℕ) (ws : List Wish) : Type 0 where
  pub wish : Wish
  pub member : Memᴰ wish ws
  pub spar : has_spar mode ≡ true
  pub lies : all_in mode (wish_codes wish) ≡ true
