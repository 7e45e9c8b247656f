-- What the contracts leave open: nothing. No second answer fits them.
-- Assumes nothing.
use Prim.Native.Nat.{ℕ}
use Rattle.std.specs.Prelude.{Option}
use mathlib.Core.Path.{◌≡◌}
use Rattle.octets.proofs.Unique.{one_reply}
use Rattle.names.specs.Promises.{TellsNparPlaces, TellsSparPlaces}
use Rattle.names.specs.declared.Keep.{Keep}

pub npar_places_unique : (keep : Keep) (under : ℕ) (r r' : Option ℕ) → TellsNparPlaces keep under r → TellsNparPlaces keep under r' → r ≡ r'
npar_places_unique keep under r r' e e' = one_reply e e'

pub spar_places_unique : (keep : Keep) (under : ℕ) (r r' : Option ℕ) → TellsSparPlaces keep under r → TellsSparPlaces keep under r' → r ≡ r'
spar_places_unique keep under r r' e e' = one_reply e e'
