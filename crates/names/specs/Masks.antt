-- To be believed: the positions of a block that are kept, as the code has them: none stands for all, else there is a bit for each,
-- position 1 the lowest.
-- Assumes nothing.
use Rattle.std.specs.Prelude.{ℕ, ◌+◌, ◌*◌, Bool, List, [], ◌∷◌, Option, Some, None}
use Rattle.octets.specs.Bits.{num}
use Rattle.octets.specs.Places.{pick}
use Rattle.names.specs.Tables.{Printed, npar_blocks, spar_blocks}
use Rattle.names.specs.Named.{printed_under, is_named, is_standard}
use Rattle.names.specs.declared.Keep.{Keep}
use Rattle.names.specs.declared.Keep.TheVariants.{All, Named, Standard}

-- a bit for each printed position that passes a test
unfoldable pub mask_of : (Printed → Bool) → List Printed → ℕ
mask_of f [] = 0
mask_of f (p ∷ ps) = num (f p) + mask_of f ps * 2

abbrev pub places_of : Keep → List Printed → Option ℕ
places_of All ps = None
places_of Named ps = Some (mask_of is_named ps)
places_of Standard ps = Some (mask_of is_standard ps)

-- of the NPar block, and of the SPar block, that stand under a code
unfoldable pub npar_places : Keep → ℕ → Option ℕ
npar_places k c = places_of k (printed_under c npar_blocks)

unfoldable pub spar_places : Keep → ℕ → Option ℕ
spar_places k c = places_of k (printed_under c spar_blocks)

-- those numbers of a list that pass a test
unfoldable pub only : (ℕ → Bool) → List ℕ → List ℕ
only f [] = []
only f (x ∷ l) = pick (f x) (x ∷ only f l) (only f l)
