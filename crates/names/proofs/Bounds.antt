-- What is kept, where not all is, stands at a printed position: it is at most their number.
-- Assumes nothing.
use Prim.Native.Nat.{ℕ, zero, suc, ◌<◌, ◌≤◌}
use mathlib.Core.Bool.{Bool, true, false}
use mathlib.Core.List.{List, [], ◌∷◌}
use mathlib.Core.Path.{◌≡◌, refl, sym, ap, ◌∙◌}
use native.Mathlib.Omega.{arith}
use borrow.Author.Tests.{ltb-true, ltb-false}
use lib.Dec.{ltb}
use lib.ListN.{length}
use Rattle.octets.specs.Bits.{num}
use Rattle.names.specs.Tables.{Printed, reserved, npar_blocks, spar_blocks}
use Rattle.names.specs.Named.{printed_under, printed_at, keeps_printed}
use Rattle.names.specs.Masks.{places_of, npar_places, spar_places}
use Rattle.names.specs.Inner.{kept_place}
use Rattle.names.specs.declared.Keep.{Keep}
use Rattle.names.specs.declared.Keep.TheVariants.{Standard}
use Rattle.names.proofs.Printings.{kept_place_lem}

-- behind the printed positions all are reserved
pub printed_behind : (printed : List Printed) (q : ℕ) → length printed < q → printed_at printed q ≡ reserved
unfolding printed_at
printed_behind [] q h = refl
printed_behind (r ∷ printed) zero h = refl
printed_behind (r ∷ printed) (suc zero) h = absurd (omega arith)
printed_behind (r ∷ printed) (suc (suc q)) h = printed_behind printed (suc q) (omega arith)

-- so a position is a printed one where it is kept and reserved ones are not
pub place_printed : (k : Keep) (printed : List Printed) (q : ℕ) → keeps_printed k reserved ≡ false → 0 < q → kept_place (places_of k printed) q ≡ true → q ≤ length printed
place_printed k printed q r p e = go (ltb (length printed) q) refl
  where
    go : (t : Bool) → ltb (length printed) q ≡ t → q ≤ length printed
    go true h =
        let none = ap (keeps_printed k) (printed_behind printed q (ltb-true (length printed) q h)) ∙ r in
        absurd (omega (arith, ap num (sym e ∙ kept_place_lem k printed q p ∙ none)))
    go false h = ltb-false (length printed) q h

-- of the standard NPar and SPar positions under a code
pub npar_printed_lem : (c q : ℕ) → 0 < q → kept_place (npar_places Standard c) q ≡ true → q ≤ length (printed_under c npar_blocks)
unfolding npar_places
npar_printed_lem c q p e = place_printed Standard (printed_under c npar_blocks) q refl p e

pub spar_printed_lem : (c q : ℕ) → 0 < q → kept_place (spar_places Standard c) q ≡ true → q ≤ length (printed_under c spar_blocks)
unfolding spar_places
spar_printed_lem c q p e = place_printed Standard (printed_under c spar_blocks) q refl p e
