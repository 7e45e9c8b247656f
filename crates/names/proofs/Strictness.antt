-- From the strictest to the loosest: what is standard is named, and what is named is kept where all is.
-- Assumes nothing.
use Prim.Native.Nat.{ℕ}
use mathlib.Core.Bool.{true}
use mathlib.Core.Path.{◌≡◌, refl}
use Rattle.names.specs.Tables.{Printed, named, non_standard, reserved}
use Rattle.names.specs.Named.{printed_of, keeps_printed, keeps}
use Rattle.names.specs.declared.Keep.{Keep}
use Rattle.names.specs.declared.Keep.TheVariants.{All, Named, Standard}

-- of a printed position
pub printed_named : (r : Printed) → keeps_printed Standard r ≡ true → keeps_printed Named r ≡ true
printed_named named e = refl
printed_named non_standard e = refl
printed_named reserved e = e

pub printed_all : (r : Printed) → keeps_printed Named r ≡ true → keeps_printed All r ≡ true
printed_all r e = refl

pub printed_standard : (k : Keep) (r : Printed) → keeps_printed Standard r ≡ true → keeps_printed k r ≡ true
printed_standard All r e = printed_all r (printed_named r e)
printed_standard Named r e = printed_named r e
printed_standard Standard r e = e

-- of a code
pub keeps_named : (c : ℕ) → keeps Standard c ≡ true → keeps Named c ≡ true
keeps_named c e = printed_named (printed_of c) e

pub keeps_all : (c : ℕ) → keeps Named c ≡ true → keeps All c ≡ true
keeps_all c e = printed_all (printed_of c) e

pub keeps_standard : (k : Keep) (c : ℕ) → keeps Standard c ≡ true → keeps k c ≡ true
keeps_standard k c e = printed_standard k (printed_of c) e
