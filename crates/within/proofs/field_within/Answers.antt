-- `within::field_within` meets its contract: NPar(1) is compared, and then what SPar(1) announces.
-- Assumes nothing.
use mathlib.Core.Path.{refl}
use Rattle.tree.proofs.Wide.{fits_parts}
use Rattle.within.proofs.Beside.{field_lost, field_found}
use Rattle.within.proofs.field_within.Goals as goal

pub invariant_of-pair : goal.invariant_of-pair
invariant_of-pair c = record { mine_low = (fits_parts _ _ c.requires.0).2; theirs_low = (fits_parts _ _ c.requires.1).2 }

pub returns-in-Some : goal.returns-in-Some
returns-in-Some c =
    rw c.is_some.ensures (field_found _ _ _ _ c.requires.0 c.requires.1 c.in-Some.ensures refl c.spars_within.ensures)

pub returns-in-None : goal.returns-in-None
returns-in-None c = field_lost _ _ _ _ c.requires.0 c.requires.1 c.in-None.ensures refl
