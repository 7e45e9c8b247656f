-- To be believed: the two kinds of blocks (V.8 bis 8.2.3).
-- Assumes nothing.
use Rattle.std.specs.Prelude.{ℕ}
use Rattle.tree.specs.declared.Level.{Level}
use Rattle.tree.specs.declared.Level.TheVariants.{Top, Low}

-- how many parameters an octet has
abbrev pub width_of : Level → ℕ
width_of Top = 7
width_of Low = 6

-- what an octet is at least that ends the block
abbrev pub mark_of : Level → ℕ
mark_of Top = 128
mark_of Low = 64
