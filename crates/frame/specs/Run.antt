-- Inner: the bits that a run of the reader has.
-- Assumes nothing.
use Rattle.std.specs.Prelude.{List, Bool, take}
use Rattle.octets.specs.Bits.{bits}
use Rattle.frame.specs.declared.Run.{Run}

-- the first count bits of its octets
abbrev pub seen : Run → List Bool
seen run = take run.count (bits run.octets.now)
