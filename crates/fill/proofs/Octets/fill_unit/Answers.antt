-- `fill::Octets::fill_unit` meets its contract: the code and its block are stored one behind the other.
-- Assumes nothing.
use mathlib.Core.Path.{ap}
use native.Mathlib.Omega.{arith}
use lib.ListN.{length}
use Rattle.fill.proofs.Rows.{bits_first}
use Rattle.fill.proofs.Stored.{fills_run, fills_then}
use Rattle.fill.proofs.Octets.fill_unit.Goals as goal

pub overflow_sub-code : goal.overflow_sub-code
overflow_sub-code g c = c.requires.0

pub fill_bits-count-requires : goal.fill_bits-count-requires
fill_bits-count-requires g c =
    (omega arith, omega (arith, c.requires.1), omega (arith, ap length (bits_first c.args.code c.requires.0), c.requires.2))

pub fill_block-requires : goal.fill_block-requires
fill_block-requires g c =
    (c.requires.1, omega (arith, c.fill_bits-count.ensures.0, ap length (bits_first c.args.code c.requires.0), c.requires.2))

pub returns : goal.returns
returns g c =
    fills_then {place = c.args.start.at} (fills_run (rw (bits_first c.args.code c.requires.0) at c.fill_bits-count.ensures)) c.fill_block.ensures
