-- The bench positions, proved.
-- Assumes nothing.
use Rattle.exact.proofs.Vectors.{ff_ff}
use Rattle.tree.proofs.Vectors.{code_of_lem}
use Rattle.message.proofs.Bench.{positions}
use Rattle.meaning.proofs.Vectors as written
use Rattle.strike.proofs.StrikingBench as struck
use Rattle.demands.specs.PositionsProved.{PositionsProved}
use Rattle.demands.proofs.StationBench as station

pub positions_proved : PositionsProved
positions_proved =
    record {
      empty_lists_lem = (positions.empty.0, positions.empty.1, positions.empty.3);
      one_more = positions.left_over;
      missing = positions.missing;
      bit_eight = positions.bit_eight;
      nothing_set_lem = (positions.nothing_set_lem.0, positions.nothing_set_lem.3);
      minimal = rw positions.nothing_set_lem.3 written.nothing_set_lem;
      strikes = (struck.bench).newer;
      code = code_of_lem;
      ack = (positions.ack.0, positions.ack.1, positions.ack.2);
      unknown = positions.unknown;
      nineteen = ff_ff;
      proposed = (station.bench).proposed;
      mode_refused = (station.bench).refused;
    }
