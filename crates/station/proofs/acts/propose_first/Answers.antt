-- `station::acts::propose_first` meets its contract: with no far list the own table does not matter.
-- Assumes nothing.
use mathlib.Core.List.{[]}
use Rattle.choice.specs.Wishes.{standard_codes}
use Rattle.choice.specs.Choosing.{unheard}
use Rattle.choice.proofs.Chosen.{choice_unheard}
use Rattle.station.proofs.Sendings.{choice_lies}
use Rattle.station.proofs.acts.propose_first.Goals as goal

pub propose-requires : goal.propose-requires
propose-requires c = choice_lies [] unheard _ c.first_ready.result c.args.tables.good_wishes c.first_ready.ensures

pub returns : goal.returns
returns c =
    let t = c.args.tables in
    rw (choice_unheard (standard_codes t.own.now) [] t.wishes.now, ← c.first_ready.ensures) c.propose.ensures
