-- `station::acts::propose_common` meets its contract: what was chosen lies in the wishes.
-- Assumes nothing.
use Rattle.station.proofs.FarSide.{takes_common}
use Rattle.station.proofs.Sendings.{choice_lies}
use Rattle.station.proofs.acts.propose_common.Goals as goal

pub propose-requires : goal.propose-requires
propose-requires c = choice_lies _ _ _ c.first_common-found.result c.args.tables.good_wishes c.first_common-found.ensures

pub returns : goal.returns
returns c =
    let a = c.args in
    rw (← takes_common a.call.settings a.tables.own.now a.tables.wishes.now a.list a.call.time a.after_cl a.tables.good_wishes c.first_common-found.ensures c.far_offer.ensures) c.propose.ensures
