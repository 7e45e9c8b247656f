-- `station::acts::take_list` meets its contract: the list is stored, and then each arm sends what the table asks for.
-- Assumes nothing.
use Rattle.station.proofs.FarSide.{takes_cl, takes_half}
use Rattle.station.proofs.acts.take_list.Goals as goal

pub returns-in-ThenCl : goal.returns-in-ThenCl
returns-in-ThenCl c =
    let a = c.args in
    rw (c.in-ThenCl.is, ← takes_cl a.call.settings a.tables.own.now a.tables.wishes.now a.list a.call.time) (rw c.list-answer.ensures at c.sends.ensures)

pub returns-in-ThenHalf : goal.returns-in-ThenHalf
returns-in-ThenHalf c =
    let a = c.args in
    rw (c.in-ThenHalf.is, ← takes_half a.call.settings a.tables.own.now a.tables.wishes.now a.list a.call.time) c.sends-in-ThenHalf.ensures
