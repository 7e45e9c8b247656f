-- Inner: a transaction (RULES, The station 11: over by its fourth acted-on event, its first included), from Initial, each event acted on, to Initial
-- or Mode.
-- Assumes nothing.
use Rattle.std.specs.Prelude.{Bool, true, false, List, [], ◌∷◌, ◌≡◌}
use Rattle.table.specs.declared.Kind.{Kind}
use Rattle.table.specs.declared.Kind.TheVariants.{AtInitial, AtAskedE, AtAskedD, AtListsE, AtListsD, AtCounter, AtListed, AtTraded, AtPair, AtHalf, AtProposed, AtMode}
use Rattle.table.specs.declared.Heard.{Heard}
use Rattle.table.specs.declared.Act.{Act}
use Rattle.table.specs.declared.Signal.{Signal}
use Rattle.table.specs.declared.Signal.TheVariants.{MrE, MrD, CrE, CrD}
use Rattle.table.specs.declared.Act.TheVariants.{NoRow, SendSignal, CounterMrD, Propose, SendCl, SendClr, PairClr, Take, Judge, Agree, GiveUp, SendNak1}
use Rattle.table.specs.declared.After.{After}
use Rattle.table.specs.declared.After.TheVariants.{ThenMs, ThenClMs, ThenCl, ThenHalf}
use Rattle.table.specs.declared.Settings.{Settings}
use Rattle.table.specs.Phases.{is_over}
use Rattle.table.specs.Rows.{act_of}

-- a where it was found, else b
abbrev pub if_found : Bool → Kind → Kind → Kind
if_found true a b = a
if_found false a b = b

abbrev pub taken_to : After → Bool → Kind
taken_to ThenMs found = if_found found AtProposed AtInitial
taken_to ThenClMs found = if_found found AtProposed AtInitial
taken_to ThenCl found = AtListed
taken_to ThenHalf found = AtHalf

-- a signal leads to the phase that waits for its answer
abbrev pub signal_to : Signal → Kind
signal_to MrE = AtAskedE
signal_to MrD = AtAskedD
signal_to CrE = AtListsE
signal_to CrD = AtListsD

-- the phase that an act leads to; found says that there was a choice, or that the MS was accepted
abbrev pub leads_to : Act → Bool → Kind → Kind
leads_to NoRow found k = k
leads_to (SendSignal s) found k = signal_to s
leads_to CounterMrD found k = AtCounter
leads_to Propose found k = if_found found AtProposed AtInitial
leads_to SendCl found k = AtListed
leads_to SendClr found k = AtTraded
leads_to PairClr found k = AtPair
leads_to (Take after) found k = taken_to after found
leads_to Judge found k = if_found found AtMode AtInitial
leads_to Agree found k = AtMode
leads_to GiveUp found k = AtInitial
leads_to SendNak1 found k = AtInitial

abbrev pub is_acted : Act → Bool
is_acted NoRow = false
is_acted (SendSignal s) = true
is_acted CounterMrD = true
is_acted Propose = true
is_acted SendCl = true
is_acted SendClr = true
is_acted PairClr = true
is_acted (Take after) = true
is_acted Judge = true
is_acted Agree = true
is_acted GiveUp = true
is_acted SendNak1 = true

-- one event: what was heard, how the station was set, whether ACK had been asked, and what was found
pub record Turn : Type 0 where
  pub heard : Heard
  pub set : Settings
  pub asked : Bool
  pub found : Bool

abbrev pub act_at : Kind → Turn → Act
act_at k e = act_of k e.set e.asked e.heard

abbrev pub kind_after : Kind → Turn → Kind
kind_after k e = leads_to (act_at k e) e.found k

-- the events are all acted on, and none of them ends the transaction
unfoldable pub GoesOn : Kind → List Turn → Type 0
GoesOn k [] = Unit {0}
GoesOn k (e ∷ es) = (is_acted (act_at k e) ≡ true) × (is_over (kind_after k e) ≡ false) × GoesOn (kind_after k e) es
