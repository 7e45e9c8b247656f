-- To be believed: the station's table (RULES, The station; V.8 bis Table 7), one line for each phase.
-- Assumes nothing.
use Rattle.std.specs.Prelude.{Bool, true, false}
use Rattle.table.specs.declared.Kind.{Kind}
use Rattle.table.specs.declared.Kind.TheVariants.{AtInitial, AtAskedE, AtAskedD, AtListsE, AtListsD, AtCounter, AtListed, AtTraded, AtPair, AtHalf, AtProposed, AtMode}
use Rattle.table.specs.declared.Signal.{Signal}
use Rattle.table.specs.declared.Signal.TheVariants.{MrE, MrD, CrE, CrD}
use Rattle.table.specs.declared.Start.{Start}
use Rattle.table.specs.declared.Start.TheVariants as start
use Rattle.table.specs.declared.Heard.{Heard}
use Rattle.table.specs.declared.Heard.TheVariants as heard
use Rattle.table.specs.declared.Act.{Act}
use Rattle.table.specs.declared.Act.TheVariants.{NoRow, SendSignal, CounterMrD, Propose, SendCl, SendClr, PairClr, Take, Judge, Agree, GiveUp, SendNak1}
use Rattle.table.specs.declared.After.TheVariants.{ThenMs, ThenClMs, ThenCl, ThenHalf}
use Rattle.table.specs.declared.Row.{Row}
use Rattle.table.specs.declared.Settings.{Settings}
use Rattle.table.specs.declared.OnMrE.{OnMrE}
use Rattle.table.specs.declared.OnMrE.TheVariants as on-mr-e
use Rattle.table.specs.declared.OnCrD.{OnCrD}
use Rattle.table.specs.declared.OnCrD.TheVariants as on-cr-d
use Rattle.table.specs.declared.OnCrE.{OnCrE}
use Rattle.table.specs.declared.OnCrE.TheVariants as on-cr-e
use Rattle.table.specs.declared.OnMrD.{OnMrD}
use Rattle.table.specs.declared.OnMrD.TheVariants as on-mr-d

-- ---- by setting

abbrev pub on_mr_e : OnMrE → Act
on_mr_e on-mr-e.Ms = Propose
on_mr_e on-mr-e.MrD = CounterMrD
on_mr_e on-mr-e.CrD = SendSignal CrD

abbrev pub on_mr_d : OnMrD → Act
on_mr_d on-mr-d.Ms = Propose
on_mr_d on-mr-d.CrD = SendSignal CrD

abbrev pub on_cr_d : OnCrD → Act
on_cr_d on-cr-d.Cl = SendCl
on_cr_d on-cr-d.Clr = PairClr

abbrev pub on_cr_e : OnCrE → OnCrD → Act
on_cr_e on-cr-e.AsOnCrD d = on_cr_d d
on_cr_e on-cr-e.CrD d = SendSignal CrD

-- ---- the table

-- Initial alone starts something: a start sends what it names
abbrev pub start_act : Start → Act
start_act start.MrE = SendSignal MrE
start_act start.MrD = SendSignal MrD
start_act start.CrE = SendSignal CrE
start_act start.CrD = SendSignal CrD
start_act start.Ms = Propose
start_act start.Cl = SendCl
start_act start.Clr = SendClr

-- and it alone hears MR_e and CR_e
abbrev pub signal_act : Settings → Signal → Act
signal_act s MrE = on_mr_e s.on_mr_e
signal_act s MrD = Propose
signal_act s CrE = on_cr_e s.on_cr_e s.on_cr_d
signal_act s CrD = on_cr_d s.on_cr_d

abbrev pub initial_act : Settings → Heard → Act
initial_act s (heard.Start x) = start_act x
initial_act s (heard.Signal x) = signal_act s x
initial_act s heard.Ms = Judge
initial_act s heard.Cl = Take ThenMs
initial_act s heard.Clr = Take ThenCl
initial_act s heard.Ack1 = NoRow
initial_act s heard.Ack2 = NoRow
initial_act s heard.Nak = NoRow
initial_act s heard.AnswerTone = NoRow
initial_act s heard.Spoilt = SendNak1

-- in every other phase but Mode a NAK gives up, and what is spoilt gets NAK(1); the rest is the row's
abbrev pub row_signal : Row → Signal → Act
row_signal r MrE = NoRow
row_signal r MrD = r.mr_d
row_signal r CrE = NoRow
row_signal r CrD = r.cr_d

abbrev pub row_act : Row → Heard → Act
row_act r (heard.Start x) = NoRow
row_act r (heard.Signal x) = row_signal r x
row_act r heard.Ms = r.ms
row_act r heard.Cl = r.cl
row_act r heard.Clr = r.clr
row_act r heard.Ack1 = r.ack1
row_act r heard.Ack2 = NoRow
row_act r heard.Nak = GiveUp
row_act r heard.AnswerTone = r.tone
row_act r heard.Spoilt = SendNak1

-- the answer tone counts where ACK was not asked
abbrev pub tone_act : Bool → Act
tone_act true = NoRow
tone_act false = Agree

-- a row that judges an MS, and what it does on MR_d and CR_d
abbrev pub judging_row : Act → Act → Row
judging_row mr-d cr-d = record { mr_d = mr-d; cr_d = cr-d; ms = Judge; cl = NoRow; clr = NoRow; ack1 = NoRow; tone = NoRow }

-- a row that takes lists: what it does on CR_d, a CL and a CLR
abbrev pub taking_row : Act → Act → Act → Row
taking_row cr-d cl clr = record { mr_d = NoRow; cr_d = cr-d; ms = NoRow; cl = cl; clr = clr; ack1 = NoRow; tone = NoRow }

-- the row that agrees on ACK(1), and on the answer tone
abbrev pub agreeing_row : Bool → Row
agreeing_row asked = record { mr_d = NoRow; cr_d = NoRow; ms = NoRow; cl = NoRow; clr = NoRow; ack1 = Agree; tone = tone_act asked }

abbrev pub act_of : Kind → Settings → Bool → Heard → Act
act_of AtInitial s a h = initial_act s h
act_of AtAskedE s a h = row_act (judging_row (on_mr_d s.on_mr_d) (on_cr_d s.on_cr_d)) h
act_of AtAskedD s a h = row_act (judging_row NoRow NoRow) h
act_of AtListsE s a h = row_act (taking_row (on_cr_d s.on_cr_d) (Take ThenMs) (Take ThenClMs)) h
act_of AtListsD s a h = row_act (taking_row NoRow (Take ThenMs) (Take ThenClMs)) h
act_of AtCounter s a h = row_act (judging_row NoRow (on_cr_d s.on_cr_d)) h
act_of AtListed s a h = row_act (judging_row NoRow NoRow) h
act_of AtTraded s a h = row_act (taking_row NoRow (Take ThenMs) NoRow) h
act_of AtPair s a h = row_act (taking_row NoRow (Take ThenHalf) NoRow) h
act_of AtHalf s a h = row_act (judging_row NoRow NoRow) h
act_of AtProposed s a h = row_act (agreeing_row a) h
act_of AtMode s a h = NoRow
