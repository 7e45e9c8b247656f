-- A transaction is over by its fourth acted-on event: no four events from Initial are all acted on with none of them ending it, and three are.
-- Each phase has a number of turns that it can still take; a test that computes says that every act lowers it or ends the transaction.
-- Assumes nothing.
use Prim.Native.Nat.{ℕ, ◌≤◌, zero-le}
use native.Mathlib.Omega.{arith}
use mathlib.Core.Path.{◌≡◌, refl}
use mathlib.Core.Bool.{Bool, true, false, not, ◌&&◌, ◌||◌}
use mathlib.Core.List.{List, [], ◌∷◌}
use lib.ListN.{length}
use lib.Dec.{ltb}
use borrow.Author.Tests.{ltb-true}
use Rattle.std.proofs.lemmas.Bool.{and_parts}
use Rattle.table.specs.declared.Kind.{Kind}
use Rattle.table.specs.declared.Kind.TheVariants.{AtInitial, AtAskedE, AtAskedD, AtListsE, AtListsD, AtCounter, AtListed, AtTraded, AtPair, AtHalf, AtProposed, AtMode}
use Rattle.table.specs.declared.Heard.{Heard}
use Rattle.table.specs.declared.Heard.TheVariants as heard
use Rattle.table.specs.declared.Signal.{Signal}
use Rattle.table.specs.declared.Signal.TheVariants.{MrE, MrD, CrE, CrD}
use Rattle.table.specs.declared.Start.{Start}
use Rattle.table.specs.declared.Start.TheVariants as start
use Rattle.table.specs.declared.Act.{Act}
use Rattle.table.specs.declared.Act.TheVariants.{NoRow, SendSignal, CounterMrD, Propose, SendCl, PairClr, Agree, GiveUp, SendNak1}
use Rattle.table.specs.declared.OnMrE.{OnMrE}
use Rattle.table.specs.declared.OnMrE.TheVariants as on-mr-e
use Rattle.table.specs.declared.OnCrD.{OnCrD}
use Rattle.table.specs.declared.OnCrD.TheVariants as on-cr-d
use Rattle.table.specs.declared.OnCrE.{OnCrE}
use Rattle.table.specs.declared.OnCrE.TheVariants as on-cr-e
use Rattle.table.specs.declared.OnMrD.{OnMrD}
use Rattle.table.specs.declared.OnMrD.TheVariants as on-mr-d
use Rattle.table.specs.declared.Row.{Row}
use Rattle.table.specs.declared.Settings.{Settings}
use Rattle.table.specs.Phases.{is_over}
use Rattle.table.specs.Rows.{on_mr_e, on_mr_d, on_cr_d, on_cr_e, start_act, signal_act, initial_act, row_signal, row_act, tone_act, act_of}
use Rattle.table.specs.Bound.{leads_to, is_acted, Turn, act_at, kind_after, GoesOn}

-- ---- the test

-- how many events a phase can still take that do not end the transaction
abbrev turns_left : Kind → ℕ
turns_left AtInitial = 3
turns_left AtAskedE = 2
turns_left AtAskedD = 0
turns_left AtListsE = 2
turns_left AtListsD = 1
turns_left AtCounter = 2
turns_left AtListed = 0
turns_left AtTraded = 1
turns_left AtPair = 1
turns_left AtHalf = 0
turns_left AtProposed = 0
turns_left AtMode = 0

-- an act ends the transaction or leads to a phase with fewer turns left; found as for `leads_to`
abbrev is_fewer : Kind → Act → Bool → Bool
is_fewer k a found = is_over (leads_to a found k) || ltb (turns_left (leads_to a found k)) (turns_left k)

-- an act that counts does so whatever is found
abbrev Falls : Kind → Act → Type 0
Falls k a = (not (is_acted a) || is_fewer k a true && is_fewer k a false) ≡ true

-- ---- what holds of each entry holds of all

pub of_signal : (P : Act → Type 0) (r : Row) → P NoRow → P r.mr_d → P r.cr_d → (x : Signal) → P (row_signal r x)
of_signal P r none mr-d cr-d MrE = none
of_signal P r none mr-d cr-d MrD = mr-d
of_signal P r none mr-d cr-d CrE = none
of_signal P r none mr-d cr-d CrD = cr-d

of_row : (P : Act → Type 0) {r : Row} → P NoRow → P GiveUp → P SendNak1 → P r.mr_d → P r.cr_d → P r.ms → P r.cl → P r.clr → P r.ack1 → P r.tone → (h : Heard) → P (row_act r h)
of_row P none nak bad mr-d cr-d ms cl clr ack tone (heard.Start x) = none
of_row P {r} none nak bad mr-d cr-d ms cl clr ack tone (heard.Signal x) = of_signal P r none mr-d cr-d x
of_row P none nak bad mr-d cr-d ms cl clr ack tone heard.Ms = ms
of_row P none nak bad mr-d cr-d ms cl clr ack tone heard.Cl = cl
of_row P none nak bad mr-d cr-d ms cl clr ack tone heard.Clr = clr
of_row P none nak bad mr-d cr-d ms cl clr ack tone heard.Ack1 = ack
of_row P none nak bad mr-d cr-d ms cl clr ack tone heard.Ack2 = none
of_row P none nak bad mr-d cr-d ms cl clr ack tone heard.Nak = nak
of_row P none nak bad mr-d cr-d ms cl clr ack tone heard.AnswerTone = tone
of_row P none nak bad mr-d cr-d ms cl clr ack tone heard.Spoilt = bad

pub of_mr_e : (P : Act → Type 0) → P Propose → P CounterMrD → P (SendSignal CrD) → (set : OnMrE) → P (on_mr_e set)
of_mr_e P ms mr-d cr-d on-mr-e.Ms = ms
of_mr_e P ms mr-d cr-d on-mr-e.MrD = mr-d
of_mr_e P ms mr-d cr-d on-mr-e.CrD = cr-d

pub of_mr_d : (P : Act → Type 0) → P Propose → P (SendSignal CrD) → (set : OnMrD) → P (on_mr_d set)
of_mr_d P ms cr-d on-mr-d.Ms = ms
of_mr_d P ms cr-d on-mr-d.CrD = cr-d

pub of_cr_d : (P : Act → Type 0) → P SendCl → P PairClr → (set : OnCrD) → P (on_cr_d set)
of_cr_d P cl clr on-cr-d.Cl = cl
of_cr_d P cl clr on-cr-d.Clr = clr

pub of_cr_e : (P : Act → Type 0) (display : OnCrD) → P (on_cr_d display) → P (SendSignal CrD) → (set : OnCrE) → P (on_cr_e set display)
of_cr_e P display same cr-d on-cr-e.AsOnCrD = same
of_cr_e P display same cr-d on-cr-e.CrD = cr-d

pub of_tone : (P : Act → Type 0) → P NoRow → P Agree → (asked : Bool) → P (tone_act asked)
of_tone P none agree true = none
of_tone P none agree false = agree

-- ---- every entry of the table falls

start_falls : (x : Start) → Falls AtInitial (start_act x)
start_falls start.MrE = refl
start_falls start.MrD = refl
start_falls start.CrE = refl
start_falls start.CrD = refl
start_falls start.Ms = refl
start_falls start.Cl = refl
start_falls start.Clr = refl

signal_falls : (s : Settings) (x : Signal) → Falls AtInitial (signal_act s x)
signal_falls s MrE = of_mr_e (Falls AtInitial) refl refl refl s.on_mr_e
signal_falls s MrD = refl
signal_falls s CrE = of_cr_e (Falls AtInitial) s.on_cr_d (of_cr_d (Falls AtInitial) refl refl s.on_cr_d) refl s.on_cr_e
signal_falls s CrD = of_cr_d (Falls AtInitial) refl refl s.on_cr_d

initial_falls : (s : Settings) (h : Heard) → Falls AtInitial (initial_act s h)
initial_falls s (heard.Start x) = start_falls x
initial_falls s (heard.Signal x) = signal_falls s x
initial_falls s heard.Ms = refl
initial_falls s heard.Cl = refl
initial_falls s heard.Clr = refl
initial_falls s heard.Ack1 = refl
initial_falls s heard.Ack2 = refl
initial_falls s heard.Nak = refl
initial_falls s heard.AnswerTone = refl
initial_falls s heard.Spoilt = refl

table_falls : (k : Kind) (s : Settings) (a : Bool) (h : Heard) → Falls k (act_of k s a h)
table_falls AtInitial s a h = initial_falls s h
table_falls AtAskedE s a h = of_row (Falls AtAskedE) refl refl refl (of_mr_d (Falls AtAskedE) refl refl s.on_mr_d) (of_cr_d (Falls AtAskedE) refl refl s.on_cr_d) refl refl refl refl refl h
table_falls AtAskedD s a h = of_row (Falls AtAskedD) refl refl refl refl refl refl refl refl refl refl h
table_falls AtListsE s a h = of_row (Falls AtListsE) refl refl refl refl (of_cr_d (Falls AtListsE) refl refl s.on_cr_d) refl refl refl refl refl h
table_falls AtListsD s a h = of_row (Falls AtListsD) refl refl refl refl refl refl refl refl refl refl h
table_falls AtCounter s a h = of_row (Falls AtCounter) refl refl refl refl (of_cr_d (Falls AtCounter) refl refl s.on_cr_d) refl refl refl refl refl h
table_falls AtListed s a h = of_row (Falls AtListed) refl refl refl refl refl refl refl refl refl refl h
table_falls AtTraded s a h = of_row (Falls AtTraded) refl refl refl refl refl refl refl refl refl refl h
table_falls AtPair s a h = of_row (Falls AtPair) refl refl refl refl refl refl refl refl refl refl h
table_falls AtHalf s a h = of_row (Falls AtHalf) refl refl refl refl refl refl refl refl refl refl h
table_falls AtProposed s a h = of_row (Falls AtProposed) refl refl refl refl refl refl refl refl refl (of_tone (Falls AtProposed) refl refl a) h
table_falls AtMode s a h = refl

-- ---- from the test to the bound

fewer : (k : Kind) (a : Act) (found : Bool) → Falls k a → is_acted a ≡ true → is_fewer k a found ≡ true
fewer k a true falls acted = (and_parts (is_fewer k a true) (is_fewer k a false) (rw acted at falls)).0
fewer k a false falls acted = (and_parts (is_fewer k a true) (is_fewer k a false) (rw acted at falls)).1

-- from any phase: at most as many turns as it has left
turns_bound : (k : Kind) (turns : List Turn) → GoesOn k turns → length turns ≤ turns_left k
unfolding GoesOn
turns_bound k [] goes = zero-le
turns_bound k (e ∷ rest) goes =
    let less : is_fewer k (act_at k e) e.found ≡ true = fewer k (act_at k e) e.found (table_falls k e.set e.asked e.heard) goes.0 in
    let behind : length rest ≤ turns_left (kind_after k e) = turns_bound (kind_after k e) rest goes.2 in
    omega (arith, ltb-true (turns_left (kind_after k e)) (turns_left k) (rw goes.1 at less))

pub at_most_three : (turns : List Turn) → GoesOn AtInitial turns → length turns ≤ 3
at_most_three turns goes = turns_bound AtInitial turns goes

-- so a fourth ends it
pub over_by_fourth : (a b c d : Turn) → GoesOn AtInitial (a ∷ b ∷ c ∷ d ∷ []) → ⊥
over_by_fourth a b c d goes = omega (arith, at_most_three (a ∷ b ∷ c ∷ d ∷ []) goes)

abbrev pub turn : Settings → Bool → Bool → Heard → Turn
turn s a f h = record { heard = h; set = s; asked = a; found = f }

-- and none need end it earlier: MR_e is started, CR_d is heard and answered by CLR, CL is heard, and an MS is still due
pub three_go_on : (s : Settings) → s.on_cr_d ≡ on-cr-d.Clr → (a f : Bool) → GoesOn AtInitial (turn s a f (heard.Start start.MrE) ∷ turn s a f (heard.Signal CrD) ∷ turn s a f heard.Cl ∷ [])
unfolding GoesOn
three_go_on s pairs a f = rw pairs (refl, refl, (refl, refl, (refl, refl, tt)))
