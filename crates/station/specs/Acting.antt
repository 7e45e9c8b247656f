-- To be believed: what each act of the table does (RULES, The station), that is what is told, sent and stored, and the next phase.
-- Assumes nothing.
use Rattle.std.specs.Prelude.{ℕ, zero, suc, Bool, Option, Some, None, List, []}
use Rattle.octets.specs.Places.{pick}
use Rattle.tree.specs.Codes.{code_of}
use Rattle.tree.specs.Fields.{is_in, codes_in}
use Rattle.tree.specs.declared.Field.TheVariants.{Standard}
use Rattle.message.specs.Kinds.{cl, clr}
use Rattle.message.specs.Reader.{standard_at, message_codes}
use Rattle.names.specs.Named.{named_code}
use Rattle.names.specs.Masks.{only}
use Rattle.names.specs.declared.Keep.TheVariants.{All, Named}
use Rattle.strike.specs.Rewriting.{kept}
use Rattle.choice.specs.Wishes.{wishes_of, standard_codes}
use Rattle.choice.specs.Choosing.{unheard, heard, Choosing, chosen, refused, choice}
use Rattle.choice.specs.Judging.{verdict}
use Rattle.table.specs.declared.Phase.{Phase}
use Rattle.table.specs.declared.Phase.TheVariants.{Initial, AskedE, AskedD, ListsE, ListsD, Counter, Listed, Traded, Pair, Half, Proposed, Mode}
use Rattle.table.specs.Phases.{wish_of, ack_of}
use Rattle.table.specs.declared.Act.{Act}
use Rattle.table.specs.declared.Act.TheVariants.{NoRow, SendSignal, CounterMrD, Propose, SendCl, SendClr, PairClr, Take, Judge, Agree, GiveUp, SendNak1}
use Rattle.table.specs.declared.After.{After}
use Rattle.table.specs.declared.After.TheVariants.{ThenMs, ThenClMs, ThenCl, ThenHalf}
use Rattle.table.specs.declared.Settings.{Settings}
use Rattle.table.specs.declared.Signal.{Signal}
use Rattle.table.specs.declared.Signal.TheVariants.{MrE, MrD, CrE, CrD}
use Rattle.station.specs.Sending.{no_offer, sent_list, sent_mode, sent_ack, sent_nak}
use Rattle.station.specs.declared.FarOffer.{FarOffer}

-- what a step does: the rules' number that it tells, 0 for success, the signal and the fields it sends, what it stores, and the next
-- phase
pub record Outcome : Type 0 where
  pub told : ℕ
  pub signal : Option Signal
  pub first : List ℕ
  pub second : List ℕ
  pub stored : List ℕ
  pub next : Phase

-- nothing is sent or stored
abbrev pub quiet : ℕ → Phase → Outcome
quiet n p = record { told = n; signal = None; first = []; second = []; stored = []; next = p }

abbrev pub signals : Signal → Phase → Outcome
signals s p = record { told = 0; signal = Some s; first = []; second = []; stored = []; next = p }

abbrev pub sends : List ℕ → List ℕ → List ℕ → Phase → Outcome
sends first second stored p = record { told = 0; signal = None; first = first; second = second; stored = stored; next = p }

-- ---- what the far side says

-- the codes of its list, which is struck; and what it offers
unfoldable pub far_list : List ℕ → List ℕ
far_list field = only named_code (codes_in Standard field (standard_at field))

unfoldable pub far_offer : List ℕ → FarOffer
far_offer field = record { v8 = is_in (code_of 1 0 0 1) (message_codes field); short_v8 = is_in (code_of 1 0 0 2) (message_codes field) }

-- whether its MS asks for ACK(1)
unfoldable pub asks_ack : List ℕ → Bool
asks_ack field = is_in (code_of 1 0 0 4) (message_codes field)

-- the standard field of its list as it is stored, struck; and that of its MS, rewritten minimal
unfoldable pub stored_list : List ℕ → List ℕ
stored_list field = kept Named Standard field (standard_at field)

unfoldable pub stored_mode : List ℕ → List ℕ
stored_mode field = kept All Standard field (standard_at field)

-- ---- the acts

-- a refusal behind which the phase is Initial: nothing is sent, and the store keeps the far list
abbrev pub stays : ℕ → List ℕ → ℕ → Outcome
stays n stored time = record { told = n; signal = None; first = []; second = []; stored = stored; next = Initial time }

-- the choice is sent as MS, behind a CL or alone; without one, its refusal is told
abbrev pub proposes : Choosing → Settings → FarOffer → List ℕ → List ℕ → ℕ → Outcome
proposes (chosen p) settings far wishes stored time = sends (sent_mode settings far wishes p) [] stored (Proposed time p.number settings.ack)
proposes (refused n) settings far wishes stored time = stays n stored time

abbrev pub proposes_behind : List ℕ → Choosing → Settings → FarOffer → List ℕ → List ℕ → ℕ → Outcome
proposes_behind list (chosen p) settings far wishes stored time = sends list (sent_mode settings far wishes p) stored (Proposed time p.number settings.ack)
proposes_behind list (refused n) settings far wishes stored time = stays n stored time

-- a list was heard and is stored
abbrev pub takes : After → Settings → List ℕ → List ℕ → List ℕ → ℕ → Outcome
takes ThenMs settings own wishes field time = proposes (choice (standard_codes own) (heard (far_list field)) wishes) settings (far_offer field) wishes (stored_list field) time
takes ThenClMs settings own wishes field time =
    proposes_behind (sent_list cl settings own) (choice (standard_codes own) (heard (far_list field)) wishes) settings (far_offer field) wishes (stored_list field) time
takes ThenCl settings own wishes field time = sends (sent_list cl settings own) [] (stored_list field) (Listed time)
takes ThenHalf settings own wishes field time = sends [] [] (stored_list field) (Half time)

-- the verdict on an MS: accepted gives ACK(1) if its bit asks, else nothing, and Mode; otherwise the NAK and Initial
abbrev pub judges : ℕ → List ℕ → ℕ → Outcome
judges zero field time = sends (pick (asks_ack field) sent_ack []) [] (stored_mode field) (Mode time 0 (asks_ack field))
judges (suc k) field time = sends (sent_nak (suc k)) [] [] (Initial time)

-- the phase that waits for the answer to a signal
abbrev pub waiting : Signal → ℕ → Phase
waiting MrE time = AskedE time
waiting MrD time = AskedD time
waiting CrE time = ListsE time
waiting CrD time = ListsD time

abbrev pub does : Act → Phase → Settings → List ℕ → List ℕ → List ℕ → ℕ → Outcome
does NoRow p settings own wishes field time = quiet 10 p
does (SendSignal s) p settings own wishes field time = signals s (waiting s time)
does CounterMrD p settings own wishes field time = signals MrD (Counter time)
does Propose p settings own wishes field time = proposes (choice (standard_codes own) unheard wishes) settings no_offer wishes [] time
does SendCl p settings own wishes field time = sends (sent_list cl settings own) [] [] (Listed time)
does SendClr p settings own wishes field time = sends (sent_list clr settings own) [] [] (Traded time)
does PairClr p settings own wishes field time = sends (sent_list clr settings own) [] [] (Pair time)
does (Take after) p settings own wishes field time = takes after settings own wishes field time
does Judge p settings own wishes field time = judges (verdict (codes_in Standard field (standard_at field)) (wishes_of wishes)) field time
does Agree p settings own wishes field time = quiet 0 (Mode time (wish_of p) (ack_of p))
does GiveUp p settings own wishes field time = quiet 0 (Initial time)
does SendNak1 p settings own wishes field time = sends (sent_nak 1) [] [] (Initial time)
