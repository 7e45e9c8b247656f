-- Inner: which of the things heard are messages with fields, and which acts look at one.
-- Assumes nothing.
use Rattle.std.specs.Prelude.{Bool, true, false}
use Rattle.table.specs.declared.Heard.{Heard}
use Rattle.table.specs.declared.Heard.TheVariants as heard
use Rattle.table.specs.declared.Act.{Act}
use Rattle.table.specs.declared.Act.TheVariants.{NoRow, SendSignal, CounterMrD, Propose, SendCl, SendClr, PairClr, Take, Judge, Agree, GiveUp, SendNak1}

-- a message with fields
abbrev pub is_message : Heard → Bool
is_message (heard.Start x) = false
is_message (heard.Signal x) = false
is_message heard.Ms = true
is_message heard.Cl = true
is_message heard.Clr = true
is_message heard.Ack1 = false
is_message heard.Ack2 = false
is_message heard.Nak = false
is_message heard.AnswerTone = false
is_message heard.Spoilt = false

-- the act looks at the message heard
abbrev pub needs_field : Act → Bool
needs_field NoRow = false
needs_field (SendSignal x) = false
needs_field CounterMrD = false
needs_field Propose = false
needs_field SendCl = false
needs_field SendClr = false
needs_field PairClr = false
needs_field (Take after) = true
needs_field Judge = true
needs_field Agree = false
needs_field GiveUp = false
needs_field SendNak1 = false
