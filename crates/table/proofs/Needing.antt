-- An act that looks at the message heard comes only of a message with fields.
-- Assumes nothing.
use mathlib.Core.Bool.{Bool, true, false, true≢false}
use mathlib.Core.Path.{◌≡◌, refl, sym, ◌∙◌}
use Rattle.table.specs.declared.Kind.{Kind}
use Rattle.table.specs.declared.Kind.TheVariants.{AtInitial, AtAskedE, AtAskedD, AtListsE, AtListsD, AtCounter, AtListed, AtTraded, AtPair, AtHalf, AtProposed, AtMode}
use Rattle.table.specs.declared.Heard.{Heard}
use Rattle.table.specs.declared.Heard.TheVariants as heard
use Rattle.table.specs.declared.Signal.{Signal}
use Rattle.table.specs.declared.Signal.TheVariants.{MrE, MrD, CrE, CrD}
use Rattle.table.specs.declared.Start.{Start}
use Rattle.table.specs.declared.Start.TheVariants as start
use Rattle.table.specs.declared.Act.{Act}
use Rattle.table.specs.declared.Act.TheVariants.{NoRow}
use Rattle.table.specs.declared.Row.{Row}
use Rattle.table.specs.declared.Settings.{Settings}
use Rattle.table.specs.Rows.{start_act, signal_act, initial_act, row_signal, row_act, act_of}
use Rattle.table.specs.Inner.{is_message, needs_field}
use Rattle.table.proofs.FourEvents.{of_mr_e, of_mr_d, of_cr_d, of_cr_e, of_tone, of_signal}

-- it looks at none
abbrev Blind : Act → Type 0
Blind a = needs_field a ≡ false

-- so none need have come
none_needed : (a : Act) (h : Heard) → Blind a → needs_field a ≡ true → is_message h ≡ true
none_needed a h b n = absurd (true≢false (sym n ∙ b))

-- however the station is set, starts and signals lead to no act that looks at a message
start_blind : (x : Start) → Blind (start_act x)
start_blind start.MrE = refl
start_blind start.MrD = refl
start_blind start.CrE = refl
start_blind start.CrD = refl
start_blind start.Ms = refl
start_blind start.Cl = refl
start_blind start.Clr = refl

signal_blind : (s : Settings) (x : Signal) → Blind (signal_act s x)
signal_blind s MrE = of_mr_e Blind refl refl refl s.on_mr_e
signal_blind s MrD = refl
signal_blind s CrE = of_cr_e Blind s.on_cr_d (of_cr_d Blind refl refl s.on_cr_d) refl s.on_cr_e
signal_blind s CrD = of_cr_d Blind refl refl s.on_cr_d

initial_needs : (s : Settings) (h : Heard) → needs_field (initial_act s h) ≡ true → is_message h ≡ true
initial_needs s (heard.Start x) n = none_needed (start_act x) (heard.Start x) (start_blind x) n
initial_needs s (heard.Signal x) n = none_needed (signal_act s x) (heard.Signal x) (signal_blind s x) n
initial_needs s heard.Ms n = refl
initial_needs s heard.Cl n = refl
initial_needs s heard.Clr n = refl
initial_needs s heard.Ack1 n = n
initial_needs s heard.Ack2 n = n
initial_needs s heard.Nak n = n
initial_needs s heard.AnswerTone n = n
initial_needs s heard.Spoilt n = n

-- a row whose columns for signals, ACK(1) and the answer tone look at no message
row_needs : (r : Row) → Blind r.mr_d → Blind r.cr_d → Blind r.ack1 → Blind r.tone → (h : Heard) → needs_field (row_act r h) ≡ true → is_message h ≡ true
row_needs r mr-d cr-d ack tone (heard.Start x) n = n
row_needs r mr-d cr-d ack tone (heard.Signal x) n = none_needed (row_signal r x) (heard.Signal x) (of_signal Blind r refl mr-d cr-d x) n
row_needs r mr-d cr-d ack tone heard.Ms n = refl
row_needs r mr-d cr-d ack tone heard.Cl n = refl
row_needs r mr-d cr-d ack tone heard.Clr n = refl
row_needs r mr-d cr-d ack tone heard.Ack1 n = none_needed r.ack1 heard.Ack1 ack n
row_needs r mr-d cr-d ack tone heard.Ack2 n = n
row_needs r mr-d cr-d ack tone heard.Nak n = n
row_needs r mr-d cr-d ack tone heard.AnswerTone n = none_needed r.tone heard.AnswerTone tone n
row_needs r mr-d cr-d ack tone heard.Spoilt n = n

pub needs_message : (k : Kind) (s : Settings) (asked : Bool) (h : Heard) → needs_field (act_of k s asked h) ≡ true → is_message h ≡ true
needs_message AtInitial s asked h n = initial_needs s h n
needs_message AtAskedE s asked h n = row_needs _ (of_mr_d Blind refl refl s.on_mr_d) (of_cr_d Blind refl refl s.on_cr_d) refl refl h n
needs_message AtAskedD s asked h n = row_needs _ refl refl refl refl h n
needs_message AtListsE s asked h n = row_needs _ refl (of_cr_d Blind refl refl s.on_cr_d) refl refl h n
needs_message AtListsD s asked h n = row_needs _ refl refl refl refl h n
needs_message AtCounter s asked h n = row_needs _ refl (of_cr_d Blind refl refl s.on_cr_d) refl refl h n
needs_message AtListed s asked h n = row_needs _ refl refl refl refl h n
needs_message AtTraded s asked h n = row_needs _ refl refl refl refl h n
needs_message AtPair s asked h n = row_needs _ refl refl refl refl h n
needs_message AtHalf s asked h n = row_needs _ refl refl refl refl h n
needs_message AtProposed s asked h n = row_needs _ refl refl refl (of_tone Blind refl refl asked) h n
needs_message AtMode s asked h n = none_needed NoRow h refl n

-- so nothing else leads to one
pub bare_needs : (k : Kind) (s : Settings) (asked : Bool) (h : Heard) → is_message h ≡ false → needs_field (act_of k s asked h) ≡ false
bare_needs k s asked h e = go (needs_field (act_of k s asked h)) refl
  where
    go : (b : Bool) → needs_field (act_of k s asked h) ≡ b → needs_field (act_of k s asked h) ≡ false
    go true n = absurd (true≢false (sym (needs_message k s asked h n) ∙ e))
    go false n = n
