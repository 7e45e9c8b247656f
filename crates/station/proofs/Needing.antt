-- What is heard, and what the table then looks at: an act that looks at the message heard comes only of a message with fields, and such
-- a message stands there.
-- Assumes nothing.
use Prim.Native.Nat.{ℕ}
use mathlib.Core.Bool.{Bool, true, false}
use mathlib.Core.List.{List}
use mathlib.Core.Path.{◌≡◌, refl, sym, ap, ◌∙◌}
use lib.Dec.{eqb}
use Rattle.std.specs.Prelude.{Some, Ok, Err}
use Rattle.message.specs.Kinds.{has_fields, type_number}
use Rattle.message.specs.Check.{check_told, check_message}
use Rattle.message.specs.declared.MessageFault.{MessageFault}
use Rattle.message.specs.declared.MessageType.{MessageType}
use Rattle.message.specs.declared.MessageType.TheVariants.{Ms, Cl, Clr, Ack1, Ack2, Nak1, Nak2, Nak3, Nak4}
use Rattle.message.specs.declared.Parts.{Parts}
use Rattle.message.proofs.Checked.{parted_accepted, kind_told, standard_told, fault_refused}
use Rattle.choice.proofs.Truths.{never}
use Rattle.table.specs.declared.Kind.{Kind}
use Rattle.table.specs.declared.Heard.{Heard}
use Rattle.table.specs.declared.Heard.TheVariants as heard
use Rattle.table.specs.declared.Act.{Act}
use Rattle.table.specs.declared.Settings.{Settings}
use Rattle.table.specs.Rows.{act_of}
use Rattle.table.specs.Inner.{is_message, needs_field}
use Rattle.table.proofs.Needing.{needs_message}
use Rattle.station.specs.Sorting.{type_heard}
use Rattle.station.specs.Inner.{Standing, Hears}
use Rattle.station.specs.declared.Event.TheVariants as events

-- ---- the table

-- an act that looks at a message comes of a message, and then it stands there
pub needs_standing : (k : Kind) (s : Settings) (asked : Bool) (h : Heard) (act : Act) {m : List ℕ} {standard : ℕ} → act ≡ act_of k s asked h
    → (is_message h ≡ true → Standing m standard) → needs_field act ≡ true → Standing m standard
needs_standing k s asked h act e g n = g (needs_message k s asked h (rw e at n))

-- ---- what is heard

-- a message by its type has fields where the table takes it for one
type_fields : (k : MessageType) → is_message (type_heard (type_number k)) ≡ true → has_fields (type_number k) ≡ true
type_fields Ms n = refl
type_fields Cl n = refl
type_fields Clr n = refl
type_fields Ack1 n = never n
type_fields Ack2 n = never n
type_fields Nak1 n = never n
type_fields Nak2 n = never n
type_fields Nak3 n = never n
type_fields Nak4 n = never n

-- a field that is well-formed
pub hears_message : (m : List ℕ) (p : Parts) (h : Heard) → check_told (Ok p) ≡ check_message m → h ≡ type_heard (type_number p.kind) → Hears events.Field m (Some (h, p.standard))
hears_message m p h t e =
    let a = parted_accepted m p t in
    let k = kind_told m p t in
    (rw (a, ← k, e), λ n. record { fine = a; fields = rw (← k) (type_fields p.kind (ap is_message (sym e) ∙ n)); place = standard_told m p t })

-- one that is refused, but not for its type
pub hears_spoilt : (m : List ℕ) (f : MessageFault) → check_told (Err f) ≡ check_message m → eqb (check_told (Err f)).no 3 ≡ false → Hears events.Field m (Some (heard.Spoilt, 0))
hears_spoilt m f t n = (rw (fault_refused m f t, n), λ i. never i)
