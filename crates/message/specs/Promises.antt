-- To be believed: what each public function promises, in the words that its `ensures` and the demands cite.
-- What `read_message` and `read_octets` promise is `Reads` and `ReadsOctets`, of Reader.
-- Assumes nothing.
use Rattle.tree.specs.Form.{told}
use Rattle.tree.specs.declared.Fault.{Fault}
use Rattle.std.specs.Prelude.{ℕ, Bool, List, ◌≡◌, length, Result, Err}
use Rattle.octets.specs.Places.{pick}
use Rattle.message.specs.Kinds.{known, has_fields, type_told}
use Rattle.message.specs.Nonstandard.{ns_form}
use Rattle.message.specs.Reader.{refusal, read_told, ns_told}
use Rattle.message.specs.Check.{check_told, check_message}
use Rattle.message.specs.declared.Message.{Message}
use Rattle.message.specs.declared.MessageFault.{MessageFault}
use Rattle.message.specs.declared.MessageReadRefusal.{MessageReadRefusal}
use Rattle.message.specs.declared.MessageType.{MessageType}
use Rattle.message.specs.declared.Parts.{Parts}
use Rattle.message.specs.declared.UnknownKind.{UnknownKind}

-- MessageType::try_from: the type of that number, if it is known
abbrev pub TellsType : ℕ → Result MessageType UnknownKind → Type 0
TellsType kind r = type_told r ≡ pick (known kind) kind 0

-- MessageReadRefusal::from: the number stays
abbrev pub TellsRefusal : MessageFault → MessageReadRefusal → Type 0
TellsRefusal fault r = read_told (Err r) ≡ refusal (check_told (Err fault)).no

-- is_known
abbrev pub TellsKnown : ℕ → Bool → Type 0
TellsKnown kind r = r ≡ known kind

-- has_fields
abbrev pub TellsFields : ℕ → Bool → Type 0
TellsFields kind r = r ≡ has_fields kind

-- ns_form
abbrev pub TellsNsForm : List ℕ → ℕ → Result (Unit {0}) Fault → Type 0
TellsNsForm s start r = r ≡ told (ns_form (length s) s start) tt

-- check_message
abbrev pub Checks : List ℕ → Result Parts MessageFault → Type 0
Checks s r = check_told r ≡ check_message s

-- ns_part, by the octets of its reply
abbrev pub TellsNs : List ℕ → Result Message MessageReadRefusal → List ℕ → Type 0
TellsNs s answer r = r ≡ ns_told answer s
