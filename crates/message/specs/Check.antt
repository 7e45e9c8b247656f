-- To be believed: what a message is found to be before anything is done with it: refusal 2, 3 or 4 of the message reader, or its
-- type and where S and what is behind S begin.
-- Assumes nothing.
use Rattle.std.specs.Prelude.{ℕ, List, Result, Ok, Err}
use Rattle.message.specs.Kinds.{type_of, type_number}
use Rattle.message.specs.Reader.{list_room, standard_at, tail_at, Reading, refused, accepted, read_message}
use Rattle.message.specs.declared.MessageFault.{MessageFault}
use Rattle.message.specs.declared.MessageFault.TheVariants.{BadSize, UnknownType, Malformed}
use Rattle.message.specs.declared.Parts.{Parts}

-- the rules' number, 0 where the message is well-formed, and the values
pub record Finding : Type 0 where
  pub no : ℕ
  pub kind : ℕ
  pub standard : ℕ
  pub tail : ℕ

abbrev pub no_finding : ℕ → Finding
no_finding k = record { no = k; kind = 0; standard = 0; tail = 0 }

-- each answer's number and values
abbrev pub check_told : Result Parts MessageFault → Finding
check_told (Ok p) = record { no = 0; kind = type_number p.kind; standard = p.standard; tail = p.tail }
check_told (Err BadSize) = no_finding 2
check_told (Err UnknownType) = no_finding 3
check_told (Err Malformed) = no_finding 4

abbrev pub check_reply : Reading → List ℕ → Finding
check_reply (refused k) l = no_finding k
check_reply accepted l = record { no = 0; kind = type_of l; standard = standard_at l; tail = tail_at l }

-- as the message reader judges it with a list that is large enough; the parts of an ACK or a NAK begin where it ends
unfoldable pub check_message : List ℕ → Finding
check_message l = check_reply (read_message l list_room) l
