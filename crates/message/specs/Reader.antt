-- To be believed: what the message reader answers, by the rules' numbers, and what it leaves in the list.
-- Assumes nothing.
use Rattle.std.specs.Prelude.{ℕ, ◌-◌, ◌/◌, Bool, true, false, not, List, [], ◌++◌, ◌≡◌, ltb, eqb, length, take, drop, Result, Ok, Err}
use Rattle.octets.specs.Lay.{put}
use Rattle.octets.specs.Places.{pick}
use Rattle.tree.specs.Codes.{field_base, field_codes, field_behind}
use Rattle.tree.specs.Fields.{most_octets, fours}
use Rattle.tree.specs.Form.{Form, Fine, Early, Wrong, Left, BadLength, and_then, field_form}
use Rattle.message.specs.Kinds.{known, has_fields, type_of, revision_of}
use Rattle.message.specs.Nonstandard.{ns_announced, tail_form}
use Rattle.message.specs.declared.Span.{Span}
use Rattle.message.specs.declared.Message.{Message}
use Rattle.message.specs.declared.MessageReadRefusal.{MessageReadRefusal}
use Rattle.message.specs.declared.MessageReadRefusal.TheVariants.{BadLent, BadSize, UnknownType, Malformed}

abbrev pub list_room : ℕ
list_room = 448

-- I begins behind octet 1, S behind I, and NS, if it is there, behind S
abbrev pub standard_at : List ℕ → ℕ
standard_at l = field_behind l 1

abbrev pub tail_at : List ℕ → ℕ
tail_at l = field_behind l (standard_at l)

-- the first rule that is broken, and where
unfoldable pub message_form : List ℕ → Form
message_form l =
    pick (has_fields (type_of l))
    (and_then (field_form l 1) (and_then (field_form l (standard_at l)) (tail_form l (tail_at l))))
    (pick (eqb (length l) 1) Fine (Left 1))

-- the codes of a message, those of I and then those of S
unfoldable pub message_codes : List ℕ → List ℕ
message_codes l = pick (has_fields (type_of l)) (field_codes (field_base 1) l 1 ++ field_codes (field_base 2) l (standard_at l)) []

-- whether it has NS, and where: place 0 where there is none
abbrev pub has_ns : List ℕ → Bool
has_ns l = pick (has_fields (type_of l)) (ns_announced l) false

abbrev pub ns_place : List ℕ → ℕ
ns_place l = pick (has_ns l) (tail_at l) 0

abbrev pub ns_size : List ℕ → ℕ
ns_size l = pick (has_ns l) (length l - tail_at l) 0

-- the NS of a message
abbrev pub ns_of : List ℕ → List ℕ
ns_of l = take (ns_size l) (drop (ns_place l) l)

-- a refusal's number, or that the message is well-formed
pub data Reading : Type 0 where
  refused : ℕ → Reading
  accepted : Reading

abbrev pub refused_if : Bool → ℕ → Reading → Reading
refused_if true k r = refused k
refused_if false k r = r

-- 4, whichever rule is broken
abbrev pub judged : Form → Reading
judged Fine = accepted
judged (Early i) = refused 4
judged (Wrong i) = refused 4
judged (Left i) = refused 4
judged (BadLength i) = refused 4

unfoldable pub read_message : List ℕ → ℕ → Reading
read_message l room =
    refused_if (ltb room list_room) 1
    (refused_if (eqb (length l) 0) 2
    (refused_if (ltb most_octets (length l)) 2
    (refused_if (not (known (type_of l))) 3
    (judged (message_form l)))))

-- a reply: the rules' number, 0 for success, and the values
pub record Reply : Type 0 where
  pub no : ℕ
  pub kind : ℕ
  pub revision : ℕ
  pub count : ℕ
  pub ns_at : ℕ
  pub ns_length : ℕ

abbrev pub refusal : ℕ → Reply
refusal k = record { no = k; kind = 0; revision = 0; count = 0; ns_at = 0; ns_length = 0 }

-- each answer's number and values
abbrev pub read_told : Result Message MessageReadRefusal → Reply
read_told (Ok m) = record { no = 0; kind = m.kind; revision = m.revision; count = m.count; ns_at = m.ns.at; ns_length = m.ns.length }
read_told (Err BadLent) = refusal 1
read_told (Err BadSize) = refusal 2
read_told (Err UnknownType) = refusal 3
read_told (Err Malformed) = refusal 4

abbrev pub read_reply : Reading → List ℕ → Reply
read_reply (refused k) l = refusal k
read_reply accepted l =
    record { no = 0; kind = type_of l; revision = revision_of l; count = length (message_codes l); ns_at = ns_place l; ns_length = ns_size l }

-- the codes that are stored: a refusal writes nothing
abbrev pub codes_read : Reading → List ℕ → List ℕ
codes_read (refused k) l = []
codes_read accepted l = message_codes l

-- the reply r and the list list₁ are those of reading the message l into list₀: the codes, and nothing behind them
pub record Reads (l list₀ : List ℕ) (r : Result Message MessageReadRefusal) (list₁ : List ℕ) : Type 0 where
  pub reply : read_told r ≡ read_reply (read_message l (length list₀)) l
  pub list : list₁ ≡ put (codes_read (read_message l (length list₀)) l) list₀

-- how many numbers a list of octets has room for
abbrev pub room_of : List ℕ → ℕ
room_of list = length list / 4

-- the same with a list of octets, four to a code
pub record ReadsOctets (l list₀ : List ℕ) (r : Result Message MessageReadRefusal) (list₁ : List ℕ) : Type 0 where
  pub reply : read_told r ≡ read_reply (read_message l (room_of list₀)) l
  pub list : list₁ ≡ put (fours (codes_read (read_message l (room_of list₀)) l)) list₀

-- where an answer says that NS lies
abbrev pub span_told : Result Message MessageReadRefusal → Span
span_told (Ok m) = m.ns
span_told (Err e) = record { at = 0; length = 0 }

-- the NS that an answer tells of, as a part of the message; nothing where it tells of octets that are not there
unfoldable pub ns_told : Result Message MessageReadRefusal → List ℕ → List ℕ
ns_told r l =
    pick (ltb (length l) (span_told r).at) []
    (pick (ltb (length l - (span_told r).at) (span_told r).length) []
    (take (span_told r).length (drop (span_told r).at l)))
