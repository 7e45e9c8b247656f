-- To be believed: octet 1 of a message (V.8 bis 8.3.1 and 8.3.2, Tables 3 and 4): bits 1 to 4 the type, bits 5 to 8 the revision.
-- Assumes nothing.
use Rattle.std.specs.Prelude.{ℕ, ◌+◌, ◌*◌, ◌/◌, ◌%◌, Bool, List, [], ◌∷◌, ltb, get_or, Result, Ok, Err}
use Rattle.tree.specs.Fields.{is_in}
use Rattle.message.specs.declared.MessageType.{MessageType}
use Rattle.message.specs.declared.MessageType.TheVariants.{Ms, Cl, Clr, Ack1, Ack2, Nak1, Nak2, Nak3, Nak4}
use Rattle.message.specs.declared.UnknownKind.{UnknownKind}

-- the types that are used here
abbrev pub ms : ℕ
ms = 1

abbrev pub cl : ℕ
cl = 2

abbrev pub clr : ℕ
clr = 3

abbrev pub ack1 : ℕ
ack1 = 4

abbrev pub ack2 : ℕ
ack2 = 5

abbrev pub nak1 : ℕ
nak1 = 8

abbrev pub nak2 : ℕ
nak2 = 9

abbrev pub nak3 : ℕ
nak3 = 10

abbrev pub nak4 : ℕ
nak4 = 11

-- the number of each
abbrev pub type_number : MessageType → ℕ
type_number Ms = ms
type_number Cl = cl
type_number Clr = clr
type_number Ack1 = ack1
type_number Ack2 = ack2
type_number Nak1 = nak1
type_number Nak2 = nak2
type_number Nak3 = nak3
type_number Nak4 = nak4

-- and of an answer that may tell none, which is told as 0
abbrev pub type_told : Result MessageType UnknownKind → ℕ
type_told (Ok kind) = type_number kind
type_told (Err e) = 0

abbrev pub known : ℕ → Bool
known k = is_in k (ms ∷ cl ∷ clr ∷ ack1 ∷ ack2 ∷ nak1 ∷ nak2 ∷ nak3 ∷ nak4 ∷ [])

-- of the known types, MS, CL and CLR have fields; ACK and NAK end behind octet 1
abbrev pub has_fields : ℕ → Bool
has_fields k = ltb k ack1

abbrev pub type_of : List ℕ → ℕ
type_of l = get_or l 0 0 % 16

abbrev pub revision_of : List ℕ → ℕ
revision_of l = get_or l 0 0 / 16

-- octet 1 of a type and a revision
abbrev pub first_octet : ℕ → ℕ → ℕ
first_octet kind revision = revision * 16 + kind
