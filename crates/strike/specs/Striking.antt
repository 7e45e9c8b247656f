-- To be believed: striking a message (RULES, Striking): every unnamed parameter and all below it are taken out, octet 1 and
-- NS stay, and the message is written in minimal form. What it answers, by the rules' numbers, and what it leaves in the output.
-- Assumes nothing.
use Rattle.std.specs.Prelude.{ℕ, List, [], ◌++◌, ◌≡◌, ltb, eqb, length, Result, Ok, Err}
use Rattle.octets.specs.Places.{pick}
use Rattle.tree.specs.Codes.{field_base, field_codes}
use Rattle.message.specs.Kinds.{has_fields, type_of, revision_of}
use Rattle.tree.specs.Fields.{most_octets}
use Rattle.message.specs.Reader.{list_room, standard_at, ns_of, Reading, accepted, read_message}
use Rattle.message.specs.Reader as reader
use Rattle.meaning.specs.Writing.{Writing, refused, sent, refused_if, message_octets, Reply, write_reply, write_leaves}
use Rattle.names.specs.Named.{named_code}
use Rattle.names.specs.Masks.{only}
use Rattle.strike.specs.declared.StrikeRefusal.{StrikeRefusal}
use Rattle.strike.specs.declared.StrikeRefusal.TheVariants.{BadLent, BadSize, UnknownType, Malformed}

-- the codes that stay: of I the named ones; of S the named ones, but all in an MS, which is type 1
unfoldable pub struck_codes : List ℕ → List ℕ
struck_codes l =
    pick (has_fields (type_of l))
    (only named_code (field_codes (field_base 1) l 1)
    ++ pick (eqb (type_of l) 1) (field_codes (field_base 2) l (standard_at l)) (only named_code (field_codes (field_base 2) l (standard_at l))))
    []

-- the struck form: octet 1 and NS as they came
unfoldable pub struck_form : List ℕ → List ℕ
struck_form l = message_octets (type_of l) (revision_of l) (struck_codes l) (ns_of l)

-- 2 to 4 are those of the message reader
abbrev pub unless_refused : Reading → List ℕ → Writing
unless_refused (reader.refused k) os = refused k
unless_refused accepted os = sent os

-- 1, and then the others
unfoldable pub strike_message : List ℕ → ℕ → Writing
strike_message l room = refused_if (ltb room most_octets) 1 (unless_refused (read_message l list_room) (struck_form l))

-- each answer's number and value
abbrev pub struck_told : Result ℕ StrikeRefusal → Reply
struck_told (Ok n) = record { no = 0; count = n }
struck_told (Err BadLent) = record { no = 1; count = 0 }
struck_told (Err BadSize) = record { no = 2; count = 0 }
struck_told (Err UnknownType) = record { no = 3; count = 0 }
struck_told (Err Malformed) = record { no = 4; count = 0 }

-- the reply r and the output out₁ are those of striking the message l into out₀
pub record Strikes (l out₀ : List ℕ) (r : Result ℕ StrikeRefusal) (out₁ : List ℕ) : Type 0 where
  pub reply : struck_told r ≡ write_reply (strike_message l (length out₀))
  pub output : out₁ ≡ write_leaves (strike_message l (length out₀)) out₀
