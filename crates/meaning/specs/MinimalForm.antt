-- To be believed: the minimal form of a message and of a standard field (RULES, Minimal form 3): what is written of what is read of it.
-- Assumes nothing.
use Rattle.std.specs.Prelude.{ℕ, true, List, ◌≡◌, length}
use Rattle.octets.specs.Bits.{AreOctets}
use Rattle.tree.specs.Codes.{field_base, field_codes, field_behind}
use Rattle.tree.specs.Form.{Fine, field_form}
use Rattle.message.specs.Kinds.{type_of, revision_of}
use Rattle.message.specs.Reader.{message_codes, ns_of}
use Rattle.meaning.specs.Coded.{field_coded}
use Rattle.meaning.specs.Written.{written}
use Rattle.meaning.specs.Writing.{message_octets}

-- of a message: of its own type, revision, list and NS
unfoldable pub minimal_form : List ℕ → List ℕ
minimal_form l = message_octets (type_of l) (revision_of l) (message_codes l) (ns_of l)

-- a standard field by itself: octets that are one field, well-formed, in which no position is above 511
pub record StandardField (s : List ℕ) : Type 0 where
  pub octets : AreOctets s
  pub form : field_form s 0 ≡ Fine
  pub whole : field_behind s 0 ≡ length s
  pub coded : field_coded s 0 ≡ true

-- its codes
abbrev pub standard_list : List ℕ → List ℕ
standard_list s = field_codes (field_base 2) s 0

-- and its minimal form, of these
unfoldable pub minimal_standard : List ℕ → List ℕ
minimal_standard s = written (field_base 2) (standard_list s)
