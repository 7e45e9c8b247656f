-- To be believed: the octets of a message, what becomes of a list that is to be written (RULES, Message reader and writer), by the
-- rules' numbers, and what that leaves in an output.
-- Assumes nothing.
use Rattle.std.specs.Prelude.{ℕ, ◌≤◌, Bool, true, false, not, List, [], ◌∷◌, ◌++◌, ◌≡◌, ltb, length}
use Rattle.octets.specs.Lay.{put}
use Rattle.octets.specs.Places.{pick}
use Rattle.tree.specs.Codes.{code_of, field_base}
use Rattle.tree.specs.Form.{is_fine}
use Rattle.tree.specs.Fields.{is_in, most_octets}
use Rattle.message.specs.Kinds.{known, has_fields, first_octet}
use Rattle.message.specs.Nonstandard.{ns_form}
use Rattle.meaning.specs.Meaning.{all_shaped, ascending, all_parented}
use Rattle.meaning.specs.Written.{run, from, written}

-- a refusal's number, or the octets of the message
pub data Writing : Type 0 where
  refused : ℕ → Writing
  sent : List ℕ → Writing

abbrev pub refused_if : Bool → ℕ → Writing → Writing
refused_if true k w = refused k
refused_if false k w = w

abbrev pub is_empty : List ℕ → Bool
is_empty [] = true
is_empty (x ∷ l) = false

-- an ACK or a NAK has neither list nor NS
abbrev pub ends_there : ℕ → List ℕ → List ℕ → Bool
ends_there kind list ns = pick (has_fields kind) true (pick (is_empty list) (is_empty ns) false)

-- NS is well-formed and announced by code 1.0.0.7, or there is neither
unfoldable pub ns_agrees : List ℕ → List ℕ → Bool
ns_agrees list ns =
    pick (is_empty ns)
    (not (is_in (code_of 1 0 0 7) list))
    (pick (is_fine (ns_form (length ns) ns 0)) (is_in (code_of 1 0 0 7) list) false)

-- octet 1, and of MS, CL and CLR the fields: the codes of I stand below 2.0.0.0
unfoldable pub message_octets : ℕ → ℕ → List ℕ → List ℕ → List ℕ
message_octets kind revision list ns =
    first_octet kind revision
    ∷ pick (has_fields kind)
    (written (field_base 1) (run (field_base 2) list) ++ (written (field_base 2) (from (field_base 2) list) ++ ns))
    []

-- 10
abbrev pub unless_long : List ℕ → Writing
unless_long os = refused_if (ltb most_octets (length os)) 10 (sent os)

-- 8, 9, 10
unfoldable pub checked_writing : ℕ → ℕ → List ℕ → List ℕ → Writing
checked_writing kind revision list ns =
    refused_if (not (ends_there kind list ns)) 8
    (refused_if (not (ns_agrees list ns)) 9
    (unless_long (message_octets kind revision list ns)))

-- 5, 6, 7, each over the whole list, and then the others
unfoldable pub list_writing : ℕ → ℕ → List ℕ → List ℕ → Writing
list_writing kind revision list ns =
    refused_if (not (all_shaped list)) 5
    (refused_if (not (ascending list)) 6
    (refused_if (not (all_parented list list)) 7
    (checked_writing kind revision list ns)))

-- 1, 3, and then the others
unfoldable pub write_message : ℕ → ℕ → List ℕ → List ℕ → ℕ → Writing
write_message kind revision list ns room =
    refused_if (ltb room most_octets) 1
    (refused_if (not (known kind)) 3
    (refused_if (ltb 15 revision) 3
    (list_writing kind revision list ns)))

-- all that the writer asks for, and the octets that it gives
pub record Writable (kind revision : ℕ) (list ns : List ℕ) (room : ℕ) (os : List ℕ) : Type 0 where
  pub space : 64 ≤ room
  pub known_kind : known kind ≡ true
  pub low : revision ≤ 15
  pub shapes : all_shaped list ≡ true
  pub up : ascending list ≡ true
  pub parents : all_parented list list ≡ true
  pub ends : ends_there kind list ns ≡ true
  pub agrees : ns_agrees list ns ≡ true
  pub few : length os ≤ 64
  pub octets : message_octets kind revision list ns ≡ os

-- a reply: the rules' number, 0 for success, and the number of octets
pub record Reply : Type 0 where
  pub no : ℕ
  pub count : ℕ

-- what a writing tells
abbrev pub write_reply : Writing → Reply
write_reply (refused k) = record { no = k; count = 0 }
write_reply (sent os) = record { no = 0; count = length os }

-- the output: a refusal writes nothing, success only the message's octets
abbrev pub write_leaves : Writing → List ℕ → List ℕ
write_leaves (refused k) out = out
write_leaves (sent os) out = put os out
