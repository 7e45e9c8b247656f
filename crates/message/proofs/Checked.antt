-- What an answer of `check_message` tells of the message: how the message reader judges it, and, where it is well-formed, of which type it is and how its parts lie.
-- Assumes nothing.
use Prim.Native.Nat.{ℕ, zero, suc, ◌-◌, ◌<◌, ◌≤◌}
use mathlib.Core.Path.{◌≡◌, refl, sym, ap, ◌∙◌}
use mathlib.Core.Bool.{Bool, true, false}
use mathlib.Core.List.{List}
use native.Mathlib.Omega.{arith}
use lib.ListN.{length, take, drop, length-drop, drop_of_length-le}
use lib.Seq.{take_all}
use Rattle.tree.specs.Form.{Fine}
use Rattle.octets.specs.Places.{pick}
use Rattle.message.specs.Check.{Finding, check_told, check_reply, check_message}
use Rattle.message.specs.Kinds.{has_fields, type_of, type_number}
use Rattle.message.specs.Nonstandard.{ns_announced}
use Rattle.tree.specs.Fields.{most_octets}
use Rattle.message.specs.Reader.{list_room, standard_at, tail_at, message_form, ns_place, ns_size, Reading, refused, accepted, read_message}
use Rattle.std.specs.Prelude.{Result, Ok, Err}
use Rattle.message.specs.declared.MessageFault.{MessageFault}
use Rattle.message.specs.declared.MessageFault.TheVariants.{BadSize, UnknownType, Malformed}
use Rattle.message.specs.declared.Parts.{Parts}
use Rattle.message.proofs.Accepted.{Passed, accepted_passed, never_zero}
use Rattle.message.proofs.Fields.{whole, parts_fine, parts_fit, nothing_behind}
use Rattle.message.proofs.Reading.{form_fields}

-- the reading of a number: 0 is success
abbrev reading_of : ℕ → Reading
reading_of zero = accepted
reading_of (suc k) = refused (suc k)

-- an answer's number tells how the message is judged
reading_told : (l : List ℕ) (r : Result Parts MessageFault) → check_told r ≡ check_message l → read_message l list_room ≡ reading_of (check_told r).no
unfolding check_message
reading_told l r t = go (read_message l list_room) (never_zero l list_room) ∙ ap (λ (f : Finding). reading_of f.no) (sym t)
  where
    go : (x : Reading) → (x ≡ refused 0 → ⊥) → x ≡ reading_of (check_reply x l).no
    go (refused zero) n = absurd (n refl)
    go (refused (suc k)) n = refl
    go accepted n = refl

-- a refusal's is the reader's
pub fault_refused : (l : List ℕ) (f : MessageFault) → check_told (Err f) ≡ check_message l → read_message l list_room ≡ refused (check_told (Err f)).no
fault_refused l BadSize = reading_told l (Err BadSize)
fault_refused l UnknownType = reading_told l (Err UnknownType)
fault_refused l Malformed = reading_told l (Err Malformed)

-- ---- a well-formed message with fields

module _ (l : List ℕ) (room : ℕ) (e : read_message l room ≡ accepted) (h : has_fields (type_of l) ≡ true) where
  pub fields_fine : whole l ≡ Fine
  fields_fine = sym (form_fields l h) ∙ (accepted_passed l room e).form

  -- its NS is all that stands behind S: nothing where none is announced
  pub ns_behind : take (ns_size l) (drop (ns_place l) l) ≡ drop (tail_at l) l
  ns_behind = rw h (go (ns_announced l) refl)
    where
      go : (t : Bool) → ns_announced l ≡ t → take (pick t (length l - tail_at l) 0) (drop (pick t (tail_at l) 0) l) ≡ drop (tail_at l) l
      go true a = take_all (length l - tail_at l) (drop (tail_at l) l) (omega (arith, length-drop (tail_at l) l))
      go false a = sym (drop_of_length-le l {i = tail_at l} (omega (arith, nothing_behind l (tail_at l) a (parts_fine l fields_fine).2)))

-- ---- a message that is found well-formed

module _ (l : List ℕ) (p : Parts) (t : check_told (Ok p) ≡ check_message l) where
  pub parted_accepted : read_message l list_room ≡ accepted
  parted_accepted = reading_told l (Ok p) t

  found : check_told (Ok p) ≡ check_reply accepted l
  unfolding check_message
  found = rw parted_accepted at t

  pub kind_told : type_number p.kind ≡ type_of l
  kind_told = ap (λ (f : Finding). f.kind) found

  pub standard_told : p.standard ≡ standard_at l
  standard_told = ap (λ (f : Finding). f.standard) found

  pub tail_told : p.tail ≡ tail_at l
  tail_told = ap (λ (f : Finding). f.tail) found

  passed : Passed l
  passed = accepted_passed l list_room parted_accepted

  pub form_fine : message_form l ≡ Fine
  form_fine = passed.form

  pub some_octet : 0 < length l
  some_octet = passed.some

  pub few_octets : length l ≤ most_octets
  few_octets = passed.few

  -- with fields: what is behind S begins within the octets
  module _ (h : has_fields (type_of l) ≡ true) where
    parts : whole l ≡ Fine
    parts = fields_fine l list_room parted_accepted h

    pub tail_within : tail_at l ≤ length l
    tail_within = (parts_fit l parts).1
