-- A struck message is a well-formed message again: minimal, of octets, with the type, the revision and the NS that it had. That it is no
-- longer than before stands with its parts (StruckForms).
-- Assumes nothing.
use Prim.Native.Nat.{ℕ, ◌≤◌}
use mathlib.Core.Bool.{true}
use mathlib.Core.List.{List}
use mathlib.Core.Path.{◌≡◌}
use native.Mathlib.Omega.{arith}
use Rattle.octets.specs.Bits.{AreOctets}
use Rattle.message.specs.Kinds.{type_of, revision_of}
use Rattle.message.specs.Reader.{list_room, message_codes, ns_place, ns_size, ns_of, accepted, read_message}
use Rattle.meaning.specs.Minimal.{message_minimal}
use Rattle.meaning.proofs.RoundTrip.{written_is_read, written_is_minimal, part_octets, written_is_octets}
use Rattle.strike.specs.Striking.{struck_codes, struck_form}
use Rattle.strike.proofs.StruckForms.{struck_is_written}

module _ (l : List ℕ) (room : ℕ) (o : AreOctets l) (e : read_message l room ≡ accepted) where
  back : (room' : ℕ) → list_room ≤ room'
      → (read_message (struck_form l) room' ≡ accepted) × (type_of (struck_form l) ≡ type_of l) × (revision_of (struck_form l) ≡ revision_of l)
      × (message_codes (struck_form l) ≡ struck_codes l) × (ns_of (struck_form l) ≡ ns_of l)
  back room' h = written_is_read (type_of l) (revision_of l) (struck_codes l) (ns_of l) 64 room' (struck_form l) (struck_is_written l room o e 64 (omega arith)) h

  -- it is accepted
  pub struck_is_well_formed : (room' : ℕ) → list_room ≤ room' → read_message (struck_form l) room' ≡ accepted
  struck_is_well_formed room' h = (back room' h).0

  -- it is minimal
  pub struck_is_minimal : message_minimal (struck_form l) ≡ true
  struck_is_minimal = written_is_minimal (type_of l) (revision_of l) (struck_codes l) (ns_of l) 64 (struck_form l) (struck_is_written l room o e 64 (omega arith))

  -- it is octets
  pub struck_is_octets : AreOctets (struck_form l)
  struck_is_octets =
      written_is_octets (type_of l) (revision_of l) (struck_codes l) (ns_of l) 64 (struck_form l) (part_octets (ns_size l) (ns_place l) l o) (struck_is_written l room o e 64 (omega arith))

  -- it is of the same type
  pub struck_type : type_of (struck_form l) ≡ type_of l
  struck_type = (back list_room (omega arith)).1

  -- and the same revision
  pub struck_revision : revision_of (struck_form l) ≡ revision_of l
  struck_revision = (back list_room (omega arith)).2

  -- and has the same NS
  pub struck_ns : ns_of (struck_form l) ≡ ns_of l
  struck_ns = (back list_room (omega arith)).4

  -- read, it gives the codes that stay
  pub struck_is_read : message_codes (struck_form l) ≡ struck_codes l
  struck_is_read = (back list_room (omega arith)).3
