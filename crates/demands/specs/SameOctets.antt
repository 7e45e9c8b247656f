-- To be believed: same meaning, same octets (RULES, Minimal form 3 to 5). Whoever compares two messages, or two standard fields, by the
-- octets of their minimal forms compares what they mean.
-- Assumes nothing.
use Rattle.std.specs.Prelude.{ℕ, ◌≤◌, true, false, List, [], ◌∷◌, ◌++◌, ◌↔◌, ◌≡◌, length, get_or, replicate}
use Rattle.octets.specs.Bits.{AreOctets}
use Rattle.tree.specs.Codes.{field_behind}
use Rattle.tree.specs.Form.{Fine, field_form}
use Rattle.tree.specs.Wide.{field_fits}
use Rattle.message.specs.Kinds.{type_of, revision_of}
use Rattle.message.specs.Reader.{message_codes, ns_of, accepted, read_message}
use Rattle.meaning.specs.Coded.{field_coded}
use Rattle.meaning.specs.Minimal.{field_minimal, message_minimal}
use Rattle.meaning.specs.MinimalForm.{minimal_form, StandardField, standard_list, minimal_standard}
use Rattle.meaning.specs.Writing.{sent, write_message}
use Rattle.demands.specs.Returning.{Tells}

pub record SameOctets : Type 0 where
  -- Messages: two that the reader accepts, of the same first octet and the same NS, have the same list exactly if their minimal forms are
  -- equal octet for octet
  pub same_list : (l m : List ℕ) (room : ℕ) → AreOctets l → AreOctets m → read_message l room ≡ accepted → read_message m room ≡ accepted
      → get_or l 0 0 ≡ get_or m 0 0 → ns_of l ≡ ns_of m → (message_codes l ≡ message_codes m) ↔ (minimal_form l ≡ minimal_form m)
  -- whatever their first octets and NS are, equal minimal forms give equal lists; and the same first octet and NS
  pub forms_tell : (l m : List ℕ) (room : ℕ) → AreOctets l → AreOctets m → read_message l room ≡ accepted → read_message m room ≡ accepted
      → minimal_form l ≡ minimal_form m → (get_or l 0 0 ≡ get_or m 0 0) × (message_codes l ≡ message_codes m) × (ns_of l ≡ ns_of m)
  -- the other way fails where NS differs: 22 C0 80 80 80 02 01 01 and 22 C0 80 80 80 02 01 02 have the same first octet and list
  pub other_ns : let l : List ℕ = 0x22 ∷ 0xc0 ∷ 0x80 ∷ 0x80 ∷ 0x80 ∷ 0x02 ∷ 0x01 ∷ 0x01 ∷ [] in
      let m : List ℕ = 0x22 ∷ 0xc0 ∷ 0x80 ∷ 0x80 ∷ 0x80 ∷ 0x02 ∷ 0x01 ∷ 0x02 ∷ [] in
      AreOctets l × AreOctets m × (read_message l 448 ≡ accepted) × (read_message m 448 ≡ accepted)
      × (get_or l 0 0 ≡ get_or m 0 0) × (message_codes l ≡ message_codes m) × (minimal_form l ≡ minimal_form m → ⊥)
  -- and where the first octet does: 24, an ACK(1), and 28, a NAK(1), have neither list nor NS
  pub other_first : let l : List ℕ = 0x24 ∷ [] in let m : List ℕ = 0x28 ∷ [] in
      AreOctets l × AreOctets m × (read_message l 448 ≡ accepted) × (read_message m 448 ≡ accepted)
      × (message_codes l ≡ message_codes m) × (ns_of l ≡ ns_of m) × (minimal_form l ≡ minimal_form m → ⊥)
  -- The minimal form of a message is accepted, and has its type, revision, list and NS
  pub form_tells : (l : List ℕ) (room : ℕ) → AreOctets l → read_message l room ≡ accepted → (room' : ℕ) → 448 ≤ room'
      → Tells (minimal_form l) room' (type_of l) (revision_of l) (message_codes l) (ns_of l)
  -- it is octets, at most as many as the message has
  pub form_octets : (l : List ℕ) (room : ℕ) → AreOctets l → read_message l room ≡ accepted → AreOctets (minimal_form l)
  pub form_shorter : (l : List ℕ) (room : ℕ) → AreOctets l → read_message l room ≡ accepted → length (minimal_form l) ≤ length l
  -- its own minimal form is itself
  pub form_again : (l : List ℕ) (room : ℕ) → AreOctets l → read_message l room ≡ accepted → minimal_form (minimal_form l) ≡ minimal_form l
  -- it is minimal by the words of the rules, and a message is its own minimal form exactly if it is that
  pub form_minimal : (l : List ℕ) (room : ℕ) → AreOctets l → read_message l room ≡ accepted → message_minimal (minimal_form l) ≡ true
  pub minimal_itself : (l : List ℕ) (room : ℕ) → AreOctets l → read_message l room ≡ accepted → (message_minimal l ≡ true) ↔ (minimal_form l ≡ l)
  -- so two minimal messages of one first octet, list and NS are the same octets
  pub one_minimal : (l m : List ℕ) (room : ℕ) → AreOctets l → AreOctets m → read_message l room ≡ accepted → read_message m room ≡ accepted
      → message_minimal l ≡ true → message_minimal m ≡ true → get_or l 0 0 ≡ get_or m 0 0 → message_codes l ≡ message_codes m → ns_of l ≡ ns_of m → l ≡ m
  -- the message writer makes it of what the message reader tells
  pub form_written : (l : List ℕ) (room : ℕ) → AreOctets l → read_message l room ≡ accepted → (room' : ℕ) → 64 ≤ room'
      → write_message (type_of l) (revision_of l) (message_codes l) (ns_of l) room' ≡ sent (minimal_form l)
  -- Three messages of one minimal form: nothing set in SPar(2); an octet too many in NPar(2); one too many in NPar(1) of I
  pub nothing_set_lem : minimal_form (0x22 ∷ 0x80 ∷ 0x80 ∷ 0x80 ∷ 0x81 ∷ 0x40 ∷ 0xc0 ∷ []) ≡ 0x22 ∷ 0x80 ∷ 0x80 ∷ 0x80 ∷ 0x81 ∷ 0xc0 ∷ []
  pub needless_below : minimal_form (0x22 ∷ 0x80 ∷ 0x80 ∷ 0x80 ∷ 0x81 ∷ 0x00 ∷ 0xc0 ∷ []) ≡ 0x22 ∷ 0x80 ∷ 0x80 ∷ 0x80 ∷ 0x81 ∷ 0xc0 ∷ []
  pub needless_top : minimal_form (0x22 ∷ 0x00 ∷ 0x80 ∷ 0x80 ∷ 0x80 ∷ 0x81 ∷ 0xc0 ∷ []) ≡ 0x22 ∷ 0x80 ∷ 0x80 ∷ 0x80 ∷ 0x81 ∷ 0xc0 ∷ []
  -- Standard fields of any length: two have the same codes exactly if their minimal forms are equal octet for octet
  pub same_codes : (s t : List ℕ) → StandardField s → StandardField t → (standard_list s ≡ standard_list t) ↔ (minimal_standard s ≡ minimal_standard t)
  -- the minimal form of one is such a field, of the same codes
  pub field_tells : (s : List ℕ) → StandardField s → StandardField (minimal_standard s) × (standard_list (minimal_standard s) ≡ standard_list s)
  -- in at most as many octets
  pub field_shorter : (s : List ℕ) → StandardField s → length (minimal_standard s) ≤ length s
  -- its own minimal form is itself
  pub field_again : (s : List ℕ) → StandardField s → minimal_standard (minimal_standard s) ≡ minimal_standard s
  -- it is minimal by the words of the rules, and a field is its own minimal form exactly if it is that
  pub field_minimal_lem : (s : List ℕ) → StandardField s → field_minimal (minimal_standard s) 0 ≡ true
  pub field_itself : (s : List ℕ) → StandardField s → (field_minimal s 0 ≡ true) ↔ (minimal_standard s ≡ s)
  -- so two minimal fields of the same codes are the same octets
  pub one_minimal_field : (s t : List ℕ) → StandardField s → StandardField t → field_minimal s 0 ≡ true → field_minimal t 0 ≡ true → standard_list s ≡ standard_list t → s ≡ t
  -- a field that passes the test for positions above 511 has none
  pub fits_coded : (s : List ℕ) (at : ℕ) → field_fits s at ≡ true → field_coded s at ≡ true
  -- with one above 511 it fails: 80 81, 85 times 00 and C2, with position 512, and 80 81 40 41 C0 are both well-formed and minimal, and
  -- have the same codes; so the first is minimal, and not its own minimal form
  pub above_511 : let s : List ℕ = 0x80 ∷ 0x81 ∷ (replicate 85 0 ++ 0xc2 ∷ []) in let t : List ℕ = 0x80 ∷ 0x81 ∷ 0x40 ∷ 0x41 ∷ 0xc0 ∷ [] in
      AreOctets s × (field_form s 0 ≡ Fine) × (field_behind s 0 ≡ length s) × (field_minimal s 0 ≡ true)
      × StandardField t × (field_minimal t 0 ≡ true) × (standard_list s ≡ standard_list t) × (minimal_standard s ≡ t) × (s ≡ t → ⊥)
  -- and what is its own minimal form may still have one: 80, 73 times 00 and 81 C0, with position 512 of SPar(1)
  pub above_511_itself : let s : List ℕ = 0x80 ∷ (replicate 73 0 ++ 0x81 ∷ 0xc0 ∷ []) in
      AreOctets s × (field_form s 0 ≡ Fine) × (field_behind s 0 ≡ length s) × (minimal_standard s ≡ s) × (field_coded s 0 ≡ false)
