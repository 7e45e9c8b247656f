-- Same meaning, same octets: the minimal form of a message that the reader accepts is accepted, means the same in no more octets, and is
-- its own minimal form; and so it is with a standard field. Two that mean the same have the same one.
-- Assumes nothing.
use Prim.Native.Nat.{ℕ, ◌-◌, ◌/◌, ◌%◌, ◌≤◌}
use mathlib.Core.Bool.{true}
use mathlib.Core.List.{List, [], append-nil}
use mathlib.Core.Logic.{◌↔◌}
use mathlib.Core.Path.{◌≡◌, sym, ap, ◌∙◌}
use native.Mathlib.Omega.{arith}
use lib.ListN.{length, get_or, take, drop}
use lib.Seq.{take_all}
use Rattle.octets.specs.Bits.{AreOctets}
use Rattle.tree.specs.Codes.{field_base, field_behind}
use Rattle.tree.specs.Form.{field_form}
use Rattle.message.specs.Kinds.{type_of, revision_of}
use Rattle.message.specs.Reader.{list_room, message_codes, ns_place, ns_size, ns_of, accepted, read_message}
use Rattle.meaning.specs.Coded.{field_coded}
use Rattle.meaning.specs.Minimal.{field_minimal, message_minimal}
use Rattle.meaning.specs.MinimalForm.{minimal_form, StandardField, standard_list, minimal_standard}
use Rattle.meaning.specs.Written.{written}
use Rattle.meaning.specs.Writing.{sent, write_message}
use Rattle.meaning.proofs.Growing.{written_tree}
use Rattle.meaning.proofs.Minimals.{never_longer, minimal_same_coded, same_minimal_coded}
use Rattle.meaning.proofs.Reading.{ReadsCoded, tree_read_coded, tree_at, tree_codes_lem, tree_coded}
use Rattle.meaning.proofs.RoundTrip.{sent_writable, read_can_be_written, written_is_read, written_is_minimal, part_octets, tree_octets_lem, written_is_octets, minimal_said_twice}
use Rattle.meaning.proofs.Trees.{tree_codes, tree_octets, GoodTree}

-- ---- messages

module _ (l : List ℕ) (room : ℕ) (o : AreOctets l) (h : read_message l room ≡ accepted) where
  -- it is what is written of what was read, and never longer than the message
  written_form : (room' : ℕ) → 64 ≤ room'
      → (write_message (type_of l) (revision_of l) (message_codes l) (ns_of l) room' ≡ sent (minimal_form l)) × (length (minimal_form l) ≤ length l)
  unfolding minimal_form
  written_form room' k =
      let x = read_can_be_written l room room' o h k in
      let s = sent_writable (type_of l) (revision_of l) (message_codes l) (ns_of l) room' x.0 x.1 in
      (x.1 ∙ ap sent (sym s.octets), rw s.octets x.2)

  pub form_written : (room' : ℕ) → 64 ≤ room' → write_message (type_of l) (revision_of l) (message_codes l) (ns_of l) room' ≡ sent (minimal_form l)
  form_written room' k = (written_form room' k).0

  pub form_shorter : length (minimal_form l) ≤ length l
  form_shorter = (written_form 64 (omega arith)).1

  -- it is accepted, and tells the same
  pub form_tells : (room' : ℕ) → list_room ≤ room'
      → (read_message (minimal_form l) room' ≡ accepted) × (type_of (minimal_form l) ≡ type_of l) × (revision_of (minimal_form l) ≡ revision_of l)
      × (message_codes (minimal_form l) ≡ message_codes l) × (ns_of (minimal_form l) ≡ ns_of l)
  form_tells room' k = written_is_read (type_of l) (revision_of l) (message_codes l) (ns_of l) 64 room' (minimal_form l) (form_written 64 (omega arith)) k

  -- it is octets, and minimal
  pub form_octets : AreOctets (minimal_form l)
  form_octets = written_is_octets (type_of l) (revision_of l) (message_codes l) (ns_of l) 64 (minimal_form l) (part_octets (ns_size l) (ns_place l) l o) (form_written 64 (omega arith))

  pub form_minimal : message_minimal (minimal_form l) ≡ true
  form_minimal = written_is_minimal (type_of l) (revision_of l) (message_codes l) (ns_of l) 64 (minimal_form l) (form_written 64 (omega arith))

-- those that tell the same have the same minimal form
same_form : (l m : List ℕ) → type_of l ≡ type_of m → revision_of l ≡ revision_of m → message_codes l ≡ message_codes m → ns_of l ≡ ns_of m → minimal_form l ≡ minimal_form m
unfolding minimal_form
same_form l m k r c n = rw (n, c, k, r)

module _ (l : List ℕ) (room : ℕ) (o : AreOctets l) (h : read_message l room ≡ accepted) where
  -- so it is its own
  pub form_again : minimal_form (minimal_form l) ≡ minimal_form l
  form_again = let t = form_tells l room o h list_room (omega arith) in same_form (minimal_form l) l t.1 t.2 t.3 t.4

  -- a message is minimal exactly if it is its own
  pub minimal_itself : (message_minimal l ≡ true) ↔ (minimal_form l ≡ l)
  minimal_itself =
      let m = minimal_said_twice l room 64 o h (omega arith) in
      let w = form_written l room o h 64 (omega arith) in
      (λ t. let e = sym w ∙ m.0 t in cc, λ e. m.1 (w ∙ ap sent e))

module _ (l m : List ℕ) (room : ℕ) (o : AreOctets l) (p : AreOctets m) (h : read_message l room ≡ accepted) (k : read_message m room ≡ accepted) where
  -- equal minimal forms tell the same first octet, list and NS
  pub forms_tell : minimal_form l ≡ minimal_form m → (get_or l 0 0 ≡ get_or m 0 0) × (message_codes l ≡ message_codes m) × (ns_of l ≡ ns_of m)
  forms_tell e =
      let t = form_tells l room o h list_room (omega arith) in
      let u = form_tells m room p k list_room (omega arith) in
      let kind : type_of l ≡ type_of m = sym t.1 ∙ ap type_of e ∙ u.1 in
      let revision : revision_of l ≡ revision_of m = sym t.2 ∙ ap revision_of e ∙ u.2 in
      (omega arith, sym t.3 ∙ ap message_codes e ∙ u.3, sym t.4 ∙ ap ns_of e ∙ u.4)

  -- and of two messages with the same first octet and NS equal lists give equal ones
  pub same_list : get_or l 0 0 ≡ get_or m 0 0 → ns_of l ≡ ns_of m → (message_codes l ≡ message_codes m) ↔ (minimal_form l ≡ minimal_form m)
  same_list f n = (λ c. same_form l m (ap (λ (x : ℕ). x % 16) f) (ap (λ (x : ℕ). x / 16) f) c n, λ e. (forms_tell e).1)

  -- so two minimal ones that tell the same are one
  pub one_minimal : message_minimal l ≡ true → message_minimal m ≡ true → get_or l 0 0 ≡ get_or m 0 0 → message_codes l ≡ message_codes m → ns_of l ≡ ns_of m → l ≡ m
  one_minimal a b f c n = sym ((minimal_itself l room o h).0 a) ∙ (same_list f n).0 c ∙ (minimal_itself m room p k).0 b

-- ---- standard fields

module _ (s : List ℕ) (h : StandardField s) where
  good : GoodTree (tree_at s 0)
  good = tree_coded s 0 h.coded

  -- the minimal form is the octets of the field's tree
  form_tree : minimal_standard s ≡ tree_octets (tree_at s 0)
  unfolding minimal_standard
  form_tree = rw (tree_codes_lem (field_base 2) s 0) at (written_tree (field_base 2) (tree_at s 0) good)

  -- read by itself
  form_read : let f = minimal_standard s in
      ReadsCoded (standard_list f) (tree_codes (field_base 2) (tree_at s 0)) (field_behind f 0) 0 (tree_octets (tree_at s 0)) (field_form f 0) (field_minimal f 0) (field_coded f 0)
  form_read =
      rw form_tree (tree_read_coded (field_base 2) (tree_at s 0) (tree_octets (tree_at s 0)) 0 [] good (sym (append-nil (tree_octets (tree_at s 0)))))

  -- it is such a field, of the same codes
  pub field_tells : StandardField (minimal_standard s) × (standard_list (minimal_standard s) ≡ standard_list s)
  field_tells = (
    record {
      octets = rw form_tree (tree_octets_lem (tree_at s 0) good);
      form = form_read.fine;
      whole = omega (arith, form_read.next, ap length form_tree);
      coded = form_read.low;
    },
    form_read.told ∙ tree_codes_lem (field_base 2) s 0,
  )

  -- never longer
  pub field_shorter : length (minimal_standard s) ≤ length s
  field_shorter = omega (arith, never_longer s h.octets 0 h.form, h.whole, ap length form_tree)

  -- minimal
  pub field_minimal_lem : field_minimal (minimal_standard s) 0 ≡ true
  field_minimal_lem = form_read.tight

  -- and its own minimal form
  pub field_again : minimal_standard (minimal_standard s) ≡ minimal_standard s
  unfolding minimal_standard
  field_again = ap (written (field_base 2)) field_tells.1

  -- a field is minimal exactly if it is its own
  pub field_itself : (field_minimal s 0 ≡ true) ↔ (minimal_standard s ≡ s)
  field_itself =
      let all : take (field_behind s 0 - 0) (drop 0 s) ≡ s = take_all (field_behind s 0 - 0) s (omega (arith, h.whole)) in
      (λ m. form_tree ∙ sym (minimal_same_coded s 0 h.coded h.octets h.form m) ∙ all, λ e. same_minimal_coded s 0 h.coded (all ∙ sym e ∙ form_tree))

-- two fields have the same codes exactly if their minimal forms are equal
pub same_codes : (s t : List ℕ) → StandardField s → StandardField t → (standard_list s ≡ standard_list t) ↔ (minimal_standard s ≡ minimal_standard t)
unfolding minimal_standard
same_codes s t h k = (ap (written (field_base 2)), λ e. sym (field_tells s h).1 ∙ ap standard_list e ∙ (field_tells t k).1)

-- so two minimal ones of the same codes are one
pub one_minimal_field : (s t : List ℕ) → StandardField s → StandardField t → field_minimal s 0 ≡ true → field_minimal t 0 ≡ true → standard_list s ≡ standard_list t → s ≡ t
one_minimal_field s t h k a b c = sym ((field_itself s h).0 a) ∙ (same_codes s t h k).0 c ∙ (field_itself t k).0 b
