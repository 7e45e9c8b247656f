-- A message struck: its parts, field by field, as they are put; that the message writer writes it; and that it is no longer.
-- Assumes nothing.
use Prim.Native.Nat.{ℕ, ◌+◌, ◌≤◌}
use mathlib.Core.Bool.{Bool, true, false}
use mathlib.Core.List.{List, [], ◌∷◌, ◌++◌}
use mathlib.Core.Logic.{⊎_elim}
use mathlib.Core.Path.{◌≡◌, refl, sym, ap, ◌∙◌}
use native.Mathlib.Omega.{arith}
use lib.Dec.{eqb}
use lib.ListN.{length, get_or, drop, length-append, length-drop}
use Rattle.octets.specs.Bits.{AreOctets}
use Rattle.octets.specs.Places.{pick}
use Rattle.tree.specs.Codes.{code_of, field_base, field_codes, of_f}
use Rattle.tree.specs.Form.{is_fine, field_form}
use Rattle.tree.specs.Fields.{is_in}
use Rattle.tree.specs.declared.Field.TheVariants.{Identification, Standard}
use Rattle.tree.specs.Form.{Fine}
use Rattle.tree.proofs.Forms.{field_fits}
use Rattle.message.specs.Kinds.{has_fields, type_of, revision_of, first_octet}
use Rattle.message.specs.Nonstandard.{ns_announced, tail_form}
use Rattle.message.specs.Reader.{standard_at, tail_at, ns_of, accepted, read_message}
use Rattle.message.proofs.Fields.{parts_fine, parts_fit}
use Rattle.message.proofs.Checked.{fields_fine, ns_behind}
use Rattle.meaning.specs.Meaning.{all_shaped, ascending, all_parented}
use Rattle.meaning.specs.Written.{run, from}
use Rattle.meaning.specs.Writing.{sent, ns_agrees, message_octets, write_message, Writable}
use Rattle.meaning.proofs.Growing.{within_at, in_either, in_front}
use Rattle.meaning.proofs.Meanings.{Meant, between_within, meaning_join}
use Rattle.meaning.proofs.Announcing.{field_seven, tail_agrees}
use Rattle.meaning.proofs.RoundTrip.{writable_sent, accepted_readable}
use Rattle.names.specs.Named.{printed_under, printed_at, printed_of, named_code, keeps}
use Rattle.names.specs.Masks.{only}
use Rattle.names.specs.declared.Keep.TheVariants.{All, Named}
use Rattle.names.proofs.Sieving.{only_true, in_only}
use Rattle.strike.specs.Inner.{field_kept, standard_keep}
use Rattle.strike.specs.Striking.{struck_codes, struck_form}
use Rattle.strike.proofs.Crossing.{kept_is_written, kept_means, kept_fits}

-- what stays of S, by the message's type
standard_stays : (kind : ℕ) (r : List ℕ) → pick (eqb kind 1) r (only named_code r) ≡ only (keeps (standard_keep kind)) r
standard_stays kind r = go (eqb kind 1)
  where
    go : (t : Bool) → pick t r (only named_code r) ≡ only (keeps (pick t All Named)) r
    go true = sym (only_true r)
    go false = refl

-- octet 1 comes back from its type and revision
first_same : (l : List ℕ) → first_octet (type_of l) (revision_of l) ≡ get_or l 0 0
first_same l = omega arith

-- the codes of I and of S that stay
abbrev pub first_stays : List ℕ → List ℕ
first_stays l = only (keeps Named) (field_codes (field_base 1) l 1)

abbrev pub second_stays : List ℕ → List ℕ
second_stays l = only (keeps (standard_keep (type_of l))) (field_codes (field_base 2) l (standard_at l))

-- the code that announces NS is named
pub ns_named : named_code (code_of 1 0 0 7) ≡ true
unfolding printed_under printed_at printed_of
ns_named = refl

-- a number that is not in the second of two lists is in both exactly if it is in the first
in_first_only : (x : ℕ) (a r : List ℕ) → (is_in x r ≡ true → ⊥) → is_in x (a ++ r) ≡ is_in x a
in_first_only x a r absent = go (is_in x a) refl (is_in x (a ++ r)) refl
  where
    go : (t : Bool) → is_in x a ≡ t → (u : Bool) → is_in x (a ++ r) ≡ u → u ≡ t
    go true e u d = sym d ∙ in_front x a r e
    go false e true d = ⊎_elim (λ m. sym m ∙ e) (λ m. absurd (absent m)) (in_either x a r d)
    go false e false d = refl

-- ---- a message with fields

module _ (l : List ℕ) (short : length l ≤ 64) where
  -- what stays of each field is a meaning's
  pub first_means : Meant (field_base 1) (first_stays l)
  first_means = kept_means Named l short Identification 1

  pub second_means : Meant (field_base 2) (second_stays l)
  second_means = kept_means (standard_keep (type_of l)) l short Standard (standard_at l)

  -- and together it is a meaning, which is cut into the two fields again
  stays-means :
      (all_shaped (first_stays l ++ second_stays l) ≡ true) × (ascending (first_stays l ++ second_stays l) ≡ true)
      × (all_parented (first_stays l ++ second_stays l) (first_stays l ++ second_stays l) ≡ true)
      × (run (field_base 2) (first_stays l ++ second_stays l) ≡ first_stays l) × (from (field_base 2) (first_stays l ++ second_stays l) ≡ second_stays l)
  stays-means = meaning_join (first_stays l) (second_stays l) first_means second_means

  -- it announces NS as before
  still_announced : ns_announced l ≡ is_in (code_of 1 0 0 7) (first_stays l ++ second_stays l)
  still_announced =
      let x = code_of 1 0 0 7 in
      let a = field_codes (field_base 1) l 1 in
      let kept : is_in x (first_stays l) ≡ is_in x a = in_only (keeps Named) x a ∙ rw ns_named in
      let range = between_within (field_base 2) (field_base 2 + of_f) (second_stays l) second_means.codes in
      let absent : is_in x (second_stays l) ≡ true → ⊥ = λ m. let h = within_at x (field_base 2 + 1) (field_base 2 + of_f) (second_stays l) range m in omega arith in
      sym (in_first_only x (first_stays l) (second_stays l) absent ∙ kept ∙ field_seven (field_base 1) l 1)

module _ (l : List ℕ) (h : has_fields (type_of l) ≡ true) where
  -- the codes that stay are those of the two fields
  pub struck_codes_fields : struck_codes l ≡ first_stays l ++ second_stays l
  unfolding struck_codes
  struck_codes_fields = rw (h, standard_stays (type_of l) (field_codes (field_base 2) l (standard_at l)))

  module _ (room : ℕ) (e : read_message l room ≡ accepted) where
    few : length l ≤ 64
    few = (accepted_readable l room e).few

    -- each part is well-formed
    pub parts_well : (field_form l 1 ≡ Fine) × (field_form l (standard_at l) ≡ Fine) × (tail_form l (tail_at l) ≡ Fine)
    parts_well = parts_fine l (fields_fine l room e h)

    -- octet 1, each field with what is kept of it, and what stands behind S
    pub struck-fields :
        struck_form l
        ≡ get_or l 0 0 ∷ (field_kept Named (field_base 1) l 1 ++ (field_kept (standard_keep (type_of l)) (field_base 2) l (standard_at l) ++ drop (tail_at l) l))
    unfolding struck_form message_octets
    struck-fields =
        let m = stays-means l few in
        rw (struck_codes_fields, ns_behind l room e h, first_same l, m.3, m.4, kept_is_written Named l few Identification 1, kept_is_written (standard_keep (type_of l)) l few Standard (standard_at l))
        (rw h)

    -- each part is no longer than it was
    pub parts_fit_struck : AreOctets l
        → (1 + length (field_kept Named (field_base 1) l 1) ≤ standard_at l)
        × (length (field_kept (standard_keep (type_of l)) (field_base 2) l (standard_at l)) + standard_at l ≤ tail_at l) × (tail_at l ≤ length l)
    parts_fit_struck o =
        let one = kept_fits Named l few Identification 1 o parts_well.0 in
        let two = kept_fits (standard_keep (type_of l)) l few Standard (standard_at l) o parts_well.1 in
        let x = field_fits l 1 parts_well.0 in
        let y = field_fits l (standard_at l) parts_well.1 in
        (omega arith, omega arith, y.1)

    -- so the whole is
    fields_shorter : AreOctets l → length (struck_form l) ≤ length l
    fields_shorter o =
        let A = field_kept Named (field_base 1) l 1 in
        let R = field_kept (standard_keep (type_of l)) (field_base 2) l (standard_at l) in
        let p = parts_fit_struck o in
        rw struck-fields (rw (length-append A, length-append R, length-drop (tail_at l) l) (omega arith))

    -- and meets all that the message writer asks for
    fields_writable : AreOctets l → (room' : ℕ) → 64 ≤ room' → Writable (type_of l) (revision_of l) (struck_codes l) (ns_of l) room' (struck_form l)
    fields_writable o room' s =
        let a = accepted_readable l room e in
        let m = stays-means l few in
        let agrees : ns_agrees (struck_codes l) (ns_of l) ≡ true =
        rw (struck_codes_fields, ns_behind l room e h)
        (tail_agrees l (first_stays l ++ second_stays l) (tail_at l) (parts_fit l (fields_fine l room e h)).1 (still_announced l few) ∙ ap is_fine parts_well.2) in
        record {
          space = s;
          known_kind = a.known_kind;
          low = (let x = o 0 a.some in omega arith);
          shapes = rw struck_codes_fields m.0;
          up = rw struck_codes_fields m.1;
          parents = rw struck_codes_fields m.2;
          ends = rw h;
          agrees = agrees;
          few = (let x = fields_shorter o in omega (arith, a.few));
          octets = (unfold struck_form in refl);
        }

-- ---- a message without

module _ (l : List ℕ) (h : has_fields (type_of l) ≡ false) where
  -- it has no codes
  pub struck_codes_none : struck_codes l ≡ []
  unfolding struck_codes
  struck_codes_none = rw h

  -- and is octet 1
  pub struck_one : struck_form l ≡ get_or l 0 0 ∷ []
  unfolding struck_form message_octets
  struck_one = rw (h, first_same l)

  -- which the message writer writes
  one_writable : (room : ℕ) → read_message l room ≡ accepted → AreOctets l → (room' : ℕ) → 64 ≤ room'
      → Writable (type_of l) (revision_of l) (struck_codes l) (ns_of l) room' (struck_form l)
  unfolding message_octets ns_agrees is_in all_shaped all_parented
  one_writable room e o room' s =
      let a = accepted_readable l room e in
      rw (struck_codes_none, struck_one, h) (record {
        space = s;
        known_kind = a.known_kind;
        low = (let x = o 0 a.some in omega arith);
        shapes = refl;
        up = refl;
        parents = refl;
        ends = rw h;
        agrees = refl;
        few = omega arith;
        octets = rw (h, first_same l);
      })

-- ---- any message

module _ (l : List ℕ) (room : ℕ) (o : AreOctets l) (e : read_message l room ≡ accepted) where
  struck_writable : (room' : ℕ) → 64 ≤ room' → Writable (type_of l) (revision_of l) (struck_codes l) (ns_of l) room' (struck_form l)
  struck_writable room' s = go (has_fields (type_of l)) refl
    where
      go : (t : Bool) → has_fields (type_of l) ≡ t → Writable (type_of l) (revision_of l) (struck_codes l) (ns_of l) room' (struck_form l)
      go true h = fields_writable l h room e o room' s
      go false h = one_writable l h room e o room' s

  -- the struck form is what the message writer makes of what stays
  pub struck_is_written : (room' : ℕ) → 64 ≤ room' → write_message (type_of l) (revision_of l) (struck_codes l) (ns_of l) room' ≡ sent (struck_form l)
  struck_is_written room' s = writable_sent (type_of l) (revision_of l) (struck_codes l) (ns_of l) room' (struck_form l) (struck_writable room' s)

  -- and is no longer than the message
  pub struck_is_no_longer : length (struck_form l) ≤ length l
  struck_is_no_longer = go (has_fields (type_of l)) refl
    where
      go : (t : Bool) → has_fields (type_of l) ≡ t → length (struck_form l) ≤ length l
      go true h = fields_shorter l h room e o
      go false h = rw (struck_one l h) (omega (arith, (accepted_readable l room e).some))
