-- Striking commutes with reading: the codes of a struck message are those that stay of the message's codes. Of an MS only I is struck;
-- of any other message the named codes stay. And to strike twice is to strike once.
-- Assumes nothing.
use Prim.Native.Nat.{ℕ}
use mathlib.Core.Bool.{Bool, true, false}
use mathlib.Core.List.{List, [], ◌++◌}
use mathlib.Core.Path.{◌≡◌, refl, sym, ap, ◌∙◌}
use borrow.Author.Tests.{ne_eqb}
use lib.ListN.{drop}
use Rattle.octets.specs.Bits.{AreOctets}
use Rattle.octets.specs.Places.{pick}
use Rattle.tree.specs.Codes.{field_base, field_codes}
use Rattle.tree.specs.declared.Field.TheVariants.{Identification, Standard}
use Rattle.message.specs.Kinds.{has_fields, type_of, revision_of}
use Rattle.message.specs.Reader.{standard_at, tail_at, message_codes, ns_of, accepted, read_message}
use Rattle.meaning.specs.Written.{written}
use Rattle.meaning.proofs.RoundTrip.{accepted_readable, field_back}
use Rattle.names.specs.Named.{named_code, keeps}
use Rattle.names.specs.Masks.{only}
use Rattle.names.specs.declared.Keep.TheVariants.{Named}
use Rattle.names.proofs.Sieving.{only_append, only_only, only_true}
use Rattle.strike.specs.Inner.{standard_keep}
use Rattle.strike.specs.Striking.{struck_codes, struck_form}
use Rattle.strike.proofs.Crossing.{kept_is_written}
use Rattle.strike.proofs.StruckForms.{first_stays, second_stays, first_means, second_means, struck_codes_fields, struck_codes_none, struck-fields}
use Rattle.strike.proofs.StrikingForm.{struck_is_read, struck_type, struck_revision, struck_ns}

-- ---- of what is no MS, the named codes stay

pub named_stay : (l : List ℕ) → (type_of l ≡ 1 → ⊥) → struck_codes l ≡ only named_code (message_codes l)
unfolding struck_codes message_codes only
named_stay l other = rw (ne_eqb (type_of l) 1 other) (go (has_fields (type_of l)))
  where
    a : List ℕ
    a = field_codes (field_base 1) l 1

    r : List ℕ
    r = field_codes (field_base 2) l (standard_at l)

    go : (t : Bool) → pick t (only named_code a ++ only named_code r) [] ≡ only named_code (pick t (a ++ r) [])
    go true = sym (only_append named_code a r)
    go false = refl

-- striking and reading commute: the codes of a struck CL, CLR, ACK or NAK are the named ones of its codes
pub striking_filters : (l : List ℕ) (room : ℕ) → AreOctets l → read_message l room ≡ accepted → (type_of l ≡ 1 → ⊥) → message_codes (struck_form l) ≡ only named_code (message_codes l)
striking_filters l room o e other = struck_is_read l room o e ∙ named_stay l other

-- ---- field by field

module _ (l : List ℕ) (room : ℕ) (e : read_message l room ≡ accepted) (h : has_fields (type_of l) ≡ true) where
  -- the fields of a struck message have the codes that stay
  pub struck-field-codes :
      (field_codes (field_base 1) (struck_form l) 1 ≡ first_stays l)
      × (field_codes (field_base 2) (struck_form l) (standard_at (struck_form l)) ≡ second_stays l)
  struck-field-codes =
      let few = (accepted_readable l room e).few in
      let m = struck_form l in
      let N = drop (tail_at l) l in
      let A = written (field_base 1) (first_stays l) in
      let R = written (field_base 2) (second_stays l) in
      let behind_first : drop 1 m ≡ A ++ (R ++ N) =
      ap (drop 1) (struck-fields l h room e) ∙ rw (kept_is_written Named l few Identification 1, kept_is_written (standard_keep (type_of l)) l few Standard (standard_at l)) in
      let one = field_back 1 (first_stays l) (first_means l few) m 1 (R ++ N) behind_first in
      let two = field_back 2 (second_stays l) (second_means l few) m (standard_at m) N one.1 in
      (one.0, two.0)

-- S of an MS is not struck: its codes are those that were read
pub standard_of_ms : (l : List ℕ) (room : ℕ) → read_message l room ≡ accepted → type_of l ≡ 1
    → field_codes (field_base 2) (struck_form l) (standard_at (struck_form l)) ≡ field_codes (field_base 2) l (standard_at l)
standard_of_ms l room e ms =
    let r = field_codes (field_base 2) l (standard_at l) in
    let all : only (keeps (standard_keep (type_of l))) r ≡ r = rw ms (only_true r) in
    (struck-field-codes l room e (rw ms)).1 ∙ all

-- of its I the named codes stay, as of any I
pub identification_of_any : (l : List ℕ) (room : ℕ) → read_message l room ≡ accepted → has_fields (type_of l) ≡ true
    → field_codes (field_base 1) (struck_form l) 1 ≡ only named_code (field_codes (field_base 1) l 1)
identification_of_any l room e h = (struck-field-codes l room e h).0

-- ---- twice

-- messages with the same type, revision, NS and codes that stay have one struck form
same_form : (l m : List ℕ) → type_of m ≡ type_of l → revision_of m ≡ revision_of l → struck_codes m ≡ struck_codes l → ns_of m ≡ ns_of l → struck_form m ≡ struck_form l
unfolding struck_form
same_form l m t v c n = rw (n, c, v, t)

-- striking twice is striking once
pub striking_twice : (l : List ℕ) (room : ℕ) → AreOctets l → read_message l room ≡ accepted → struck_form (struck_form l) ≡ struck_form l
striking_twice l room o e =
    same_form l (struck_form l) (struck_type l room o e) (struck_revision l room o e) (go (has_fields (type_of l)) refl) (struck_ns l room o e)
  where
    m : List ℕ
    m = struck_form l

    same : has_fields (type_of m) ≡ has_fields (type_of l)
    same = ap has_fields (struck_type l room o e)

    go : (t : Bool) → has_fields (type_of l) ≡ t → struck_codes m ≡ struck_codes l
    go true h =
        let k : standard_keep (type_of m) ≡ standard_keep (type_of l) = ap standard_keep (struck_type l room o e) in
        let c = struck-field-codes l room e h in
        let one : first_stays m ≡ first_stays l = ap (only (keeps Named)) c.0 ∙ only_only (keeps Named) (field_codes (field_base 1) l 1) in
        let two : second_stays m ≡ second_stays l = rw (k, c.1) (only_only (keeps (standard_keep (type_of l))) (field_codes (field_base 2) l (standard_at l))) in
        struck_codes_fields m (same ∙ h) ∙ rw (one, two) (sym (struck_codes_fields l h))
    go false h = struck_codes_none m (same ∙ h) ∙ sym (struck_codes_none l h)
