-- From the checks of a message, in their order, to what it is found to be.
-- Assumes nothing.
use Prim.Native.Nat.{ℕ, ◌<◌, ◌≤◌}
use mathlib.Core.Path.{◌≡◌, refl, sym, ap, ◌∙◌}
use mathlib.Core.Bool.{true, false}
use mathlib.Core.List.{List, [], ◌∷◌}
use native.Mathlib.Omega.{arith}
use lib.ListN.{length}
use Rattle.tree.specs.Block.{block_numbers, block_end}
use Rattle.tree.specs.Codes.{pars_behind, rest_behind, field_behind}
use Rattle.tree.specs.Promises.{TellsEnd}
use Rattle.tree.specs.Form.{Form, Fine, Early, Wrong, Left, BadLength, told, and_then, is_fine, field_form}
use Rattle.tree.proofs.Forms.{is_fine_lem, and_bad, form_in_lem, field_fits, end_none, end_some}
use Rattle.message.specs.Check.{no_finding, check_told, check_message}
use Rattle.message.specs.Nonstandard.{tail_form}
use Rattle.message.specs.Kinds.{known, has_fields, type_of, type_number}
use Rattle.tree.specs.Fields.{most_octets}
use Rattle.message.specs.Reader.{list_room, standard_at, tail_at, refused, accepted, judged, read_message}
use Rattle.std.specs.Prelude.{Result, Ok, Err, Some, None, is_err}
use Rattle.tree.specs.declared.Fault.{Fault}
use Rattle.message.specs.declared.MessageFault.{MessageFault}
use Rattle.message.specs.declared.MessageFault.TheVariants.{Malformed}
use Rattle.message.specs.declared.MessageType.{MessageType}
use Rattle.message.specs.declared.Parts.{Parts}
use Rattle.message.proofs.Fields.{whole}
use Rattle.message.proofs.Reading.{by_form, judged_bad, form_fields}

-- a refusal gives its number
pub refusal_found : (l : List ℕ) (k : ℕ) (r : Result Parts MessageFault) → read_message l list_room ≡ refused k → check_told r ≡ no_finding k → check_told r ≡ check_message l
unfolding check_message
refusal_found l k r e t = rw e t

-- a well-formed message gives its type and where its parts begin
pub parts_found : (l : List ℕ) (p : Parts) → read_message l list_room ≡ accepted → type_number p.kind ≡ type_of l → p.standard ≡ standard_at l → p.tail ≡ tail_at l
    → check_told (Ok p) ≡ check_message l
unfolding check_message
parts_found l p e k s t = rw (e, k, s, t)

-- the parts of a message of one octet begin where it ends
pub parts_of_one : (l : List ℕ) → length l ≡ 1 → (1 ≡ standard_at l) × (1 ≡ tail_at l)
unfolding field_behind rest_behind pars_behind block_numbers block_end
parts_of_one [] h = absurd (omega arith)
parts_of_one (o ∷ []) h = (refl, refl)
parts_of_one (o ∷ x ∷ l) h = absurd (omega arith)

-- a form that is told as an error is bad, and another is fine
bad_form : (f : Form) → is_err (told {A = Unit {0}} f tt) ≡ true → is_fine f ≡ false
bad_form Fine h = cc
bad_form (Early i) h = refl
bad_form (Wrong i) h = refl
bad_form (Left i) h = refl
bad_form (BadLength i) h = refl

good_form : (f : Form) → is_err (told {A = Unit {0}} f tt) ≡ false → f ≡ Fine
good_form Fine h = refl
good_form (Early i) h = cc
good_form (Wrong i) h = cc
good_form (Left i) h = cc
good_form (BadLength i) h = cc

-- what is checked before the form of its fields
abbrev pub Due : List ℕ → Type 0
Due l = (0 < length l) × (length l ≤ most_octets) × (known (type_of l) ≡ true) × (has_fields (type_of l) ≡ true)

-- which decides
module _ (l : List ℕ) (due : Due l) where
  judged_whole : read_message l list_room ≡ judged (whole l)
  judged_whole = by_form l list_room (omega arith) (λ e. omega arith) due.1 due.2 ∙ ap judged (form_fields l due.3)

  broken_found : is_fine (whole l) ≡ false → check_told (Err Malformed) ≡ check_message l
  broken_found b = refusal_found l 4 (Err Malformed) (judged_whole ∙ judged_bad (whole l) b) refl

  -- a field that ends nowhere is broken, and so is the message; else the field is fine
  ends_nowhere : (at : ℕ) → TellsEnd l at None → (g : Form) → is_fine (and_then (field_form l at) g) ≡ false
  ends_nowhere at t g =
      let b : is_fine (field_form l at) ≡ false = ap is_fine (sym (form_in_lem l at due.1)) ∙ end_none l at t in
      ap is_fine (and_bad (field_form l at) g b) ∙ b

  ends : (at : ℕ) {r : ℕ} → TellsEnd l at (Some r) → field_form l at ≡ Fine
  ends at t = is_fine_lem (field_form l at) (ap is_fine (sym (form_in_lem l at due.1)) ∙ (end_some l at t).0)

  pub first_broken : TellsEnd l 1 None → check_told (Err Malformed) ≡ check_message l
  first_broken t = broken_found (ends_nowhere 1 t _)

  module _ {i : ℕ} (t : TellsEnd l 1 (Some i)) where
    standard_is_lem : i ≡ standard_at l
    standard_is_lem = (end_some l 1 t).1

    pub first_fits : 1 < length l
    first_fits = omega (arith, field_fits l 1 (ends 1 t))

    pub second_broken : TellsEnd l i None → check_told (Err Malformed) ≡ check_message l
    second_broken u = broken_found (rw (ends 1 t) (ends_nowhere (standard_at l) (rw standard_is_lem at u) _))

    -- what is behind S decides
    module _ {j : ℕ} (u : TellsEnd l i (Some j)) where
      second : TellsEnd l (standard_at l) (Some j)
      second = rw standard_is_lem at u

      tail_is_lem : j ≡ tail_at l
      tail_is_lem = (end_some l (standard_at l) second).1

      whole_is : whole l ≡ tail_form l j
      whole_is = rw (ends 1 t, ends (standard_at l) second) (ap (tail_form l) (sym tail_is_lem))

      pub tail_broken : {r : Result (Unit {0}) Fault} → r ≡ told (tail_form l j) tt → is_err r ≡ true → check_told (Err Malformed) ≡ check_message l
      tail_broken e b = broken_found (ap is_fine whole_is ∙ bad_form (tail_form l j) (rw e at b))

      pub all_fine : (kind : MessageType) → type_number kind ≡ type_of l → {r : Result (Unit {0}) Fault} → r ≡ told (tail_form l j) tt → is_err r ≡ false → check_told (Ok (record { kind = kind; standard = i; tail = j })) ≡ check_message l
      all_fine kind k e f = parts_found l _ (judged_whole ∙ ap judged (whole_is ∙ good_form (tail_form l j) (rw e at f))) k standard_is_lem tail_is_lem
