-- An MS as it came, with only its I struck, gives the same step as the MS itself.
-- Assumes nothing.
use Prim.Native.Nat.{ℕ, ◌+◌, ◌%◌, ◌≤◌, ◌<◌}
use mathlib.Core.Bool.{true}
use mathlib.Core.List.{List, [], ◌∷◌, ◌++◌}
use mathlib.Core.Path.{◌≡◌, refl, sym, ap, ◌∙◌}
use native.Mathlib.Omega.{arith}
use lib.ListN.{length, get_or, take, drop, length-append, length-drop}
use Rattle.octets.specs.Bits.{AreOctets}
use Rattle.tree.specs.Codes.{code_of, field_base, field_codes}
use Rattle.tree.specs.Form.{Fine, is_fine, field_form}
use Rattle.tree.specs.Fields.{is_in}
use Rattle.tree.specs.declared.Field.TheVariants.{Identification}
use Rattle.tree.proofs.Forms.{is_fine_lem, field_fits}
use Rattle.tree.proofs.Shifted.{same_codes, same_fine, same_rest}
use Rattle.message.specs.Kinds.{known, has_fields, type_of}
use Rattle.message.specs.Nonstandard.{ns_announced, tail_form}
use Rattle.message.specs.Reader.{list_room, standard_at, tail_at, message_codes, accepted, read_message}
use Rattle.message.proofs.Accepted.{Passed, accepted_passed}
use Rattle.message.proofs.Checked.{fields_fine}
use Rattle.message.proofs.Fields.{parts_fine}
use Rattle.message.proofs.Reading.{form_fields, codes_fields}
use Rattle.meaning.specs.Written.{written}
use Rattle.meaning.specs.Writing.{ns_agrees}
use Rattle.meaning.proofs.Announcing.{field_seven, tail_agrees}
use Rattle.meaning.proofs.RoundTrip.{readable_accepted, field_back}
use Rattle.names.specs.Named.{named_code}
use Rattle.names.specs.Masks.{only}
use Rattle.names.specs.declared.Keep.TheVariants.{Named}
use Rattle.names.proofs.Sieving.{in_only}
use Rattle.strike.proofs.StruckForms.{ns_named}
use Rattle.strike.proofs.Crossing.{kept_is_written, kept_means, kept_fits}
use Rattle.table.specs.declared.Phase.{Phase}
use Rattle.table.specs.declared.Settings.{Settings}
use Rattle.station.specs.Stepping.{step_of}
use Rattle.station.specs.declared.Event.TheVariants.{Field}
use Rattle.demands.specs.Untouched.{only_i_struck}
use Rattle.demands.proofs.StruckSteps.{Alike, alike_steps, named_once}

-- the codes of I that stay, and what stands behind octet 1 then
abbrev staying : List ℕ → List ℕ
staying m = only named_code (field_codes (field_base 1) m 1)

abbrev behind_first : List ℕ → List ℕ
behind_first m = written (field_base 1) (staying m) ++ drop (standard_at m) m

-- octet 1 stands before it
cut_first : (m r : List ℕ) → 0 < length m → (get_or (take 1 m ++ r) 0 0 ≡ get_or m 0 0) × (drop 1 (take 1 m ++ r) ≡ r) × (length (take 1 m ++ r) ≡ 1 + length r)
cut_first [] r h = absurd (omega arith)
cut_first (x ∷ m) r h = (refl, refl, omega arith)

module _ (m : List ℕ) (o : AreOctets m) (e : read_message m list_room ≡ accepted) (ms : type_of m ≡ 1) where
  passed : Passed m
  passed = accepted_passed m list_room e

  fields : has_fields (type_of m) ≡ true
  fields = rw ms

  fine : (field_form m 1 ≡ Fine) × (field_form m (standard_at m) ≡ Fine) × (tail_form m (tail_at m) ≡ Fine)
  fine = parts_fine m (fields_fine m list_room e fields)

  -- octet 1 is as it was
  cut : (get_or (only_i_struck m) 0 0 ≡ get_or m 0 0) × (drop 1 (only_i_struck m) ≡ behind_first m) × (length (only_i_struck m) ≡ 1 + length (behind_first m))
  unfolding only_i_struck
  cut = cut_first m (behind_first m) passed.some

  same_kind : type_of (only_i_struck m) ≡ type_of m
  same_kind = ap (λ (n : ℕ). n % 16) cut.0

  fields' : has_fields (type_of (only_i_struck m)) ≡ true
  fields' = ap has_fields same_kind ∙ fields

  -- I is read as the codes that stay
  first : (field_codes (field_base 1) (only_i_struck m) 1 ≡ staying m) × (drop (standard_at (only_i_struck m)) (only_i_struck m) ≡ drop (standard_at m) m) × (field_form (only_i_struck m) 1 ≡ Fine)
  first =
      let b = field_back 1 (staying m) (kept_means Named m passed.few Identification 1) (only_i_struck m) 1 (drop (standard_at m) m) cut.1 in
      (b.0, b.1, b.2)

  -- and S as it was
  second : field_codes (field_base 2) (only_i_struck m) (standard_at (only_i_struck m)) ≡ field_codes (field_base 2) m (standard_at m)
  second = same_codes (only_i_struck m) m (standard_at (only_i_struck m)) (standard_at m) first.1 (field_base 2)

  second_fine : field_form (only_i_struck m) (standard_at (only_i_struck m)) ≡ Fine
  second_fine = is_fine_lem _ (same_fine (only_i_struck m) m (standard_at (only_i_struck m)) (standard_at m) first.1 ∙ ap is_fine fine.1)

  -- NS is announced as before, and stands behind S as before
  announced : ns_announced m ≡ is_in (code_of 1 0 0 7) (staying m)
  announced =
      let x = code_of 1 0 0 7 in
      let kept : is_in x (staying m) ≡ is_in x (field_codes (field_base 1) m 1) = in_only named_code x (field_codes (field_base 1) m 1) ∙ rw ns_named in
      sym (kept ∙ field_seven (field_base 1) m 1)

  announced' : ns_announced (only_i_struck m) ≡ is_in (code_of 1 0 0 7) (staying m)
  announced' = sym (field_seven (field_base 1) (only_i_struck m) 1) ∙ ap (is_in (code_of 1 0 0 7)) first.0

  tail_fine : tail_form (only_i_struck m) (tail_at (only_i_struck m)) ≡ Fine
  tail_fine =
      let s = only_i_struck m in
      is_fine_lem _ (sym (tail_agrees s (staying m) (tail_at s) (field_fits s (standard_at s) second_fine).1 announced')
      ∙ ap (ns_agrees (staying m)) (same_rest s m (standard_at s) (standard_at m) first.1)
      ∙ tail_agrees m (staying m) (tail_at m) (field_fits m (standard_at m) fine.1).1 announced
      ∙ ap is_fine fine.2)

  -- it is no longer
  no_longer : length (only_i_struck m) ≤ length m
  no_longer =
      omega (
        arith,
        cut.2,
        length-append (written (field_base 1) (staying m)) (drop (standard_at m) m),
        length-drop (standard_at m) m,
        ap length (kept_is_written Named m passed.few Identification 1),
        kept_fits Named m passed.few Identification 1 o fine.0,
        field_fits m 1 fine.0,
      )

  -- so it is well-formed, and the station sees the same in it
  still_fine : read_message (only_i_struck m) list_room ≡ accepted
  still_fine =
      readable_accepted (only_i_struck m) list_room (omega arith)
      (record {
        some = omega (arith, cut.2);
        few = omega (arith, no_longer, passed.few);
        known_kind = ap known same_kind ∙ passed.kind;
        form = form_fields (only_i_struck m) fields' ∙ rw (first.2, second_fine) tail_fine;
      })

  same_named : only named_code (message_codes (only_i_struck m)) ≡ only named_code (message_codes m)
  same_named =
      rw (codes_fields (only_i_struck m) fields', codes_fields m fields, first.0, second)
      (named_once (field_codes (field_base 1) m 1) (field_codes (field_base 2) m (standard_at m)))

  pub untouched_alike : Alike (only_i_struck m) m
  untouched_alike = record { fine = still_fine; fine' = e; kind = same_kind; named = same_named; mode = λ k. second }

-- the step is the same
pub untouched_mode : (p : Phase) (set : Settings) (own run m : List ℕ) (time out_size store_size : ℕ) → AreOctets m → read_message m list_room ≡ accepted → type_of m ≡ 1
    → step_of p set own run Field (only_i_struck m) time out_size store_size ≡ step_of p set own run Field m time out_size store_size
untouched_mode p set own run m time out_size store_size o e ms = alike_steps (untouched_alike m o e ms) p set own run time out_size store_size
