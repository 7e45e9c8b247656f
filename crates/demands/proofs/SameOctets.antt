-- Same meaning, same octets, proved.
-- Assumes nothing.
use Prim.Native.Nat.{ℕ, zero, suc}
use mathlib.Core.Bool.{Bool, true}
use mathlib.Core.List.{List, [], ◌∷◌, ◌++◌}
use mathlib.Core.Path.{◌≡◌, refl, ap}
use native.Mathlib.Omega.{arith}
use borrow.Author.Tests.{ltb-true}
use lib.Dec.{ltb}
use lib.ListN.{get_or, replicate}
use Rattle.octets.specs.Bits.{AreOctets}
use Rattle.octets.specs.Places.{both}
use Rattle.octets.proofs.Laws.{both_true}
use Rattle.tree.specs.Block.{set_bits, block_numbers, block_end}
use Rattle.tree.specs.Codes.{sub_codes, subs_behind, group_codes, group_behind, par_codes, pars_behind, rest_codes, rest_behind, field_codes, field_behind}
use Rattle.tree.specs.Fields.{is_in}
use Rattle.tree.specs.Form.{block_form, subs_form, group_form, pars_form, rest_form, field_form}
use Rattle.message.specs.Nonstandard.{ns_form, tail_form}
use Rattle.message.specs.Reader.{message_form, message_codes, read_message}
use Rattle.meaning.specs.Coded.{none_above, subs_coded, group_coded, pars_coded, field_coded}
use Rattle.meaning.specs.Minimal.{full_at_end, tight, subs_minimal, group_minimal, pars_minimal, field_minimal}
use Rattle.meaning.specs.MinimalForm.{minimal_form, minimal_standard}
use Rattle.meaning.specs.Writing.{message_octets}
use Rattle.meaning.specs.Written.{block_from, run, from, positions, marked, subs_written, lower_written, par_written, pars_written, rest_written, written}
use Rattle.meaning.proofs.MinimalForms as forms
use Rattle.meaning.proofs.Reading.{fits_coded}
use Rattle.demands.specs.SameOctets.{SameOctets}

-- each number has eight bits
unfoldable low : List ℕ → Bool
low [] = true
low (o ∷ l) = both (ltb o 256) (low l)

-- such are octets
low_octets_lem : (l : List ℕ) → low l ≡ true → AreOctets l
unfolding low
low_octets_lem [] h i k = absurd (omega arith)
low_octets_lem (o ∷ l) h zero k = ltb-true o 256 (both_true (ltb o 256) (low l) h).0
low_octets_lem (o ∷ l) h (suc i) k = low_octets_lem l (both_true (ltb o 256) (low l) h).1 i (omega arith)

pub same_octets : SameOctets
unfolding low set_bits block_numbers block_end sub_codes subs_behind group_codes group_behind par_codes pars_behind rest_codes rest_behind field_codes field_behind block_form subs_form group_form pars_form rest_form field_form is_in ns_form tail_form message_form message_codes read_message message_octets minimal_form full_at_end tight subs_minimal group_minimal pars_minimal field_minimal none_above subs_coded group_coded pars_coded field_coded minimal_standard block_from run from positions marked subs_written lower_written par_written pars_written rest_written written
same_octets =
    record {
      same_list = forms.same_list;
      forms_tell = forms.forms_tell;
      other_ns = (
        low_octets_lem (0x22 ∷ 0xc0 ∷ 0x80 ∷ 0x80 ∷ 0x80 ∷ 0x02 ∷ 0x01 ∷ 0x01 ∷ []) refl,
        low_octets_lem (0x22 ∷ 0xc0 ∷ 0x80 ∷ 0x80 ∷ 0x80 ∷ 0x02 ∷ 0x01 ∷ 0x02 ∷ []) refl,
        refl,
        refl,
        refl,
        refl,
        λ e. let z : ◌≡◌ {A = ℕ} 1 2 = ap (λ (l : List ℕ). get_or l 7 0) e in omega arith,
      );
      other_first = (
        low_octets_lem (0x24 ∷ []) refl,
        low_octets_lem (0x28 ∷ []) refl,
        refl,
        refl,
        refl,
        refl,
        λ e. let z : ◌≡◌ {A = ℕ} 0x24 0x28 = ap (λ (l : List ℕ). get_or l 0 0) e in omega arith,
      );
      form_tells = forms.form_tells;
      form_octets = forms.form_octets;
      form_shorter = forms.form_shorter;
      form_again = forms.form_again;
      form_minimal = forms.form_minimal;
      minimal_itself = forms.minimal_itself;
      one_minimal = forms.one_minimal;
      form_written = forms.form_written;
      nothing_set_lem = refl;
      needless_below = refl;
      needless_top = refl;
      same_codes = forms.same_codes;
      field_tells = forms.field_tells;
      field_shorter = forms.field_shorter;
      field_again = forms.field_again;
      field_minimal_lem = forms.field_minimal_lem;
      field_itself = forms.field_itself;
      one_minimal_field = forms.one_minimal_field;
      fits_coded = fits_coded;
      above_511 = (
        low_octets_lem (0x80 ∷ 0x81 ∷ (replicate 85 0 ++ 0xc2 ∷ [])) refl,
        refl,
        refl,
        refl,
        record { octets = low_octets_lem (0x80 ∷ 0x81 ∷ 0x40 ∷ 0x41 ∷ 0xc0 ∷ []) refl; form = refl; whole = refl; coded = refl },
        refl,
        refl,
        refl,
        λ e. let z : ◌≡◌ {A = ℕ} 0 0x40 = ap (λ (l : List ℕ). get_or l 2 0) e in omega arith,
      );
      above_511_itself = (low_octets_lem (0x80 ∷ (replicate 73 0 ++ 0x81 ∷ 0xc0 ∷ [])) refl, refl, refl, refl, refl);
    }
