-- The bench positions of the rules that speak of wishes, with the ways in which tables are bad: one list, computed from the definitions.
-- Assumes nothing.
use Prim.Native.Nat.{ℕ, zero, suc}
use mathlib.Core.Path.{◌≡◌, refl}
use mathlib.Core.List.{List, [], ◌∷◌, ◌++◌}
use lib.ListN.{replicate}
use Rattle.tree.specs.Block.{set_bits, block_numbers, block_end}
use Rattle.tree.specs.Codes.{sub_codes, subs_behind, group_codes, group_behind, par_codes, pars_behind, rest_codes, rest_behind, field_codes, field_behind}
use Rattle.tree.specs.Form.{block_form, subs_form, group_form, pars_form, rest_form, field_form}
use Rattle.tree.specs.Fields.{codes_in, is_in, all_in, has_spar}
use Rattle.tree.specs.Wide.{low_fits, field_fits, codes_wide}
use Rattle.tree.specs.declared.Field.TheVariants.{Standard}
use Rattle.meaning.specs.Minimal.{full_at_end, tight, subs_minimal, group_minimal, pars_minimal, field_minimal}
use Rattle.names.specs.Named.{printed_under, printed_at, printed_of}
use Rattle.good.specs.Good.{all_standard, good_field}
use Rattle.choice.specs.Wishes.{wishes_in, wishes_of, standard_codes, good_records}
use Rattle.choice.specs.Tables.{all_inside, tables_no}
use Rattle.choice.specs.Choosing.{far_codes, unheard, chosen, refused, first_suiting, choice}
use Rattle.choice.specs.Judging.{fits_some, fits_ready, verdict}
use Rattle.choice.specs.declared.Pick.{Pick}

-- the wish of the bench, as an own table and as a record, ready and not
abbrev field : List ℕ
field = 0x80 ∷ 0x81 ∷ 0x02 ∷ 0xd0 ∷ []

abbrev ready_wish : List ℕ
ready_wish = 0x01 ∷ 0x04 ∷ field

abbrev other_wish : List ℕ
other_wish = 0x00 ∷ 0x04 ∷ field

-- as many records of the ready wish
abbrev repeated : ℕ → List ℕ
repeated zero = []
repeated (suc k) = ready_wish ++ repeated k

-- an own table that holds the wish and more, one with nothing set, and the CL of the listing example, whose S is at place 3
abbrev wide : List ℕ
wide = 0x80 ∷ 0xa1 ∷ 0x02 ∷ 0xd0 ∷ 0xc0 ∷ []

abbrev nothing : List ℕ
nothing = 0x80 ∷ 0x80 ∷ []

abbrev far : List ℕ
far = 0x22 ∷ 0x81 ∷ 0x80 ∷ 0x80 ∷ 0xa1 ∷ 0x02 ∷ 0xd0 ∷ 0xc0 ∷ []

-- the wish's field with so many octets and a last one more in its NPar(2)
abbrev long : ℕ → ℕ → List ℕ
long more last = 0x80 ∷ 0x81 ∷ 0x02 ∷ 0x10 ∷ (replicate more 0 ++ last ∷ [])

-- the wish with this number, its field at a place of the run
abbrev one : ℕ → ℕ → Pick
one number at = record { number = number; at = at; length = 4 }

-- the verdict on the MS with these octets, whose S is at place 3
abbrev judged : List ℕ → List ℕ → ℕ
judged s run = verdict (codes_in Standard s 3) (wishes_of run)

pub record Positions : Type 0 where
  -- the wish in an own table that holds it, and none at all; the most wishes
  pub good : tables_no field ready_wish ≡ 0
  pub good_wide : tables_no wide ready_wish ≡ 0
  pub no_wish : tables_no nothing [] ≡ 0
  pub sixteen : tables_no field (repeated 16) ≡ 0
  -- an own table of no octets; a seventeenth record, a flag of 2, an octet behind the last record, no SPar(1); a wish outside, not ready either
  pub bad_own : tables_no [] ready_wish ≡ 2
  pub seventeen : tables_no field (repeated 17) ≡ 3
  pub flag : tables_no field (0x02 ∷ 0x04 ∷ field) ≡ 3
  pub behind : tables_no field (ready_wish ++ (0x00 ∷ [])) ≡ 3
  pub no_spar : tables_no field (0x01 ∷ 0x02 ∷ nothing) ≡ 3
  pub outside : tables_no nothing other_wish ≡ 4
  -- the choice for the far list: the first that is ready; none is where the own table or the far list lacks it
  pub first : choice (standard_codes wide) (far_codes far 3) ready_wish ≡ chosen (one 1 2)
  pub second : choice (standard_codes wide) (far_codes far 3) (other_wish ++ ready_wish) ≡ chosen (one 2 8)
  pub unready : choice (standard_codes wide) (far_codes far 3) other_wish ≡ refused 11
  pub not_own : choice (standard_codes nothing) (far_codes far 3) ready_wish ≡ refused 11
  pub not_far : choice (standard_codes wide) (far_codes nothing 0) ready_wish ≡ refused 11
  -- a far field of 68 octets that has it, and one of 88 with position 512 besides
  pub long_far : choice (standard_codes wide) (far_codes (long 63 0xc0) 0) ready_wish ≡ chosen (one 1 2)
  pub too_far : choice (standard_codes wide) (far_codes (long 83 0xc2) 0) ready_wish ≡ refused 11
  pub unlisted : choice [] unheard ready_wish ≡ chosen (one 1 2)
  -- MS 21 80 80 80 81 02 D8 is NAK(3), and 21 89 80 80 81 02 D0 is accepted; to a wish not ready NAK(2)
  pub no_fit : judged (0x21 ∷ 0x80 ∷ 0x80 ∷ 0x80 ∷ 0x81 ∷ 0x02 ∷ 0xd8 ∷ []) ready_wish ≡ 3
  pub accepted : judged (0x21 ∷ 0x89 ∷ 0x80 ∷ 0x80 ∷ 0x81 ∷ 0x02 ∷ 0xd0 ∷ []) ready_wish ≡ 0
  pub not_ready : judged (0x21 ∷ 0x89 ∷ 0x80 ∷ 0x80 ∷ 0x81 ∷ 0x02 ∷ 0xd0 ∷ []) other_wish ≡ 2
  pub empty : judged (0x21 ∷ 0x89 ∷ 0x80 ∷ 0x80 ∷ 0x80 ∷ []) ready_wish ≡ 3

pub positions : Positions
unfolding set_bits block_numbers block_end sub_codes subs_behind group_codes group_behind par_codes pars_behind rest_codes rest_behind field_codes field_behind block_form subs_form group_form pars_form rest_form field_form codes_in is_in all_in has_spar low_fits field_fits codes_wide full_at_end tight subs_minimal group_minimal pars_minimal field_minimal printed_under printed_at printed_of all_standard good_field wishes_in good_records all_inside tables_no first_suiting choice fits_some fits_ready verdict
positions =
    record {
      good = refl;
      good_wide = refl;
      no_wish = refl;
      sixteen = refl;
      bad_own = refl;
      seventeen = refl;
      flag = refl;
      behind = refl;
      no_spar = refl;
      outside = refl;
      first = refl;
      second = refl;
      unready = refl;
      not_own = refl;
      not_far = refl;
      long_far = refl;
      too_far = refl;
      unlisted = refl;
      no_fit = refl;
      accepted = refl;
      not_ready = refl;
      empty = refl;
    }
