-- The bench positions of the rules that speak of the station: one list, computed from the definition of a step.
-- Assumes nothing.
use Prim.Native.Nat.{ℕ}
use mathlib.Core.Bool.{true}
use mathlib.Core.List.{List, [], ◌∷◌}
use mathlib.Core.Path.{◌≡◌, refl}
use Rattle.tree.specs.Block.{set_bits, block_numbers, block_end}
use Rattle.tree.specs.Codes.{sub_codes, subs_behind, group_codes, group_behind, par_codes, pars_behind, rest_codes, rest_behind, field_codes, field_behind}
use Rattle.tree.specs.Form.{block_form, subs_form, group_form, pars_form, rest_form, field_form}
use Rattle.tree.specs.Fields.{codes_in, is_in, all_in, has_spar}
use Rattle.message.specs.Nonstandard.{ns_form, tail_form}
use Rattle.message.specs.Reader.{message_form, message_codes, read_message}
use Rattle.meaning.specs.Minimal.{full_at_end, tight, subs_minimal, group_minimal, pars_minimal, field_minimal}
use Rattle.meaning.specs.Writing.{message_octets}
use Rattle.meaning.specs.Written.{block_from, run, from, positions, marked, subs_written, lower_written, par_written, pars_written, rest_written, written}
use Rattle.names.specs.Masks.{only}
use Rattle.names.specs.Named.{printed_under, printed_at, printed_of}
use Rattle.good.specs.Good.{all_standard, good_field}
use Rattle.strike.specs.Rewriting.{kept}
use Rattle.choice.specs.Choosing.{first_suiting, choice}
use Rattle.choice.specs.Judging.{fits_some, fits_ready, verdict}
use Rattle.choice.specs.Tables.{all_inside}
use Rattle.choice.specs.Wishes.{wishes_in, good_records}
use Rattle.table.specs.declared.Phase.{Phase}
use Rattle.table.specs.declared.Phase.TheVariants.{Initial, AskedD, ListsD, Proposed, Mode}
use Rattle.station.specs.Sending.{offer_codes, sent_field, sent_mode}
use Rattle.station.specs.Acting.{Outcome, quiet, sends, far_list, far_offer, asks_ack, stored_list, stored_mode}
use Rattle.station.specs.Stepping.{timed, checked, step_of}
use Rattle.station.specs.declared.Event.TheVariants.{Field}
use Rattle.demands.specs.PositionsProved.{settings}

-- the wish of the bench is the own table too
abbrev field : List ℕ
field = 0x80 ∷ 0x81 ∷ 0x02 ∷ 0xd0 ∷ []

abbrev wish : List ℕ
wish = 0x01 ∷ 0x04 ∷ field

-- the CL of the listing example, which offers V.8, and the MS that the wish gives
abbrev list : List ℕ
list = 0x22 ∷ 0x81 ∷ 0x80 ∷ 0x80 ∷ 0xa1 ∷ 0x02 ∷ 0xd0 ∷ 0xc0 ∷ []

abbrev mode : List ℕ
mode = 0x21 ∷ 0x89 ∷ 0x80 ∷ 0x80 ∷ 0x81 ∷ 0x02 ∷ 0xd0 ∷ []

-- a field is heard in a phase, so many milliseconds after 0
abbrev hears : Phase → List ℕ → ℕ → Outcome
hears phase m time = step_of phase settings field wish Field m time 128 64

pub record Positions : Type 0 where
  -- to the CL the MS is sent, 5000 milliseconds after entry too; then the time is out
  pub proposed : hears (ListsD 0) list 20 ≡ sends mode [] (0x80 ∷ 0xa1 ∷ 0x02 ∷ 0xd0 ∷ 0xc0 ∷ []) (Proposed 20 1 true)
  pub in_time : hears (ListsD 0) list 5000 ≡ sends mode [] (0x80 ∷ 0xa1 ∷ 0x02 ∷ 0xd0 ∷ 0xc0 ∷ []) (Proposed 5000 1 true)
  pub late : hears (ListsD 0) list 5001 ≡ quiet 6 (Initial 5001)
  -- that MS is acknowledged; one that the wish does not hold is NAK(3)
  pub acknowledged : hears (AskedD 0) mode 20 ≡ sends (0x24 ∷ []) [] field (Mode 20 0 true)
  pub refused : hears (AskedD 0) (0x21 ∷ 0x80 ∷ 0x80 ∷ 0x80 ∷ 0x81 ∷ 0x02 ∷ 0xd8 ∷ []) 20 ≡ sends (0x2a ∷ []) [] [] (Initial 20)

pub bench : Positions
unfolding set_bits block_numbers block_end sub_codes subs_behind group_codes group_behind par_codes pars_behind rest_codes rest_behind field_codes field_behind block_form subs_form group_form pars_form rest_form field_form codes_in is_in all_in has_spar ns_form tail_form message_form message_codes read_message full_at_end tight subs_minimal group_minimal pars_minimal field_minimal message_octets block_from run from positions marked subs_written lower_written par_written pars_written rest_written written only printed_under printed_at printed_of all_standard good_field kept first_suiting choice fits_some fits_ready verdict all_inside wishes_in good_records offer_codes sent_field sent_mode far_list far_offer asks_ack stored_list stored_mode timed checked step_of
bench = record { proposed = refl; in_time = refl; late = refl; acknowledged = refl; refused = refl }
