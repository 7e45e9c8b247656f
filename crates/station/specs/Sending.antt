-- To be believed: what a station sends (RULES, Own table, wishes, choice), messages of revision 2, said by their codes and written
-- in minimal form.
-- Assumes nothing.
use Rattle.std.specs.Prelude.{ℕ, ◌+◌, Bool, true, false, not, List, [], ◌∷◌, ◌++◌, take, drop}
use Rattle.tree.specs.Codes.{code_of}
use Rattle.octets.specs.Places.{both}
use Rattle.message.specs.Kinds.{ms, ack1}
use Rattle.meaning.specs.Writing.{message_octets}
use Rattle.choice.specs.Wishes.{standard_codes}
use Rattle.choice.specs.declared.Pick.{Pick}
use Rattle.table.specs.declared.Settings.{Settings}
use Rattle.station.specs.declared.Offer.{Offer}
use Rattle.station.specs.declared.FarOffer.{FarOffer}

abbrev pub sent_revision : ℕ
sent_revision = 2

-- what the identification field says (V.8 bis Table 5-1): V.8 is 1.0.0.1, Short V.8 1.0.0.2, Transmit ACK(1) 1.0.0.4
abbrev pub code_if : Bool → ℕ → List ℕ → List ℕ
code_if true c l = c ∷ l
code_if false c l = l

unfoldable pub offer_codes : Offer → List ℕ
offer_codes o = code_if o.v8 (code_of 1 0 0 1) (code_if o.short_v8 (code_of 1 0 0 2) (code_if o.ack (code_of 1 0 0 4) []))

-- an MS, a CL or a CLR with an offer and standard codes
unfoldable pub sent_field : ℕ → Offer → List ℕ → List ℕ
sent_field kind offer codes = message_octets kind sent_revision (offer_codes offer ++ codes) []

-- ACK(1), and NAK(1) to NAK(3)
abbrev pub sent_ack : List ℕ
sent_ack = message_octets ack1 sent_revision [] []

abbrev pub sent_nak : ℕ → List ℕ
sent_nak k = message_octets (7 + k) sent_revision [] []

-- a CL or a CLR carries the V.8 and Short V.8 settings, and the own table
abbrev pub list_offer : Settings → Offer
list_offer settings = record { v8 = settings.v8; short_v8 = settings.short_v8; ack = false }

unfoldable pub sent_list : ℕ → Settings → List ℕ → List ℕ
sent_list kind settings own = sent_field kind (list_offer settings) (standard_codes own)

-- what the far side offers, where no list of it was heard
abbrev pub no_offer : FarOffer
no_offer = record { v8 = false; short_v8 = false }

-- an MS sets Short V.8 if both offer it, else V.8 if both do, else neither; and whether ACK(1) is asked
abbrev pub mode_offer : Settings → FarOffer → Offer
mode_offer settings far =
    record {
      v8 = both (not (both settings.short_v8 far.short_v8)) (both settings.v8 far.v8);
      short_v8 = both settings.short_v8 far.short_v8;
      ack = settings.ack;
    }

-- the MS of the wish that was chosen
unfoldable pub sent_mode : Settings → FarOffer → List ℕ → Pick → List ℕ
sent_mode settings far wishes p = sent_field ms (mode_offer settings far) (standard_codes (take p.length (drop p.at wishes)))
