-- Two messages that differ in their revision only are struck alike and answered alike; that they are read alike stands with the reader.
-- Assumes nothing.
use Prim.Native.Nat.{ℕ, zero, suc, ◌-◌, ◌<◌, ◌≤◌}
use mathlib.Core.Bool.{Bool, true, false}
use mathlib.Core.List.{List, ◌∷◌}
use mathlib.Core.Path.{◌≡◌, refl, sym, ap, ◌∙◌}
use native.Mathlib.Omega.{arith}
use lib.Dec.{eqb}
use lib.ListN.{length, get_or, take, drop}
use Rattle.octets.specs.Places.{pick}
use Rattle.tree.specs.Codes.{field_base, field_codes}
use Rattle.tree.proofs.Forms.{field_fits}
use Rattle.message.specs.Kinds.{has_fields, type_of}
use Rattle.message.specs.Nonstandard.{ns_announced}
use Rattle.tree.specs.Fields.{most_octets}
use Rattle.message.specs.Reader.{list_room, standard_at, tail_at, ns_place, ns_size, Reading, refused, accepted, read_message}
use Rattle.message.proofs.Accepted.{accepted_passed}
use Rattle.message.proofs.Checked.{fields_fine}
use Rattle.message.proofs.Fields.{parts_fine}
use Rattle.message.proofs.Revision.{same_reading, same_codes, same_ns}
use Rattle.meaning.specs.Writing.{message_octets}
use Rattle.names.specs.Named.{named_code}
use Rattle.names.specs.Masks.{only}
use Rattle.strike.specs.Striking.{struck_codes, struck_form}
use Rattle.table.specs.declared.Phase.{Phase}
use Rattle.table.specs.declared.Heard.TheVariants as heard
use Rattle.table.specs.declared.Settings.{Settings}
use Rattle.station.specs.Sorting.{known, strange, sort_of}
use Rattle.station.specs.Stepping.{sorted, timed, checked, step_of}
use Rattle.station.specs.declared.Event.TheVariants.{Field}
use Rattle.demands.proofs.StepLines.{heard_blind}
use Rattle.demands.proofs.StruckSteps.{Alike, same_fields, alike_steps}

-- a message, and one of the same type with another octet 1
module _ (o o' : ℕ) (l : List ℕ) (q : type_of (o ∷ l) ≡ type_of (o' ∷ l)) where
  abbrev m : List ℕ
  m = o ∷ l

  abbrev m' : List ℕ
  m' = o' ∷ l

  module _ (e : read_message m list_room ≡ accepted) where
    e' : read_message m' list_room ≡ accepted
    e' = sym (same_reading o o' q l list_room) ∙ e

    few : length m ≤ most_octets
    few = (accepted_passed m list_room e).few

    fields_alike : has_fields (type_of m) ≡ true
        → (field_codes (field_base 1) m 1 ≡ field_codes (field_base 1) m' 1) × (field_codes (field_base 2) m (standard_at m) ≡ field_codes (field_base 2) m' (standard_at m'))
    fields_alike h = same_fields m m' few few h (ap has_fields (sym q) ∙ h) (same_codes o o' q l)

    pub revisions_alike : Alike m m'
    revisions_alike =
        record {
          fine = e;
          fine' = e';
          kind = q;
          named = ap (only named_code) (same_codes o o' q l);
          mode = λ ms. (fields_alike (rw ms)).1;
        }

    -- ---- struck

    -- behind octet 1 the octets are the same
    part_alike : (n at : ℕ) → 0 < at → take n (drop at m) ≡ take n (drop at m')
    part_alike n zero h = absurd (omega arith)
    part_alike n (suc at) h = refl

    -- so are those of NS
    ns_alike : has_fields (type_of m) ≡ true → take (ns_size m) (drop (ns_place m) m) ≡ take (ns_size m') (drop (ns_place m') m')
    ns_alike h =
        let s = same_ns o o' q l in
        let f = parts_fine m (fields_fine m list_room e h) in
        let inside = (field_fits m (standard_at m) f.1).0 in
        rw (← s.0, ← s.1, h) (go (ns_announced m) (omega arith))
      where
        go : (t : Bool) → 0 < tail_at m → take (pick t (length m - tail_at m) 0) (drop (pick t (tail_at m) 0) m) ≡ take (pick t (length m - tail_at m) 0) (drop (pick t (tail_at m) 0) m')
        go true b = part_alike (length m - tail_at m) (tail_at m) b
        go false b = refl

    -- and the codes that stay
    stays_alike : has_fields (type_of m) ≡ true → struck_codes m ≡ struck_codes m'
    unfolding struck_codes
    stays_alike h = let f = fields_alike h in rw (q, f.0, f.1)

    -- the struck forms are the same behind octet 1, which each keeps
    pub revisions_struck : (drop 1 (struck_form m) ≡ drop 1 (struck_form m')) × (get_or (struck_form m) 0 0 ≡ o) × (get_or (struck_form m') 0 0 ≡ o')
    unfolding struck_form message_octets
    revisions_struck = (go (has_fields (type_of m)) refl, omega arith, omega arith)
      where
        go : (t : Bool) → has_fields (type_of m) ≡ t → drop 1 (struck_form m) ≡ drop 1 (struck_form m')
        go true h = rw (stays_alike h, ns_alike h, q)
        go false h = let h' : has_fields (type_of m') ≡ false = ap has_fields (sym q) ∙ h in rw (h, h')

  -- ---- answered

  module _ (p : Phase) (set : Settings) (own run : List ℕ) (time out_size store_size : ℕ) where
    -- what is refused is not looked at
    refused_alike : (k : ℕ) → read_message m list_room ≡ refused k → sorted (sort_of Field m) p set own run m time ≡ sorted (sort_of Field m') p set own run m' time
    refused_alike k r = rw (← same_reading o o' q l list_room, r) (go (eqb k 3))
      where
        go : (t : Bool) → sorted (pick t strange (known heard.Spoilt)) p set own run m time ≡ sorted (pick t strange (known heard.Spoilt)) p set own run m' time
        go true = refl
        go false = heard_blind p set own run m m' time heard.Spoilt refl

    -- well-formed or not, they lead to the same step
    pub revisions_answered : step_of p set own run Field m time out_size store_size ≡ step_of p set own run Field m' time out_size store_size
    unfolding step_of checked timed
    revisions_answered = go (read_message m list_room) refl
      where
        go : (x : Reading) → read_message m list_room ≡ x → step_of p set own run Field m time out_size store_size ≡ step_of p set own run Field m' time out_size store_size
        go (refused k) r = rw (refused_alike k r)
        go accepted e = alike_steps (revisions_alike e) p set own run time out_size store_size
