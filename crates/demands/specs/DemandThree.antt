-- To be believed: demand 3. A newer board can't confuse an older one: a message and its struck form give the same answer, octets, store
-- and next state; a mode with an unnamed parameter is refused; and the revision of a message decides nothing.
-- Assumes nothing.
use Rattle.std.specs.Prelude.{ℕ, ◌≤◌, true, false, Result, List, [], ◌∷◌, ◌⊎◌, ◌≡◌, length, get_or, drop}
use Rattle.octets.specs.Bits.{AreOctets}
use Rattle.octets.specs.Lay.{put}
use Rattle.tree.specs.Codes.{field_base, field_codes}
use Rattle.tree.specs.Fields.{is_in}
use Rattle.message.specs.Kinds.{has_fields, type_of, revision_of}
use Rattle.message.specs.Reader.{standard_at, message_codes, ns_place, ns_size, ns_of, accepted, read_message}
use Rattle.meaning.specs.Minimal.{message_minimal}
use Rattle.names.specs.Named.{named_code}
use Rattle.names.specs.Masks.{only}
use Rattle.strike.specs.Striking.{struck_form, struck_told, Strikes}
use Rattle.strike.specs.declared.StrikeRefusal.{StrikeRefusal}
use Rattle.table.specs.declared.Phase.{Phase}
use Rattle.table.specs.declared.Phase.TheVariants.{Initial}
use Rattle.table.specs.declared.Heard.TheVariants as heard
use Rattle.table.specs.declared.Act.TheVariants.{Judge}
use Rattle.table.specs.declared.Settings.{Settings}
use Rattle.table.specs.declared.State.{State}
use Rattle.station.specs.Acting.{sends}
use Rattle.station.specs.Stepping.{step_of}
use Rattle.station.specs.Promises.{Steps}
use Rattle.station.specs.declared.Event.TheVariants.{Field}
use Rattle.station.specs.declared.Stepped.{Stepped}
use Rattle.demands.specs.Given.{Given, steps, act_on, standard_heard, Passes}
use Rattle.demands.specs.Untouched.{only_i_struck}

pub record DemandThree : Type 0 where
  -- For every well-formed message (MS, CL, CLR, ACK, NAK): from the same phase, settings, own table, wishes, time and sizes of the buffers
  -- the message and its struck form give the same outcome: what is told, the signal, both fields sent, what is stored, the next phase.
  pub same_outcome : (p : Phase) (set : Settings) (own run m : List ℕ) (time out_size store_size : ℕ) → AreOctets m → read_message m 448 ≡ accepted
      → step_of p set own run Field (struck_form m) time out_size store_size ≡ step_of p set own run Field m time out_size store_size
  -- An MS of which only I is struck, its S as it came, gives that outcome too.
  pub mode_untouched : (p : Phase) (set : Settings) (own run m : List ℕ) (time out_size store_size : ℕ) → AreOctets m → read_message m 448 ≡ accepted → type_of m ≡ 1
      → step_of p set own run Field (only_i_struck m) time out_size store_size ≡ step_of p set own run Field m time out_size store_size
  -- So by the contract of `step` alone: whatever output and store are lent, both calls give the same reply and leave the same octets.
  pub same_buffers : (state : State) (set : Settings) (own run m : List ℕ) (time : ℕ) (out₀ store₀ : List ℕ) (r r' : Stepped) (out₁ out₁' store₁ store₁' : List ℕ)
      → AreOctets m → read_message m 448 ≡ accepted
      → Steps state set own run Field m time out₀ store₀ r out₁ store₁ → Steps state set own run Field (struck_form m) time out₀ store₀ r' out₁' store₁'
      → (r ≡ r') × (out₁ ≡ out₁') × (store₁ ≡ store₁')
  -- The struck form is what the operation `strike_message` writes where it answers with success, by its contract alone.
  pub struck_by_operation : (m out₀ : List ℕ) (r : Result ℕ StrikeRefusal) (out₁ : List ℕ) → Strikes m out₀ r out₁ → (struck_told r).no ≡ 0
      → (read_message m 448 ≡ accepted) × ((struck_told r).count ≡ length (struck_form m)) × (out₁ ≡ put (struck_form m) out₀)
  -- Of a CL (type 2) or a CLR (3) the struck form has the named parameters, and no others.
  pub list_struck : (m : List ℕ) → AreOctets m → read_message m 448 ≡ accepted → (type_of m ≡ 2) ⊎ (type_of m ≡ 3)
      → message_codes (struck_form m) ≡ only named_code (message_codes m)
  -- Of an MS (type 1) the identification field has its named parameters and no others; the mode asked for, in the standard field, is all there.
  pub mode_struck : (m : List ℕ) → read_message m 448 ≡ accepted → type_of m ≡ 1
      → (field_codes (field_base 1) (struck_form m) 1 ≡ only named_code (field_codes (field_base 1) m 1))
      × (field_codes (field_base 2) (struck_form m) (standard_at (struck_form m)) ≡ field_codes (field_base 2) m (standard_at m))
  -- An ACK or a NAK, which has no fields, is its own struck form.
  pub bare_unstruck : (m : List ℕ) → read_message m 448 ≡ accepted → has_fields (type_of m) ≡ false → struck_form m ≡ m
  -- The struck form is well-formed, minimal, of the same type and revision, with the same NS, and no longer than the message.
  pub struck_stands : (m : List ℕ) → AreOctets m → read_message m 448 ≡ accepted
      → (read_message (struck_form m) 448 ≡ accepted)
      × (message_minimal (struck_form m) ≡ true)
      × (type_of (struck_form m) ≡ type_of m)
      × (revision_of (struck_form m) ≡ revision_of m)
      × (ns_of (struck_form m) ≡ ns_of m)
      × (length (struck_form m) ≤ length m)
  -- Where an MS is due and nothing earlier is refused, one whose standard field has an unnamed parameter is refused with NAK(3): nothing is
  -- stored, and the phase is Initial.
  pub unnamed_refused : (p : Phase) (g : Given) → Passes p g heard.Ms → act_on p g heard.Ms ≡ Judge → (x : ℕ) → is_in x (standard_heard g) ≡ true → named_code x ≡ false
      → steps p g ≡ sends (0x2a ∷ []) [] [] (Initial g.time)
  -- Revision decides nothing but the revision reported. Two messages that differ in it alone, so octet 1 is o or o' and the type is the same,
  -- are read alike: the same answer, the same codes, the same place and length of NS.
  pub revision_read_lem : (o o' : ℕ) (l : List ℕ) (room : ℕ) → type_of (o ∷ l) ≡ type_of (o' ∷ l)
      → (read_message (o ∷ l) room ≡ read_message (o' ∷ l) room)
      × (message_codes (o ∷ l) ≡ message_codes (o' ∷ l))
      × (ns_place (o ∷ l) ≡ ns_place (o' ∷ l))
      × (ns_size (o ∷ l) ≡ ns_size (o' ∷ l))
  -- They are struck alike: the struck forms are the same behind octet 1, and each keeps its own octet 1.
  pub revision_struck : (o o' : ℕ) (l : List ℕ) → type_of (o ∷ l) ≡ type_of (o' ∷ l) → read_message (o ∷ l) 448 ≡ accepted
      → (drop 1 (struck_form (o ∷ l)) ≡ drop 1 (struck_form (o' ∷ l))) × (get_or (struck_form (o ∷ l)) 0 0 ≡ o) × (get_or (struck_form (o' ∷ l)) 0 0 ≡ o')
  -- They are answered alike, well-formed or not.
  pub revision_answered : (p : Phase) (set : Settings) (own run : List ℕ) (o o' : ℕ) (l : List ℕ) (time out_size store_size : ℕ) → type_of (o ∷ l) ≡ type_of (o' ∷ l)
      → step_of p set own run Field (o ∷ l) time out_size store_size ≡ step_of p set own run Field (o' ∷ l) time out_size store_size
