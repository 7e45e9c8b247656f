-- What is sent and stored: the message reader reads each message that a step sends as it was meant, and a field that is stored has the
-- codes that were kept.
-- Assumes nothing.
use Prim.Native.Nat.{ℕ, zero, suc, ◌+◌, ◌*◌, ◌-◌, ◌≤◌, ◌<◌}
use mathlib.Core.Bool.{Bool, true, false}
use mathlib.Core.List.{List, [], ◌∷◌, ◌++◌, append-nil}
use mathlib.Core.Logic.{⊎_elim}
use mathlib.Core.Path.{◌≡◌, refl, sym, ap, ◌∙◌}
use native.Mathlib.Omega.{arith}
use borrow.Author.Tests.{lt-ltb, ne_eqb}
use lib.ListN.{length, length-drop}
use Rattle.std.proofs.lemmas.Bool.{false_from_ne_true}
use Rattle.octets.specs.Bits.{num, AreOctets}
use Rattle.tree.specs.Block.{set_bits, block_numbers, block_end}
use Rattle.tree.specs.Codes.{code_of, par_codes, rest_codes, field_base, field_codes, field_behind}
use Rattle.tree.specs.Fields.{is_in, codes_in}
use Rattle.tree.specs.Order.{Ascending}
use Rattle.tree.specs.declared.Field.TheVariants.{Identification, Standard}
use Rattle.tree.proofs.Ascending.{field_ascending}
use Rattle.tree.proofs.Forms.{field_fits}
use Rattle.message.specs.Kinds.{known}
use Rattle.message.specs.Reader.{standard_at}
use Rattle.message.proofs.Room.{codes_in_lem}
use Rattle.meaning.specs.Written.{written}
use Rattle.meaning.specs.Writing.{sent, ns_agrees, write_message}
use Rattle.meaning.proofs.Growing.{in_either}
use Rattle.meaning.proofs.Meanings.{Meant, meaning_join}
use Rattle.meaning.proofs.RoundTrip.{part_octets, field_back, writable_sent, written_is_read, written_is_minimal}
use Rattle.names.specs.Named.{named_code, keeps}
use Rattle.names.specs.Masks.{only}
use Rattle.names.specs.declared.Keep.{Keep}
use Rattle.names.specs.declared.Keep.TheVariants.{All, Named}
use Rattle.names.proofs.Sieving.{only_true}
use Rattle.good.specs.Good.{good_field}
use Rattle.good.proofs.Parts.{good_parts}
use Rattle.strike.specs.Rewriting.{kept}
use Rattle.strike.proofs.Crossing.{kept_means}
use Rattle.choice.specs.Wishes.{standard_codes, wish_codes}
use Rattle.choice.specs.Choosing.{Far, First}
use Rattle.choice.specs.declared.Pick.{Pick}
use Rattle.choice.proofs.Truths.{never}
use Rattle.table.specs.declared.Settings.{Settings}
use Rattle.station.specs.Sending.{code_if, offer_codes, sent_field, list_offer, sent_list, mode_offer, sent_mode}
use Rattle.station.specs.Acting.{stored_list, stored_mode}
use Rattle.station.specs.declared.FarOffer.{FarOffer}
use Rattle.station.specs.declared.Offer.{Offer}
use Rattle.station.proofs.Sendings.{sent_short}
use Rattle.demands.specs.Sent.{says, IsSent, IsField}

-- ---- a field that is written

-- what is written of a standard field's codes is a field with those codes
written_field : (codes : List ℕ) → Meant (field_base 2) codes → IsField codes (written (field_base 2) codes)
written_field codes h =
    let os = written (field_base 2) codes in
    let b = field_back 2 codes h os 0 [] (sym (append-nil os)) in
    let rest : length os - field_behind os 0 ≡ 0 = sym (length-drop (field_behind os 0) os) ∙ ap length b.1 in
    record { form = b.2; whole = omega (arith, field_fits os 0 b.2); minimal = b.3; told = b.0 }

-- what is kept of the standard field at a place of a message
pub kept_field : (k : Keep) (m : List ℕ) (at : ℕ) → length m ≤ 64 → IsField (only (keeps k) (codes_in Standard m at)) (kept k Standard m at)
unfolding kept
kept_field k m at few = rw (codes_in_lem Standard m at few) (written_field (only (keeps k) (field_codes (field_base 2) m at)) (kept_means k m few Standard at))

-- ---- a message that is sent

-- codes above a limit do not have one up to it
not_low : (x b : ℕ) (l : List ℕ) → x ≤ b → Ascending b l → is_in x l ≡ false
unfolding is_in Ascending
not_low x b [] h a = refl
not_low x b (c ∷ l) h a = rw (ne_eqb c x (λ e. omega (arith, a.0)), not_low x c l (omega (arith, a.0)) a.1)

-- no standard code is one of the identification field
pub standard_high : (x : ℕ) (octets : List ℕ) → x ≤ field_base 2 → is_in x (standard_codes octets) ≡ false
standard_high x octets h = not_low x (field_base 2) (standard_codes octets) h (field_ascending Standard octets 0)

-- what holds of each offer holds of all
pub all_offers : (P : Bool → Bool → Bool → Type 0) → P true true true → P true true false → P true false true → P true false false → P false true true → P false true false → P false false true → P false false false
    → (eight short ack : Bool) → P eight short ack
all_offers P a b c d e f g h true true true = a
all_offers P a b c d e f g h true true false = b
all_offers P a b c d e f g h true false true = c
all_offers P a b c d e f g h true false false = d
all_offers P a b c d e f g h false true true = e
all_offers P a b c d e f g h false true false = f
all_offers P a b c d e f g h false false true = g
all_offers P a b c d e f g h false false false = h

abbrev offered : Bool → Bool → Bool → List ℕ
offered eight short ack = says 1 eight ++ (says 2 short ++ says 4 ack)

-- the two octets of I have its codes
offer_read : (eight short ack : Bool) → field_codes (field_base 1) ((128 + num eight + 2 * num short + 8 * num ack) ∷ 128 ∷ []) 0 ≡ offered eight short ack
unfolding field_codes rest_codes par_codes set_bits block_numbers block_end
offer_read =
    all_offers (λ (eight short ack : Bool). field_codes (field_base 1) ((128 + num eight + 2 * num short + 8 * num ack) ∷ 128 ∷ []) 0 ≡ offered eight short ack)
    refl refl refl refl refl refl refl refl

-- so they are a meaning's
offer_means : (eight short ack : Bool) → Meant (field_base 1) (offered eight short ack)
offer_means eight short ack =
    let l = (128 + num eight + 2 * num short + 8 * num ack) ∷ 128 ∷ [] in
    rw (only_true (field_codes (field_base 1) l 0), offer_read eight short ack) at (kept_means All l (omega arith) Identification 0)

-- they announce no NS
offer_bare : (eight short ack : Bool) → is_in (code_of 1 0 0 7) (offered eight short ack) ≡ false
unfolding is_in
offer_bare = all_offers (λ (eight short ack : Bool). is_in (code_of 1 0 0 7) (offered eight short ack) ≡ false) refl refl refl refl refl refl refl refl

-- and stand before other codes as they are said
offer_before : (l : List ℕ) (eight short ack : Bool) → offered eight short ack ++ l ≡ says 1 eight ++ (says 2 short ++ (says 4 ack ++ l))
offer_before l =
    all_offers (λ (eight short ack : Bool). offered eight short ack ++ l ≡ says 1 eight ++ (says 2 short ++ (says 4 ack ++ l)))
    refl refl refl refl refl refl refl refl

offer_codes_lem : (offer : Offer) → offer_codes offer ≡ offered offer.v8 offer.short_v8 offer.ack
unfolding offer_codes
offer_codes_lem offer =
    all_offers
    (λ (eight short ack : Bool). code_if eight (code_of 1 0 0 1) (code_if short (code_of 1 0 0 2) (code_if ack (code_of 1 0 0 4) [])) ≡ offered eight short ack)
    refl refl refl refl refl refl refl refl offer.v8 offer.short_v8 offer.ack

-- neither of two lists has a number: it is not in both together
in_neither : (x : ℕ) (a r : List ℕ) → is_in x a ≡ false → is_in x r ≡ false → is_in x (a ++ r) ≡ false
in_neither x a r h k = false_from_ne_true (is_in x (a ++ r)) (λ e. ⊎_elim (λ i. never (sym h ∙ i)) (λ i. never (sym k ∙ i)) (in_either x a r e))

known_fields : (kind : ℕ) → 0 < kind → kind ≤ 3 → known kind ≡ true
unfolding is_in
known_fields zero lo hi = absurd (omega arith)
known_fields (suc zero) lo hi = refl
known_fields (suc (suc zero)) lo hi = refl
known_fields (suc (suc (suc zero))) lo hi = refl
known_fields (suc (suc (suc (suc k)))) lo hi = absurd (omega arith)

module _ (kind : ℕ) (offer : Offer) (own : List ℕ) (lo : 0 < kind) (hi : kind ≤ 3) (octets : AreOctets own) (good : good_field own ≡ true) where
  few : length own ≤ 64
  few = omega (arith, (good_parts own good).short)

  abbrev codes : List ℕ
  codes = standard_codes own

  abbrev all : List ℕ
  all = offered offer.v8 offer.short_v8 offer.ack ++ codes

  -- the codes of a good field are a meaning's
  own_means : Meant (field_base 2) codes
  own_means = rw (only_true (field_codes (field_base 2) own 0), sym (codes_in_lem Standard own 0 few)) at (kept_means All own few Standard 0)

  -- the message is what the writer makes of them
  sent_written : write_message kind 2 all [] 64 ≡ sent (sent_field kind offer codes)
  unfolding sent_field ns_agrees
  sent_written =
      let j = meaning_join (offered offer.v8 offer.short_v8 offer.ack) codes (offer_means offer.v8 offer.short_v8 offer.ack) own_means in
      let bare : is_in (code_of 1 0 0 7) all ≡ false =
      in_neither (code_of 1 0 0 7) (offered offer.v8 offer.short_v8 offer.ack) codes (offer_bare offer.v8 offer.short_v8 offer.ack) (standard_high (code_of 1 0 0 7) own (omega arith)) in
      writable_sent kind 2 all [] 64 (sent_field kind offer codes)
      (record {
        space = omega arith;
        known_kind = known_fields kind lo hi;
        low = omega arith;
        shapes = j.0;
        up = j.1;
        parents = j.2;
        ends = rw (lt-ltb kind 4 (omega arith));
        agrees = rw bare;
        few = omega (arith, sent_short kind offer own hi octets good);
        octets = rw (offer_codes_lem offer);
      })

  -- so it is read as it was meant
  pub field_is_sent : IsSent kind offer.v8 offer.short_v8 offer.ack codes (sent_field kind offer codes)
  field_is_sent =
      let w = sent_written in
      let t = written_is_read kind 2 all [] 64 448 (sent_field kind offer codes) w (omega arith) in
      record { read = rw (offer_before codes offer.v8 offer.short_v8 offer.ack) at t; minimal = written_is_minimal kind 2 all [] 64 (sent_field kind offer codes) w }

-- ---- what a step sends and stores

-- a CL (2) or a CLR (3) has the settings' V.8 bits and the own table
pub list_is_sent : (kind : ℕ) (set : Settings) (own : List ℕ) → 0 < kind → kind ≤ 3 → AreOctets own → good_field own ≡ true
    → IsSent kind set.v8 set.short_v8 false (standard_codes own) (sent_list kind set own)
unfolding sent_list
list_is_sent kind set own lo hi octets good = field_is_sent kind (list_offer set) own lo hi octets good

-- an MS has the wish that was chosen
pub mode_is_sent : (own : List ℕ) (far : Far) (set : Settings) (offer : FarOffer) (wishes : List ℕ) (p : Pick) (f : First own far wishes p) → AreOctets wishes
    → good_field f.wish.field ≡ true
    → IsSent 1 (mode_offer set offer).v8 (mode_offer set offer).short_v8 set.ack (wish_codes f.wish) (sent_mode set offer wishes p)
unfolding sent_mode
mode_is_sent own far set offer wishes p f octets good =
    let o : AreOctets f.wish.field = rw f.field at (part_octets p.length p.at wishes octets) in
    rw f.field (field_is_sent 1 (mode_offer set offer) f.wish.field (omega arith) (omega arith) o good)

-- the field of a list that is stored has its named codes
pub list_is_stored : (m : List ℕ) → length m ≤ 64 → IsField (only named_code (codes_in Standard m (standard_at m))) (stored_list m)
unfolding stored_list
list_is_stored m few = kept_field Named m (standard_at m) few

-- that of an MS has all its codes
pub mode_is_stored : (m : List ℕ) → length m ≤ 64 → IsField (codes_in Standard m (standard_at m)) (stored_mode m)
unfolding stored_mode
mode_is_stored m few = rw (only_true (codes_in Standard m (standard_at m))) at (kept_field All m (standard_at m) few)
