-- What is heard of the far side: what its identification field says, what is stored of its standard field, the choice from its list, and
-- what a list that was taken or an MS that was judged leads to.
-- Assumes nothing.
use Prim.Native.Nat.{ℕ, ◌+◌, ◌<◌, ◌≤◌}
use mathlib.Core.Bool.{Bool, true, false}
use mathlib.Core.List.{List, [], ◌∷◌, ◌++◌}
use mathlib.Core.Logic.{⊎_elim}
use mathlib.Core.Path.{◌≡◌, refl, sym, ap, ◌∙◌}
use native.Mathlib.Omega.{arith}
use borrow.Author.Tests.{le-ltb}
use lib.ListN.{length}
use Rattle.std.specs.Prelude.{Option, Err, unwrap_or}
use Rattle.octets.specs.Lay.{put}
use Rattle.tree.specs.Codes.{field_base, field_codes}
use Rattle.tree.specs.Form.{Fine, field_form}
use Rattle.tree.specs.Fields.{is_in, codes_in, most_octets}
use Rattle.tree.specs.declared.Field.TheVariants.{Identification, Standard}
use Rattle.tree.proofs.Forms.{form_in_lem}
use Rattle.tree.proofs.Wide.{wide_short}
use Rattle.message.specs.Kinds.{has_fields, type_of}
use Rattle.message.specs.Reader.{list_room, standard_at, message_codes, read_message, accepted}
use Rattle.message.proofs.Accepted.{accepted_passed}
use Rattle.message.proofs.Checked.{fields_fine}
use Rattle.message.proofs.Fields.{parts_fine}
use Rattle.message.proofs.Room.{codes_in_lem}
use Rattle.meaning.specs.Writing.{message_octets}
use Rattle.meaning.proofs.Growing.{within_at, in_either, in_front, tree_within}
use Rattle.meaning.proofs.Reading.{tree_at, tree_codes_lem, tree_good}
use Rattle.names.specs.declared.Keep.{Keep}
use Rattle.names.specs.declared.Keep.TheVariants.{All, Named}
use Rattle.strike.specs.Rewriting.{kept, rewritten, Rewrites}
use Rattle.strike.proofs.FieldRewritten.{count_or_zero}
use Rattle.choice.specs.Wishes.{wishes_of, standard_codes, good_wishes}
use Rattle.choice.specs.Choosing.{heard, Choosing, choice, far_codes}
use Rattle.choice.specs.Judging.{verdict, nak_of}
use Rattle.choice.specs.declared.ModeRefusal.{ModeRefusal}
use Rattle.choice.specs.declared.ModeRefusal.TheVariants.{NotReady, NoFit}
use Rattle.choice.proofs.Truths.{same_tests}
use Rattle.choice.proofs.Chosen.{choice_struck}
use Rattle.table.specs.declared.Phase.TheVariants.{Initial, Listed, Half, Mode}
use Rattle.table.specs.declared.After.TheVariants.{ThenCl, ThenHalf}
use Rattle.table.specs.declared.Settings.{Settings}
use Rattle.station.specs.Sending.{sent_list}
use Rattle.station.specs.Acting.{sends, far_list, far_offer, asks_ack, stored_list, stored_mode, takes, judges}
use Rattle.station.specs.Inner.{proposed, then_ms}
use Rattle.station.specs.declared.lent.Message.{Message}
use Rattle.station.specs.declared.FarOffer.{FarOffer}

-- ---- what a message with fields says

-- in a message's octets the codes of a field are above its base
above_base : (b : ℕ) (l : List ℕ) (at x : ℕ) → length l ≤ most_octets → is_in x (field_codes b l at) ≡ true → b < x
above_base b l at x h i = (within_at x _ _ (field_codes b l at) (rw tree_codes_lem at (tree_within b (tree_at l at) (tree_good l h at))) i).0

module _ (m : List ℕ) (e : read_message m list_room ≡ accepted) (h : has_fields (type_of m) ≡ true) where
  few : length m ≤ most_octets
  few = (accepted_passed m list_room e).few

  -- a code below those of S is among all codes exactly if it is among those of I
  pub said_first : (code : ℕ) → code < field_base 2 → is_in code (codes_in Identification m 1) ≡ is_in code (message_codes m)
  unfolding message_codes
  said_first code b =
      let one = field_codes (field_base 1) m 1 in
      let two = field_codes (field_base 2) m (standard_at m) in
      rw (h, codes_in_lem Identification m 1 few)
      (same_tests (is_in code one) (is_in code (one ++ two)) (in_front code one two)
      (λ i. ⊎_elim (λ j. j) (λ j. absurd (omega (arith, above_base (field_base 2) m (standard_at m) code few j))) (in_either code one two i)))

  -- its standard field is well-formed
  standard_fine : field_form m (standard_at m) ≡ Fine
  standard_fine = (parts_fine m (fields_fine m list_room e h)).1

  -- so what is kept of it is written where there is room for a message
  pub all_kept : (k : Keep) (room : ℕ) → most_octets ≤ room → rewritten k Standard m (standard_at m) room ≡ kept k Standard m (standard_at m)
  unfolding rewritten
  all_kept k room r = rw (le-ltb room most_octets r, form_in_lem m (standard_at m) few, standard_fine)

-- so rewriting it into a store with room for a message stores what is kept of it
pub stores_kept : {k : Keep} (x : Message) {n : Option ℕ} {store₀ store₁ : List ℕ} → most_octets ≤ length store₀ → Rewrites k Standard x.field.now x.standard store₀ n store₁
    → (unwrap_or n 0 ≡ length (kept k Standard x.field.now x.standard)) × (store₁ ≡ put (kept k Standard x.field.now x.standard) store₀)
stores_kept {k} x {n} {store₀} r w =
    let e : rewritten k Standard x.field.now x.standard (length store₀) ≡ kept k Standard x.field.now x.standard = rw x.place (all_kept x.field.now x.fine x.fields k (length store₀) r) in
    (ap (λ (o : Option ℕ). unwrap_or o 0) w.count ∙ count_or_zero _ ∙ ap length e, w.output ∙ rw e)

-- ---- the choice

-- the far list may be looked at as it came: striking it does not change the choice
pub choice_as_heard : (own m run : List ℕ) → length m ≤ most_octets → good_wishes run ≡ true → choice own (far_codes m (standard_at m)) run ≡ choice own (heard (far_list m)) run
unfolding far_list
choice_as_heard own m run h g = rw (wide_short Standard m (standard_at m) h) (sym (choice_struck own (codes_in Standard m (standard_at m)) run g))

-- ---- a list that was taken

module _ (set : Settings) (own run : List ℕ) (x : Message) (time : ℕ) where
  -- what each arm sends and stores
  pub takes_cl : sends (sent_list 2 set own) [] (kept Named Standard x.field.now x.standard) (Listed time) ≡ takes ThenCl set own run x.field.now time
  unfolding stored_list
  takes_cl = rw x.place

  pub takes_half : sends [] [] (kept Named Standard x.field.now x.standard) (Half time) ≡ takes ThenHalf set own run x.field.now time
  unfolding stored_list
  takes_half = rw x.place

  -- the choice from it, alone or behind a CL
  pub takes_common : (afterCl : Bool) {found : Choosing} {far : FarOffer} → good_wishes run ≡ true → found ≡ choice (standard_codes own) (far_codes x.field.now x.standard) run → far ≡ far_offer x.field.now
      → proposed afterCl found set far own run (kept Named Standard x.field.now x.standard) time ≡ takes (then_ms afterCl) set own run x.field.now time
  unfolding stored_list
  takes_common true g e o = rw (e, o, x.place, choice_as_heard (standard_codes own) x.field.now run (few x.field.now x.fine x.fields) g)
  takes_common false g e o = rw (e, o, x.place, choice_as_heard (standard_codes own) x.field.now run (few x.field.now x.fine x.fields) g)

-- ---- an MS that was judged

-- the verdict on the field at its place
pub verdict_there : (m run : List ℕ) {at : ℕ} {v x : ℕ} → at ≡ standard_at m → v ≡ verdict (codes_in Standard m at) (wishes_of run) → v ≡ x
    → verdict (codes_in Standard m (standard_at m)) (wishes_of run) ≡ x
verdict_there m run p e q = rw (sym p, sym e) q

-- accepted, it gives ACK(1) if it asks for that, else nothing
module _ (x : Message) (time : ℕ) where
  pub accepts_asked : asks_ack x.field.now ≡ true → sends (36 ∷ []) [] (kept All Standard x.field.now x.standard) (Mode time 0 true) ≡ judges 0 x.field.now time
  unfolding stored_mode message_octets
  accepts_asked a = rw (a, x.place)

  pub accepts_unasked : asks_ack x.field.now ≡ false → sends [] [] (kept All Standard x.field.now x.standard) (Mode time 0 false) ≡ judges 0 x.field.now time
  unfolding stored_mode
  accepts_unasked a = rw (a, x.place)

-- refused, it gives the NAK
pub refused_judges : (x : ModeRefusal) (m : List ℕ) (time : ℕ) → sends ((32 + (7 + nak_of (Err x))) ∷ []) [] [] (Initial time) ≡ judges (nak_of (Err x)) m time
unfolding message_octets
refused_judges NotReady m time = refl
refused_judges NoFit m time = refl
