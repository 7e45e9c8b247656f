-- What is sent, octet for octet: octet 1, the two octets of I, and the standard field as it stands; and how it is laid into the output.
-- Assumes nothing.
use Prim.Native.Nat.{ℕ, ◌+◌, ◌*◌, ◌-◌, ◌≤◌, ◌<◌}
use mathlib.Core.Bool.{Bool, true, false}
use mathlib.Core.List.{List, [], ◌∷◌, ◌++◌, append-nil}
use mathlib.Core.Path.{◌≡◌, refl, sym, ap, ◌∙◌}
use native.Mathlib.Omega.{arith}
use mir.Val.{bool_byte}
use Rattle.std.specs.Prelude.{Option, Some, None}
use borrow.Author.Tests.{lt-ltb, le-ltb}
use borrow.Rule.Slice.PartMut.{put_mid}
use lib.ListN.{length, set, take, drop, length-take, length-drop}
use lib.Seq.{take_all}
use Rattle.octets.specs.Bits.{num, AreOctets}
use Rattle.octets.specs.Lay.{put, over}
use Rattle.octets.proofs.Laying.{over_fits, length_put}
use Rattle.tree.specs.Codes.{code_of, field_base, field_codes}
use Rattle.tree.specs.Order.{Ascending}
use Rattle.tree.specs.Fields.{codes_in}
use Rattle.tree.specs.declared.Field.TheVariants.{Standard}
use Rattle.tree.proofs.Ascending.{field_ascending}
use Rattle.tree.proofs.Forms.{form_in_lem}
use Rattle.message.proofs.Room.{laid_behind}
use Rattle.meaning.specs.Written.{block_from, run, from, positions, pars_written, rest_written, written}
use Rattle.meaning.specs.Writing.{message_octets}
use Rattle.good.specs.Good.{good_field}
use Rattle.strike.specs.Rewriting.{kept, rewritten}
use Rattle.good.proofs.Parts.{good_parts}
use Rattle.strike.proofs.Goodness.{good_stays, standard_stay}
use Rattle.strike.proofs.Bounds.{good_short}
use Rattle.choice.specs.Wishes.{most_wishes, standard_codes, good_wishes}
use Rattle.choice.specs.Choosing.{Far, choice, choice_told}
use Rattle.choice.specs.declared.Pick.{Pick}
use Rattle.choice.proofs.Chosen.{chosen_first, first_member}
use Rattle.choice.proofs.Tabled.{good_fields}
use Rattle.octets.proofs.Laws.{both_true}
use Rattle.station.specs.declared.Offer.{Offer}
use Rattle.station.specs.Sending.{code_if, offer_codes, sent_field, sent_ack, sent_nak}
use Rattle.station.specs.Inner.{Lies}

-- ---- a truth value as an octet

pub bit_octet : (b : Bool) → bool_byte b ≡ num b
bit_octet true = refl
bit_octet false = refl

-- ---- how it is laid into the output

-- three octets stored one by one, and the field copied behind them
laid_field : (a b e n : ℕ) (own d o₁ o₂ : List ℕ) → 3 + length own ≤ length d → n ≡ length own → o₁ ≡ set (set (set d 0 a) 1 b) 2 e
    → o₂ ≡ over (take n own) (take (length o₁ - 3) (drop 3 o₁)) → put_mid 3 (length o₁ - 3) o₁ o₂ ≡ put (a ∷ b ∷ e ∷ own) d
unfolding over
laid_field a b e n own d o₁ o₂ h k e₁ e₂ =
    let all : take n own ≡ own = take_all n own (omega arith) in
    laid_behind (a ∷ b ∷ e ∷ []) own d o₁ o₂ 3 (omega arith) refl (e₁ ∙ stored d (omega arith)) (rw all at e₂)
  where
    stored : (l : List ℕ) → 3 ≤ length l → set (set (set l 0 a) 1 b) 2 e ≡ over (a ∷ b ∷ e ∷ []) l
    stored [] h = absurd (omega arith)
    stored (x ∷ []) h = absurd (omega arith)
    stored (x ∷ y ∷ []) h = absurd (omega arith)
    stored (x ∷ y ∷ z ∷ l) h = refl

-- one octet stored
pub laid_octet : (x : ℕ) (d : List ℕ) → 0 < length d → set d 0 x ≡ put (x ∷ []) d
unfolding put
laid_octet x [] h = absurd (omega arith)
laid_octet x (y ∷ d) h = refl

-- a second message put into the part behind the first
pub laid_second : (xs ys d o₁ o₂ : List ℕ) (n : ℕ) → length xs + length ys ≤ length d → n ≡ length xs → o₁ ≡ put xs d
    → o₂ ≡ put ys (take (length o₁ - n) (drop n o₁)) → put_mid n (length o₁ - n) o₁ o₂ ≡ put (xs ++ ys) d
laid_second xs ys d o₁ o₂ n h e₀ e₁ e₂ =
    let f : length o₁ ≡ length d = ap length e₁ ∙ length_put xs d (omega arith) in
    let r : length (take (length o₁ - n) (drop n o₁)) ≡ length d - length xs = simp (length-take, length-drop) (omega arith) in
    laid_behind xs ys d o₁ o₂ n h e₀ (e₁ ∙ sym (over_fits xs d (omega arith))) (e₂ ∙ sym (over_fits ys _ (omega arith)))

-- behind a first one there is room for it
pub second_room : (xs d o : List ℕ) (n : ℕ) → length xs ≤ 31 → 128 ≤ length d → n ≡ length xs → o ≡ put xs d → (n ≤ length o) × (64 ≤ length (take (length o - n) (drop n o)))
second_room xs d o n h k e₀ e₁ =
    let f : length o ≡ length d = ap length e₁ ∙ length_put xs d (omega arith) in
    (omega arith, simp (length-take, length-drop) (omega arith))

-- ---- a message's octets

-- codes above a limit are cut there into nothing and all of them
high_cut : (b : ℕ) (l : List ℕ) → Ascending b l → (run b l ≡ []) × (from b l ≡ l)
unfolding Ascending run from
high_cut b [] a = (refl, refl)
high_cut b (c ∷ l) a = rw (le-ltb c b (omega (arith, a.0))) (refl, refl)

-- the three codes of I before such a list are the two octets of I, and the list is left
abbrev offered : Bool → Bool → Bool → List ℕ
offered eight short ack = code_if eight (code_of 1 0 0 1) (code_if short (code_of 1 0 0 2) (code_if ack (code_of 1 0 0 4) []))

offer_cut : (eight short ack : Bool) (l : List ℕ) → run (field_base 2) l ≡ [] → from (field_base 2) l ≡ l
    → (written (field_base 1) (run (field_base 2) (offered eight short ack ++ l)) ≡ (128 + num eight + 2 * num short + 8 * num ack) ∷ 128 ∷ [])
    × (from (field_base 2) (offered eight short ack ++ l) ≡ l)
unfolding run from written positions block_from rest_written pars_written
offer_cut true true true l r f = rw (r, f) (refl, refl)
offer_cut true true false l r f = rw (r, f) (refl, refl)
offer_cut true false true l r f = rw (r, f) (refl, refl)
offer_cut true false false l r f = rw (r, f) (refl, refl)
offer_cut false true true l r f = rw (r, f) (refl, refl)
offer_cut false true false l r f = rw (r, f) (refl, refl)
offer_cut false false true l r f = rw (r, f) (refl, refl)
offer_cut false false false l r f = rw (r, f) (refl, refl)

-- a good field is what is written of its codes
pub good_written : (t : List ℕ) → AreOctets t → good_field t ≡ true → written (field_base 2) (standard_codes t) ≡ t
unfolding rewritten kept codes_in
good_written t o h =
    let g = good_parts t h in
    let few : length t ≤ 64 = omega (arith, g.short) in
    rw (le-ltb 64 (length t) few) (rw (form_in_lem t 0 few, g.fine, le-ltb 64 (length t) few, standard_stay (field_codes (field_base 2) t 0) g.standard) at (good_stays t o h))

module _ (kind : ℕ) (offer : Offer) (own : List ℕ) (fields : kind ≤ 3) (octets : AreOctets own) (good : good_field own ≡ true) where
  -- a message with an offer and a good field's codes, octet for octet
  pub sent_octets : sent_field kind offer (standard_codes own) ≡ (32 + kind) ∷ (128 + num offer.v8 + 2 * num offer.short_v8 + 8 * num offer.ack) ∷ 128 ∷ own
  unfolding sent_field message_octets offer_codes
  sent_octets =
      let h = high_cut (field_base 2) (standard_codes own) (field_ascending Standard own 0) in
      let p = offer_cut offer.v8 offer.short_v8 offer.ack (standard_codes own) h.0 h.1 in
      rw (lt-ltb kind 4 (omega arith), p.0, p.1, good_written own octets good, append-nil own)

  -- so it has three octets more than the field
  pub sent_length : length (sent_field kind offer (standard_codes own)) ≡ 3 + length own
  sent_length = rw sent_octets (omega arith)

  -- and there is room for it
  pub sent_short : length (sent_field kind offer (standard_codes own)) ≤ 31
  sent_short = omega (arith, sent_length, good_short own octets good)

  -- its three octets stored and the field copied behind them put it
  pub sent_laid : (eight short ack n : ℕ) (d o₁ o₂ : List ℕ) → 64 ≤ length d → eight ≡ num offer.v8 → short ≡ num offer.short_v8 → ack ≡ num offer.ack
      → n ≡ length own → o₁ ≡ set (set (set d 0 (32 + kind)) 1 (128 + eight + 2 * short + 8 * ack)) 2 128 → o₂ ≡ over (take n own) (take (length o₁ - 3) (drop 3 o₁))
      → put_mid 3 (length o₁ - 3) o₁ o₂ ≡ put (sent_field kind offer (standard_codes own)) d
  sent_laid eight short ack n d o₁ o₂ h e s a k e₁ e₂ =
      rw (sent_octets, ← e, ← s, ← a)
      (laid_field (32 + kind) (128 + eight + 2 * short + 8 * ack) 128 n own d o₁ o₂ (omega (arith, good_short own octets good)) k e₁ e₂)

-- ACK(1), and NAK(1) to NAK(3), are one octet
pub ack_octet : sent_ack ≡ 0x24 ∷ []
unfolding message_octets
ack_octet = refl

pub nak_octet : (k : ℕ) → sent_nak k ≡ (0x27 + k) ∷ []
unfolding message_octets
nak_octet k = let e : 32 + (7 + k) ≡ 39 + k = omega arith in rw (le-ltb (7 + k) 4 (omega arith), e)

-- ---- the MS of a choice

-- a choice from good wishes lies in them and is good
pub choice_lies : (own : List ℕ) (far : Far) (wishes : List ℕ) (r : Option Pick) → good_wishes wishes ≡ true → choice_told r ≡ choice own far wishes → Lies wishes (choice_told r)
choice_lies own far wishes (Some p) g e =
    let f = chosen_first own far wishes p (sym e) in
    let w = good_fields most_wishes wishes g f.wish (first_member f) in
    (f.inside, rw f.field (both_true (good_field f.wish.field) _ w).0, f.few)
choice_lies own far wishes None g e = tt
