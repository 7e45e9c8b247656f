-- The ways of the reader around a content: opening flags, closing flags, and nothing behind them.
-- Assumes nothing.
use Prim.Native.Nat.{ℕ, ◌+◌, ◌*◌, ◌<◌, ◌≤◌}
use mathlib.Core.Path.{◌≡◌, refl, sym, ap, ◌∙◌}
use mathlib.Core.Bool.{Bool, true, false}
use mathlib.Core.List.{List, [], ◌∷◌}
use native.Mathlib.Omega.{arith}
use lib.Dec.{leb}
use lib.ListN.{length, drop, length-drop}
use lib.Seq.{drop-drop, drop-length}
use Rattle.std.specs.Prelude.{Option, Some, None}
use Rattle.octets.specs.Places.{both}
use Rattle.frame.specs.Stuffing.{Cutting, uncut, cut_into, content_from}
use Rattle.frame.specs.Frame.{flags_at, closed, framed}
use Rattle.frame.specs.Reader.{refused, checked, alone}
use Rattle.frame.specs.Content.{FindsUpto, Finds}
use Rattle.frame.specs.declared.Found.{Found}
use Rattle.frame.proofs.Flags.{flags_fit}

-- what an answer says of the cutting that it stands for
module _ (x : Cutting) (B : List Bool) (count : ℕ) (plain : List ℕ) (found : Option Found) (f : Finds x B count plain found) where
  pub is_nothing : found ≡ None → x ≡ uncut
  is_nothing e = rw e at f

  pub is_upto : (at : Found) → found ≡ Some at → FindsUpto x B count plain at.bits at.next
  is_upto at e = rw e at f

module _ (B : List Bool) (start count k : ℕ) (lb : length B ≡ count) (ek : k ≡ flags_at 6 (drop start B)) where
  pub framed_none : both (leb 2 k) (leb k 5) ≡ false → framed (drop start B) ≡ uncut
  unfolding framed
  framed_none h = rw (← ek, h)

  -- the place behind the opening flags
  pub behind_opening : start ≤ count → start + k * 8 ≤ count
  behind_opening h = omega (arith, flags_fit 6 (drop start B), length-drop start B)

  module _ (h : both (leb 2 k) (leb k 5) ≡ true) where
    framed_is : framed (drop start B) ≡ closed (content_from 5 (drop (start + k * 8) B))
    unfolding framed
    framed_is = rw (← ek, h, drop-drop (k * 8) start B)

    module _ (plain : List ℕ) (found : Option Found) (f : Finds (content_from 5 (drop (start + k * 8) B)) B count plain found) where
      pub framed_nothing : found ≡ None → framed (drop start B) ≡ uncut
      framed_nothing e = framed_is ∙ ap closed (is_nothing _ B count plain found f e)

      pub framed_upto : (at : Found) (m : ℕ) → found ≡ Some at → m ≡ flags_at 3 (drop at.next B)
          → Finds (framed (drop start B)) B count plain (Some (record { bits = at.bits; next = at.next + m * 8 }))
      framed_upto at m e em =
          let next = at.next in
          let u = is_upto _ B count plain found f at e in
          record {
            content = u.content;
            cutting = framed_is ∙ ap closed u.cutting ∙ rw (← em, drop-drop (m * 8) next B);
            long = u.long;
            stands = u.stands;
            within = omega (arith, u.within, flags_fit 3 (drop next B), length-drop next B);
          }

-- the frame alone: nothing behind it
alone_left : (cs r : List Bool) → 0 < length r → alone (cut_into cs r) ≡ refused 2
unfolding alone
alone_left cs [] h = absurd (omega arith)
alone_left cs (b ∷ r) h = refl

module _ (B : List Bool) (count : ℕ) (lb : length B ≡ count) (plain : List ℕ) (found : Option Found) (f : Finds (framed (drop 0 B)) B count plain found) where
  pub alone_nothing : found ≡ None → alone (framed B) ≡ refused 2
  unfolding alone
  alone_nothing e = ap alone (is_nothing _ B count plain found f e)

  pub alone_more : (at : Found) → found ≡ Some at → (at.next ≡ count → ⊥) → alone (framed B) ≡ refused 2
  alone_more at e n =
      let u = is_upto _ B count plain found f at e in
      ap alone u.cutting ∙ alone_left u.content (drop at.next B) (omega (arith, length-drop at.next B, u.within))

  pub alone_checked : (size next : ℕ) (u : FindsUpto (framed (drop 0 B)) B count plain size next) → next ≡ count → alone (framed B) ≡ checked u.content
  unfolding alone
  alone_checked size next u n = ap alone u.cutting ∙ ap (λ (r : List Bool). alone (cut_into u.content r)) (ap (λ (m : ℕ). drop m B) (n ∙ sym lb) ∙ drop-length B)
