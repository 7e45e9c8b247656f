-- What `rewrite_field` answers: nothing where it refuses, and else what is put of the field.
-- Assumes nothing.
use Prim.Native.Nat.{ℕ, ◌+◌, ◌≤◌, ◌<◌}
use mathlib.Core.Bool.{true, false}
use mathlib.Core.List.{List, [], ◌∷◌}
use mathlib.Core.Path.{◌≡◌, refl, sym, ap, ◌∙◌}
use native.Mathlib.Omega.{arith}
use borrow.Author.Tests.{lt-ltb, le-ltb}
use lib.ListN.{length, length-append}
use Rattle.std.specs.Prelude.{Some, None, unwrap_or}
use Rattle.octets.specs.Bits.{AreOctets}
use Rattle.octets.proofs.Laying.{put-nil}
use Rattle.tree.specs.Form.{is_fine, field_form}
use Rattle.tree.specs.Fields.{base_of, form_in}
use Rattle.tree.specs.declared.Field.{Field}
use Rattle.tree.specs.Form.{Fine}
use Rattle.tree.proofs.Forms.{field_fits, fine_in}
use Rattle.message.proofs.Room.{codes_in_lem}
use Rattle.names.specs.declared.Keep.{Keep}
use Rattle.names.specs.Masks.{npar_places, spar_places}
use Rattle.tree.specs.Block.{behind}
use Rattle.strike.proofs.Extents.{kept_any}
use Rattle.strike.specs.Inner.{block_kept, rest_kept, field_kept, Puts}
use Rattle.strike.specs.Rewriting.{kept, rewritten, counted, Rewrites}
use Rattle.strike.specs.declared.Spot.{Spot}
use Rattle.strike.proofs.Crossing.{kept_is_written, kept_fits}
use Rattle.strike.proofs.Storing.{sets_front}

-- what is kept of a field's codes, written, is what is put for it
kept_is_put : (k : Keep) (f : Field) (l : List ℕ) (at : ℕ) → length l ≤ 64 → kept k f l at ≡ field_kept k (base_of f) l at
unfolding kept
kept_is_put k f l at short = rw (codes_in_lem f l at short) (sym (kept_is_written k l short f at))

-- of something, its length is told
counted_some : (os : List ℕ) → 0 < length os → Some (0 + length os) ≡ counted os
counted_some [] h = absurd (omega arith)
counted_some (o ∷ os) h = ap Some (omega arith)

-- what is told, with 0 for none, is always the length
pub count_or_zero : (os : List ℕ) → unwrap_or (counted os) 0 ≡ length os
count_or_zero [] = refl
count_or_zero (o ∷ os) = refl

-- there always is something
kept_some : (k : Keep) (f : Field) (l : List ℕ) (at : ℕ) → 0 < length (field_kept k (base_of f) l at)
unfolding field_kept
kept_some k f l at =
    let N = npar_places k (base_of f) in
    rw (length-append (block_kept 7 128 N l at) (rest_kept k (base_of f) (spar_places k (base_of f)) l (behind 128 l at))) (omega (arith, kept_any N l at))

module _ (k : Keep) (f : Field) (l : List ℕ) (at : ℕ) (out : List ℕ) where
  -- nothing is
  rewrites_none : rewritten k f l at (length out) ≡ [] → Rewrites k f l at out None out
  rewrites_none e = record { count = rw e; output = rw e (sym (put-nil out)) }

  -- the output is too small
  pub rewrites_small : length out < 64 → Rewrites k f l at out None out
  unfolding rewritten
  rewrites_small h = rewrites_none (rw (lt-ltb (length out) 64 h))

  module _ (room : 64 ≤ length out) where
    -- the field is not well-formed
    pub rewrites_bad : is_fine (form_in l at) ≡ false → Rewrites k f l at out None out
    unfolding rewritten
    rewrites_bad h = rewrites_none (rw (le-ltb (length out) 64 room, h))

    module _ (octets : AreOctets l) (fine : is_fine (form_in l at) ≡ true) where
      -- it is, and an output with room for a message has room for what is kept of it
      pub field_room : (length l ≤ 64) × (field_form l at ≡ Fine) × (0 + length (field_kept k (base_of f) l at) ≤ length out)
      field_room =
          let x = fine_in l at fine in
          let y = field_fits l at x.1 in
          (x.0, x.1, omega (arith, y, x.0, kept_fits k l x.0 f at octets x.1))

      -- which is the answer
      pub rewrites_fine : (out₁ : List ℕ) (e : ℕ) (r : Spot) → Puts (field_kept k (base_of f) l at) e out 0 out₁ r → Rewrites k f l at out (Some r.to) out₁
      unfolding rewritten
      rewrites_fine out₁ e r p =
          let all : rewritten k f l at (length out) ≡ field_kept k (base_of f) l at = rw (le-ltb (length out) 64 room, fine) (kept_is_put k f l at (fine_in l at fine).0) in
          record {
            count = rw all (ap Some p.at ∙ counted_some (field_kept k (base_of f) l at) (kept_some k f l at));
            output = rw all (p.out ∙ sets_front out (field_kept k (base_of f) l at) (omega (arith, field_room.2)));
          }
