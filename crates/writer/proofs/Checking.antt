-- What becomes of a message whose parts are judged one after the other, and what an answer says of it.
-- Assumes nothing.
use Prim.Native.Nat.{ℕ, ◌≤◌, ◌<◌}
use mathlib.Core.Path.{◌≡◌, refl, ◌∙◌}
use mathlib.Core.Bool.{true, false}
use mathlib.Core.List.{List}
use native.Mathlib.Omega.{arith}
use borrow.Author.Tests.{lt-ltb, le-ltb}
use lib.ListN.{length}
use Rattle.std.specs.Prelude.{Ok, Err}
use Rattle.octets.specs.Lay.{over}
use Rattle.octets.proofs.Laying.{over_fits}
use Rattle.tree.specs.Fields.{most_octets}
use Rattle.message.specs.Kinds.{known}
use Rattle.meaning.specs.Meaning.{all_shaped, ascending, all_parented}
use Rattle.meaning.specs.Writing.{Writing, refused, ends_there, ns_agrees, unless_long, checked_writing, list_writing, write_message}
use Rattle.writer.specs.Writer.{Writes}
use Rattle.writer.specs.Inner.{number, ListRefused, DraftRefused, Drafts}
use Rattle.writer.specs.declared.Codes.{Codes}
use Rattle.writer.specs.declared.MessageWriteRefusal.{MessageWriteRefusal}
use Rattle.writer.specs.declared.MessageWriteRefusal.TheVariants.{BadLent, BadType, BadCode, NotAscending, NoParent, NotEmpty, BadNs, TooLong}

-- ---- the parts of a message

-- a list, by its first test that fails
module _ (list : List ℕ) where
  pub shapes_refused : all_shaped list ≡ false → ListRefused list BadCode
  unfolding list_writing
  shapes_refused h kind revision ns = rw h

  pub order_refused : all_shaped list ≡ true → ascending list ≡ false → ListRefused list NotAscending
  unfolding list_writing
  order_refused s h kind revision ns = rw (s, h)

  pub parents_refused : all_shaped list ≡ true → ascending list ≡ true → all_parented list list ≡ false → ListRefused list NoParent
  unfolding list_writing
  parents_refused s u h kind revision ns = rw (s, u, h)

-- a message, by its first test that fails
module _ (kind revision : ℕ) (list ns : List ℕ) where
  pub type_refused : known kind ≡ false → DraftRefused kind revision list ns BadType
  unfolding write_message
  type_refused h room space = rw (le-ltb _ _ space, h)

  module _ (is_type : known kind ≡ true) where
    pub revision_refused : 15 < revision → DraftRefused kind revision list ns BadType
    unfolding write_message
    revision_refused h room space = rw (le-ltb _ _ space, is_type, lt-ltb _ _ h)

    module _ (low : revision ≤ 15) where
      list_judged : (room : ℕ) → most_octets ≤ room → write_message kind revision list ns room ≡ list_writing kind revision list ns
      unfolding write_message
      list_judged room space = rw (le-ltb _ _ space, is_type, le-ltb _ _ low)

      pub list_refused : (e : MessageWriteRefusal) → ListRefused list e → DraftRefused kind revision list ns e
      list_refused e h room space = list_judged room space ∙ h kind revision ns

      module _ (codes : Codes) (same : codes.list.now ≡ list) where
        checked : (room : ℕ) → most_octets ≤ room → write_message kind revision list ns room ≡ checked_writing kind revision list ns
        unfolding list_writing
        checked room space = list_judged room space ∙ rw (rw same at codes.shapes, rw same at codes.up, rw same at codes.parents)

        pub ends_refused : ends_there kind list ns ≡ false → DraftRefused kind revision list ns NotEmpty
        unfolding checked_writing
        ends_refused h room space = checked room space ∙ rw h

        pub ns_refused : ends_there kind list ns ≡ true → ns_agrees codes.list.now ns ≡ false → DraftRefused kind revision list ns BadNs
        unfolding checked_writing
        ns_refused e h room space = checked room space ∙ rw (e, rw same at h)

        pub all_right : ends_there kind list ns ≡ true → ns_agrees codes.list.now ns ≡ true → Drafts kind revision list ns kind revision codes.list.now ns
        unfolding checked_writing
        all_right e h = record { writes = λ room space. checked room space ∙ rw (e, rw same at h, same) }

-- ---- answers

-- a refusal is told, and leaves the output
pub refusal_writes : (e : MessageWriteRefusal) {x : Writing} {out : List ℕ} → x ≡ refused (number e) → Writes x out (Err e) out
refusal_writes BadLent h = rw h (record { reply = refl; output = refl })
refusal_writes BadType h = rw h (record { reply = refl; output = refl })
refusal_writes BadCode h = rw h (record { reply = refl; output = refl })
refusal_writes NotAscending h = rw h (record { reply = refl; output = refl })
refusal_writes NoParent h = rw h (record { reply = refl; output = refl })
refusal_writes NotEmpty h = rw h (record { reply = refl; output = refl })
refusal_writes BadNs h = rw h (record { reply = refl; output = refl })
refusal_writes TooLong h = rw h (record { reply = refl; output = refl })

-- octets that are not too many are sent, and those that are, are not
pub message_sent : (octets : List ℕ) {out out₁ : List ℕ} → length octets ≤ most_octets → most_octets ≤ length out → out₁ ≡ over octets out → Writes (unless_long octets) out (Ok (length octets)) out₁
message_sent octets {out} few room e = rw (le-ltb most_octets (length octets) few) (record { reply = refl; output = e ∙ over_fits octets out (omega arith) })
