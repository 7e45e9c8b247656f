-- From the checks of a message, in their order, to the reply and the list.
-- Assumes nothing.
use Prim.Native.Nat.{ℕ, ◌<◌, ◌≤◌}
use mathlib.Core.Path.{◌≡◌, refl}
use mathlib.Core.Bool.{true, false}
use mathlib.Core.List.{List, [], ◌++◌}
use borrow.Author.Tests.{le-ltb, lt-ltb, eq-eqb, ne_eqb}
use lib.ListN.{length}
use Rattle.octets.specs.Lay.{over}
use Rattle.tree.specs.Codes.{field_base, field_codes}
use Rattle.tree.specs.Fields.{fours, most_octets}
use Rattle.tree.specs.Form.{Form, Fine, Early, Wrong, Left, BadLength, is_fine}
use Rattle.message.specs.Kinds.{known, has_fields, type_of, revision_of}
use Rattle.message.specs.Reader.{list_room, standard_at, message_form, message_codes, ns_place, ns_size, refused, accepted, judged, read_message, refusal, read_told}
use Rattle.message.specs.Inner.{ReadsBoth}
use Rattle.std.specs.Prelude.{Result, Ok}
use Rattle.message.specs.declared.Message.{Message}
use Rattle.message.specs.declared.MessageReadRefusal.{MessageReadRefusal}
use Rattle.message.specs.declared.Span.{Span}
use Rattle.message.proofs.Fields.{whole}

-- a refusal gives its number and leaves the lists
pub refuses : (l : List ℕ) (room : ℕ) (list octets : List ℕ) (k : ℕ) (r : Result Message MessageReadRefusal) → read_message l room ≡ refused k → read_told r ≡ refusal k
    → ReadsBoth l room list octets r list octets
unfolding over fours
refuses l room list octets k r e t = record { reply = rw e t; list = rw e; octets = rw e }

-- a well-formed message gives its type and revision, the number of its codes and the place of its NS, and leaves its codes in the lists
pub accepts : (l : List ℕ) (room : ℕ) (list₀ octets₀ list₁ octets₁ : List ℕ) (kind n : ℕ) (ns : Span) → read_message l room ≡ accepted → kind ≡ type_of l
    → n ≡ length (message_codes l) → ns.at ≡ ns_place l → ns.length ≡ ns_size l → list₁ ≡ over (message_codes l) list₀ → octets₁ ≡ over (fours (message_codes l)) octets₀
    → ReadsBoth l room list₀ octets₀ (Ok (record { kind = kind; revision = revision_of l; count = n; ns = ns })) list₁ octets₁
accepts l room list₀ octets₀ list₁ octets₁ kind n ns e k c p s h o = record { reply = rw (e, k, c, p, s); list = rw e h; octets = rw e o }

-- ---- the checks

module _ (l : List ℕ) (room : ℕ) where
  -- a list that is too small
  pub no_room : room < list_room → read_message l room ≡ refused 1
  unfolding read_message
  no_room h = rw (lt-ltb room list_room h)

  module _ (h : list_room ≤ room) where
    -- a larger one is as good as the smallest
    pub room_enough : read_message l room ≡ read_message l list_room
    unfolding read_message
    room_enough = rw (le-ltb room list_room h)

    -- no octet
    pub no_octet : length l ≡ 0 → read_message l room ≡ refused 2
    unfolding read_message
    no_octet e = rw (le-ltb room list_room h, eq-eqb (length l) 0 e)

    module _ (e : length l ≡ 0 → ⊥) where
      -- too many octets
      pub too_long : most_octets < length l → read_message l room ≡ refused 2
      unfolding read_message
      too_long m = rw (le-ltb room list_room h, ne_eqb (length l) 0 e, lt-ltb most_octets (length l) m)

      module _ (m : length l ≤ most_octets) where
        -- a type that is not known
        pub not_known : known (type_of l) ≡ false → read_message l room ≡ refused 3
        unfolding read_message
        not_known k = rw (le-ltb room list_room h, ne_eqb (length l) 0 e, le-ltb most_octets (length l) m, k)

        -- any other is judged by its form
        pub by_form : known (type_of l) ≡ true → read_message l room ≡ judged (message_form l)
        unfolding read_message
        by_form k = rw (le-ltb room list_room h, ne_eqb (length l) 0 e, le-ltb most_octets (length l) m, k)

-- ---- the form

-- whichever rule is broken, the number is 4
pub judged_bad : (f : Form) → is_fine f ≡ false → judged f ≡ refused 4
judged_bad Fine h = cc
judged_bad (Early i) h = refl
judged_bad (Wrong i) h = refl
judged_bad (Left i) h = refl
judged_bad (BadLength i) h = refl

-- the form and the codes of a message with fields
module _ (l : List ℕ) (h : has_fields (type_of l) ≡ true) where
  pub form_fields : message_form l ≡ whole l
  unfolding message_form
  form_fields = rw h

  pub codes_fields : message_codes l ≡ field_codes (field_base 1) l 1 ++ field_codes (field_base 2) l (standard_at l)
  unfolding message_codes
  codes_fields = rw h

-- and of a message without: one octet, and no codes
module _ (l : List ℕ) (h : has_fields (type_of l) ≡ false) where
  pub form_one : length l ≡ 1 → message_form l ≡ Fine
  unfolding message_form
  form_one e = rw (h, eq-eqb (length l) 1 e)

  pub form_more : (length l ≡ 1 → ⊥) → message_form l ≡ Left 1
  unfolding message_form
  form_more e = rw (h, ne_eqb (length l) 1 e)

  pub codes_none : message_codes l ≡ []
  unfolding message_codes
  codes_none = rw h
