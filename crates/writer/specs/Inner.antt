-- Inner: what the inner functions of the writer check, and what they put on a sheet of at most 64 octets. The octets are put head by
-- head: a head is the code of an SPar(1) or an SPar(2), with something under it.
-- Assumes nothing.
use Rattle.std.specs.Prelude.{ℕ, ◌+◌, ◌%◌, ◌≤◌, ◌<◌, Bool, true, ltb, eqb, List, [], ◌∷◌, ◌++◌, ◌≡◌, length, Result, Ok, Err}
use Rattle.octets.specs.Places.{pick}
use Rattle.tree.specs.Codes.{n_of, parent_of, of_f, of_s, of_t, field_base}
use Rattle.tree.specs.Fields.{most_octets}
use Rattle.meaning.specs.Written.{block_octets, run, from, positions, marked}
use Rattle.meaning.specs.Writing.{is_empty, refused, list_writing, write_message, unless_long, message_octets}
use Rattle.writer.specs.Writer.{write_told}
use Rattle.writer.specs.declared.MessageWriteRefusal.{MessageWriteRefusal}
use Rattle.writer.specs.declared.Full.{Full}

-- the number of a refusal
abbrev pub number : MessageWriteRefusal → ℕ
number e = (write_told (Err e)).no

-- a list is refused, whatever is to be written with it
abbrev pub ListRefused : List ℕ → MessageWriteRefusal → Type 0
ListRefused list e = (kind revision : ℕ) (ns : List ℕ) → list_writing kind revision list ns ≡ refused (number e)

-- a message is refused, whatever the room
abbrev pub DraftRefused : ℕ → ℕ → List ℕ → List ℕ → MessageWriteRefusal → Type 0
DraftRefused kind revision list ns e = (room : ℕ) → most_octets ≤ room → write_message kind revision list ns room ≡ refused (number e)

-- a draft is of the message that was asked for, which is written unless it is too long
pub record Drafts (kind revision : ℕ) (list ns : List ℕ) (kind₁ revision₁ : ℕ) (list₁ ns₁ : List ℕ) : Type 0 where
  pub writes : (room : ℕ) → most_octets ≤ room → write_message kind revision list ns room ≡ unless_long (message_octets kind₁ revision₁ list₁ ns₁)

-- the octets were put behind those that a sheet had; or they would have passed its end, and what it has then does not matter
abbrev pub Puts : {A : Type 0} → List ℕ → List ℕ → List ℕ → Result A Full → Type 0
Puts octets old new (Ok _) = new ≡ old ++ octets
Puts octets old new (Err _) = most_octets < length (old ++ octets)

-- a code needs no parent, or it is the last code before it with n = 0, or with t = n = 0
abbrev pub stands_under : ℕ → ℕ → ℕ → Bool
stands_under c top group =
    pick (eqb (parent_of c) c) true
    (pick (eqb (parent_of c % of_f) 0) true
    (pick (ltb 0 (n_of c)) (eqb (parent_of c) group) (eqb (parent_of c) top)))

-- no SPar(2) of the same SPar(1) follows
abbrev pub ends_par : List ℕ → Bool
ends_par [] = true
ends_par (c ∷ l) = eqb (c % of_s) 0

-- SPar(2) of a head, from the codes behind those under it, if the head is an SPar(1) and has any
abbrev pub lower_block : ℕ → List ℕ → List ℕ
lower_block h l = pick (eqb (h % of_s) 0) (pick (is_empty (run (h + of_s) l)) [] (block_octets 6 64 (positions of_t h (run (h + of_s) l)))) []

-- a head's blocks, from the codes under it and those behind them, and with bit 8 where an SPar(1) ends
abbrev pub head_blocks : ℕ → List ℕ → List ℕ → List ℕ
head_blocks h under behind = block_octets 6 64 (positions 1 h under) ++ lower_block h behind

abbrev pub head_put : ℕ → List ℕ → List ℕ → List ℕ
head_put h under behind = pick (ends_par behind) (marked (head_blocks h under behind)) (head_blocks h under behind)

-- the blocks of the heads from a limit on
unfoldable pub heads_from : ℕ → List ℕ → List ℕ
heads_from lim [] = []
heads_from lim (h ∷ l) = pick (ltb h lim) (heads_from lim l) (head_put h (run (h + of_t) l) (from (h + of_t) l) ++ heads_from (h + of_t) l)

-- the field of the codes above b
abbrev pub field_put : ℕ → List ℕ → List ℕ
field_put b l =
    block_octets 7 128 (positions 1 b (run (b + of_t) l)) ++ (block_octets 7 128 (positions of_s b (from (b + of_t) l)) ++ heads_from 0 (from (b + of_t) l))

-- both fields, and NS
abbrev pub fields_put : List ℕ → List ℕ → List ℕ
fields_put list ns = field_put (field_base 1) (run (field_base 2) list) ++ (field_put (field_base 2) (from (field_base 2) list) ++ ns)
