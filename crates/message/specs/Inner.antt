-- Inner: what inner functions leave in two lists.
-- Assumes nothing.
use Rattle.std.specs.Prelude.{List, ◌≡◌, ℕ, Result}
use Rattle.octets.specs.Lay.{over}
use Rattle.tree.specs.Fields.{fours}
use Rattle.message.specs.Reader.{codes_read, read_message, read_told, read_reply}
use Rattle.message.specs.declared.Message.{Message}
use Rattle.message.specs.declared.MessageReadRefusal.{MessageReadRefusal}

-- the reply r and the lists list₁ and octets₁ are those of reading the message l with such a room: its codes, as many as each list has room for
pub record ReadsBoth (l : List ℕ) (room : ℕ) (list₀ octets₀ : List ℕ) (r : Result Message MessageReadRefusal) (list₁ octets₁ : List ℕ) : Type 0 where
  pub reply : read_told r ≡ read_reply (read_message l room) l
  pub list : list₁ ≡ over (codes_read (read_message l room) l) list₀
  pub octets : octets₁ ≡ over (fours (codes_read (read_message l room) l)) octets₀
