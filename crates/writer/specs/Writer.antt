-- To be believed: the message writer's answers by the rules' numbers, and its reply and output for a writing.
-- Assumes nothing.
use Rattle.std.specs.Prelude.{ℕ, List, ◌≡◌, Result, Ok, Err}
use Rattle.meaning.specs.Writing.{Writing, Reply, write_reply, write_leaves}
use Rattle.writer.specs.declared.MessageWriteRefusal.{MessageWriteRefusal}
use Rattle.writer.specs.declared.MessageWriteRefusal.TheVariants.{BadLent, BadType, BadCode, NotAscending, NoParent, NotEmpty, BadNs, TooLong}

-- each answer's number and value
abbrev pub write_told : Result ℕ MessageWriteRefusal → Reply
write_told (Ok n) = record { no = 0; count = n }
write_told (Err BadLent) = record { no = 1; count = 0 }
write_told (Err BadType) = record { no = 3; count = 0 }
write_told (Err BadCode) = record { no = 5; count = 0 }
write_told (Err NotAscending) = record { no = 6; count = 0 }
write_told (Err NoParent) = record { no = 7; count = 0 }
write_told (Err NotEmpty) = record { no = 8; count = 0 }
write_told (Err BadNs) = record { no = 9; count = 0 }
write_told (Err TooLong) = record { no = 10; count = 0 }

-- the reply r and the output out₁ are those of the writing x into the output out₀
pub record Writes (x : Writing) (out₀ : List ℕ) (r : Result ℕ MessageWriteRefusal) (out₁ : List ℕ) : Type 0 where
  pub reply : write_told r ≡ write_reply x
  pub output : out₁ ≡ write_leaves x out₀
