-- To be believed: what each public function promises, in the words that its `ensures` and the demands cite.
-- Assumes nothing.
use Rattle.std.specs.Prelude.{ℕ, List, length, Result}
use Rattle.meaning.specs.Writing.{write_message}
use Rattle.writer.specs.Writer.{Writes}
use Rattle.writer.specs.declared.MessageWriteRefusal.{MessageWriteRefusal}

-- write_message
abbrev pub MessageWrites : ℕ → ℕ → List ℕ → List ℕ → List ℕ → Result ℕ MessageWriteRefusal → List ℕ → Type 0
MessageWrites kind revision list ns out₀ r out₁ = Writes (write_message kind revision list ns (length out₀)) out₀ r out₁
