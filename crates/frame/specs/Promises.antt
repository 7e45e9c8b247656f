-- To be believed: what each public function promises, in the words that its `ensures` and the demands cite.
-- Assumes nothing.
use Rattle.std.specs.Prelude.{ℕ, Result, List, length}
use Rattle.frame.specs.Reader.{read_frame, Reads}
use Rattle.frame.specs.Writer.{write_frame, Writes}
use Rattle.frame.specs.declared.FrameReadRefusal.{FrameReadRefusal}
use Rattle.frame.specs.declared.FrameWriteRefusal.{FrameWriteRefusal}

-- read_frame
abbrev pub FrameReads : List ℕ → ℕ → List ℕ → Result ℕ FrameReadRefusal → List ℕ → Type 0
FrameReads run count out₀ r out₁ = Reads (read_frame run count (length out₀)) out₀ r out₁

-- write_frame
abbrev pub FrameWrites : List ℕ → ℕ → ℕ → List ℕ → Result ℕ FrameWriteRefusal → List ℕ → Type 0
FrameWrites info opening closing out₀ r out₁ = Writes (write_frame info opening closing (length out₀)) out₀ r out₁
