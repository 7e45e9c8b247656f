-- What the exported functions' contracts fix: by the `ensures` alone no second answer, and no second content of the lent buffer, fits.
-- Assumes nothing.
use Prim.Native.Nat.{ℕ}
use mathlib.Core.Path.{◌≡◌}
use mathlib.Core.List.{List}
use Rattle.octets.proofs.Unique.{one_reply}
use Rattle.chip.specs.Answers.{ReadsFrame, WritesFrame, ReadsMessage}
use Rattle.chip.specs.declared.FrameReadAnswer.{FrameReadAnswer}
use Rattle.chip.specs.declared.FrameWriteAnswer.{FrameWriteAnswer}
use Rattle.chip.specs.declared.MessageAnswer.{MessageAnswer}

-- `kamvezhor_read_frame`
pub frame_read_unique : (run : List ℕ) (count : ℕ) (out₀ : List ℕ) (r r' : FrameReadAnswer) (out₁ out₁' : List ℕ) → ReadsFrame run count out₀ r out₁
    → ReadsFrame run count out₀ r' out₁' → (r ≡ r') × (out₁ ≡ out₁')
frame_read_unique run count out₀ r r' out₁ out₁' a b = (one_reply a.reply b.reply, one_reply a.output b.output)

-- `kamvezhor_write_frame`
pub frame_write_unique : (info : List ℕ) (opening closing : ℕ) (out₀ : List ℕ) (r r' : FrameWriteAnswer) (out₁ out₁' : List ℕ)
    → WritesFrame info opening closing out₀ r out₁ → WritesFrame info opening closing out₀ r' out₁' → (r ≡ r') × (out₁ ≡ out₁')
frame_write_unique info opening closing out₀ r r' out₁ out₁' a b = (one_reply a.reply b.reply, one_reply a.output b.output)

-- `kamvezhor_read_message`
pub message_read_unique : (l list₀ : List ℕ) (r r' : MessageAnswer) (list₁ list₁' : List ℕ) → ReadsMessage l list₀ r list₁ → ReadsMessage l list₀ r' list₁'
    → (r ≡ r') × (list₁ ≡ list₁')
message_read_unique l list₀ r r' list₁ list₁' a b = (one_reply a.reply b.reply, one_reply a.list b.list)
