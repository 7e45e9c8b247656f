-- To be believed: what the frame writer answers, by the rules' numbers, and what it leaves in the output.
-- Assumes nothing.
use Rattle.std.specs.Prelude.{ℕ, Bool, true, false, Result, Ok, Err, List, ◌≡◌, ltb, length}
use Rattle.octets.specs.Bits.{packed}
use Rattle.octets.specs.Lay.{put}
use Rattle.frame.specs.Limits.{most_information, frame_room, fewest_opening, most_opening, fewest_closing, most_closing}
use Rattle.frame.specs.Frame.{frame}
use Rattle.frame.specs.Reader.{Reply}
use Rattle.frame.specs.declared.FrameWriteRefusal.{FrameWriteRefusal}
use Rattle.frame.specs.declared.FrameWriteRefusal.TheVariants.{BadLent, BadLength, BadFlagCount}

-- a refusal's number, or the bits of the frame
pub data Writing : Type 0 where
  refused : ℕ → Writing
  sent : List Bool → Writing

abbrev pub refused_if : Bool → ℕ → Writing → Writing
refused_if true k w = refused k
refused_if false k w = w

-- 1, 7 and 8, in this order
unfoldable pub write_frame : List ℕ → ℕ → ℕ → ℕ → Writing
write_frame info opening closing room =
    refused_if (ltb room frame_room) 1
    (refused_if (ltb (length info) 1) 7
    (refused_if (ltb most_information (length info)) 7
    (refused_if (ltb opening fewest_opening) 8
    (refused_if (ltb most_opening opening) 8
    (refused_if (ltb closing fewest_closing) 8
    (refused_if (ltb most_closing closing) 8
    (sent (frame info opening closing))))))))

-- each answer's number and value, the bit count
abbrev pub write_told : Result ℕ FrameWriteRefusal → Reply
write_told (Ok n) = record { no = 0; count = n }
write_told (Err BadLent) = record { no = 1; count = 0 }
write_told (Err BadLength) = record { no = 7; count = 0 }
write_told (Err BadFlagCount) = record { no = 8; count = 0 }

abbrev pub write_reply : Writing → Reply
write_reply (refused k) = record { no = k; count = 0 }
write_reply (sent bs) = record { no = 0; count = length bs }

-- the output: a refusal writes nothing, success only the octets that the bits need, the unused bits of the last one zero
abbrev pub write_leaves : Writing → List ℕ → List ℕ
write_leaves (refused k) out = out
write_leaves (sent bs) out = put (packed bs) out

-- the reply r and the output out₁ are those of the writing x into the output out₀
pub record Writes (x : Writing) (out₀ : List ℕ) (r : Result ℕ FrameWriteRefusal) (out₁ : List ℕ) : Type 0 where
  pub reply : write_told r ≡ write_reply x
  pub output : out₁ ≡ write_leaves x out₀
