-- To be believed: what the three exported functions answer and leave: the same as the operations that they pass on, as plain
-- numbers, and each number of the message reader's list as four octets, lowest first (RULES, Scope 5).
-- Assumes nothing.
use Rattle.std.specs.Prelude.{ℕ, List, ◌≡◌, length}
use Rattle.octets.specs.Lay.{put}
use Rattle.frame.specs.Reader as reader
use Rattle.frame.specs.Writer as writer
use Rattle.tree.specs.Fields.{fours}
use Rattle.message.specs.Reader.{read_message, read_reply, codes_read, room_of}
use Rattle.message.specs.Reader as message
use Rattle.chip.specs.declared.FrameReadAnswer.{FrameReadAnswer}
use Rattle.chip.specs.declared.FrameWriteAnswer.{FrameWriteAnswer}
use Rattle.chip.specs.declared.MessageAnswer.{MessageAnswer}

-- the rules' number and the octets read, as the firmware gets them
abbrev pub frame_read_answer : reader.Reply → FrameReadAnswer
frame_read_answer x = record { refusal = x.no; octets = x.count }

-- the frame reader
pub record ReadsFrame (run : List ℕ) (count : ℕ) (out₀ : List ℕ) (r : FrameReadAnswer) (out₁ : List ℕ) : Type 0 where
  pub reply : r ≡ frame_read_answer (reader.read_reply (reader.read_frame run count (length out₀)))
  pub output : out₁ ≡ reader.read_leaves (reader.read_frame run count (length out₀)) out₀

-- the rules' number and the bits written, as the firmware gets them
abbrev pub frame_write_answer : reader.Reply → FrameWriteAnswer
frame_write_answer x = record { refusal = x.no; bits = x.count }

-- the frame writer
pub record WritesFrame (info : List ℕ) (opening closing : ℕ) (out₀ : List ℕ) (r : FrameWriteAnswer) (out₁ : List ℕ) : Type 0 where
  pub reply : r ≡ frame_write_answer (writer.write_reply (writer.write_frame info opening closing (length out₀)))
  pub output : out₁ ≡ writer.write_leaves (writer.write_frame info opening closing (length out₀)) out₀

-- the rules' number and values, as the firmware gets them
abbrev pub message_answer : message.Reply → MessageAnswer
message_answer x =
    record {
      refusal = x.no;
      kind = x.kind;
      revision = x.revision;
      codes = x.count;
      ns_at = x.ns_at;
      ns_length = x.ns_length;
    }

-- the message reader: the codes are stored, four octets to each, and nothing behind them
pub record ReadsMessage (l list₀ : List ℕ) (r : MessageAnswer) (list₁ : List ℕ) : Type 0 where
  pub reply : r ≡ message_answer (read_reply (read_message l (room_of list₀)) l)
  pub list : list₁ ≡ put (fours (codes_read (read_message l (room_of list₀)) l)) list₀
