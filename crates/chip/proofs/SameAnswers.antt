-- The exported functions tell what the operations tell, and leave what these leave: by the contracts of both.
-- Assumes nothing.
use Prim.Native.Nat.{ℕ, ◌*◌, ◌≤◌}
use mathlib.Core.Path.{◌≡◌, refl, sym, ap, ◌∙◌}
use mathlib.Core.List.{List}
use lib.ListN.{length, take, drop}
use lib.Seq.{take_at}
use Rattle.octets.specs.Lay.{put}
use Rattle.frame.specs.Reader as reader
use Rattle.frame.specs.Writer as writer
use Rattle.std.specs.Prelude.{Result}
use Rattle.frame.specs.declared.FrameReadRefusal.{FrameReadRefusal}
use Rattle.frame.specs.declared.FrameWriteRefusal.{FrameWriteRefusal}
use Rattle.tree.specs.Fields.{fours}
use Rattle.fill.proofs.Stored.{fours-length}
use Rattle.message.specs.Reader.{list_room, message_codes, Reading, refused, accepted, read_message, read_told, read_reply, codes_read, Reads, room_of}
use Rattle.message.specs.declared.Message.{Message}
use Rattle.message.specs.declared.MessageReadRefusal.{MessageReadRefusal}
use Rattle.message.proofs.Reading.{room_enough}
use Rattle.chip.specs.Answers.{frame_read_answer, frame_write_answer, ReadsFrame, WritesFrame, message_answer, ReadsMessage}
use Rattle.chip.specs.declared.FrameReadAnswer.{FrameReadAnswer}
use Rattle.chip.specs.declared.FrameWriteAnswer.{FrameWriteAnswer}
use Rattle.chip.specs.declared.MessageAnswer.{MessageAnswer}

-- the frame reader
pub frame_read_same : (run : List ℕ) (count : ℕ) (out₀ : List ℕ) (r : Result ℕ FrameReadRefusal) (r' : FrameReadAnswer) (out₁ out₁' : List ℕ)
    → reader.Reads (reader.read_frame run count (length out₀)) out₀ r out₁ → ReadsFrame run count out₀ r' out₁'
    → (r' ≡ frame_read_answer (reader.read_told r)) × (out₁' ≡ out₁)
frame_read_same run count out₀ r r' out₁ out₁' a b = (b.reply ∙ ap frame_read_answer (sym a.reply), b.output ∙ sym a.output)

-- the frame writer
pub frame_write_same : (info : List ℕ) (opening closing : ℕ) (out₀ : List ℕ) (r : Result ℕ FrameWriteRefusal) (r' : FrameWriteAnswer) (out₁ out₁' : List ℕ)
    → writer.Writes (writer.write_frame info opening closing (length out₀)) out₀ r out₁ → WritesFrame info opening closing out₀ r' out₁'
    → (r' ≡ frame_write_answer (writer.write_told r)) × (out₁' ≡ out₁)
frame_write_same info opening closing out₀ r r' out₁ out₁' a b = (b.reply ∙ ap frame_write_answer (sym a.reply), b.output ∙ sym a.output)

-- the message reader, with lists that are large enough: as many codes are told, and the octets at the front are those of the numbers there
pub message_read_same : (l list₀ octets₀ : List ℕ) (r : Result Message MessageReadRefusal) (r' : MessageAnswer) (list₁ octets₁ : List ℕ) → list_room ≤ length list₀
    → list_room ≤ room_of octets₀ → Reads l list₀ r list₁ → ReadsMessage l octets₀ r' octets₁
    → (r' ≡ message_answer (read_told r)) × (take (4 * r'.codes) octets₁ ≡ fours (take r'.codes list₁))
unfolding put fours
message_read_same l list₀ octets₀ r r' list₁ octets₁ h k a b =
    let e = room_enough l (length list₀) h in
    let f = room_enough l (room_of octets₀) k in
    go (read_message l list_room) (rw e at a.reply) (rw e at a.list) (rw f at b.reply) (rw f at b.list)
  where
    go : (x : Reading) → read_told r ≡ read_reply x l → list₁ ≡ put (codes_read x l) list₀ → r' ≡ message_answer (read_reply x l) → octets₁ ≡ put (fours (codes_read x l)) octets₀
        → (r' ≡ message_answer (read_told r)) × (take (4 * r'.codes) octets₁ ≡ fours (take r'.codes list₁))
    go (refused n) p q u v = (u ∙ ap message_answer (sym p), rw u)
    go accepted p q u v =
        let cs = message_codes l in
        let fs = fours cs in
        (u ∙ ap message_answer (sym p), rw (u, q, v, take_at cs (drop (length cs) list₀) (length cs) refl) (take_at fs (drop (length fs) octets₀) (4 * length cs) (fours-length cs)))
