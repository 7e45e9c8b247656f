-- To be believed: a list that was sent comes back. Stated of the four contracts, each with its buffers, and of the one function that
-- makes the four calls.
-- Assumes nothing.
use Rattle.std.specs.Prelude.{ℕ, ◌<◌, ◌≤◌, Bool, Result, Ok, Err, List, ◌≡◌, length, take}
use Rattle.octets.specs.Bits.{AreOctets}
use Rattle.octets.specs.Lay.{put}
use Rattle.frame.specs.Limits.{information_room, frame_room}
use Rattle.frame.specs.Reader.{read_frame}
use Rattle.frame.specs.Reader as frameReader
use Rattle.frame.specs.Writer.{write_frame}
use Rattle.frame.specs.Writer as frameWriter
use Rattle.frame.specs.declared.FrameReadRefusal.{FrameReadRefusal}
use Rattle.frame.specs.declared.FrameWriteRefusal.{FrameWriteRefusal}
use Rattle.message.specs.Kinds.{type_of, revision_of}
use Rattle.tree.specs.Fields.{most_octets}
use Rattle.message.specs.Reader.{list_room, message_codes, ns_place, ns_of, accepted, read_message, ns_told}
use Rattle.message.specs.Reader as messageReader
use Rattle.message.specs.declared.Message.{Message}
use Rattle.message.specs.declared.MessageReadRefusal.{MessageReadRefusal}
use Rattle.message.specs.declared.MessageReadRefusal.TheVariants.{BadLent}
use Rattle.meaning.specs.Writing.{write_message}
use Rattle.meaning.specs.Writing as writing
use Rattle.writer.specs.Writer as messageWriter
use Rattle.writer.specs.declared.MessageWriteRefusal.{MessageWriteRefusal}
use Rattle.demands.specs.declared.Flags.{Flags}
use Rattle.demands.specs.declared.TripRefusal.{TripRefusal}
use Rattle.demands.specs.declared.TripRefusal.TheVariants.{Unwritten, Unframed}

-- what the message reader finds in some octets: that they are accepted, and this type, revision, list and NS
abbrev pub Tells : List ℕ → ℕ → ℕ → ℕ → List ℕ → List ℕ → Type 0
Tells os room kind revision list ns =
    (read_message os room ≡ accepted) × (type_of os ≡ kind) × (revision_of os ≡ revision) × (message_codes os ≡ list) × (ns_of os ≡ ns)

-- Four calls, one after the other, each with its `ensures`. Each is lent a buffer of its own, ₀ before the call and ₁ behind it, and is
-- given what the call before it left. Both writers tell success, and the readers' buffers have the room that the rules ask for
pub record FourCalls (kind revision : ℕ) (list ns : List ℕ) (opening closing : ℕ) : Type 0 where
  -- the list and an NS of octets are written as a message
  pub octets : AreOctets ns
  pub message₀ : List ℕ
  pub message₁ : List ℕ
  pub written : Result ℕ MessageWriteRefusal
  pub writes : messageWriter.Writes (write_message kind revision list ns (length message₀)) message₀ written message₁
  pub success : (messageWriter.write_told written).no ≡ 0
  -- the octets that it tells are framed
  pub bits₀ : List ℕ
  pub bits₁ : List ℕ
  pub framed : Result ℕ FrameWriteRefusal
  pub frames : frameWriter.Writes (write_frame (take (messageWriter.write_told written).count message₁) opening closing (length bits₀)) bits₀ framed bits₁
  pub framing : (frameWriter.write_told framed).no ≡ 0
  -- the bits that it tells are read as a frame
  pub information₀ : List ℕ
  pub information₁ : List ℕ
  pub unframed : Result ℕ FrameReadRefusal
  pub unframes : frameReader.Reads (read_frame bits₁ (frameWriter.write_told framed).count (length information₀)) information₀ unframed information₁
  pub information_size : information_room ≤ length information₀
  -- the octets that it tells are read as a message
  pub list₀ : List ℕ
  pub list₁ : List ℕ
  pub read : Result Message MessageReadRefusal
  pub reads : messageReader.Reads (take (frameReader.read_told unframed).count information₁) list₀ read list₁
  pub list_size : list_room ≤ length list₀

-- What comes back: both readers tell success, the frame reader as many octets as the message writer, the message reader the type, the
-- revision, the length of the list and the NS; and the list stands at the front of the list buffer, which is unchanged behind it
pub record ComesBack {kind revision : ℕ} {list ns : List ℕ} {opening closing : ℕ} (c : FourCalls kind revision list ns opening closing) : Type 0 where
  pub unframed : frameReader.read_told c.unframed ≡ record { no = 0; count = (messageWriter.write_told c.written).count }
  pub success : (messageReader.read_told c.read).no ≡ 0
  pub kind_read : (messageReader.read_told c.read).kind ≡ kind
  pub revision_read : (messageReader.read_told c.read).revision ≡ revision
  pub count : (messageReader.read_told c.read).count ≡ length list
  pub list_read : c.list₁ ≡ put list c.list₀
  pub ns_read : ns_told c.read (take (frameReader.read_told c.unframed).count c.information₁) ≡ ns

-- what came of a trip: what the message reader answered at its end, or why it ended before
abbrev pub Trip : Type 0
Trip = Result (Result Message MessageReadRefusal) TripRefusal

-- There and back, in one function: the reply r and the list back₁ that the lent list back₀ becomes
pub record ReturnsList (kind revision : ℕ) (list ns : List ℕ) (flags : Flags) (back₀ : List ℕ) (r : Trip) (back₁ : List ℕ) : Type 0 where
  -- where no message is written, the lent list stays as it was
  pub unwritten : (no : ℕ) → write_message kind revision list ns most_octets ≡ writing.refused no → (r ≡ Err Unwritten) × (back₁ ≡ back₀)
  -- and so it does where the message gets no frame
  pub unframed : (os : List ℕ) (no : ℕ) → write_message kind revision list ns most_octets ≡ writing.sent os
      → write_frame os flags.opening flags.closing frame_room ≡ frameWriter.refused no → (r ≡ Err Unframed) × (back₁ ≡ back₀)
  -- otherwise what was given is what was read, and the list that was given stands at the front of the lent one
  pub returned : (os : List ℕ) (bits : List Bool) → write_message kind revision list ns most_octets ≡ writing.sent os
      → write_frame os flags.opening flags.closing frame_room ≡ frameWriter.sent bits → list_room ≤ length back₀
      → (r ≡ Ok (Ok (record { kind = kind; revision = revision; count = length list; ns = record { at = ns_place os; length = length ns } })))
      × (back₁ ≡ put list back₀)
  -- unless that is too small
  pub small : (os : List ℕ) (bits : List Bool) → write_message kind revision list ns most_octets ≡ writing.sent os
      → write_frame os flags.opening flags.closing frame_room ≡ frameWriter.sent bits → length back₀ < list_room
      → (r ≡ Ok (Err BadLent)) × (back₁ ≡ back₀)
