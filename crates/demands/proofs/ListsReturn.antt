-- A list that was sent comes back: written as a message, framed, found in the frame's bits, and read. Over the definitions, and over the
-- contracts of the four operations with their buffers. And every message that is written fits a frame.
-- Assumes nothing.
use Prim.Native.Nat.{ℕ, suc, ◌-◌, ◌≤◌}
use mathlib.Core.Bool.{Bool, true, false, not}
use mathlib.Core.List.{List, []}
use mathlib.Core.Path.{◌≡◌, refl, sym, ap, ◌∙◌}
use native.Mathlib.Omega.{arith}
use borrow.Author.Tests.{le-ltb}
use lib.Dec.{ltb}
use lib.ListN.{length, take, drop, length-drop}
use lib.Seq.{take-append_seam, take_all}
use Rattle.octets.specs.Bits.{packed, AreOctets}
use Rattle.octets.specs.Lay.{put}
use Rattle.octets.specs.Places.{pick}
use Rattle.frame.specs.Limits.{most_information, information_room, frame_room, fewest_opening, most_opening, fewest_closing, most_closing}
use Rattle.frame.specs.Frame.{frame}
use Rattle.frame.specs.Reader.{information, read_frame}
use Rattle.frame.specs.Reader as frameReader
use Rattle.frame.specs.Writer.{write_frame}
use Rattle.frame.specs.Writer as frameWriter
use Rattle.frame.specs.declared.FrameReadRefusal.{FrameReadRefusal}
use Rattle.frame.specs.declared.FrameWriteRefusal.{FrameWriteRefusal}
use Rattle.exact.proofs.Exact as frames
use Rattle.message.specs.Kinds.{known}
use Rattle.message.specs.Reader.{list_room, has_ns, tail_at, ns_of, accepted, ns_told}
use Rattle.message.specs.Reader as messageReader
use Rattle.message.proofs.Accepted.{success_writes, success_ns}
use Rattle.meaning.specs.Meaning.{all_shaped, ascending, all_parented}
use Rattle.meaning.specs.Writing.{ends_there, ns_agrees, message_octets, checked_writing, list_writing, write_message}
use Rattle.meaning.specs.Writing as writing
use Rattle.writer.specs.Writer as messageWriter
use Rattle.std.specs.Prelude.{Result}
use Rattle.writer.specs.declared.MessageWriteRefusal.{MessageWriteRefusal}
use Rattle.meaning.proofs.RoundTrip.{sent_writable, written_is_read, written_is_octets}
use Rattle.demands.specs.Returning.{Tells, FourCalls, ComesBack}

-- ---- over the definitions

module _ (kind revision : ℕ) (list ns : List ℕ) (room : ℕ) (os : List ℕ) (w : write_message kind revision list ns room ≡ writing.sent os) where
  -- a message that is written fits a frame, with every legal flag count and in every output with room for a frame
  pub fits-frame : (opening closing out_size : ℕ) → fewest_opening ≤ opening → opening ≤ most_opening → fewest_closing ≤ closing → closing ≤ most_closing → frame_room ≤ out_size
      → write_frame os opening closing out_size ≡ frameWriter.sent (frame os opening closing)
  unfolding write_frame message_octets
  fits-frame opening closing out_size o₁ o₂ c₁ c₂ r =
      let s = sent_writable kind revision list ns room os w in
      let some : 1 ≤ length os = rw (← s.octets) (omega arith) in
      rw (
        le-ltb out_size frame_room r,
        le-ltb (length os) 1 some,
        le-ltb most_information (length os) s.few,
        le-ltb opening fewest_opening o₁,
        le-ltb most_opening opening o₂,
        le-ltb closing fewest_closing c₁,
        le-ltb most_closing closing c₂,
      )

  -- what is read from the frame, and then from the message found there, is what was given
  pub list_returns : AreOctets ns → (opening closing : ℕ) (out : List ℕ) (bs : List Bool) → write_frame os opening closing (length out) ≡ frameWriter.sent bs
      → (room₂ room₃ : ℕ) → information_room ≤ room₂ → list_room ≤ room₃
      → (read_frame (put (packed bs) out) (length bs) room₂ ≡ information os) × Tells os room₃ kind revision list ns
  list_returns o opening closing out bs f room₂ room₃ r₂ r₃ =
      (frames.written_is_read os opening closing out bs room₂ (written_is_octets kind revision list ns room os o w) f r₂, written_is_read kind revision list ns room room₃ os w r₃)

-- ---- no refusal of a writer has the number of success

frame_if : (t : Bool) (k : ℕ) (x : frameWriter.Writing) → (x ≡ frameWriter.refused 0 → ⊥) → frameWriter.refused_if t (suc k) x ≡ frameWriter.refused 0 → ⊥
frame_if true k x h e = let z : suc k ≡ 0 = cc in omega arith
frame_if false k x h e = h e

pub frame_never_zero : (info : List ℕ) (opening closing room : ℕ) → write_frame info opening closing room ≡ frameWriter.refused 0 → ⊥
unfolding write_frame
frame_never_zero info opening closing room =
    frame_if (ltb room frame_room) 0 _
    (frame_if (ltb (length info) 1) 6 _
    (frame_if (ltb most_information (length info)) 6 _
    (frame_if (ltb opening fewest_opening) 7 _
    (frame_if (ltb most_opening opening) 7 _
    (frame_if (ltb closing fewest_closing) 7 _
    (frame_if (ltb most_closing closing) 7 _ (λ e. let z : ◌≡◌ {A = ℕ} 0 1 = cc in omega arith)))))))

message_if : (t : Bool) (k : ℕ) (x : writing.Writing) → (x ≡ writing.refused 0 → ⊥) → writing.refused_if t (suc k) x ≡ writing.refused 0 → ⊥
message_if true k x h e = let z : suc k ≡ 0 = cc in omega arith
message_if false k x h e = h e

pub message_never_zero : (kind revision : ℕ) (list ns : List ℕ) (room : ℕ) → write_message kind revision list ns room ≡ writing.refused 0 → ⊥
unfolding write_message list_writing checked_writing
message_never_zero kind revision list ns room =
    message_if (ltb room 64) 0 _
    (message_if (not (known kind)) 2 _
    (message_if (ltb 15 revision) 2 _
    (message_if (not (all_shaped list)) 4 _
    (message_if (not (ascending list)) 5 _
    (message_if (not (all_parented list list)) 6 _
    (message_if (not (ends_there kind list ns)) 7 _
    (message_if (not (ns_agrees list ns)) 8 _
    (message_if (ltb 64 (length (message_octets kind revision list ns))) 9 _ (λ e. let z : ◌≡◌ {A = ℕ} 0 1 = cc in omega arith)))))))))

-- ---- what each success leaves

-- what was put over a front is that front
pub front_put : (xs d : List ℕ) (n : ℕ) → n ≡ length xs → take n (put xs d) ≡ xs
unfolding put
front_put xs d n e = rw e (take-append_seam xs (drop (length xs) d))

-- where a message was written, its octets are the part that the reply tells
pub message_left : (x : writing.Writing) (out₀ : List ℕ) (r : Result ℕ MessageWriteRefusal) (out₁ : List ℕ) → (x ≡ writing.refused 0 → ⊥) → messageWriter.Writes x out₀ r out₁
    → (messageWriter.write_told r).no ≡ 0
    → (os : List ℕ) × (x ≡ writing.sent os) × ((messageWriter.write_told r).count ≡ length os) × (take (messageWriter.write_told r).count out₁ ≡ os)
message_left (writing.refused k) out₀ r out₁ n a h = absurd (n (ap writing.refused (sym (ap (λ (y : writing.Reply). y.no) a.reply) ∙ h)))
message_left (writing.sent os) out₀ r out₁ n a h =
    let e = ap (λ (y : writing.Reply). y.count) a.reply in
    (os, refl, e, rw a.output (front_put os out₀ (messageWriter.write_told r).count e))

-- where a frame was written, the reader given the output and the bit count told looks at that frame
pub frame_left : (x : frameWriter.Writing) (out₀ : List ℕ) (r : Result ℕ FrameWriteRefusal) (out₁ : List ℕ) → (x ≡ frameWriter.refused 0 → ⊥) → frameWriter.Writes x out₀ r out₁
    → (frameWriter.write_told r).no ≡ 0
    → (bs : List Bool) × (x ≡ frameWriter.sent bs) × ((room : ℕ) → read_frame out₁ (frameWriter.write_told r).count room ≡ read_frame (put (packed bs) out₀) (length bs) room)
frame_left (frameWriter.refused k) out₀ r out₁ n a h = absurd (n (ap frameWriter.refused (sym (ap (λ (y : frameReader.Reply). y.no) a.reply) ∙ h)))
frame_left (frameWriter.sent bs) out₀ r out₁ n a h =
    (bs, refl, λ room. rw (a.output, ap (λ (y : frameReader.Reply). y.count) a.reply))

-- where information was read, it is the part that the reply tells
pub information_left : (os out₀ : List ℕ) (r : Result ℕ FrameReadRefusal) (out₁ : List ℕ) → frameReader.Reads (information os) out₀ r out₁ → take (frameReader.read_told r).count out₁ ≡ os
information_left os out₀ r out₁ a = rw a.output (front_put os out₀ (frameReader.read_told r).count (ap (λ (y : frameReader.Reply). y.count) a.reply))

-- the NS of a message is what stands behind S, or nothing
pub ns_behind : (l : List ℕ) → pick (has_ns l) (drop (tail_at l) l) [] ≡ ns_of l
ns_behind l = go (has_ns l)
  where
    go : (t : Bool) → pick t (drop (tail_at l) l) [] ≡ take (pick t (length l - tail_at l) 0) (drop (pick t (tail_at l) 0) l)
    go true = sym (take_all (length l - tail_at l) (drop (tail_at l) l) (omega (arith, length-drop (tail_at l) l)))
    go false = refl

-- ---- over the contracts

module _ {kind revision : ℕ} {list ns : List ℕ} {opening closing : ℕ} (c : FourCalls kind revision list ns opening closing) where
  -- a message was written, and it was framed, found and read
  comes_back : (os : List ℕ) → write_message kind revision list ns (length c.message₀) ≡ writing.sent os → (messageWriter.write_told c.written).count ≡ length os
      → take (messageWriter.write_told c.written).count c.message₁ ≡ os → ComesBack c
  comes_back os w n e =
      let room = length c.bits₀ in
      let f = frame_left (write_frame os opening closing room) c.bits₀ c.framed c.bits₁ (frame_never_zero os opening closing room) (rw e at c.frames) c.framing in
      let back = list_returns kind revision list ns (length c.message₀) os w c.octets opening closing c.bits₀ f.0 f.1 in
      let back = back (length c.information₀) (length c.list₀) c.information_size c.list_size in
      let u : frameReader.Reads (information os) c.information₀ c.unframed c.information₁ = rw (f.2 (length c.information₀) ∙ back.0) at c.unframes in
      let given : take (frameReader.read_told c.unframed).count c.information₁ ≡ os = information_left os c.information₀ c.unframed c.information₁ u in
      let r : messageReader.Reads os c.list₀ c.read c.list₁ = rw given at c.reads in
      let tells : Tells os (length c.list₀) kind revision list ns = back.1 in
      let told : messageReader.read_told c.read ≡ messageReader.read_reply accepted os = rw tells.0 at r.reply in
      let success : (messageReader.read_told c.read).no ≡ 0 = ap (λ (y : messageReader.Reply). y.no) told in
      record {
        unframed = u.reply ∙ rw n;
        success = success;
        kind_read = ap (λ (y : messageReader.Reply). y.kind) told ∙ tells.1;
        revision_read = ap (λ (y : messageReader.Reply). y.revision) told ∙ tells.2;
        count = ap (λ (y : messageReader.Reply). y.count) told ∙ ap length tells.3;
        list_read = success_writes os c.list₀ c.read c.list₁ r success ∙ ap (λ (l : List ℕ). put l c.list₀) tells.3;
        ns_read = ap (ns_told c.read) given ∙ success_ns os c.list₀ c.read c.list₁ r success ∙ ns_behind os ∙ tells.4;
      }

  -- the four calls bring the list back
  pub calls_return : ComesBack c
  calls_return =
      let size = length c.message₀ in
      let m = message_left (write_message kind revision list ns size) c.message₀ c.written c.message₁ (message_never_zero kind revision list ns size) c.writes c.success in
      comes_back m.0 m.1 m.2 m.3
