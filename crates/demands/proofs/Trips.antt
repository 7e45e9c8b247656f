-- What the stages of `there_and_back` come to: its contract is met, and fixes one reply and one content of the lent list.
-- Assumes nothing.
use Prim.Native.Nat.{ℕ, ◌-◌, ◌≤◌, ◌<◌}
use mathlib.Core.Bool.{Bool, true, false}
use mathlib.Core.List.{List, []}
use mathlib.Core.Path.{◌≡◌, refl, sym, ap, ◌∙◌}
use native.Mathlib.Decide.{dec_lt}
use native.Mathlib.Omega.{arith}
use borrow.Author.Tests.{lt-ltb}
use lib.ListN.{length, take, drop, length-drop}
use Rattle.octets.specs.Bits.{AreOctets}
use Rattle.octets.specs.Lay.{put}
use Rattle.octets.specs.Places.{pick}
use Rattle.frame.specs.Limits.{most_information, information_room, frame_room}
use Rattle.frame.specs.Reader.{information, read_frame}
use Rattle.frame.specs.Reader as frameReader
use Rattle.frame.specs.Writer.{write_frame}
use Rattle.frame.specs.Writer as frameWriter
use Rattle.std.specs.Prelude.{Result, Ok, Err, MatchResult}
use Rattle.frame.specs.declared.FrameReadRefusal.{FrameReadRefusal}
use Rattle.frame.specs.declared.FrameWriteRefusal.{FrameWriteRefusal}
use Rattle.exact.proofs.Exact.{accepted_is_frame}
use Rattle.exact.proofs.Exact as frames
use Rattle.exact.proofs.ReaderUnique as frameReading
use Rattle.tree.specs.Fields.{most_octets}
use Rattle.message.specs.Reader.{list_room, ns_place, ns_size, ns_of, has_ns, tail_at, read_message, Reads}
use Rattle.message.specs.declared.Message.{Message}
use Rattle.message.specs.declared.MessageReadRefusal.{MessageReadRefusal}
use Rattle.message.specs.declared.MessageReadRefusal.TheVariants.{BadLent}
use Rattle.message.proofs.Unique.{read_unique}
use Rattle.meaning.specs.Writing.{write_message}
use Rattle.meaning.specs.Writing as writing
use Rattle.writer.specs.Writer as messageWriter
use Rattle.writer.specs.declared.MessageWriteRefusal.{MessageWriteRefusal}
use Rattle.meaning.proofs.RoundTrip.{sent_writable, written_is_read}
use Rattle.demands.specs.Returning.{Trip, ReturnsList}
use Rattle.demands.specs.Stages.{ReadsBack, FramesBack}
use Rattle.demands.specs.declared.Flags.{Flags}
use Rattle.demands.specs.declared.TripRefusal.{TripRefusal}
use Rattle.demands.proofs.ListsReturn.{message_never_zero, frame_never_zero, message_left, frame_left, information_left, ns_behind}

-- ---- what goes on behind `map_err`

-- a success behind it was one before it
pub passed_on : {A E : Type 0} (r : Result A E) (y : A) → MatchResult r (λ x. ◌≡◌ {A = Result A TripRefusal} (Ok y) (Ok x)) (λ e. ⊥) → r ≡ Ok y
passed_on (Ok x) y h = let e : x ≡ y = cc in ap Ok e
passed_on (Err e) y h = absurd h

-- ---- what the message reader makes of a message that was written

-- an NS has as many octets as are told
ns_size_lem : (l : List ℕ) → ns_size l ≡ length (ns_of l)
ns_size_lem l = go (has_ns l) ∙ ap length (ns_behind l)
  where
    go : (t : Bool) → pick t (length l - tail_at l) 0 ≡ length (pick t (drop (tail_at l) l) [])
    go true = sym (length-drop (tail_at l) l)
    go false = refl

module _ (kind revision : ℕ) (list ns : List ℕ) (room : ℕ) (os : List ℕ) (w : write_message kind revision list ns room ≡ writing.sent os) where
  -- it reads what was given, and the list is in the lent one
  list_read : (back : List ℕ) → list_room ≤ length back
      → Reads os back (Ok (record { kind = kind; revision = revision; count = length list; ns = record { at = ns_place os; length = length ns } })) (put list back)
  list_read back h =
      let t = written_is_read kind revision list ns room (length back) os w h in
      let size : ns_size os ≡ length ns = ns_size_lem os ∙ ap length t.4 in
      record { reply = rw (t.0, size, t.1, t.2, t.3); list = rw (t.0, t.3) }

-- with too small a list it reads nothing
none_read : (os back : List ℕ) → length back < list_room → Reads os back (Err BadLent) back
unfolding read_message put
none_read os back h = record { reply = rw (lt-ltb (length back) list_room h); list = rw (lt-ltb (length back) list_room h) }

-- ---- from the frame on

module _ (bits : List ℕ) (count : ℕ) (found₀ : List ℕ) (r : Result ℕ FrameReadRefusal) (found₁ : List ℕ) (a : frameReader.Reads (read_frame bits count information_room) found₀ r found₁) where
  module _ (size : ℕ) (e : r ≡ Ok size) where
    -- the octets told of are all in the buffer
    pub found_size : size ≤ most_information
    found_size =
        let s = frameReading.read_success_writes bits count information_room found₀ r found₁ a (rw e) in
        let n : size ≡ length s.0 = cc s.3 in
        omega (arith, (accepted_is_frame bits count information_room s.0 s.1).few)

    -- and are read as a message
    pub found_read : (back₀ : List ℕ) (m : Result Message MessageReadRefusal) (back₁ : List ℕ) → Reads (take (size - 0) found₁) back₀ m back₁
        → (os : List ℕ) → read_frame bits count information_room ≡ information os → ReadsBack os back₀ (Ok m) back₁
    found_read back₀ m back₁ x os i =
        let b : frameReader.Reads (read_frame bits count information_room) found₀ (Ok size) found₁ = rw e at a in
        let z : size - 0 ≡ size = omega arith in
        let t : take size found₁ ≡ os = information_left os found₀ (Ok size) found₁ (rw i at b) in
        record { read = m; answer = refl; reads = rw (z, t) at x }

-- ---- from the message on

module _ (os : List ℕ) (flags : Flags) (bits₀ : List ℕ) (r : Result ℕ FrameWriteRefusal) (bits₁ : List ℕ)
    (a : frameWriter.Writes (write_frame os flags.opening flags.closing frame_room) bits₀ r bits₁) where
  -- where the frame writer did not refuse, the frame is read
  pub framing_read : AreOctets os → length bits₀ ≡ frame_room → (count : ℕ) → r ≡ Ok count → (back₀ : List ℕ) (t : Trip) (back₁ : List ℕ)
      → ((is : List ℕ) → read_frame bits₁ count information_room ≡ information is → ReadsBack is back₀ t back₁) → FramesBack os flags back₀ t back₁
  framing_read o room count e back₀ t back₁ x =
      let b : frameWriter.Writes (write_frame os flags.opening flags.closing frame_room) bits₀ (Ok count) bits₁ = rw e at a in
      let l = frame_left (write_frame os flags.opening flags.closing frame_room) bits₀ (Ok count) bits₁ (frame_never_zero os flags.opening flags.closing frame_room) b refl in
      let sent : write_frame os flags.opening flags.closing (length bits₀) ≡ frameWriter.sent l.0 = rw room l.1 in
      let i = frames.written_is_read os flags.opening flags.closing bits₀ l.0 information_room o sent (omega arith) in
      record {
        unframed = λ k f. absurd (let w = l.1 in let z : ◌≡◌ {A = ℕ} 0 1 = cc in omega arith);
        framed = λ bs f. x os (l.2 information_room ∙ i);
      }

-- ---- from the list on

module _ (kind revision : ℕ) (list ns message₀ : List ℕ) (r : Result ℕ MessageWriteRefusal) (message₁ : List ℕ)
    (a : messageWriter.Writes (write_message kind revision list ns most_octets) message₀ r message₁) where
  module _ (size : ℕ) (e : r ≡ Ok size) where
    -- where the message writer did not refuse, the octets told of are the message
    written : (os : List ℕ) × (write_message kind revision list ns most_octets ≡ writing.sent os) × (size ≡ length os) × (take size message₁ ≡ os)
    written =
        let b : messageWriter.Writes (write_message kind revision list ns most_octets) message₀ (Ok size) message₁ = rw e at a in
        message_left (write_message kind revision list ns most_octets) message₀ (Ok size) message₁ (message_never_zero kind revision list ns most_octets) b refl

    pub written_size : size ≤ most_octets
    written_size = omega (arith, written.2, (sent_writable kind revision list ns most_octets written.0 written.1).few)

    -- and the list comes back
    pub writing_returned : (flags : Flags) (back₀ : List ℕ) (t : Trip) (back₁ : List ℕ) → FramesBack (take (size - 0) message₁) flags back₀ t back₁ → ReturnsList kind revision list ns flags back₀ t back₁
    writing_returned flags back₀ t back₁ x =
        record {
          unwritten = λ k w. absurd (let v = written.1 in let z : ◌≡◌ {A = ℕ} 0 1 = cc in omega arith);
          unframed = λ os k w f. (here os w).unframed k f;
          returned = λ os bs w f l. came os ((here os w).framed bs f) _ _ (list_read kind revision list ns most_octets os w back₀ l);
          small = λ os bs w f l. came os ((here os w).framed bs f) _ _ (none_read os back₀ l);
        }
      where
        here : (os : List ℕ) → write_message kind revision list ns most_octets ≡ writing.sent os → FramesBack os flags back₀ t back₁
        here os w = let v = written.1 in let y = written.3 in let z : size - 0 ≡ size = omega arith in let same : take size message₁ ≡ os = cc in rw (z, same) at x

        came : (os : List ℕ) → ReadsBack os back₀ t back₁ → (m : Result Message MessageReadRefusal) (back : List ℕ) → Reads os back₀ m back → (t ≡ Ok m) × (back₁ ≡ back)
        came os b m back y = let u = read_unique os back₀ b.read m back₁ back b.reads y in (b.answer ∙ ap Ok u.0, u.1)

-- ---- no second reply and no second list

pub returns_unique : (kind revision : ℕ) (list ns : List ℕ) (flags : Flags) (back₀ : List ℕ) (r r' : Trip) (back₁ back₁' : List ℕ) → ReturnsList kind revision list ns flags back₀ r back₁
    → ReturnsList kind revision list ns flags back₀ r' back₁' → (r ≡ r') × (back₁ ≡ back₁')
returns_unique kind revision list ns flags back₀ r r' back₁ back₁' a b = message (write_message kind revision list ns most_octets) refl
  where
    one : {t : Trip} {back : List ℕ} → (r ≡ t) × (back₁ ≡ back) → (r' ≡ t) × (back₁' ≡ back) → (r ≡ r') × (back₁ ≡ back₁')
    one x y = (x.0 ∙ sym y.0, x.1 ∙ sym y.1)

    lent : (os : List ℕ) (bs : List Bool) → write_message kind revision list ns most_octets ≡ writing.sent os → write_frame os flags.opening flags.closing frame_room ≡ frameWriter.sent bs
        → Dec (length back₀ < list_room) → (r ≡ r') × (back₁ ≡ back₁')
    lent os bs w f (yes l) = one (a.small os bs w f l) (b.small os bs w f l)
    lent os bs w f (no l) = one (a.returned os bs w f (omega arith)) (b.returned os bs w f (omega arith))

    framing : (os : List ℕ) → write_message kind revision list ns most_octets ≡ writing.sent os → (x : frameWriter.Writing) → write_frame os flags.opening flags.closing frame_room ≡ x
        → (r ≡ r') × (back₁ ≡ back₁')
    framing os w (frameWriter.refused k) f = one (a.unframed os k w f) (b.unframed os k w f)
    framing os w (frameWriter.sent bs) f = lent os bs w f (dec_lt (length back₀) list_room)

    message : (x : writing.Writing) → write_message kind revision list ns most_octets ≡ x → (r ≡ r') × (back₁ ≡ back₁')
    message (writing.refused k) w = one (a.unwritten k w) (b.unwritten k w)
    message (writing.sent os) w = framing os w (write_frame os flags.opening flags.closing frame_room) refl
