-- Inner: what the stages of a trip give, from the message on and from the frame on.
-- Assumes nothing.
use Rattle.std.specs.Prelude.{ℕ, Bool, Result, Ok, Err, List, ◌≡◌}
use Rattle.frame.specs.Limits.{frame_room}
use Rattle.frame.specs.Writer.{refused, sent, write_frame}
use Rattle.message.specs.Reader.{Reads}
use Rattle.message.specs.declared.Message.{Message}
use Rattle.message.specs.declared.MessageReadRefusal.{MessageReadRefusal}
use Rattle.demands.specs.declared.Flags.{Flags}
use Rattle.demands.specs.declared.TripRefusal.TheVariants.{Unframed}
use Rattle.demands.specs.Returning.{Trip}

-- the reply is what the message reader answers to these octets
pub record ReadsBack (os back₀ : List ℕ) (r : Trip) (back₁ : List ℕ) : Type 0 where
  pub read : Result Message MessageReadRefusal
  pub answer : r ≡ Ok read
  pub reads : Reads os back₀ read back₁

-- these octets get no frame, or are framed, found and read
pub record FramesBack (os : List ℕ) (flags : Flags) (back₀ : List ℕ) (r : Trip) (back₁ : List ℕ) : Type 0 where
  pub unframed : (no : ℕ) → write_frame os flags.opening flags.closing frame_room ≡ refused no → (r ≡ Err Unframed) × (back₁ ≡ back₀)
  pub framed : (bits : List Bool) → write_frame os flags.opening flags.closing frame_room ≡ sent bits → ReadsBack os back₀ r back₁
