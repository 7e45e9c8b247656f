-- What the frame writer's contract leaves open: nothing. No second reply and no second content of the output fit it, and a refusal writes nothing.
-- Assumes nothing.
use Prim.Native.Nat.{ℕ}
use mathlib.Core.Path.{◌≡◌, refl, sym, ap, ◌∙◌}
use mathlib.Core.List.{List}
use lib.Dec.{eqb}
use Rattle.octets.specs.Places.{pick}
use Rattle.frame.specs.Reader.{Reply}
use Rattle.frame.specs.Writer.{Writing, refused, sent, write_told, Writes}
use Rattle.std.specs.Prelude.{Result, Ok, Err}
use Rattle.frame.specs.declared.FrameWriteRefusal.{FrameWriteRefusal}
use Rattle.frame.specs.declared.FrameWriteRefusal.TheVariants.{BadLent, BadLength, BadFlagCount}

-- the answer that a reply tells
abbrev back : Reply → Result ℕ FrameWriteRefusal
back r = pick (eqb r.no 0) (Ok r.count) (pick (eqb r.no 1) (Err BadLent) (pick (eqb r.no 7) (Err BadLength) (Err BadFlagCount)))

-- each answer has a reply of its own
back_told : (r : Result ℕ FrameWriteRefusal) → back (write_told r) ≡ r
back_told (Ok n) = refl
back_told (Err BadLent) = refl
back_told (Err BadLength) = refl
back_told (Err BadFlagCount) = refl

-- one writing into one output has one reply and one content
pub write_unique : (x : Writing) (out₀ : List ℕ) (r r' : Result ℕ FrameWriteRefusal) (out₁ out₁' : List ℕ) → Writes x out₀ r out₁ → Writes x out₀ r' out₁' → (r ≡ r') × (out₁ ≡ out₁')
write_unique x out₀ r r' out₁ out₁' p q =
    (sym (back_told r) ∙ ap back (p.reply ∙ sym q.reply) ∙ back_told r', p.output ∙ sym q.output)

-- a refusal writes nothing
pub write_refusal_writes_nothing : (x : Writing) (out₀ : List ℕ) (r : Result ℕ FrameWriteRefusal) (out₁ : List ℕ) → Writes x out₀ r out₁ → ((write_told r).no ≡ 0 → ⊥) → out₁ ≡ out₀
write_refusal_writes_nothing (refused k) out₀ r out₁ w h = w.output
write_refusal_writes_nothing (sent bs) out₀ r out₁ w h = absurd (h (ap (λ (t : Reply). t.no) w.reply))
