-- What the message writer's contract leaves open: nothing. No second reply and no second content of the output fit it, and a refusal writes nothing.
-- Assumes nothing.
use Prim.Native.Nat.{ℕ}
use mathlib.Core.Path.{◌≡◌, refl, sym, ap, ◌∙◌}
use mathlib.Core.List.{List}
use Rattle.std.specs.Prelude.{Result, Ok, Err}
use lib.Dec.{eqb}
use Rattle.octets.specs.Places.{pick}
use Rattle.meaning.specs.Writing.{Writing, refused, sent, Reply}
use Rattle.writer.specs.Writer.{write_told, Writes}
use Rattle.writer.specs.declared.MessageWriteRefusal.{MessageWriteRefusal}
use Rattle.writer.specs.declared.MessageWriteRefusal.TheVariants.{BadLent, BadType, BadCode, NotAscending, NoParent, NotEmpty, BadNs, TooLong}

-- the answer that a reply tells
abbrev back : Reply → Result ℕ MessageWriteRefusal
back r =
    pick (eqb r.no 0) (Ok r.count)
    (pick (eqb r.no 1) (Err BadLent)
    (pick (eqb r.no 3) (Err BadType)
    (pick (eqb r.no 5) (Err BadCode)
    (pick (eqb r.no 6) (Err NotAscending)
    (pick (eqb r.no 7) (Err NoParent)
    (pick (eqb r.no 8) (Err NotEmpty)
    (pick (eqb r.no 9) (Err BadNs) (Err TooLong))))))))

-- each answer has a reply of its own
back_told : (r : Result ℕ MessageWriteRefusal) → back (write_told r) ≡ r
back_told (Ok n) = refl
back_told (Err BadLent) = refl
back_told (Err BadType) = refl
back_told (Err BadCode) = refl
back_told (Err NotAscending) = refl
back_told (Err NoParent) = refl
back_told (Err NotEmpty) = refl
back_told (Err BadNs) = refl
back_told (Err TooLong) = refl

-- one writing into one output has one reply and one content
pub write_unique : (x : Writing) (out₀ : List ℕ) (r r' : Result ℕ MessageWriteRefusal) (out₁ out₁' : List ℕ) → Writes x out₀ r out₁ → Writes x out₀ r' out₁' → (r ≡ r') × (out₁ ≡ out₁')
write_unique x out₀ r r' out₁ out₁' p q =
    (sym (back_told r) ∙ ap back (p.reply ∙ sym q.reply) ∙ back_told r', p.output ∙ sym q.output)

-- a refusal writes nothing
pub write_refusal_writes_nothing : (x : Writing) (out₀ : List ℕ) (r : Result ℕ MessageWriteRefusal) (out₁ : List ℕ) → Writes x out₀ r out₁ → ((write_told r).no ≡ 0 → ⊥) → out₁ ≡ out₀
write_refusal_writes_nothing (refused k) out₀ r out₁ w h = w.output
write_refusal_writes_nothing (sent os) out₀ r out₁ w h = absurd (h (ap (λ (t : Reply). t.no) w.reply))
