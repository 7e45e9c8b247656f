-- What the contracts of striking and of rewriting a field leave open: nothing. No second answer and no second output fit them, and a
-- refusal writes nothing.
-- Assumes nothing.
use Prim.Native.Nat.{ℕ}
use mathlib.Core.List.{List, [], ◌∷◌}
use mathlib.Core.Path.{◌≡◌, refl, sym, ap, ◌∙◌}
use lib.Dec.{eqb}
use lib.ListN.{length}
use Rattle.octets.specs.Lay.{put}
use Rattle.octets.specs.Places.{pick}
use Rattle.octets.proofs.Laying.{put-nil}
use Rattle.tree.specs.declared.Field.{Field}
use Rattle.meaning.specs.Writing.{Writing, refused, sent, Reply, write_reply, write_leaves}
use Rattle.names.specs.declared.Keep.{Keep}
use Rattle.strike.specs.Rewriting.{rewritten, counted, Rewrites}
use Rattle.message.specs.declared.MessageFault.{MessageFault}
use Rattle.strike.specs.Promises.{TellsRefusal}
use Rattle.strike.specs.Striking.{strike_message, struck_told, Strikes}
use Rattle.std.specs.Prelude.{Option, None, Result, Ok, Err}
use Rattle.strike.specs.declared.StrikeRefusal.{StrikeRefusal}
use Rattle.strike.specs.declared.StrikeRefusal.TheVariants.{BadLent, BadSize, UnknownType, Malformed}

-- ---- striking a message

-- the answer that a reply tells
abbrev back : Reply → Result ℕ StrikeRefusal
back r =
    pick (eqb r.no 0) (Ok r.count)
    (pick (eqb r.no 1) (Err BadLent)
    (pick (eqb r.no 2) (Err BadSize)
    (pick (eqb r.no 3) (Err UnknownType) (Err Malformed))))

-- each answer has a reply of its own
back_told : (r : Result ℕ StrikeRefusal) → back (struck_told r) ≡ r
back_told (Ok n) = refl
back_told (Err BadLent) = refl
back_told (Err BadSize) = refl
back_told (Err UnknownType) = refl
back_told (Err Malformed) = refl

-- one message struck into one output has one answer and one content
pub strike_unique : (l out₀ : List ℕ) (r r' : Result ℕ StrikeRefusal) (out₁ out₁' : List ℕ) → Strikes l out₀ r out₁ → Strikes l out₀ r' out₁' → (r ≡ r') × (out₁ ≡ out₁')
strike_unique l out₀ r r' out₁ out₁' p q =
    (sym (back_told r) ∙ ap back (p.reply ∙ sym q.reply) ∙ back_told r', p.output ∙ sym q.output)

-- a fault has one refusal
pub strike_from_unique : (f : MessageFault) (r r' : StrikeRefusal) → TellsRefusal f r → TellsRefusal f r' → r ≡ r'
strike_from_unique f r r' p q = let e : ◌≡◌ {A = Result ℕ StrikeRefusal} (Err r) (Err r') = sym (back_told (Err r)) ∙ ap back (p ∙ sym q) ∙ back_told (Err r') in cc

-- a refusal writes nothing
pub strike_refusal_writes_nothing : (l out₀ : List ℕ) (r : Result ℕ StrikeRefusal) (out₁ : List ℕ) → Strikes l out₀ r out₁ → ((struck_told r).no ≡ 0 → ⊥) → out₁ ≡ out₀
strike_refusal_writes_nothing l out₀ r out₁ s h = go (strike_message l (length out₀)) s.reply s.output
  where
    go : (x : Writing) → struck_told r ≡ write_reply x → out₁ ≡ write_leaves x out₀ → out₁ ≡ out₀
    go (refused k) t e = e
    go (sent os) t e = absurd (h (ap (λ (y : Reply). y.no) t))

-- ---- rewriting a field

-- one field rewritten into one output has one number of octets and one content
pub rewrite_unique : (k : Keep) (f : Field) (l : List ℕ) (at : ℕ) (out₀ : List ℕ) (n n' : Option ℕ) (out₁ out₁' : List ℕ)
    → Rewrites k f l at out₀ n out₁ → Rewrites k f l at out₀ n' out₁' → (n ≡ n') × (out₁ ≡ out₁')
rewrite_unique k f l at out₀ n n' out₁ out₁' p q = (p.count ∙ sym q.count, p.output ∙ sym q.output)

-- no octets, nothing written
pub rewrite_refusal_writes_nothing : (k : Keep) (f : Field) (l : List ℕ) (at : ℕ) (out₀ : List ℕ) (n : Option ℕ) (out₁ : List ℕ) → Rewrites k f l at out₀ n out₁ → n ≡ None → out₁ ≡ out₀
rewrite_refusal_writes_nothing k f l at out₀ n out₁ r none = r.output ∙ go (rewritten k f l at (length out₀)) (sym r.count ∙ none)
  where
    go : (os : List ℕ) → counted os ≡ None → put os out₀ ≡ out₀
    go [] e = put-nil out₀
    go (x ∷ os) e = absurd (cc)
