-- The types of messages by their numbers: a number is known where it is that of a type.
-- Assumes nothing.
use Prim.Native.Nat.{ℕ, zero, suc}
use mathlib.Core.Path.{◌≡◌, refl, sym}
use mathlib.Core.Bool.{Bool, true, false}
use native.Mathlib.Omega.{arith}
use Rattle.octets.specs.Places.{pick}
use Rattle.tree.specs.Fields.{is_in}
use Rattle.message.specs.Kinds.{ms, cl, clr, ack1, ack2, nak1, nak2, nak3, nak4, known, type_number, type_told}
use Rattle.message.specs.declared.MessageType.{MessageType}
use Rattle.message.specs.declared.MessageType.TheVariants.{Ms, Cl, Clr, Ack1, Ack2, Nak1, Nak2, Nak3, Nak4}
use Rattle.message.specs.declared.UnknownKind.{UnknownKind}
use Rattle.std.specs.Prelude.{Result, Ok, Err, is_ok}
use Rattle.message.specs.Promises.{TellsType}
use borrow.Author.Tests.{ne_eqb}

-- a number that is none of the nine is not known
pub none_known : (k : ℕ) → (ms ≡ k → ⊥) → (cl ≡ k → ⊥) → (clr ≡ k → ⊥) → (ack1 ≡ k → ⊥) → (ack2 ≡ k → ⊥) → (nak1 ≡ k → ⊥) → (nak2 ≡ k → ⊥) → (nak3 ≡ k → ⊥) → (nak4 ≡ k → ⊥)
    → known k ≡ false
unfolding is_in
none_known k a b c d e f g h i =
    rw (ne_eqb ms k a, ne_eqb cl k b, ne_eqb clr k c, ne_eqb ack1 k d, ne_eqb ack2 k e, ne_eqb nak1 k f, ne_eqb nak2 k g, ne_eqb nak3 k h, ne_eqb nak4 k i)

-- each type has a number above 0, which is known
number_some : (kind : MessageType) → type_number kind ≡ 0 → ⊥
number_some Ms h = omega (arith, h)
number_some Cl h = omega (arith, h)
number_some Clr h = omega (arith, h)
number_some Ack1 h = omega (arith, h)
number_some Ack2 h = omega (arith, h)
number_some Nak1 h = omega (arith, h)
number_some Nak2 h = omega (arith, h)
number_some Nak3 h = omega (arith, h)
number_some Nak4 h = omega (arith, h)

zero_unknown : (k : ℕ) → k ≡ 0 → known k ≡ true → ⊥
unfolding is_in
zero_unknown zero h e = let z : ◌≡◌ {A = ℕ} 0 1 = cc in omega arith
zero_unknown (suc k) h e = omega (arith, h)

-- what is told of a number says whether it is known, and then it is its type's
told_case : (k : ℕ) (t : Bool) → known k ≡ t → (r : Result MessageType UnknownKind) → type_told r ≡ pick t k 0 → (is_ok r ≡ t) × (t ≡ true → type_told r ≡ k)
told_case k true e (Ok kind) h = (refl, λ _. h)
told_case k true e (Err u) h = absurd (zero_unknown k (sym h) e)
told_case k false e (Ok kind) h = absurd (number_some kind h)
told_case k false e (Err u) h = (refl, λ z. cc)

pub told_known : (k : ℕ) (r : Result MessageType UnknownKind) → TellsType k r → is_ok r ≡ known k
told_known k r h = (told_case k (known k) refl r h).0

pub told_number : (k : ℕ) (kind : MessageType) → TellsType k (Ok kind) → type_number kind ≡ k
told_number k kind h = (told_case k (known k) refl (Ok kind) h).1 (sym (told_known k (Ok kind) h))
