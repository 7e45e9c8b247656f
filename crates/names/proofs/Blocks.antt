-- Which blocks the tables print: a block that stands under any code passes what every printed block passes, or nothing is printed of it.
-- Assumes nothing.
use Prim.Native.Nat.{ℕ, ◌≤◌}
use mathlib.Core.Bool.{Bool, true, false}
use mathlib.Core.List.{List, [], ◌∷◌}
use mathlib.Core.Logic.{◌⊎◌, inl, inr, ⊎_elim}
use mathlib.Core.Path.{◌≡◌, refl, sym, ap}
use native.Mathlib.Omega.{arith}
use borrow.Author.Tests.{eqb-true, ne_eqb, le-ltb}
use lib.Dec.{ltb, eqb}
use Rattle.octets.specs.Bits.{num}
use Rattle.octets.specs.Places.{pick}
use Rattle.names.specs.Tables.{Printed, PrintedBlock, npar_blocks}
use Rattle.names.specs.Named.{printed_under}
use Rattle.names.specs.Masks.{mask_of}

-- every block passes a test of its code and of what is printed of it
unfoldable pub every : (ℕ → List Printed → Bool) → List PrintedBlock → Bool
every t [] = true
every t (b ∷ bs) = pick (t b.under b.printed) (every t bs) false

-- then a block under any code passes it, or nothing is printed of it
pub under_every : (t : ℕ → List Printed → Bool) (bs : List PrintedBlock) (c : ℕ) → every t bs ≡ true → (printed_under c bs ≡ []) ⊎ (t c (printed_under c bs) ≡ true)
unfolding every printed_under
under_every t [] c h = inl refl
under_every t (b ∷ bs) c h = go (t b.under b.printed) refl h (under_every t bs c)
  where
    here : (u : Bool) → t b.under b.printed ≡ true → ((printed_under c bs ≡ []) ⊎ (t c (printed_under c bs) ≡ true)) → eqb b.under c ≡ u
        → (pick u b.printed (printed_under c bs) ≡ []) ⊎ (t c (pick u b.printed (printed_under c bs)) ≡ true)
    here true p r e = inr (rw (eqb-true b.under c e) at p)
    here false p r e = r

    go : (u : Bool) → t b.under b.printed ≡ u → pick u (every t bs) false ≡ true → (every t bs ≡ true → (printed_under c bs ≡ []) ⊎ (t c (printed_under c bs) ≡ true))
        → (printed_under c (b ∷ bs) ≡ []) ⊎ (t c (printed_under c (b ∷ bs)) ≡ true)
    go true p q r = here (eqb b.under c) p (r q) refl
    go false p q r = absurd (omega (arith, ap num q))

-- ---- bits of a block by its code

-- where every block whose code fails a test has no bits, no code that fails it has
pub mask_zero : (f : Printed → Bool) (t : ℕ → Bool) (bs : List PrintedBlock) (c : ℕ) → every (λ x printed. pick (t x) true (eqb (mask_of f printed) 0)) bs ≡ true → t c ≡ false
    → 0 ≡ mask_of f (printed_under c bs)
unfolding mask_of
mask_zero f t bs c h e =
    ⊎_elim (λ n. rw n) (λ p. sym (eqb-true (mask_of f (printed_under c bs)) 0 (rw e at p))) (under_every (λ x printed. pick (t x) true (eqb (mask_of f printed) 0)) bs c h)

-- a code that is that of no block
unfoldable pub Apart : ℕ → List PrintedBlock → Type 0
Apart c [] = Unit {0}
Apart c (b ∷ bs) = (c ≡ b.under → ⊥) × Apart c bs

-- has no bits
pub mask_none : (f : Printed → Bool) (bs : List PrintedBlock) (c : ℕ) → Apart c bs → 0 ≡ mask_of f (printed_under c bs)
unfolding Apart printed_under
mask_none f [] c a = unfold mask_of in refl
mask_none f (b ∷ bs) c a = rw (ne_eqb b.under c (λ e. a.0 (sym e))) (mask_none f bs c a.1)

-- and where none that stands under b or above has bits, no such code has
pub mask_high : (f : Printed → Bool) (b c : ℕ) → every (λ x printed. pick (ltb x b) true (eqb (mask_of f printed) 0)) npar_blocks ≡ true → b ≤ c
    → 0 ≡ mask_of f (printed_under c npar_blocks)
mask_high f b c h l = mask_zero f (λ x. ltb x b) npar_blocks c h (le-ltb c b l)
