-- What is kept has its parents kept: a code under which a table is printed is a field's own or named, and no non-standard bit.
-- Assumes nothing.
use Prim.Native.Nat.{ℕ, ◌+◌, ◌-◌, ◌*◌, ◌/◌, ◌%◌, ◌<◌, ◌≤◌}
use mathlib.Core.Bool.{Bool, true, false}
use mathlib.Core.List.{List, []}
use mathlib.Core.Logic.{◌⊎◌, inl, inr, ⊎_elim}
use mathlib.Core.Path.{◌≡◌, refl, sym, ap, ◌∙◌}
use native.Mathlib.Omega.{arith}
use borrow.Author.Tests.{ltb-false, eqb-true}
use lib.Dec.{ltb, eqb}
use Rattle.octets.specs.Bits.{num}
use Rattle.octets.specs.Places.{pick}
use Rattle.tree.specs.Codes.{s_of, t_of, n_of, parent_of, of_f, of_s}
use Rattle.names.specs.Tables.{Printed, PrintedBlock, npar_blocks, spar_blocks}
use Rattle.names.specs.Named.{printed_under, printed_at, npar_printed, spar_printed, printed_of, standard_code, keeps_printed, keeps}
use Rattle.names.specs.declared.Keep.{Keep}
use Rattle.names.specs.declared.Keep.TheVariants.{All, Named, Standard}
use Rattle.names.proofs.Blocks.{every, under_every}
use Rattle.names.proofs.Printings.{printed_of_npar, printed_of_spar2}
use Rattle.names.proofs.Strictness.{keeps_standard}

-- what a block stands under: a field, or a code that is standard
abbrev fit : ℕ → List Printed → Bool
fit c printed = pick (eqb (c % of_f) 0) true (standard_code c)

npar_fit : every fit npar_blocks ≡ true
unfolding every printed_under printed_at printed_of
npar_fit = refl

spar_fit : every fit spar_blocks ≡ true
unfolding every printed_under printed_at printed_of
spar_fit = refl

-- so a code is kept if a printed position of a block under it is
under_kept : (k : Keep) (bs : List PrintedBlock) (c q : ℕ) → every fit bs ≡ true → keeps_printed k (printed_at (printed_under c bs) q) ≡ true
    → (c % of_f ≡ 0) ⊎ (keeps k c ≡ true)
unfolding printed_at
under_kept k bs c q h e = ⊎_elim (λ n. none k (rw n at e)) (λ p. some (eqb (c % of_f) 0) refl p) (under_every fit bs c h)
  where
    none : (j : Keep) → keeps_printed j (printed_at [] q) ≡ true → (c % of_f ≡ 0) ⊎ (keeps j c ≡ true)
    none All d = inr refl
    none Named d = absurd (omega (arith, ap num d))
    none Standard d = absurd (omega (arith, ap num d))

    some : (t : Bool) → eqb (c % of_f) 0 ≡ t → pick t true (standard_code c) ≡ true → (c % of_f ≡ 0) ⊎ (keeps k c ≡ true)
    some true d p = inl (eqb-true (c % of_f) 0 d)
    some false d p = inr (keeps_standard k c p)

-- what stands under a code that is no field's own is kept only if that code is: of its NPar positions, and of its SPar(2) positions
pub npar_parent : (k : Keep) (c q : ℕ) → c % 512 ≡ 0 → 0 < c % of_f → 0 < q → q < 512 → keeps k (c + q) ≡ true → keeps k c ≡ true
npar_parent k c q a s p h e =
    ⊎_elim (λ z. absurd (omega arith)) (λ d. d) (under_kept k npar_blocks c q npar_fit (sym (ap (keeps_printed k) (printed_of_npar c q a p h)) ∙ e))

pub spar_parent : (k : Keep) (c q : ℕ) → c % of_s ≡ 0 → 0 < c % of_f → 0 < q → q < 512 → keeps k (c + q * 512) ≡ true → keeps k c ≡ true
spar_parent k c q a s p h e =
    ⊎_elim (λ z. absurd (omega arith)) (λ d. d) (under_kept k spar_blocks c q spar_fit (sym (ap (keeps_printed k) (printed_of_spar2 c q a p h)) ∙ e))

-- with neither n nor t, a code is its own parent
own_parent : (c : ℕ) → n_of c ≤ 0 → t_of c ≤ 0 → c - c % of_s ≡ c
own_parent c n t =
    let low : c ≡ c / 512 * 512 = omega arith in
    let high : c / 512 ≡ c / 512 / 512 * 512 = omega arith in
    omega arith

-- a kept code stands under none, or what it stands under is kept
pub kept_parent : (k : Keep) (c : ℕ) → keeps k c ≡ true → (parent_of c ≡ c) ⊎ ((parent_of c % of_f ≡ 0) ⊎ (keeps k (parent_of c) ≡ true))
unfolding printed_of
kept_parent k c kept = npar (ltb 0 (n_of c)) refl kept
  where
    spar : (t : Bool) → n_of c ≤ 0 → ltb 0 (t_of c) ≡ t → keeps_printed k (pick t (spar_printed (c - c % of_s) (t_of c)) (spar_printed (c - c % of_f) (s_of c))) ≡ true
        → (c - c % of_s ≡ c) ⊎ (((c - c % of_s) % of_f ≡ 0) ⊎ (keeps k (c - c % of_s) ≡ true))
    spar true n d e = inr (under_kept k spar_blocks (c - c % of_s) (t_of c) spar_fit e)
    spar false n d e = inl (own_parent c n (ltb-false 0 (t_of c) d))

    npar : (t : Bool) → ltb 0 (n_of c) ≡ t
        → keeps_printed k (pick t (npar_printed (c - c % 512) (n_of c)) (pick (ltb 0 (t_of c)) (spar_printed (c - c % of_s) (t_of c)) (spar_printed (c - c % of_f) (s_of c)))) ≡ true
        → (pick t (c - c % 512) (c - c % of_s) ≡ c)
        ⊎ ((pick t (c - c % 512) (c - c % of_s) % of_f ≡ 0) ⊎ (keeps k (pick t (c - c % 512) (c - c % of_s)) ≡ true))
    npar true d e = inr (under_kept k npar_blocks (c - c % 512) (n_of c) npar_fit e)
    npar false d e = spar (ltb 0 (t_of c)) (ltb-false 0 (n_of c) d) refl e
