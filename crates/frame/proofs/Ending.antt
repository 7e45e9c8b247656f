-- The ways of a sixth one in a row: it and the zero before the six ones close the content, or they do not.
-- Assumes nothing.
use Prim.Native.Nat.{ℕ, suc, ◌+◌, ◌-◌, ◌*◌, ◌<◌, ◌≤◌}
use mathlib.Core.Path.{◌≡◌, sym, ap, ◌∙◌}
use mathlib.Core.Bool.{Bool, true, false}
use mathlib.Core.List.{List, ◌∷◌}
use native.Mathlib.Numerals.{add-one}
use native.Mathlib.Omega.{arith}
use lib.ListN.{length, get_or, take, drop}
use lib.Seq.{drop-cons, get_or-take}
use Rattle.octets.specs.Bits.{bits}
use Rattle.octets.specs.Places.{bit_at, is_one}
use Rattle.std.specs.Prelude.{Option, Some}
use Rattle.octets.proofs.Laws.{one_at}
use Rattle.frame.specs.Inner.{closes}
use Rattle.frame.specs.Content.{Keeps, Ends}
use Rattle.frame.specs.Inner.{Stands}
use Rattle.frame.specs.declared.Kept.{Kept}
use Rattle.frame.proofs.Sights.{length_run}

module _ (r : List Bool) (at : ℕ) (plain₀ plain₁ : List ℕ) (kept : Kept) (real : Bool) where
  pub ends_content : closes real r ≡ true → ((bs : List Bool) → Keeps bs plain₀ kept → Stands (length bs) bs plain₁) → Ends r at plain₀ kept real plain₁ (Some (record { bits = kept.size - 6; next = at - 6 }))
  ends_content e p = record { answer = rw e; plain = λ t. p }

-- x is what `bit_at` says of the bit behind the six ones
module _ (s : List ℕ) (count at : ℕ) (x : Option Bool) (hc : count ≤ length s * 8) (h : at < count) (ex : x ≡ bit_at s at) where
  -- that bit, and those behind it
  next : drop at (take count (bits s)) ≡ get_or (bits s) at false ∷ drop (at + 1) (take count (bits s))
  next =
      rw (add-one at)
      (drop-cons (take count (bits s)) at false (omega (arith, length_run s count hc))
      ∙ ap (λ (b : Bool). b ∷ drop (suc at) (take count (bits s))) (get_or-take count (bits s) at false h))

  is : get_or (bits s) at false ≡ is_one x
  is = sym (ap is_one ex ∙ one_at s at)

  pub closes-zero : (kept : Bool) → kept ≡ true → is_one x ≡ false → closes kept (drop at (take count (bits s))) ≡ true
  closes-zero kept k e = rw (k, next, is, e)
