-- What is kept of one octet of a block: its bits under the names, as one number, which has just the kept positions.
-- Assumes nothing.
use Prim.Native.Nat.{ℕ, zero, suc, ◌+◌, ◌-◌, ◌/◌, ◌%◌, ◌^◌, ◌≤◌, ◌<◌, min}
use mathlib.Core.Bool.{Bool}
use mathlib.Core.List.{List}
use mathlib.Core.Path.{◌≡◌, refl, sym, ap, ◌∙◌}
use native.Mathlib.Nat.{mod-lt, div-eq_of_lt, mod-eq_of_lt}
use native.Mathlib.Omega.{arith}
use borrow.Author.Tests.{ne_eqb}
use lib.Bits.{bit_and, and_step, and_mod, and_mask, and_zero_l}
use lib.Dec.{eqb}
use lib.Pow.{pow_pos, pow_mono, mod-mod-pow, shr-shr}
use Rattle.octets.specs.Bits.{odd}
use Rattle.tree.specs.Block.{keep, set_bits}
use Rattle.tree.proofs.Lowest.{lowest, bits_none, bits_below}
use Rattle.meaning.specs.Writing.{is_empty}
use Rattle.names.specs.Masks.{only}
use Rattle.names.specs.Inner.{kept_place}
use Rattle.std.specs.Prelude.{Option, Some, None, SomeIff, unwrap_or}
use Rattle.names.proofs.Sieving.{only_all}
use Rattle.tree.specs.Levels.{width_of, mark_of}
use Rattle.tree.specs.declared.Level.{Level}
use Rattle.tree.proofs.Giving.{mark_power, width_most}
use Rattle.strike.specs.Inner.{names_at, names_step}
use Rattle.strike.specs.declared.Sieve.{Sieve}

-- ---- bits under a mask

-- of a bit, and of the numbers behind it, those that pass a test
only_keep : (f : ℕ → Bool) (b n k x : ℕ) (l : List ℕ) → k ≡ min b n → b < 2 → n < 2 → f x ≡ eqb n 1 → only f (keep b x l) ≡ keep k x (only f l)
unfolding only
only_keep f zero n k x l m h g e = let z : k ≡ 0 = omega arith in rw z
only_keep f (suc zero) zero k x l m h g e = let z : k ≡ 0 = omega arith in rw (e, z)
only_keep f (suc zero) (suc zero) k x l m h g e = let z : k ≡ 1 = omega arith in rw (e, z)
only_keep f (suc zero) (suc (suc n)) k x l m h g e = absurd (omega arith)
only_keep f (suc (suc b)) n k x l m h g e = absurd (omega arith)

-- the bits that an octet and a mask both have are those of its bits that pass the mask's test
masked : (f : ℕ → Bool) (w p d n : ℕ) → ((i : ℕ) → f (p + i + 1) ≡ odd (n / 2 ^ i)) → set_bits w p (bit_and d n) ≡ only f (set_bits w p d)
unfolding set_bits
masked f zero p d n h = unfold only in refl
masked f (suc w) p d n h =
    let both = and_step d n in
    let low : bit_and d n % 2 ≡ min (d % 2) (n % 2) = omega arith in
    let high : bit_and d n / 2 ≡ bit_and (d / 2) (n / 2) = omega arith in
    let first : p + 0 + 1 ≡ p + 1 = omega arith in
    let whole : n / 2 ^ 0 ≡ n = omega arith in
    let here : f (p + 1) ≡ odd n = rw (first, whole) at (h 0) in
    rw (high, masked f w (p + 1) (d / 2) (n / 2) later) (sym (only_keep f (d % 2) (n % 2) (bit_and d n % 2) (p + 1) _ low (omega arith) (omega arith) here))
  where
    later : (i : ℕ) → f (p + 1 + i + 1) ≡ odd (n / 2 / 2 ^ i)
    later i =
        let on : p + suc i + 1 ≡ p + 1 + i + 1 = omega arith in
        let next : 1 + i ≡ suc i = omega arith in
        let halves : n / 2 / 2 ^ i ≡ n / 2 ^ suc i = rw next at (shr-shr n 1 i) in
        rw halves (rw on at (h (suc i)))

-- ---- the kept octet

-- the bits of an octet that are kept, its positions standing above p
unfoldable pub kept_octet : ℕ → Option ℕ → ℕ → ℕ → ℕ
kept_octet w None p d = d % 2 ^ w
kept_octet w (Some bits) p d = bit_and d (bits / 2 ^ p) % 2 ^ w

pub kept_below : (w : ℕ) (places : Option ℕ) (p d : ℕ) → kept_octet w places p d < 2 ^ w
unfolding kept_octet
kept_below w None p d = mod-lt d (pow_pos w)
kept_below w (Some bits) p d = mod-lt (bit_and d (bits / 2 ^ p)) (pow_pos w)

-- of an octet with nothing set nothing is kept
pub kept_zero : (w : ℕ) (places : Option ℕ) (p : ℕ) → kept_octet w places p 0 ≡ 0
unfolding kept_octet
kept_zero w None p = mod-eq_of_lt (pow_pos w)
kept_zero w (Some bits) p = rw (and_zero_l (bits / 2 ^ p)) (mod-eq_of_lt (pow_pos w))

-- it has the kept positions
pub kept_bits : (w : ℕ) (places : Option ℕ) (p d : ℕ) → set_bits w p (kept_octet w places p d) ≡ only (kept_place places) (set_bits w p d)
unfolding kept_octet
kept_bits w None p d = bits_below w p d ∙ sym (only_all (kept_place None) _ (λ x i. refl))
kept_bits w (Some bits) p d = bits_below w p (bit_and d (bits / 2 ^ p)) ∙ masked (kept_place (Some bits)) w p d (bits / 2 ^ p) named
  where
    named : (i : ℕ) → kept_place (Some bits) (p + i + 1) ≡ odd (bits / 2 ^ p / 2 ^ i)
    named i = let at : p + i + 1 - 1 ≡ p + i = omega arith in rw (at, shr-shr bits p i)

-- nothing is set only in 0
pub no_bits : (w p x : ℕ) → x < 2 ^ w → is_empty (set_bits w p x) ≡ eqb x 0
no_bits w p zero h = rw (bits_none w p)
no_bits w p (suc x) h = rw (lowest w w p (suc x) (omega arith) (omega arith) h).1 (sym (ne_eqb (suc x) 0 (λ z. omega arith)))

-- ---- as the code has it, with the delimiter for 2 ^ w

-- no name stands behind the 32 lowest bits
pub shifted : (n p : ℕ) (r : Option ℕ) → n < 2 ^ 32 → SomeIff r (p < 32) (n / 2 ^ p) → unwrap_or r 0 ≡ n / 2 ^ p
shifted n p None h k = let far : 32 ≤ p = omega (arith, k) in sym (div-eq_of_lt (omega (arith, pow_mono {i = 32} {j = p} far)))
shifted n p (Some x) h k = k.1

-- the kept octet, by the names from it on
pub kept_running : (w m : ℕ) (places : Option ℕ) (p d n : ℕ) → m ≡ 2 ^ w → w ≤ 7 → n ≡ names_at places p → bit_and (d % m) (n % m) ≡ kept_octet w places p d
unfolding kept_octet
kept_running w m None p d n mark narrow h =
    let seven : 7 - w + w ≡ 7 = omega arith in
    let whole : bit_and d 127 ≡ d % 2 ^ (7 - w + w) = rw seven (and_mask d 7) in
    rw (mark, h) (sym (and_mod d 127 w) ∙ ap (λ (n : ℕ). n % 2 ^ w) whole ∙ mod-mod-pow d (7 - w) w)
kept_running w m (Some bits) p d n mark narrow h = rw (mark, h) (sym (and_mod d (bits / 2 ^ p) w))

-- the names of the next octet
pub names_on : (places : Option ℕ) (p w n : ℕ) {step : ℕ} → n ≡ names_at places p → step ≡ names_step places w → n / 2 ^ step ≡ names_at places (p + w)
names_on None p w n {step} h k = rw (h, k)
names_on (Some bits) p w n {step} h k = rw (h, k) (shr-shr bits p w)

-- ---- a sieve

-- as it stands at the octet whose positions are above p
pub record Sieves (v : Level) (places : Option ℕ) (p : ℕ) (r : Sieve) : Type 0 where
  pub level : r.level ≡ v
  pub names : r.names ≡ names_at places p
  pub step : r.step ≡ names_step places (width_of v)

pub sieves_new : {v : Level} {places : Option ℕ} {r : Sieve} → (r.level ≡ v) × (r.names ≡ names_at places 0) × (r.step ≡ names_step places (width_of v)) → Sieves v places 0 r
sieves_new h = record { level = h.0; names = h.1; step = h.2 }

step_few : (v : Level) (places : Option ℕ) → names_step places (width_of v) ≤ 7
step_few v None = omega arith
step_few v (Some bits) = width_most v

module _ {v : Level} {places : Option ℕ} {p : ℕ} {r : Sieve} (h : Sieves v places p r) where
  pub sieve_few : r.step ≤ 7
  sieve_few = rw h.step (step_few v places)

  -- what it keeps of an octet
  pub sieve_keeps : (d : ℕ) → bit_and (d % mark_of r.level) (r.names % mark_of r.level) ≡ kept_octet (width_of v) places p d
  sieve_keeps d = rw h.level (kept_running (width_of v) (mark_of v) places p d r.names (mark_power v) (width_most v) h.names)

  -- and at the next octet
  pub sieve_next : {q : Sieve} → (q.level ≡ r.level) × (q.names ≡ r.names / 2 ^ r.step) × (q.step ≡ r.step) → Sieves v places (p + width_of v) q
  sieve_next n =
      record {
        level = n.0 ∙ h.level;
        names = n.1 ∙ names_on places p (width_of v) r.names h.names h.step;
        step = n.2 ∙ h.step;
      }
