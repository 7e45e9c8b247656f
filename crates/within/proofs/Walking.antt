-- The positions of two blocks walked over, one after the other, and what they announce held beside each other.
-- Assumes nothing.
use Prim.Native.Nat.{ℕ, ◌+◌, ◌-◌, ◌*◌, ◌/◌, ◌%◌, ◌^◌, ◌≤◌, ◌<◌}
use mathlib.Core.Bool.{true, false}
use mathlib.Core.List.{List, [], ◌∷◌, ◌++◌, append_assoc}
use mathlib.Core.Path.{◌≡◌, refl, sym, ◌∙◌}
use native.Mathlib.Nat.{mod-lt}
use native.Mathlib.Omega.{arith}
use lib.Count.{count_trailing_zeros}
use lib.ListN.{length, get_or}
use lib.Pow.{pow_pos, shr_le}
use Rattle.tree.specs.Block.{set_bits, numbers}
use Rattle.within.specs.Pairing.{next_place, BlockWithin, Spars, SomeWithin, one_of, OneWithin, AllWithin, next_octets, next_bit}
use Rattle.tree.specs.Fields.{all_in}
use Rattle.std.specs.Prelude.{Option, Some, None}
use Rattle.within.specs.declared.Places.{Places}
use Rattle.within.specs.declared.Walk.{Walk}
use Rattle.within.proofs.Apart.{none_within}
use Rattle.within.proofs.Taking.{numbers_out, numbers_next, numbers_below, place_after, left_of, left_from, left_parts, left_both, left_octets, under_lowest, Under}
use Rattle.within.proofs.Stepping.{Stepped}
use Rattle.tree.proofs.Lowest.{Lowest, lowest}

-- ---- with each step less is ahead

unfoldable pub ahead : List ℕ → Walk → ℕ
ahead t x = (length t - x.j) * 256 + x.theirs

pub octets_less : (m : ℕ) (l t : List ℕ) (x : Walk) → 0 < m → m ≤ 256 → x.j < length t → ahead t (next_octets m l t x) < ahead t x
unfolding ahead
octets_less m l t x h narrow k = omega (arith, place_after m t x.j k, mod-lt (get_or t x.j 0) h)

pub bit_less : (t : List ℕ) (x : Walk) → (x.theirs ≡ 0 → ⊥) → ahead t (next_bit x) < ahead t x
unfolding ahead
bit_less t x some = omega (arith, shr_le x.theirs (count_trailing_zeros 8 x.theirs))

-- ---- what was asked of all positions of two blocks is asked of those that the walk has left; of these none is in the first alone

pub record Going (x y : Spars) (w m : ℕ) (l : List ℕ) (e : ℕ) (t : List ℕ) (k : ℕ) (found : Places) (v : Walk) : Type 0 where
  pub p : ℕ
  pub bits : ℕ
  pub few : bits ≤ w
  pub small : v.theirs < 2 ^ bits
  pub within : all_in (left_of w m bits p v.mine l v.i) (left_of w m bits p v.theirs t v.j) ≡ true
  pub rest : (r : Option Places) → SomeWithin x y (left_of w m bits p v.mine l v.i) found.from (left_of w m bits p v.theirs t v.j) found.to r → AllWithin x y w m l e t k r

module _ {x y : Spars} {low : ℕ → ℕ → ℕ} {one one' : ℕ → ℕ → List ℕ} {next next' : ℕ → ℕ} (s : Stepped x low one next) (u : Stepped y low one' next')
    {w m : ℕ} {l : List ℕ} {e : ℕ} {t : List ℕ} {k : ℕ} {found : Places} where
  -- all are left
  pub walk_start : BlockWithin w m l e t k (Some found) → Going x y w m l e t k found (record { i = e; j = k; mine = 0; theirs = 0; set = false })
  unfolding set_bits
  walk_start b = record { p = 0; bits = 0; few = omega arith; small = omega arith; within = sym (b.told 0); rest = λ r c. rw (b.from refl, b.to refl) at c }

  module _ {v : Walk} (g : Going x y w m l e t k found v) where
    abbrev p : ℕ
    p = g.p

    abbrev bits : ℕ
    bits = g.bits

    -- none is left of the octets before
    module _ (nil : v.theirs ≡ 0) where
      octets : (left_of w m bits p v.mine l v.i ≡ numbers w m (p + bits) l v.i) × (left_of w m bits p v.theirs t v.j ≡ numbers w m (p + bits) t v.j)
      octets = left_octets w m bits p v.mine l t v.i v.j nil g.within

      -- nor another octet
      pub walk_end : length t ≤ v.j → AllWithin x y w m l e t k (Some found)
      unfolding all_in
      walk_end out =
          let theirs : left_of w m bits p v.theirs t v.j ≡ [] = octets.1 ∙ numbers_out w m (p + bits) t v.j out in
          let mine : left_of w m bits p v.mine l v.i ≡ [] = none_within _ (rw theirs at g.within) in
          g.rest (Some found) (rw (mine, theirs) (record { told = λ c. rw (s.none c found.from); from = λ n. sym (s.stay found.from); to = λ n. sym (u.stay found.to) }))

      -- the next octets
      pub walk_octets : m ≡ 2 ^ w → Going x y w m l e t k found (next_octets m l t v)
      walk_octets c =
          let q = p + bits in
          let mine : left_of w m bits p v.mine l v.i ≡ left_of w m w q (get_or l v.i 0) l (next_place m l v.i) = octets.0 ∙ numbers_next w m q l v.i in
          let theirs : left_of w m bits p v.theirs t v.j ≡ left_of w m w q (get_or t v.j 0 % m) t (next_place m t v.j) = octets.1 ∙ numbers_below w m q t v.j c in
          record {
            p = q;
            bits = w;
            few = omega arith;
            small = rw c (mod-lt (get_or t v.j 0) (pow_pos w));
            within = rw (mine, theirs) at g.within;
            rest = λ r o. g.rest r (rw (mine, theirs) o);
          }

    -- one is: the lowest, behind the zeros that are counted
    module _ (narrow : w ≤ 7) (some : v.theirs ≡ 0 → ⊥) where
      abbrev zeros : ℕ
      zeros = count_trailing_zeros 8 v.theirs

      abbrev q : ℕ
      q = p + (zeros + 1)

      abbrev rest : ℕ
      rest = bits - (zeros + 1)

      abbrev a : ℕ
      a = v.mine / 2 ^ zeros / 2

      abbrev b : ℕ
      b = v.theirs / 2 ^ zeros / 2

      bottom : Lowest bits p v.theirs zeros
      bottom = lowest 8 bits p v.theirs (omega (arith, g.few)) (omega arith) g.small

      parts : (all_in (set_bits bits p v.mine) (set_bits bits p v.theirs) ≡ true) × (all_in (numbers w m (p + bits) l v.i) (numbers w m (p + bits) t v.j) ≡ true)
      parts = left_both w m bits p v.mine v.theirs l t v.i v.j g.within

      under : Under bits p v.mine v.theirs zeros
      under = under_lowest 8 bits p v.mine v.theirs (omega (arith, g.few)) (omega arith) g.small parts.0

      above : p + bits ≡ q + rest
      above = omega (arith, bottom.0)

      mine : left_of w m bits p v.mine l v.i ≡ one_of (next_bit v).set q ++ left_of w m rest q a l v.i
      mine = rw (under.0, above) (append_assoc (one_of (next_bit v).set q) (set_bits rest q a) (numbers w m (q + rest) l v.i))

      theirs : left_of w m bits p v.theirs t v.j ≡ q ∷ left_of w m rest q b t v.j
      theirs = rw (bottom.1, above)

      pub walk_bit : {found₁ : Places} → OneWithin x y (next_bit v).set found (Some found₁) → Going x y w m l e t k found₁ (next_bit v)
      walk_bit o = record {
        p = q;
        bits = rest;
        few = omega (arith, g.few);
        small = bottom.2;
        within = left_parts w m rest q a b l t v.i v.j ∙ rw (under.1, rw above at parts.1);
        rest = λ r y. g.rest r (rw (mine, theirs) (o.found refl q _ _ (left_from w m rest q a l v.i) (left_from w m rest q b t v.j) r y));
      }

      -- something that it announces was not found
      pub walk_lost : OneWithin x y (next_bit v).set found None → AllWithin x y w m l e t k None
      walk_lost o = g.rest None (rw (mine, theirs) (o.lost refl q _ _ (left_from w m rest q a l v.i) (left_from w m rest q b t v.j)))
