-- A block judged octet by octet: its positions under a number's bits, and whether it is tight.
-- Assumes nothing.
use Prim.Native.Nat.{ℕ, ◌+◌, ◌-◌, ◌/◌, ◌%◌, ◌^◌, ◌≤◌, ◌<◌}
use mathlib.Core.Bool.{Bool, true, false, not}
use mathlib.Core.List.{List, [], ◌∷◌, ◌++◌}
use mathlib.Core.Path.{◌≡◌, refl, sym, ◌∙◌}
use native.Mathlib.Nat.{div-one}
use native.Mathlib.Omega.{arith}
use borrow.Author.Tests.{lt-ltb, le-ltb, eq-eqb, ne_eqb, eqb-true, ltb-true}
use lib.Bits.{bit_and}
use lib.Dec.{ltb, eqb}
use lib.ListN.{length, get_or, drop}
use lib.Pow.{shr-shr}
use Rattle.std.specs.Prelude.{Option, Some, None}
use Rattle.std.specs.Bool.{then_some}
use Rattle.octets.specs.Bits.{odd}
use Rattle.octets.specs.Places.{pick, both}
use Rattle.tree.specs.Block.{set_bits, block_numbers, block_end, numbers, behind}
use Rattle.tree.specs.Fields.{is_in, all_in}
use Rattle.tree.specs.Order.{Ascending, AllBelow}
use Rattle.tree.specs.Form.{Form, Fine, Wrong, is_fine, block_form, form_at}
use Rattle.tree.proofs.Ascending.{bits_between}
use Rattle.tree.proofs.Forms.{form_out}
use Rattle.tree.proofs.Lowest.{in_bits}
use Rattle.within.proofs.Taking.{bits_within}
use Rattle.meaning.specs.Minimal.{full_at_end, tight}
use Rattle.octets.proofs.Laws.{drop_next}
use Rattle.good.specs.Goodness.{all_named, good_block}

-- ---- two tests

pub both_none : (t : Bool) → both t false ≡ false
both_none true = refl
both_none false = refl

pub both_assoc : (t u v : Bool) → both (both t u) v ≡ both t (both u v)
both_assoc true u v = refl
both_assoc false u v = refl

-- ---- positions under a number's bits

pub named_append : (n : ℕ) (a r : List ℕ) → all_named n (a ++ r) ≡ both (all_named n a) (all_named n r)
unfolding all_named
named_append n [] r = refl
named_append n (q ∷ a) r = rw (named_append n a r) (sym (both_assoc (odd (n / 2 ^ (q - 1))) (all_named n a) (all_named n r)))

-- positions among those of an octet above p are such bits exactly if they are set in what is left of the number above p
named_in : (w n p a lo : ℕ) (qs : List ℕ) → a ≡ n / 2 ^ p → p ≤ lo → Ascending lo qs → AllBelow (p + w + 1) qs → all_named n qs ≡ all_in qs (set_bits w p a)
unfolding all_named all_in Ascending AllBelow
named_in w n p a lo [] e h u v = refl
named_in w n p a lo (q ∷ qs) e h u v =
    let i = q - p - 1 in
    let at : p + i + 1 ≡ q = omega (arith, u.0) in
    let from : p + i ≡ q - 1 = omega (arith, u.0) in
    let bit : is_in q (set_bits w p a) ≡ odd (n / 2 ^ (q - 1)) = rw (← from, ← (shr-shr n p i), ← e) (rw at at (in_bits w p i a (omega (arith, u.0, v.0)))) in
    rw (bit, named_in w n p a q qs e (omega (arith, u.0)) u.1 v.1) (go (odd (n / 2 ^ (q - 1))) _)
  where
    go : (t x : Bool) → both t x ≡ pick t x false
    go true x = refl
    go false x = refl

-- so those of an octet are exactly if nothing of it is lost under that
named_octet : (w m n p d a : ℕ) → m ≡ 2 ^ w → a ≡ n / 2 ^ p → all_named n (set_bits w p d) ≡ eqb (bit_and (d % m) a) (d % m)
named_octet w m n p d a mark e = let s = bits_between w p d in rw mark (named_in w n p a p (set_bits w p d) e (omega arith) s.0 s.1 ∙ bits_within w p d a)

-- ---- a block, octet by octet

-- the octets of a block from one on, of which others stand before
abbrev tight_from : Bool → ℕ → List ℕ → Bool
tight_from others m l = pick others (full_at_end m l) (tight m l)

module _ (w m n : ℕ) (l : List ℕ) where
  -- the place behind the block that goes on at place i, its positions numbered from p + 1; none where it is not good
  abbrev from : Bool → ℕ → ℕ → Option ℕ
  from others p i = then_some (both (is_fine (form_at m l i)) (both (tight_from others m (drop i l)) (all_named n (numbers w m p l i)))) (behind m l i)

  -- by its octet there
  from_octet : (others : Bool) (p i : ℕ) → i < length l →
      let o = get_or l i 0 in
      from others p i
      ≡ pick (all_named n (set_bits w p o)) (pick (ltb o m) (from true (p + w) (i + 1)) (pick (odd (o / m)) (then_some (pick others (not (eqb (o % m) 0)) true) (i + 1)) None)) None
  unfolding block_form full_at_end tight block_numbers block_end all_named
  from_octet others p i h =
      let o = get_or l i 0 in
      rw (drop_next l i h, named_append n (set_bits w p o)) (go others (ltb o m) (all_named n (set_bits w p o)) (odd (o / m)) (eqb (o % m) 0))
    where
      R : List ℕ
      R = numbers w m (p + w) l (i + 1)

      F : Bool
      F = full_at_end m (drop (i + 1) l)

      B : Form
      B = form_at m l (i + 1)

      go : (t u v b z : Bool)
          → then_some (both (is_fine (pick u B (pick b Fine (Wrong i)))) (both (pick t (pick u F (not z)) (pick u F true)) (both v (all_named n (pick u R []))))) (pick u (behind m l (i + 1)) (i + 1))
          ≡ pick v (pick u (then_some (both (is_fine B) (both F (all_named n R))) (behind m l (i + 1))) (pick b (then_some (pick t (not z) true) (i + 1)) None)) None
      go t u false b z = rw (both_none (pick t (pick u F (not z)) (pick u F true)), both_none (is_fine (pick u B (pick b Fine (Wrong i)))))
      go true true true b z = refl
      go false true true b z = refl
      go t false true false z = refl
      go true false true true true = refl
      go true false true true false = refl
      go false false true true z = refl

-- a block of which the octets before place i were looked at, and none was its last: what is left of the names is a
pub record Looked (w m n : ℕ) (l : List ℕ) (e a i : ℕ) : Type 0 where
  pub p : ℕ
  pub left : a ≡ n / 2 ^ p
  pub reach : e ≤ i
  pub same : from w m n l (ltb e i) p i ≡ then_some (good_block w m n l e) (behind m l e)

module _ {w m n : ℕ} {l : List ℕ} {e : ℕ} where
  -- none was yet
  pub looked_none : Looked w m n l e n e
  looked_none = record { p = 0; left = sym (div-one n); reach = omega arith; same = rw (le-ltb e e (omega arith)) }

  module _ {a i : ℕ} (y : Looked w m n l e a i) where
    -- the octets are at their end
    pub looked_end : length l ≤ i → None ≡ then_some (good_block w m n l e) (behind m l e)
    looked_end h = sym (rw (form_out m i l h)) ∙ y.same

    module _ (mark : m ≡ 2 ^ w) (h : i < length l) where
      abbrev d : ℕ
      d = get_or l i 0 % m

      octet : all_named n (set_bits w y.p (get_or l i 0)) ≡ eqb (bit_and d a) d
      octet = named_octet w m n y.p (get_or l i 0) a mark y.left

      -- something of the octet at i is lost
      pub looked_lost : (bit_and d a ≡ d → ⊥) → None ≡ then_some (good_block w m n l e) (behind m l e)
      looked_lost k = sym (from_octet w m n l (ltb e i) y.p i h ∙ rw (octet, ne_eqb _ _ k)) ∙ y.same

      module _ (k : bit_and d a ≡ d) where
        -- it is the last of the block: with bit 8 alone, with nothing set behind others, or neither
        module _ (u : m ≤ get_or l i 0) where
          pub looked_wrong : get_or l i 0 / m % 2 ≡ 0 → None ≡ then_some (good_block w m n l e) (behind m l e)
          looked_wrong b = sym (from_octet w m n l (ltb e i) y.p i h ∙ rw (octet, eq-eqb _ _ k, le-ltb _ _ u, b)) ∙ y.same

          module _ (b : get_or l i 0 / m % 2 ≡ 0 → ⊥) where
            right : get_or l i 0 / m % 2 ≡ 1
            right = omega arith

            pub looked_empty : d ≡ 0 → e < i → None ≡ then_some (good_block w m n l e) (behind m l e)
            looked_empty z f = sym (from_octet w m n l (ltb e i) y.p i h ∙ rw (octet, eq-eqb _ _ k, le-ltb _ _ u, right, lt-ltb _ _ f, eq-eqb _ _ z)) ∙ y.same

            pub looked_last : (d ≡ 0 → i ≤ e) → Some (i + 1) ≡ then_some (good_block w m n l e) (behind m l e)
            looked_last z = sym (from_octet w m n l (ltb e i) y.p i h ∙ rw (octet, eq-eqb _ _ k, le-ltb _ _ u, right) (go (ltb e i) refl (eqb d 0) refl)) ∙ y.same
              where
                go : (t : Bool) → ltb e i ≡ t → (v : Bool) → eqb d 0 ≡ v → then_some (pick t (not v) true) (i + 1) ≡ Some (i + 1)
                go true f true g = absurd (omega (arith, ltb-true e i f, z (eqb-true d 0 g)))
                go true f false g = refl
                go false f v g = refl

        -- it is not
        pub looked_turn : {b : ℕ} → get_or l i 0 < m → b ≡ a / 2 ^ w → Looked w m n l e b (i + 1)
        looked_turn u f = record {
          p = y.p + w;
          left = f ∙ rw y.left (shr-shr n y.p w);
          reach = omega (arith, y.reach);
          same = rw (lt-ltb e (i + 1) (omega (arith, y.reach))) (sym (from_octet w m n l (ltb e i) y.p i h ∙ rw (octet, eq-eqb _ _ k, lt-ltb _ _ u)) ∙ y.same);
        }
