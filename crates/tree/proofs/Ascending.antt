-- The codes of a field are strictly ascending, and below those of the next field, whether the field is well-formed or not.
-- Assumes nothing.
use Prim.Native.Nat.{ℕ, zero, suc, ◌+◌, ◌-◌, ◌*◌, ◌/◌, ◌%◌, ◌<◌, ◌≤◌}
use mathlib.Core.Bool.{Bool, true, false}
use mathlib.Core.List.{List, [], ◌∷◌, ◌++◌}
use mathlib.Core.Path.{◌≡◌, refl}
use native.Mathlib.Nat.{mul-le-mul}
use native.Mathlib.Omega.{arith}
use borrow.Author.Tests.{ltb-true, ltb-false, leb-true}
use lib.Dec.{ltb, leb}
use lib.ListN.{length, drop, length-drop}
use Rattle.octets.specs.Places.{pick}
use Rattle.octets.proofs.Laws.{both_true}
use Rattle.tree.specs.Block.{keep, set_bits, block_numbers, block_end, numbers, behind, ended}
use Rattle.tree.specs.Codes.{sub_codes, group_codes, par_codes, rest_codes, field_codes, of_f, of_s}
use Rattle.tree.specs.Order.{Ascending, AllBelow}
use Rattle.tree.specs.Fields.{base_of, codes_in}
use Rattle.tree.specs.Wide.{low_octets, top_octets, octet_fits, low_fits, top_fits, field_fits}
use Rattle.tree.specs.declared.Field.{Field}
use Rattle.tree.proofs.Few.{block_few}
use Rattle.tree.proofs.Forms.{end_above}
use Rattle.tree.proofs.Lowest.{bits_below}
use Rattle.tree.proofs.Wide.{low_drop, fits_parts, fits_short}

-- lo < x₁ < x₂ < .. ≤ hi
unfoldable Chain : ℕ → List ℕ → ℕ → Type 0
Chain lo [] hi = lo ≤ hi
Chain lo (x ∷ l) hi = (lo < x) × Chain x l hi

-- a chain ends no lower than it begins
spans : (lo : ℕ) (l : List ℕ) (hi : ℕ) → Chain lo l hi → lo ≤ hi
unfolding Chain
spans lo [] hi c = c
spans lo (x ∷ l) hi c = omega (arith, c.0, spans x l hi c.1)

-- it may begin lower
lower : (lo lo2 : ℕ) (l : List ℕ) (hi : ℕ) → lo ≤ lo2 → Chain lo2 l hi → Chain lo l hi
unfolding Chain
lower lo lo2 [] hi h c = omega arith
lower lo lo2 (x ∷ l) hi h c = (omega (arith, c.0), c.1)

-- and end higher
higher : (lo : ℕ) (l : List ℕ) (hi hi2 : ℕ) → hi ≤ hi2 → Chain lo l hi → Chain lo l hi2
unfolding Chain
higher lo [] hi hi2 h c = omega arith
higher lo (x ∷ l) hi hi2 h c = (c.0, higher x l hi hi2 h c.1)

-- and two chains join
join : (lo : ℕ) (a : List ℕ) (mid : ℕ) (b : List ℕ) (hi : ℕ) → Chain lo a mid → Chain mid b hi → Chain lo (a ++ b) hi
unfolding Chain
join lo [] mid b hi c d = lower lo mid b hi c d
join lo (x ∷ a) mid b hi c d = (c.0, join x a mid b hi c.1 d)

-- no number is a chain
none : (lo hi : ℕ) → lo ≤ hi → Chain lo [] hi
unfolding Chain
none lo hi h = h

-- a number before a chain
some : (lo x : ℕ) (l : List ℕ) (hi : ℕ) → lo < x → Chain x l hi → Chain lo (x ∷ l) hi
unfolding Chain
some lo x l hi h c = (h, c)

-- and taken off again
first : (lo x : ℕ) (l : List ℕ) (hi : ℕ) → Chain lo (x ∷ l) hi → (lo < x) × Chain x l hi
unfolding Chain
first lo x l hi c = c

-- the numbers of a chain ascend
rises : (lo : ℕ) (l : List ℕ) (hi : ℕ) → Chain lo l hi → Ascending lo l
unfolding Chain Ascending
rises lo [] hi c = tt
rises lo (x ∷ l) hi c = (c.0, rises x l hi c.1)

-- and stay below what is above its end
stays : (lo : ℕ) (l : List ℕ) (hi h : ℕ) → hi < h → Chain lo l hi → AllBelow h l
unfolding Chain AllBelow
stays lo [] hi h k c = tt
stays lo (x ∷ l) hi h k c = (omega (arith, spans x l hi c.1), stays x l hi h k c.1)

-- the bits of an octet
bits_chain : (w p d : ℕ) → Chain p (set_bits w p d) (p + w)
unfolding set_bits
bits_chain zero p d = none p (p + 0) (omega arith)
bits_chain (suc w) p d = go (d % 2) (higher (p + 1) (set_bits w (p + 1) (d / 2)) (p + 1 + w) (p + suc w) (omega arith) (bits_chain w (p + 1) (d / 2)))
  where
    go : (b : ℕ) → Chain (p + 1) (set_bits w (p + 1) (d / 2)) (p + suc w) → Chain p (keep b (p + 1) (set_bits w (p + 1) (d / 2))) (p + suc w)
    go zero c = lower p (p + 1) (set_bits w (p + 1) (d / 2)) (p + suc w) (omega arith) c
    go (suc b) c = some p (p + 1) (set_bits w (p + 1) (d / 2)) (p + suc w) (omega arith) c

-- a block, w numbers to an octet of its own
block_chain : (w m p i : ℕ) (l : List ℕ) → Chain p (block_numbers w m p l) (p + w * (block_end m i l - i))
unfolding block_numbers block_end
block_chain w m p i [] = none p _ (omega arith)
block_chain w m p i (o ∷ l) = join p (set_bits w p o) (p + w) _ _ (bits_chain w p o) (go (ltb o m) (block_chain w m (p + w) (i + 1) l))
  where
    E : ℕ
    E = block_end m (i + 1) l

    go : (t : Bool) → Chain (p + w) (block_numbers w m (p + w) l) (p + w + w * (E - (i + 1)))
        → Chain (p + w) (pick t (block_numbers w m (p + w) l) []) (p + w * (pick t E (i + 1) - i))
    go true c = let z : E - i ≡ suc (E - (i + 1)) = omega (arith, end_above m (i + 1) l) in rw z (higher (p + w) _ _ _ (omega arith) c)
    go false c = let z : i + 1 - i ≡ 1 = omega arith in rw z (none (p + w) _ (omega arith))

-- one of level 1 that has no position above 511
top_chain : (p : ℕ) (l : List ℕ) (e : ℕ) → top_fits l e ≡ true → Chain p (numbers 7 128 p l e) (p + 511)
top_chain p l e h = higher p _ _ _ (omega (arith, leb-true (behind 128 l e - e) top_octets h)) (block_chain 7 128 p e (drop e l))

-- the last octet that a block below level 1 may have
last_bits : (p o : ℕ) → o % 64 ≤ 1 → Chain p (set_bits 6 p o) (p + 1)
unfolding set_bits
last_bits p o h = let same : set_bits 6 p (o % 64) ≡ set_bits 6 p o = bits_below 6 p o in rw same at (go (o % 64) h)
  where
    go : (d : ℕ) → d ≤ 1 → Chain p (set_bits 6 p d) (p + 1)
    go zero k = none p (p + 1) (omega arith)
    go (suc zero) k = some p (p + 1) [] (p + 1) (omega arith) (none (p + 1) (p + 1) (omega arith))
    go (suc (suc d)) k = absurd (omega arith)

-- one that has no position above 511, behind k octets of it
low_block : (k c : ℕ) (l : List ℕ) → k ≤ low_octets → low_fits k l ≡ true → Chain (c + 6 * k) (block_numbers 6 64 (c + 6 * k) l) (c + 511)
unfolding low_fits block_numbers
low_block k c [] h f = none _ _ (omega arith)
low_block k c (o ∷ l) h f = let q = both_true (octet_fits k o) _ f in go (ltb k low_octets) (ltb o 64) refl q.0 q.1 (λ j. low_block j c l)
  where
    p : ℕ
    p = c + 6 * k

    go : (a b : Bool) → ltb k low_octets ≡ a → pick a true (pick b false (leb (o % 64) 1)) ≡ true → low_fits (pick b (k + 1) 0) l ≡ true
        → ((j : ℕ) → j ≤ low_octets → low_fits j l ≡ true → Chain (c + 6 * j) (block_numbers 6 64 (c + 6 * j) l) (c + 511))
        → Chain p (set_bits 6 p o ++ pick b (block_numbers 6 64 (p + 6) l) []) (c + 511)
    go true true e t g rest =
        let n : c + 6 * (k + 1) ≡ p + 6 = omega arith in
        join p (set_bits 6 p o) (p + 6) _ _ (bits_chain 6 p o) (rw n at (rest (k + 1) (omega (arith, ltb-true k low_octets e)) g))
    go true false e t g rest = join p (set_bits 6 p o) (p + 6) _ _ (bits_chain 6 p o) (none _ _ (omega (arith, ltb-true k low_octets e)))
    go false true e t g rest = absurd (let z : ◌≡◌ {A = ℕ} 0 1 = cc in omega arith)
    go false false e t g rest = join p (set_bits 6 p o) (p + 1) _ _ (last_bits p o (leb-true (o % 64) 1 t)) (none _ _ (omega arith))

-- octets in which no block below level 1 has one. 511, 262143 and 134217727 are one less than what one more of t, of s and of f counts
module _ (l : List ℕ) (h : low_fits 0 l ≡ true) where
  low_chain : (c e : ℕ) → Chain c (numbers 6 64 c l e) (c + 511)
  low_chain c e = let n : c + 6 * 0 ≡ c = omega arith in rw n at (low_block 0 c (drop e l) (omega arith) (low_drop e l h))

  -- SPar(2) positions above t0, with their NPar(3) blocks
  subs_chain : (c t0 : ℕ) (ts : List ℕ) (e : ℕ) → Chain t0 ts 511 → Chain (c + t0 * 512 + 511) (sub_codes c ts l e) (c + 262143)
  unfolding sub_codes
  subs_chain c t0 [] e k = none _ _ (omega (arith, spans t0 [] 511 k))
  subs_chain c t0 (t ∷ ts) e k =
      let q = first t0 t ts 511 k in
      let x = c + t * 512 in
      some _ _ _ _ (omega (arith, q.0))
      (join x (numbers 6 64 x l e) (x + 511) _ _ (low_chain x e) (subs_chain c t ts (behind 64 l e) q.1))

  -- what stands in a Par(2) block behind its NPar(2)
  group_chain : (c e : ℕ) → Chain (c + 511) (group_codes c l e) (c + 262143)
  unfolding group_codes
  group_chain c e = go (ended l e)
    where
      go : (t : Bool) → Chain (c + 511) (pick t [] (sub_codes c (numbers 6 64 0 l e) l (behind 64 l e))) (c + 262143)
      go true = none _ _ (omega arith)
      go false = lower (c + 511) (c + 0 * 512 + 511) _ _ (omega arith) (subs_chain c 0 _ (behind 64 l e) (low_chain 0 e))

  -- a Par(2) block
  par_chain : (c e : ℕ) → Chain c (numbers 6 64 c l e ++ group_codes c l (behind 64 l e)) (c + 262143)
  par_chain c e = join c (numbers 6 64 c l e) (c + 511) _ _ (low_chain c e) (group_chain c (behind 64 l e))

  -- SPar(1) positions above s0, with their Par(2) blocks
  pars_chain : (b s0 : ℕ) (ss : List ℕ) (e : ℕ) → Chain s0 ss 511 → Chain (b + s0 * of_s + 262143) (par_codes b ss l e) (b + 134217727)
  unfolding par_codes
  pars_chain b s0 [] e k = none _ _ (omega (arith, spans s0 [] 511 k))
  pars_chain b s0 (s ∷ ss) e k =
      let q = first s0 s ss 511 k in
      let c = b + s * of_s in
      some _ _ _ _ (omega (arith, q.0))
      (join c _ (c + 262143) _ _ (par_chain c e) (pars_chain b s ss _ q.1))

-- a field
codes_chain : (b : ℕ) (l : List ℕ) (at : ℕ) → field_fits l at ≡ true → Chain b (field_codes b l at) (b + 134217727)
unfolding field_codes rest_codes
codes_chain b l at h =
    let f = fits_parts l at h in
    join b (numbers 7 128 b l at) (b + 511) _ _ (top_chain b l at f.0)
    (lower (b + 511) (b + 0 * of_s + 262143) _ _ (omega arith) (pars_chain l f.2 b 0 _ _ (top_chain 0 l (behind 128 l at) f.1)))

-- the codes of a field without a position above 511 ascend
pub codes_ascending : (b : ℕ) (l : List ℕ) (at : ℕ) → field_fits l at ≡ true → Ascending b (field_codes b l at)
codes_ascending b l at h = rises b (field_codes b l at) (b + 134217727) (codes_chain b l at h)

-- and lie below what the codes of the next field stand above
pub codes_below : (b : ℕ) (l : List ℕ) (at : ℕ) → field_fits l at ≡ true → AllBelow (b + of_f) (field_codes b l at)
codes_below b l at h = stays b (field_codes b l at) (b + 134217727) (b + of_f) (omega arith) (codes_chain b l at h)

-- of either field of a message they ascend in any octets
pub field_ascending : (f : Field) (l : List ℕ) (at : ℕ) → Ascending (base_of f) (codes_in f l at)
unfolding codes_in Ascending
field_ascending f l at = go (ltb 64 (length l)) refl
  where
    go : (t : Bool) → ltb 64 (length l) ≡ t → Ascending (base_of f) (pick t [] (field_codes (base_of f) l at))
    go true e = tt
    go false e = codes_ascending (base_of f) l at (fits_short l at (ltb-false 64 (length l) e))

-- the numbers of an octet ascend, and are at most w above what they stand above
pub bits_between : (w p d : ℕ) → Ascending p (set_bits w p d) × AllBelow (p + w + 1) (set_bits w p d)
bits_between w p d =
    let k = bits_chain w p d in
    (rises p (set_bits w p d) (p + w) k, stays p (set_bits w p d) (p + w) (p + w + 1) (omega arith) k)

-- the numbers of a block ascend in any octets
pub numbers-ascending : (w m p : ℕ) (l : List ℕ) (e : ℕ) → Ascending p (numbers w m p l e)
numbers-ascending w m p l e = rises p (numbers w m p l e) _ (block_chain w m p e (drop e l))

-- in those of a message, and in those in which no position is above 511, they are at most that above what they stand above
pub numbers_between : (w m p : ℕ) (l : List ℕ) (e : ℕ) → w ≤ 7 → length l ≤ 64 → Ascending p (numbers w m p l e) × AllBelow (p + 512) (numbers w m p l e)
numbers_between w m p l e v h =
    let n : behind m l e - e ≤ 64 = omega (arith, (block_few w m p e (drop e l)).1, length-drop e l) in
    (numbers-ascending w m p l e, stays p _ _ (p + 512) (omega (arith, mul-le-mul v n)) (block_chain w m p e (drop e l)))

pub top_between : (p : ℕ) (l : List ℕ) (e : ℕ) → top_fits l e ≡ true → Ascending p (numbers 7 128 p l e) × AllBelow (p + 512) (numbers 7 128 p l e)
top_between p l e h = (numbers-ascending 7 128 p l e, stays p _ (p + 511) (p + 512) (omega arith) (top_chain p l e h))

-- the codes that stand above one of SPar(2), and of SPar(1), ascend and are below the next of its level
module _ (c : ℕ) (l : List ℕ) (e : ℕ) (h : low_fits 0 l ≡ true) where
  pub low_between : Ascending c (numbers 6 64 c l e) × AllBelow (c + 512) (numbers 6 64 c l e)
  low_between = (numbers-ascending 6 64 c l e, stays c _ (c + 511) (c + 512) (omega arith) (low_chain l h c e))

  pub par_between : Ascending c (numbers 6 64 c l e ++ group_codes c l (behind 64 l e)) × AllBelow (c + of_s) (numbers 6 64 c l e ++ group_codes c l (behind 64 l e))
  par_between = let k = par_chain l h c e in (rises c _ (c + 262143) k, stays c _ (c + 262143) (c + of_s) (omega arith) k)

  -- what stands behind NPar(2) is above all of its block
  pub group_above : Ascending (c + 511) (group_codes c l e)
  group_above = rises (c + 511) _ (c + 262143) (group_chain l h c e)
