-- No octet gives a code twice: a field of n octets has at most 7 n codes, well-formed or not.
-- Assumes nothing.
use Prim.Native.Nat.{ℕ, suc, ◌+◌, ◌*◌, ◌≤◌}
use mathlib.Core.Path.{◌≡◌, refl}
use mathlib.Core.Bool.{Bool, true, false}
use mathlib.Core.List.{List, [], ◌∷◌, ◌++◌}
use native.Mathlib.Omega.{arith}
use borrow.Author.Tests.{ltb-true, ltb-false}
use lib.Dec.{ltb}
use lib.ListN.{length, drop, length-append, length-drop, drop_of_length-le}
use Rattle.octets.specs.Places.{pick}
use Rattle.tree.specs.Block.{set_bits, block_numbers, block_end, numbers, behind, ended}
use Rattle.tree.specs.Codes.{sub_codes, subs_behind, group_codes, group_behind, par_codes, pars_behind, rest_codes, rest_behind, field_codes, field_behind, of_s}
use Rattle.tree.proofs.Forms.{bits_most}

-- a block ends no earlier than it begins and no later than the octets, and has at most w parameters for each octet of its own
pub block_few : (w m p i : ℕ) (l : List ℕ)
    → (i ≤ block_end m i l) × (block_end m i l ≤ i + length l) × (length (block_numbers w m p l) + w * i ≤ w * block_end m i l)
unfolding block_numbers block_end
block_few w m p i [] = omega arith
block_few w m p i (o ∷ l) = go (ltb o m) (block_few w m (p + w) (i + 1) l)
  where
    go : (t : Bool)
        → (i + 1 ≤ block_end m (i + 1) l) × (block_end m (i + 1) l ≤ i + 1 + length l) × (length (block_numbers w m (p + w) l) + w * (i + 1) ≤ w * block_end m (i + 1) l)
        → (i ≤ pick t (block_end m (i + 1) l) (i + 1))
        × (pick t (block_end m (i + 1) l) (i + 1) ≤ i + suc (length l))
        × (length (set_bits w p o ++ pick t (block_numbers w m (p + w) l) []) + w * i ≤ w * pick t (block_end m (i + 1) l) (i + 1))
    go true h = omega (arith, length-append (set_bits w p o) (block_numbers w m (p + w) l), bits_most w p o)
    go false h = omega (arith, length-append (set_bits w p o) [], bits_most w p o)

-- the same of the block at a place
pub few : (w m p : ℕ) (l : List ℕ) (e : ℕ) → e ≤ length l
    → (e ≤ behind m l e) × (behind m l e ≤ length l) × (length (numbers w m p l e) + w * e ≤ w * behind m l e)
few w m p l e h = let k = block_few w m p e (drop e l) in (k.0, omega (arith, k.1, length-drop e l), k.2)

-- NPar(3) blocks
subs_few : (c : ℕ) (ts l : List ℕ) (e : ℕ) → e ≤ length l
    → (e ≤ subs_behind (length ts) l e) × (subs_behind (length ts) l e ≤ length l) × (length (sub_codes c ts l e) + 6 * e ≤ length ts + 6 * subs_behind (length ts) l e)
unfolding sub_codes subs_behind
subs_few c [] l e h = omega arith
subs_few c (t ∷ ts) l e h =
    let k = few 6 64 (c + t * 512) l e h in
    let r = subs_few c ts l (behind 64 l e) k.1 in
    omega (arith, k, r, length-append (numbers 6 64 (c + t * 512) l e) (sub_codes c ts l (behind 64 l e)))

-- what stands in a Par(2) block behind its NPar(2)
pub group_few : (c : ℕ) (l : List ℕ) (e : ℕ) → e ≤ length l
    → (e ≤ group_behind l e) × (group_behind l e ≤ length l) × (length (group_codes c l e) + 6 * e ≤ 6 * group_behind l e)
unfolding group_codes group_behind
group_few c l e h = go (ended l e)
  where
    ts : List ℕ
    ts = numbers 6 64 0 l e

    x : ℕ
    x = behind 64 l e

    go : (t : Bool)
        → (e ≤ pick t e (subs_behind (length ts) l x))
        × (pick t e (subs_behind (length ts) l x) ≤ length l)
        × (length (pick t [] (sub_codes c ts l x)) + 6 * e ≤ 6 * pick t e (subs_behind (length ts) l x))
    go true = omega arith
    go false = let k = few 6 64 0 l e h in omega (arith, k, subs_few c ts l x k.1)

-- Par(2) blocks
pars_few : (b : ℕ) (ss l : List ℕ) (e : ℕ) → e ≤ length l
    → (e ≤ pars_behind (length ss) l e) × (pars_behind (length ss) l e ≤ length l) × (length (par_codes b ss l e) + 7 * e ≤ length ss + 7 * pars_behind (length ss) l e)
unfolding par_codes pars_behind
pars_few b [] l e h = omega arith
pars_few b (s ∷ ss) l e h =
    let c = b + s * of_s in
    let x = behind 64 l e in
    let k = few 6 64 c l e h in
    let g = group_few c l x k.1 in
    omega (arith, k, g, pars_few b ss l (group_behind l x) g.1, length-append (numbers 6 64 c l e ++ group_codes c l x) (par_codes b ss l (group_behind l x)), length-append (numbers 6 64 c l e) (group_codes c l x))

-- a field ends within the octets, and has at most 7 codes for each octet of its own
pub field_few : (b : ℕ) (l : List ℕ) (at : ℕ) → at ≤ length l
    → (field_behind l at ≤ length l) × (length (field_codes b l at) + 7 * at ≤ 7 * field_behind l at)
unfolding field_codes rest_codes field_behind rest_behind
field_few b l at h =
    let e = behind 128 l at in
    let ss = numbers 7 128 0 l e in
    let k = few 7 128 b l at h in
    let r = few 7 128 0 l e k.1 in
    omega (arith, k, r, pars_few b ss l (behind 128 l e) r.1, length-append (numbers 7 128 b l at) (par_codes b ss l (behind 128 l e)))

-- a field behind the octets has no code
pub codes_none : (b : ℕ) (l : List ℕ) (at : ℕ) → length l ≤ at → field_codes b l at ≡ []
unfolding field_codes rest_codes par_codes block_numbers block_end
codes_none b l at h = rw (drop_of_length-le l h, drop_of_length-le l h)

-- at most 7 codes an octet
pub codes_few : (b : ℕ) (l : List ℕ) (at : ℕ) → length (field_codes b l at) ≤ 7 * length l
codes_few b l at = go (ltb (length l) at) refl
  where
    go : (t : Bool) → ltb (length l) at ≡ t → length (field_codes b l at) ≤ 7 * length l
    go true e = rw (codes_none b l at (omega (arith, ltb-true (length l) at e))) (omega arith)
    go false e = omega (arith, field_few b l at (ltb-false (length l) at e))
