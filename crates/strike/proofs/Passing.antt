-- Bit 8 ends a Par(2) block: in a well-formed one it stands in the last octet alone, so the place behind the block is that behind the first
-- octet with bit 8. And the parts of what is well-formed.
-- Assumes nothing.
use Prim.Native.Nat.{ℕ, zero, suc, ◌+◌, ◌-◌, ◌≤◌, ◌<◌}
use mathlib.Core.Bool.{Bool, true, false}
use mathlib.Core.List.{List}
use mathlib.Core.Path.{◌≡◌, refl, ◌∙◌}
use native.Mathlib.Omega.{arith}
use borrow.Author.Tests.{ltb-true, ltb-false, lt-leb, le-leb}
use lib.Dec.{ltb}
use lib.ListN.{length, get_or}
use Rattle.octets.specs.Places.{pick}
use Rattle.tree.specs.Block.{behind, announced, ended}
use Rattle.tree.specs.Codes.{subs_behind, group_behind}
use Rattle.tree.specs.Form.{and_then, form_at, last_form, subs_form, group_form, pars_form, rest_form, field_form}
use Rattle.tree.specs.Form.{Fine}
use Rattle.tree.proofs.Forms.{and_parts, behind_stop, behind_go, behind_out}
use Rattle.strike.specs.Inner.{SubsFine}

-- ---- the place behind the first octet with bit 8

-- from the octet before e on
abbrev top_from : List ℕ → ℕ → ℕ
top_from l e = pick (ended l e) e (behind 128 l e)

-- from a block below level 1 on it is that from its last octet on: there are no octets, or there is one, which is the last or not
top_out : (l : List ℕ) (e : ℕ) → length l ≤ e → behind 128 l e ≡ top_from l (behind 64 l e)
top_out l e h = rw (behind_out 64 e l h, behind_out 128 e l h) (go (ended l e))
  where
    go : (t : Bool) → e ≡ pick t e e
    go true = refl
    go false = refl

top_on : (l : List ℕ) (e : ℕ) → e < length l → behind 128 l (e + 1) ≡ top_from l (behind 64 l (e + 1)) → behind 128 l e ≡ top_from l (behind 64 l e)
top_on l e h r = go (ltb (get_or l e 0) 64) refl (ltb (get_or l e 0) 128) refl
  where
    back : e + 1 - 1 ≡ e
    back = omega arith

    go : (t : Bool) → ltb (get_or l e 0) 64 ≡ t → (u : Bool) → ltb (get_or l e 0) 128 ≡ u → behind 128 l e ≡ top_from l (behind 64 l e)
    go true a u b = let o = ltb-true (get_or l e 0) 64 a in rw (behind_go 64 e l h o, behind_go 128 e l h (omega arith)) r
    go false a true b =
        let o = ltb-true (get_or l e 0) 128 b in
        rw (behind_stop 64 e l h (ltb-false (get_or l e 0) 64 a), behind_go 128 e l h o, back, lt-leb 128 (get_or l e 0) o)
    go false a false b =
        let o = ltb-false (get_or l e 0) 128 b in
        rw (behind_stop 64 e l h (omega arith), behind_stop 128 e l h o, back, le-leb 128 (get_or l e 0) o)

block_top : (n : ℕ) (l : List ℕ) (e : ℕ) → length l ≤ e + n → behind 128 l e ≡ top_from l (behind 64 l e)
block_top zero l e h = top_out l e (omega arith)
block_top (suc n) l e h = go (ltb e (length l)) refl (block_top n l (e + 1) (omega arith))
  where
    go : (t : Bool) → ltb e (length l) ≡ t → behind 128 l (e + 1) ≡ top_from l (behind 64 l (e + 1)) → behind 128 l e ≡ top_from l (behind 64 l e)
    go true t r = top_on l e (ltb-true e (length l) t) r
    go false t r = top_out l e (ltb-false e (length l) t)

-- so it is the place behind well-formed NPar(3) blocks, behind what stands behind NPar(2), and behind a Par(2) block
subs_top : (k : ℕ) (l : List ℕ) (e : ℕ) → subs_form k l e ≡ Fine → top_from l e ≡ subs_behind k l e
unfolding subs_form subs_behind
subs_top zero l e h = go (ended l e) h
  where
    go : (t : Bool) → last_form false t e ≡ Fine → pick t e (behind 128 l e) ≡ e
    go true f = refl
    go false f = let z : ◌≡◌ {A = ℕ} 0 1 = cc in omega arith
subs_top (suc k) l e h =
    let x = and_parts (last_form true (ended l e) e) _ h in
    let y = and_parts (form_at 64 l e) _ x.1 in
    go (ended l e) x.0 (subs_top k l (behind 64 l e) y.1)
  where
    go : (t : Bool) → last_form true t e ≡ Fine → top_from l (behind 64 l e) ≡ subs_behind k l (behind 64 l e) → pick t e (behind 128 l e) ≡ subs_behind k l (behind 64 l e)
    go true f r = let z : ◌≡◌ {A = ℕ} 0 1 = cc in omega arith
    go false f r = block_top (length l) l e (omega arith) ∙ r

group_top : (l : List ℕ) (e : ℕ) → group_form l e ≡ Fine → top_from l e ≡ group_behind l e
unfolding group_form group_behind
group_top l e h = go (ended l e) h
  where
    n : ℕ
    n = announced 6 64 l e

    go : (t : Bool) → pick t Fine (and_then (form_at 64 l e) (subs_form n l (behind 64 l e))) ≡ Fine → pick t e (behind 128 l e) ≡ pick t e (subs_behind n l (behind 64 l e))
    go true f = refl
    go false f = block_top (length l) l e (omega arith) ∙ subs_top n l (behind 64 l e) (and_parts (form_at 64 l e) _ f).1

pub group_passed : (l : List ℕ) (e : ℕ) → group_form l e ≡ Fine → ended l e ≡ false → behind 128 l e ≡ group_behind l e
group_passed l e h t = rw t at (group_top l e h)

pub whole_passed : (l : List ℕ) (e : ℕ) → group_form l (behind 64 l e) ≡ Fine → behind 128 l e ≡ group_behind l (behind 64 l e)
whole_passed l e h = block_top (length l) l e (omega arith) ∙ group_top l (behind 64 l e) h

-- ---- parts

subs_fine : (k : ℕ) (l : List ℕ) (e : ℕ) → subs_form k l e ≡ Fine → SubsFine k l e
unfolding subs_form SubsFine
subs_fine zero l e h = tt
subs_fine (suc k) l e h =
    let x = and_parts (last_form true (ended l e) e) _ h in
    let y = and_parts (form_at 64 l e) _ x.1 in
    (y.0, subs_fine k l (behind 64 l e) y.1)

-- SPar(2) and its NPar(3) blocks
pub group_parts : (l : List ℕ) (e : ℕ) → group_form l e ≡ Fine → ended l e ≡ false → (form_at 64 l e ≡ Fine) × SubsFine (announced 6 64 l e) l (behind 64 l e)
unfolding group_form
group_parts l e h t = let x = and_parts (form_at 64 l e) _ (rw t at h) in (x.0, subs_fine (announced 6 64 l e) l (behind 64 l e) x.1)

-- NPar(1), SPar(1) and its Par(2) blocks
pub field_parts : (l : List ℕ) (at : ℕ) → field_form l at ≡ Fine
    → let e = behind 128 l at in (form_at 128 l at ≡ Fine) × (form_at 128 l e ≡ Fine) × (pars_form (announced 7 128 l e) l (behind 128 l e) ≡ Fine)
unfolding field_form rest_form
field_parts l at h =
    let x = and_parts (form_at 128 l at) _ h in
    let y = and_parts (form_at 128 l (behind 128 l at)) _ x.1 in
    (x.0, y.0, y.1)
