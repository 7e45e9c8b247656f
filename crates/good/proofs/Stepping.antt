-- Blocks judged one after the other: the place behind each, or none where one is not good.
-- Assumes nothing.
use Prim.Native.Nat.{ℕ, ◌%◌, ◌≤◌, ◌<◌}
use mathlib.Core.Bool.{Bool, true, false, not}
use mathlib.Core.List.{List, [], ◌∷◌}
use mathlib.Core.Logic.{⊎_elim}
use mathlib.Core.Path.{◌≡◌, refl, sym, ap, ◌∙◌}
use native.Mathlib.Omega.{arith}
use borrow.Author.Tests.{eq-eqb, ne_eqb}
use lib.Dec.{eqb}
use lib.ListN.{length, get_or, get_or-eq_default}
use Rattle.std.specs.Prelude.{Option, Some, None}
use Rattle.std.specs.Bool.{then_some}
use Rattle.octets.specs.Bits.{num}
use Rattle.octets.specs.Places.{both}
use Rattle.tree.specs.Block.{numbers, behind, ended}
use Rattle.tree.specs.Codes.{subs_behind, group_behind, pars_behind, rest_behind, field_behind}
use Rattle.tree.specs.Form.{is_fine, form_at}
use Rattle.meaning.specs.Minimal.{tight_at}
use Rattle.octets.proofs.Laws.{both_true}
use Rattle.good.specs.Goodness.{spars_in, npars_in, subs_in, lows_in, good_block, good_sub, good_group, good_par, good_pars, good_rest, good_blocks, pars_judged}
use Rattle.good.proofs.Allowed.{both_none}
use Rattle.good.proofs.Grouping.{sub_few, sub_set}

-- ---- a place, or none

-- there is none only where the test fails, and one only where it does not
pub judged_none : (g : Bool) (x : ℕ) → None ≡ then_some g x → g ≡ false
judged_none true x e = cc
judged_none false x e = refl

pub judged_some : (g : Bool) (x : ℕ) {r : ℕ} → Some r ≡ then_some g x → (g ≡ true) × (r ≡ x)
judged_some true x e = (refl, cc)
judged_some false x e = cc

-- ---- the only NPar(3) block

module _ (n : ℕ) (l : List ℕ) (e : ℕ) where
  abbrev sub_judged : Option ℕ
  sub_judged = then_some (good_sub n l e) (behind 64 l e)

  abbrev sub_block : Bool
  sub_block = good_block 6 64 n l e

  -- bit 8 stands before it
  pub sub_marked : ended l e ≡ true → None ≡ sub_judged
  unfolding good_sub
  sub_marked h = rw h

  module _ (h : ended l e ≡ false) where
    -- it is not good
    pub sub_bad : None ≡ then_some sub_block (behind 64 l e) → None ≡ sub_judged
    unfolding good_sub
    sub_bad j = rw (h, judged_none sub_block (behind 64 l e) j)

    -- it is, and bit 8 stands in its last octet, or not
    pub sub_on : {r : ℕ} → Some r ≡ then_some sub_block (behind 64 l e) → {t : Bool} → t ≡ ended l r → {v : Option ℕ} → v ≡ then_some t r → v ≡ sub_judged
    unfolding good_sub
    sub_on j f k = let g = judged_some sub_block (behind 64 l e) j in k ∙ rw (f, h, g.0, g.1)

-- ---- what stands behind NPar(2)

module _ (n : List ℕ) (q : ℕ) (l : List ℕ) (e : ℕ) where
  abbrev group_judged : Option ℕ
  group_judged = then_some (good_group n q l e) (group_behind l e)

  abbrev group_block : Bool
  group_block = good_block 6 64 (subs_in n q) l e

  -- nothing
  pub group_ended : ended l e ≡ true → Some e ≡ group_judged
  unfolding good_group group_behind
  group_ended h = rw h

  module _ (h : ended l e ≡ false) where
    group_open : good_group n q l e ≡ both (not (eqb (get_or l e 0 % 64) 0)) (both group_block (good_sub (lows_in n q) l (behind 64 l e)))
    unfolding good_group
    group_open = rw h

    -- nothing set in the first octet of SPar(2)
    pub group_empty : get_or l e 0 % 64 ≡ 0 → None ≡ group_judged
    group_empty z = rw (group_open, eq-eqb _ _ z)

    pub group_out : length l ≤ e → None ≡ group_judged
    group_out k = group_empty (rw (get_or-eq_default l 0 {n = e} k))

    -- SPar(2) is not good
    pub group_bad : None ≡ then_some group_block (behind 64 l e) → None ≡ group_judged
    group_bad j = rw (group_open, judged_none group_block (behind 64 l e) j, both_none (not (eqb (get_or l e 0 % 64) 0)))

    -- it is, and an NPar(3) block follows
    pub group_on : {r : ℕ} → Some r ≡ then_some group_block (behind 64 l e) → subs_in n q < 2 → (get_or l e 0 % 64 ≡ 0 → ⊥)
        → {v : Option ℕ} → v ≡ then_some (good_sub (lows_in n q) l r) (behind 64 l r) → v ≡ group_judged
    unfolding group_behind subs_behind
    group_on j u k {v} f =
        let g = judged_some group_block (behind 64 l e) j in
        let all = (both_true (tight_at 64 l e) _ (both_true (is_fine (form_at 64 l e)) _ g.0).1).1 in
        let set : eqb (get_or l e 0 % 64) 0 ≡ false = ne_eqb _ 0 k in
        let one : numbers 6 64 0 l e ≡ 1 ∷ [] = ⊎_elim (λ (x : numbers 6 64 0 l e ≡ []). absurd (omega (arith, ap num (rw (set, x) at (sub_set (subs_in n q) l e u all))))) (λ x. x) (sub_few (subs_in n q) l e u all) in
        rw g.1 at f ∙ rw (group_open, set, g.0, h, one)

-- ---- Par(2) blocks

-- one: its NPar(2) is not good, or it is and the rest is judged
module _ (n : List ℕ) (q : ℕ) (l : List ℕ) (e : ℕ) {x : ℕ} (s : x ≡ npars_in n q) where
  abbrev par_judged : Option ℕ
  par_judged = then_some (good_par n q l e) (group_behind l (behind 64 l e))

  pub par_bad : None ≡ then_some (good_block 6 64 x l e) (behind 64 l e) → None ≡ par_judged
  unfolding good_par
  par_bad j = rw (judged_none (good_block 6 64 (npars_in n q) l e) (behind 64 l e) (rw s at j))

  pub par_on : {r : ℕ} → Some r ≡ then_some (good_block 6 64 x l e) (behind 64 l e) → {v : Option ℕ} → v ≡ then_some (good_group n q l r) (group_behind l r) → v ≡ par_judged
  unfolding good_par
  par_on j f = let g = judged_some (good_block 6 64 (npars_in n q) l e) (behind 64 l e) (rw s at j) in rw g.1 at f ∙ rw g.0

-- several: the first is not good, or it is and the others are judged
module _ (n : List ℕ) (q : ℕ) (qs l : List ℕ) (e : ℕ) where
  pub pars_bad : None ≡ then_some (good_par n q l e) (group_behind l (behind 64 l e)) → None ≡ pars_judged n (q ∷ qs) l e
  unfolding good_pars pars_behind
  pars_bad j = rw (judged_none (good_par n q l e) _ j)

  pub pars_on : {r : ℕ} → Some r ≡ then_some (good_par n q l e) (group_behind l (behind 64 l e)) → pars_judged n qs l r ≡ pars_judged n (q ∷ qs) l e
  unfolding good_pars pars_behind
  pars_on j = let g = judged_some (good_par n q l e) _ j in rw (g.0, g.1)

pub pars_end : (n l : List ℕ) (e : ℕ) → Some e ≡ pars_judged n [] l e
unfolding good_pars pars_behind
pars_end n l e = refl

-- ---- a field

module _ (n l : List ℕ) where
  abbrev field_judged : Option ℕ
  field_judged = then_some (good_blocks n l) (field_behind l 0)

  -- NPar(1) is not good
  pub field_bad : None ≡ then_some (good_block 7 128 0 l 0) (behind 128 l 0) → None ≡ field_judged
  unfolding good_blocks
  field_bad j = rw (judged_none (good_block 7 128 0 l 0) (behind 128 l 0) j)

  module _ {e : ℕ} (j : Some e ≡ then_some (good_block 7 128 0 l 0) (behind 128 l 0)) where
    rest_left : field_judged ≡ then_some (good_rest n l e) (rest_behind l e)
    unfolding good_blocks field_behind
    rest_left = let g = judged_some (good_block 7 128 0 l 0) (behind 128 l 0) j in rw (g.0, g.1)

    -- SPar(1) is not, or it is and the Par(2) blocks are judged
    pub rest_bad : None ≡ then_some (good_block 7 128 (spars_in n) l e) (behind 128 l e) → None ≡ field_judged
    unfolding good_rest
    rest_bad k = sym (rest_left ∙ rw (judged_none (good_block 7 128 (spars_in n) l e) (behind 128 l e) k))

    pub rest_on : {r : ℕ} → Some r ≡ then_some (good_block 7 128 (spars_in n) l e) (behind 128 l e) → {v : Option ℕ} → v ≡ pars_judged n (numbers 7 128 0 l e) l r → v ≡ field_judged
    unfolding good_rest rest_behind
    rest_on k h = let g = judged_some (good_block 7 128 (spars_in n) l e) (behind 128 l e) k in h ∙ sym (rest_left ∙ rw (g.0, ← g.1))
