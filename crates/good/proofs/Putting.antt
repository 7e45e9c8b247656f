-- Names put block by block, as the code goes.
-- Assumes nothing.
use Prim.Native.Nat.{ℕ, ◌+◌}
use mathlib.Core.Bool.{Bool, true, false}
use mathlib.Core.List.{List, [], ◌∷◌}
use mathlib.Core.Path.{◌≡◌, refl, ◌∙◌}
use lib.ListN.{length, set, length-set}
use Rattle.octets.specs.Places.{pick}
use Rattle.tree.specs.Block.{behind, ended}
use Rattle.good.specs.Goodness.{below_at}
use Rattle.good.specs.Learned.{block_bits, group_put, group_end, par_put, pars_put}

-- ---- a Par(2) block

module _ (q : ℕ) (l : List ℕ) (e : ℕ) (n : List ℕ) where
  -- nothing stands behind NPar(2)
  pub group_none : ended l e ≡ true → (e ≡ group_end l e) × (n ≡ group_put q l e n)
  group_none h = (rw h, rw h)

  -- SPar(2) and an NPar(3) block do
  pub group_some : {place next end v : ℕ} → ended l e ≡ false → place ≡ below_at q → next ≡ behind 64 l e → end ≡ behind 64 l next → v ≡ block_bits 6 64 l next
      → (end ≡ group_end l e) × (set (set n (place + 3) 1) place v ≡ group_put q l e n)
  group_some h a b c d = (rw (h, ← b, c), rw (h, a, ← b, d))

  -- NPar(2) and what stands behind it
  pub par_some : {next v r : ℕ} {m : List ℕ} → next ≡ behind 64 l e → v ≡ block_bits 6 64 l e → (r ≡ group_end l next) × (m ≡ group_put q l next (set n q v))
      → (r ≡ group_end l (behind 64 l e)) × (m ≡ par_put q l e n)
  par_some b v p = (p.0 ∙ rw b, p.1 ∙ rw (b, v))

  -- they are as many as before
  pub group_size : length (group_put q l e n) ≡ length n
  group_size = go (ended l e)
    where
      go : (t : Bool) → length (pick t n (set (set n (below_at q + 3) 1) (below_at q) (block_bits 6 64 l (behind 64 l e)))) ≡ length n
      go true = refl
      go false = length-set (set n (below_at q + 3) 1) (below_at q) (block_bits 6 64 l (behind 64 l e)) ∙ length-set n (below_at q + 3) 1

pub par_size : (q : ℕ) (l : List ℕ) (e : ℕ) (n : List ℕ) → length (par_put q l e n) ≡ length n
par_size q l e n = group_size q l (behind 64 l e) (set n q (block_bits 6 64 l e)) ∙ length-set n q (block_bits 6 64 l e)

-- ---- the Par(2) blocks of some SPar(1)

-- the first one, and the others
pub put_on : (q : ℕ) (qs l : List ℕ) (at : ℕ) (n : List ℕ) {r : ℕ} {m : List ℕ} → (r ≡ group_end l (behind 64 l at)) × (m ≡ par_put q l at n)
    → pars_put qs l r m ≡ pars_put (q ∷ qs) l at n
unfolding pars_put
put_on q qs l at n p = rw (p.0, p.1)

pub put_end : (l : List ℕ) (at : ℕ) (n : List ℕ) → n ≡ pars_put [] l at n
unfolding pars_put
put_end l at n = refl
