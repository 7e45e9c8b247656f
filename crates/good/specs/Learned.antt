-- Inner: the names of an own table, put block by block as the code does it. One law says that they are the positions of its codes.
-- Assumes nothing.
use Rattle.std.specs.Prelude.{ℕ, zero, suc, ◌+◌, ◌-◌, ◌*◌, ◌%◌, ◌^◌, List, [], ◌∷◌, get_or, set}
use Rattle.octets.specs.Places.{pick}
use Rattle.tree.specs.Block.{behind, ended}
use Rattle.good.specs.Goodness.{below_at}

-- the w low bits of k octets from place i on as one number, those of the first octet lowest
unfoldable pub value_from : ℕ → List ℕ → ℕ → ℕ → ℕ
value_from w l i zero = 0
value_from w l i (suc k) = get_or l i 0 % 2 ^ w + value_from w l (i + 1) k * 2 ^ w

-- the positions that are set in the block at place e, as bits; what is above 32 of them is lost
abbrev pub block_value : ℕ → ℕ → List ℕ → ℕ → ℕ
block_value w m l e = value_from w l e (behind m l e - e)

abbrev pub block_bits : ℕ → ℕ → List ℕ → ℕ → ℕ
block_bits w m l e = block_value w m l e % 2 ^ 32

-- what stands in a Par(2) block behind its NPar(2), which ends before e, under the SPar(1) q: nothing, or the first SPar(2) and its NPar(3)
abbrev pub group_put : ℕ → List ℕ → ℕ → List ℕ → List ℕ
group_put q l e n = pick (ended l e) n (set (set n (below_at q + 3) 1) (below_at q) (block_bits 6 64 l (behind 64 l e)))

abbrev pub group_end : List ℕ → ℕ → ℕ
group_end l e = pick (ended l e) e (behind 64 l (behind 64 l e))

-- a Par(2) block
abbrev pub par_put : ℕ → List ℕ → ℕ → List ℕ → List ℕ
par_put q l e n = group_put q l (behind 64 l e) (set n q (block_bits 6 64 l e))

-- those of some SPar(1)
unfoldable pub pars_put : List ℕ → List ℕ → ℕ → List ℕ → List ℕ
pars_put [] l e n = n
pars_put (q ∷ qs) l e n = pars_put qs l (group_end l (behind 64 l e)) (par_put q l e n)
