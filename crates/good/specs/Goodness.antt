-- Inner: a standard field judged block by block where it lies, as the code does it. The positions that its blocks may have are sixteen
-- numbers, the names, with a bit for each position, position 1 the lowest: SPar(1) first, then NPar(2) of each of the nine SPar(1), and
-- NPar(3) and SPar(2) of the two that may have them. One law says that it is what is asked of a good field.
-- Assumes nothing.
use Rattle.std.specs.Prelude.{ℕ, ◌+◌, ◌-◌, ◌*◌, ◌/◌, ◌%◌, ◌^◌, ◌<◌, Bool, true, false, not, List, [], ◌∷◌, ◌≡◌, leb, eqb, length, get_or, Option}
use Rattle.std.specs.Bool.{then_some}
use Rattle.octets.specs.Bits.{odd}
use Rattle.octets.specs.Places.{pick, both}
use Rattle.tree.specs.Block.{numbers, behind, ended}
use Rattle.tree.specs.Codes.{of_t, of_s, field_base, group_behind, pars_behind, field_codes, field_behind}
use Rattle.tree.specs.Form.{is_fine, form_at, field_form}
use Rattle.meaning.specs.Minimal.{tight_at, field_minimal}
use Rattle.good.specs.Good.{most_standard}

-- ---- the names

-- those of SPar(1)
abbrev pub spars_in : List ℕ → ℕ
spars_in n = get_or n 0 0

-- those of the NPar(2) block of an SPar(1), of which there are nine
abbrev pub npars_in : List ℕ → ℕ → ℕ
npars_in n q = pick (leb q 9) (get_or n q 0) 0

-- where those of the NPar(3) block of the first SPar(2) of an SPar(1) are; those of SPar(2) are three behind
abbrev pub below_at : ℕ → ℕ
below_at q = pick (eqb q 3) 10 (pick (eqb q 8) 11 12)

abbrev pub lows_in : List ℕ → ℕ → ℕ
lows_in n q = get_or n (below_at q) 0

abbrev pub subs_in : List ℕ → ℕ → ℕ
subs_in n q = get_or n (below_at q + 3) 0

-- they are sixteen, and under an SPar(1) only the first SPar(2) may be set
abbrev pub Fit : List ℕ → Type 0
Fit n = (length n ≡ 16) × ((q : ℕ) → subs_in n q < 2)

-- they are the positions whose codes, of S, pass a test
pub record Names (P : ℕ → Bool) (n : List ℕ) : Type 0 where
  pub fit : Fit n
  pub top : (k : ℕ) → 0 < k → k < 512 → P (field_base 2 + k) ≡ false
  pub spar : (q : ℕ) → 0 < q → q < 512 → odd (spars_in n / 2 ^ (q - 1)) ≡ P (field_base 2 + q * of_s)
  pub npar : (q k : ℕ) → 0 < q → q < 512 → 0 < k → k < 512 → odd (npars_in n q / 2 ^ (k - 1)) ≡ P (field_base 2 + q * of_s + k)
  pub sub : (q t : ℕ) → 0 < q → q < 512 → 0 < t → t < 512 → odd (subs_in n q / 2 ^ (t - 1)) ≡ P (field_base 2 + q * of_s + t * of_t)
  pub low : (q k : ℕ) → 0 < q → q < 512 → 0 < k → k < 512 → odd (lows_in n q / 2 ^ (k - 1)) ≡ P (field_base 2 + q * of_s + of_t + k)

-- ---- a field

-- all of some positions are bits of a number
unfoldable pub all_named : ℕ → List ℕ → Bool
all_named n [] = true
all_named n (q ∷ qs) = both (odd (n / 2 ^ (q - 1))) (all_named n qs)

-- a block at place e: well-formed, tight, and with such positions only
abbrev pub good_block : ℕ → ℕ → ℕ → List ℕ → ℕ → Bool
good_block w m n l e = both (is_fine (form_at m l e)) (both (tight_at m l e) (all_named n (numbers w m 0 l e)))

-- the only NPar(3) block, at place e: bit 8 stands in its last octet and not before
unfoldable pub good_sub : ℕ → List ℕ → ℕ → Bool
good_sub n l e = both (not (ended l e)) (both (good_block 6 64 n l e) (ended l (behind 64 l e)))

-- what stands in a Par(2) block behind its NPar(2), which ends before e, under the SPar(1) q. The first SPar(2) is the only one that may
-- be set, so something is set in the first octet of the block, and one NPar(3) block follows
unfoldable pub good_group : List ℕ → ℕ → List ℕ → ℕ → Bool
good_group n q l e =
    pick (ended l e) true
    (both (not (eqb (get_or l e 0 % 64) 0))
    (both (good_block 6 64 (subs_in n q) l e) (good_sub (lows_in n q) l (behind 64 l e))))

-- a Par(2) block
unfoldable pub good_par : List ℕ → ℕ → List ℕ → ℕ → Bool
good_par n q l e = both (good_block 6 64 (npars_in n q) l e) (good_group n q l (behind 64 l e))

-- those of some SPar(1)
unfoldable pub good_pars : List ℕ → List ℕ → List ℕ → ℕ → Bool
good_pars n [] l e = true
good_pars n (q ∷ qs) l e = both (good_par n q l e) (good_pars n qs l (group_behind l (behind 64 l e)))

-- SPar(1) at place e and what it announces, and the whole field, in which no NPar(1) may be set
unfoldable pub good_rest : List ℕ → List ℕ → ℕ → Bool
good_rest n l e = both (good_block 7 128 (spars_in n) l e) (good_pars n (numbers 7 128 0 l e) l (behind 128 l e))

unfoldable pub good_blocks : List ℕ → List ℕ → Bool
good_blocks n l = both (good_block 7 128 0 l 0) (good_rest n l (behind 128 l 0))

-- the place behind some Par(2) blocks, or none where they are not good
abbrev pub pars_judged : List ℕ → List ℕ → List ℕ → ℕ → Option ℕ
pars_judged n qs l e = then_some (good_pars n qs l e) (pars_behind (length qs) l e)

-- a field of at most so many octets, and no octet behind it
unfoldable pub good_in : List ℕ → List ℕ → Bool
good_in n t = both (leb (length t) most_standard) (both (good_blocks n t) (eqb (field_behind t 0) (length t)))

-- ---- what that is

-- all of some codes pass a test
unfoldable pub all_pass : (ℕ → Bool) → List ℕ → Bool
all_pass P [] = true
all_pass P (c ∷ cs) = both (P c) (all_pass P cs)

-- what is asked of a good field, with codes that pass a test
unfoldable pub good_by : (ℕ → Bool) → List ℕ → Bool
good_by P t =
    both (leb (length t) most_standard)
    (both (is_fine (field_form t 0))
    (both (eqb (field_behind t 0) (length t))
    (both (field_minimal t 0)
    (all_pass P (field_codes (field_base 2) t 0)))))
