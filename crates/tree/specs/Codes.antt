-- To be believed: the codes of a field (RULES, Parameter codes; V.8 bis 8.2.2), in ascending order, and the place behind
-- it. They are defined for any octets; whether these are well-formed is asked elsewhere (Form).
-- Assumes nothing.
use Rattle.std.specs.Prelude.{ℕ, zero, suc, ◌+◌, ◌-◌, ◌*◌, ◌/◌, ◌%◌, List, [], ◌∷◌, ◌++◌, ltb}
use Rattle.octets.specs.Places.{pick}
use Rattle.tree.specs.Block.{numbers, behind, announced, ended}

-- a code is ((f * 512 + s) * 512 + t) * 512 + n
abbrev pub code_of : ℕ → ℕ → ℕ → ℕ → ℕ
code_of f s t n = ((f * 512 + s) * 512 + t) * 512 + n

-- what one more of t, of s and of f counts in it
abbrev pub of_t : ℕ
of_t = 512

abbrev pub of_s : ℕ
of_s = 262144

abbrev pub of_f : ℕ
of_f = 134217728

-- what the codes of field f stand above: f.0.0.0
abbrev pub field_base : ℕ → ℕ
field_base f = f * of_f

-- its parts: f.s.t.n
abbrev pub f_of : ℕ → ℕ
f_of c = c / of_f

abbrev pub s_of : ℕ → ℕ
s_of c = c / of_s % 512

abbrev pub t_of : ℕ → ℕ
t_of c = c / of_t % 512

abbrev pub n_of : ℕ → ℕ
n_of c = c % of_t

-- what it stands under: f.s.t.0 for f.s.t.n, and f.s.0.0 for f.s.t.0
abbrev pub parent_of : ℕ → ℕ
parent_of c = pick (ltb 0 (n_of c)) (c - c % of_t) (c - c % of_s)

-- SPar(2) positions under the code c, and for each the NPar(3) block that follows, from place e on
unfoldable pub sub_codes : ℕ → List ℕ → List ℕ → ℕ → List ℕ
sub_codes c [] l e = []
sub_codes c (t ∷ ts) l e = (c + t * of_t) ∷ numbers 6 64 (c + t * of_t) l e ++ sub_codes c ts l (behind 64 l e)

-- the place behind k blocks below level 1
unfoldable pub subs_behind : ℕ → List ℕ → ℕ → ℕ
subs_behind zero l e = e
subs_behind (suc k) l e = subs_behind k l (behind 64 l e)

-- what stands in a Par(2) block behind its NPar(2), which ends before e: nothing where bit 8 ended the block there
unfoldable pub group_codes : ℕ → List ℕ → ℕ → List ℕ
group_codes c l e = pick (ended l e) [] (sub_codes c (numbers 6 64 0 l e) l (behind 64 l e))

unfoldable pub group_behind : List ℕ → ℕ → ℕ
group_behind l e = pick (ended l e) e (subs_behind (announced 6 64 l e) l (behind 64 l e))

-- SPar(1) positions above b, and for each the Par(2) block that follows, from place e on
unfoldable pub par_codes : ℕ → List ℕ → List ℕ → ℕ → List ℕ
par_codes b [] l e = []
par_codes b (s ∷ ss) l e =
    (b + s * of_s)
    ∷ (numbers 6 64 (b + s * of_s) l e ++ group_codes (b + s * of_s) l (behind 64 l e))
    ++ par_codes b ss l (group_behind l (behind 64 l e))

-- the place behind k Par(2) blocks
unfoldable pub pars_behind : ℕ → List ℕ → ℕ → ℕ
pars_behind zero l e = e
pars_behind (suc k) l e = pars_behind k l (group_behind l (behind 64 l e))

-- SPar(1) at place e, and the Par(2) blocks that it announces
unfoldable pub rest_codes : ℕ → List ℕ → ℕ → List ℕ
rest_codes b l e = par_codes b (numbers 7 128 0 l e) l (behind 128 l e)

unfoldable pub rest_behind : List ℕ → ℕ → ℕ
rest_behind l e = pars_behind (announced 7 128 l e) l (behind 128 l e)

-- the field at a place, its codes above b
unfoldable pub field_codes : ℕ → List ℕ → ℕ → List ℕ
field_codes b l at = numbers 7 128 b l at ++ rest_codes b l (behind 128 l at)

unfoldable pub field_behind : List ℕ → ℕ → ℕ
field_behind l at = rest_behind l (behind 128 l at)
