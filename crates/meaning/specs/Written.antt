-- To be believed: the octets that the writer makes of a field's codes (V.8 bis 8.2.2 and 8.2.3): as many in each block as reach to
-- its last parameter, and SPar(2) only where something in it is set.
-- Assumes nothing.
use Rattle.std.specs.Prelude.{ℕ, zero, suc, ◌+◌, ◌-◌, ◌*◌, ◌/◌, ◌%◌, ◌^◌, List, [], ◌∷◌, ◌++◌, ltb, eqb, length, replicate}
use Rattle.octets.specs.Places.{pick}
use Rattle.tree.specs.Codes.{of_t, of_s}

-- ---- one block of ascending positions, w to an octet; m is the delimiter in its last octet

-- how many octets lie between the one at hand, whose positions stand above p, and the one that holds position q
abbrev pub passed : ℕ → ℕ → ℕ → ℕ
passed w p q = (q - p - 1) / w

-- the octets passed: the one at hand, with what it has, and then octets with nothing set
abbrev pub skipped : ℕ → ℕ → List ℕ
skipped zero a = []
skipped (suc k) a = a ∷ replicate k 0

-- what the octet at hand has behind them
abbrev pub carried : ℕ → ℕ → ℕ
carried zero a = a
carried (suc k) a = 0

unfoldable pub block_from : ℕ → ℕ → ℕ → ℕ → List ℕ → List ℕ
block_from w m p a [] = (a + m) ∷ []
block_from w m p a (q ∷ qs) =
    skipped (passed w p q) a
    ++ block_from w m (p + passed w p q * w) (carried (passed w p q) a + 2 ^ ((q - p - 1) % w)) qs

abbrev pub block_octets : ℕ → ℕ → List ℕ → List ℕ
block_octets w m qs = block_from w m 0 0 qs

-- ---- a field, from its ascending codes

-- the codes below a limit with which a list begins, and the others
unfoldable pub run : ℕ → List ℕ → List ℕ
run lim [] = []
run lim (c ∷ l) = pick (ltb c lim) (c ∷ run lim l) []

unfoldable pub from : ℕ → List ℕ → List ℕ
from lim [] = []
from lim (c ∷ l) = pick (ltb c lim) (from lim l) (c ∷ l)

-- the positions, above b, of those codes that stand a multiple of g above it: 1 for NPar, ofT for SPar(2), ofS for SPar(1)
unfoldable pub positions : ℕ → ℕ → List ℕ → List ℕ
positions g b [] = []
positions g b (c ∷ l) = pick (eqb ((c - b) % g) 0) ((c - b) / g ∷ positions g b l) (positions g b l)

-- the last octet with bit 8 set
unfoldable pub marked : List ℕ → List ℕ
marked [] = []
marked (d ∷ []) = (d % 128 + 128) ∷ []
marked (d ∷ (e ∷ ds)) = d ∷ marked (e ∷ ds)

-- the NPar(3) blocks: a list begins with the code of an SPar(2), then come those under it, then the next SPar(2)
unfoldable pub subs_written : ℕ → List ℕ → List ℕ
subs_written zero l = []
subs_written (suc k) [] = []
subs_written (suc k) (t ∷ l) = block_octets 6 64 (positions 1 t (run (t + of_t) l)) ++ subs_written k (from (t + of_t) l)

-- SPar(2) and what it announces, of the codes under c from the first SPar(2) on
unfoldable pub lower_written : ℕ → List ℕ → List ℕ
lower_written c [] = []
lower_written c (t ∷ l) = block_octets 6 64 (positions of_t c (t ∷ l)) ++ subs_written (length (t ∷ l)) (t ∷ l)

-- the Par(2) block of the codes under c: bit 8 stands in its last octet
unfoldable pub par_written : ℕ → List ℕ → List ℕ
par_written c l = marked (block_octets 6 64 (positions 1 c (run (c + of_t) l)) ++ lower_written c (from (c + of_t) l))

-- the Par(2) blocks: a list begins with the code of an SPar(1), then come those under it, then the next SPar(1)
unfoldable pub pars_written : ℕ → List ℕ → List ℕ
pars_written zero l = []
pars_written (suc k) [] = []
pars_written (suc k) (c ∷ l) = par_written c (run (c + of_s) l) ++ pars_written k (from (c + of_s) l)

-- SPar(1) and what it announces, of the codes above b from the first SPar(1) on
unfoldable pub rest_written : ℕ → List ℕ → List ℕ
rest_written b l = block_octets 7 128 (positions of_s b l) ++ pars_written (length l) l

-- the field of the codes above b
unfoldable pub written : ℕ → List ℕ → List ℕ
written b l = block_octets 7 128 (positions 1 b (run (b + of_t) l)) ++ rest_written b (from (b + of_t) l)
