-- To be believed: one block of a parameter tree (V.8 bis 8.2.3): the parameters set in it, and where it ends. l is all octets of a
-- message, and a place is counted in octets from 0. A block has w parameters to an octet, and an octet that is at least m is its
-- last: 7 and 128 at level 1, where bit 8 ends it, 6 and 64 below, where bit 7 does. It also ends with the octets.
-- Assumes nothing.
use Rattle.std.specs.Prelude.{ℕ, zero, suc, ◌+◌, ◌-◌, ◌/◌, ◌%◌, Bool, List, [], ◌∷◌, ◌++◌, ltb, leb, length, get_or, drop}
use Rattle.octets.specs.Places.{pick}

abbrev pub keep : ℕ → ℕ → List ℕ → List ℕ
keep zero x l = l
keep (suc b) x l = x ∷ l

-- the set bits among the w lowest of an octet, lowest first, numbered from p + 1
unfoldable pub set_bits : ℕ → ℕ → ℕ → List ℕ
set_bits zero p d = []
set_bits (suc w) p d = keep (d % 2) (p + 1) (set_bits w (p + 1) (d / 2))

-- the same of the block that the octets begin with
unfoldable pub block_numbers : ℕ → ℕ → ℕ → List ℕ → List ℕ
block_numbers w m p [] = []
block_numbers w m p (o ∷ l) = set_bits w p o ++ pick (ltb o m) (block_numbers w m (p + w) l) []

-- the place behind that block, which begins at i
unfoldable pub block_end : ℕ → ℕ → List ℕ → ℕ
block_end m i [] = i
block_end m i (o ∷ l) = pick (ltb o m) (block_end m (i + 1) l) (i + 1)

-- the block at place e: its set parameters, numbered from p + 1, and the place behind it
abbrev pub numbers : ℕ → ℕ → ℕ → List ℕ → ℕ → List ℕ
numbers w m p l e = block_numbers w m p (drop e l)

abbrev pub behind : ℕ → List ℕ → ℕ → ℕ
behind m l e = block_end m e (drop e l)

-- how many blocks an SPar block at place e announces: the number of ones among its parameter bits
abbrev pub announced : ℕ → ℕ → List ℕ → ℕ → ℕ
announced w m l e = length (numbers w m 0 l e)

-- bit 8 of the octet before place e
abbrev pub ended : List ℕ → ℕ → Bool
ended l e = leb 128 (get_or l (e - 1) 0)
