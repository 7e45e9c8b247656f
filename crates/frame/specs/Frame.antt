-- To be believed: a whole frame (V.8 bis 7.2.3), as it is sent, and as it is found at the front of some bits.
-- Assumes nothing.
use Rattle.std.specs.Prelude.{ℕ, zero, suc, ◌+◌, ◌*◌, Bool, true, false, List, [], ◌++◌, leb, drop}
use Rattle.octets.specs.Bits.{bits}
use Rattle.octets.specs.Places.{pick, both}
use Rattle.fcs.specs.Division.{fcs}
use Rattle.frame.specs.Limits.{fewest_opening, most_opening, most_closing}
use Rattle.frame.specs.Stuffing.{flag, starts, stuffed, Cutting, uncut, cut_into, content_from}

-- k flags, none sharing a zero with the next
unfoldable pub flags : ℕ → List Bool
flags zero = []
flags (suc k) = flag ++ flags k

-- the information's bits, and behind them the FCS, its highest coefficient first (Figure 3)
unfoldable pub content : List ℕ → List Bool
content info = bits info ++ fcs (bits info)

-- a frame: opening flags, the content with zeros put in, closing flags
unfoldable pub frame : List ℕ → ℕ → ℕ → List Bool
frame info opening closing = flags opening ++ (stuffed 4 (content info) ++ flags closing)

abbrev pub one_more : Bool → ℕ → ℕ
one_more true k = k + 1
one_more false k = 0

-- how many flags the bits begin with, counted up to m
unfoldable pub flags_at : ℕ → List Bool → ℕ
flags_at zero bs = 0
flags_at (suc m) bs = one_more (starts flag bs) (flags_at m (drop 8 bs))

-- behind the content: up to three closing flags, of which the first ended it
abbrev pub closed : Cutting → Cutting
closed uncut = uncut
closed (cut_into cs r) = cut_into cs (drop (flags_at most_closing r * 8) r)

-- behind the opening flags, all flags at the start: two to five of them
abbrev pub opened : ℕ → List Bool → Cutting
opened k bs = pick (both (leb fewest_opening k) (leb k most_opening)) (closed (content_from 5 (drop (k * 8) bs))) uncut

-- the frame that the bits begin with: its content without inserted zeros, and the bits behind its closing flags
unfoldable pub framed : List Bool → Cutting
framed bs = opened (flags_at (suc most_opening) bs) bs
