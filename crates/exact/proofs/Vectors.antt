-- Worked examples, computed from the definitions.
-- Assumes nothing.
use mathlib.Core.Path.{◌≡◌, refl}
use mathlib.Core.List.{List, [], ◌∷◌}
use Prim.Native.Nat.{ℕ}
use lib.ListN.{length}
use Rattle.octets.specs.Bits.{bits, number, pack, packed}
use Rattle.fcs.specs.Division.{plus_all, rest, fcs}
use Rattle.frame.specs.Stuffing.{starts, stuffed, unstuffed, cut_here, content_from}
use Rattle.frame.specs.Frame.{flags, content, frame, flags_at, framed}
use Rattle.frame.specs.Reader.{same, checked, alone, read_frame, information}

-- FF FF becomes 19 bits by zero insertion alone
pub ff_ff : length (stuffed 4 (bits (0xff ∷ 0xff ∷ []))) ≡ 19
unfolding stuffed bits
ff_ff = refl

-- a CL with empty lists
abbrev pub empty_lists : List ℕ
empty_lists = 0x22 ∷ 0x80 ∷ 0x80 ∷ 0x80 ∷ 0x80 ∷ []

-- it is framed and read back
pub there_and_back : read_frame (packed (frame empty_lists 2 1)) (length (frame empty_lists 2 1)) 64 ≡ information empty_lists
unfolding read_frame packed pack number bits frame content flags stuffed fcs rest plus_all framed flags_at starts content_from cut_here unstuffed alone checked same
there_and_back = refl
