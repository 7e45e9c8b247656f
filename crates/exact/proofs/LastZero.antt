-- The zero behind five ones that end the FCS (7.2.8): a frame has it, and a run without it is refused. Computed from the definitions.
-- Assumes nothing.
use mathlib.Core.Path.{◌≡◌, refl}
use mathlib.Core.Bool.{Bool, true, false}
use mathlib.Core.List.{List, [], ◌∷◌, ◌++◌}
use Prim.Native.Nat.{ℕ}
use lib.ListN.{length}
use Rattle.octets.specs.Bits.{bits, number, pack, packed}
use Rattle.fcs.specs.Division.{plus_all, rest, fcs}
use Rattle.frame.specs.Limits.{information_room}
use Rattle.frame.specs.Stuffing.{flag, starts, stuffed, unstuffed, cut_here, content_from}
use Rattle.frame.specs.Frame.{flags, content, frame, flags_at, framed}
use Rattle.frame.specs.Reader.{alone, read_frame, refused}

-- an information of one octet
abbrev pub lone : List ℕ
lone = 0x88 ∷ []

-- its bits, and its FCS, which ends with five ones
abbrev pub lone_content : List Bool
lone_content =
    false ∷ false ∷ false ∷ true ∷ false ∷ false ∷ false ∷ true
    ∷ false ∷ false ∷ false ∷ true ∷ true ∷ true ∷ false ∷ false ∷ false ∷ false ∷ false ∷ true ∷ true ∷ true ∷ true ∷ true ∷ []

-- its frame: a zero stands behind the five ones, before the closing flag
pub last_zero : frame lone 2 1 ≡ flag ++ (flag ++ (lone_content ++ (false ∷ flag)))
unfolding bits frame content flags stuffed fcs rest plus_all
last_zero = refl

-- the same bits without that zero
abbrev pub zero_left_out : List Bool
zero_left_out = flag ++ (flag ++ (lone_content ++ flag))

-- they are refused
pub left_out_refused : read_frame (packed zero_left_out) (length zero_left_out) information_room ≡ refused 2
unfolding read_frame packed pack number bits framed flags_at starts content_from cut_here unstuffed alone
left_out_refused = refl
