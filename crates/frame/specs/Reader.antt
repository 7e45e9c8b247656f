-- To be believed: what the frame reader answers, by the rules' numbers, and what it leaves in the output.
-- Assumes nothing.
use Rattle.std.specs.Prelude.{ℕ, ◌-◌, ◌*◌, ◌/◌, ◌%◌, Bool, true, false, not, Result, Ok, Err, List, [], ◌∷◌, ◌≡◌, ltb, length, take, drop}
use Rattle.std.specs.Bool.{beq}
use Rattle.octets.specs.Bits.{bits, packed}
use Rattle.octets.specs.Lay.{put}
use Rattle.fcs.specs.Division.{fcs}
use Rattle.frame.specs.Limits.{most_bits, information_room, fewest_content, most_content}
use Rattle.octets.specs.Places.{both}
use Rattle.frame.specs.Stuffing.{Cutting, uncut, cut_into}
use Rattle.frame.specs.Frame.{framed}
use Rattle.frame.specs.declared.FrameReadRefusal.{FrameReadRefusal}
use Rattle.frame.specs.declared.FrameReadRefusal.TheVariants.{BadLent, BadFlags, SplitOctet, TooShort, TooLong, WrongCheck}

-- a refusal's number, or the information
pub data Reading : Type 0 where
  refused : ℕ → Reading
  information : List ℕ → Reading

abbrev pub refused_if : Bool → ℕ → Reading → Reading
refused_if true k r = refused k
refused_if false k r = r

-- two lists of bits are the same
unfoldable pub same : List Bool → List Bool → Bool
same [] [] = true
same [] (b ∷ bs) = false
same (a ∷ xs) [] = false
same (a ∷ xs) (b ∷ bs) = both (beq a b) (same xs bs)

-- what stands before the last sixteen bits of a content, and those
abbrev pub ahead : List Bool → List Bool
ahead cs = take (length cs - 16) cs

abbrev pub check : List Bool → List Bool
check cs = drop (length cs - 16) cs

-- 3 to 6: the content without its inserted zeros
unfoldable pub checked : List Bool → Reading
checked cs =
    refused_if (ltb 0 (length cs % 8)) 3
    (refused_if (ltb (length cs / 8) fewest_content) 4
    (refused_if (ltb most_content (length cs / 8)) 5
    (refused_if (not (same (check cs) (fcs (ahead cs)))) 6
    (information (packed (ahead cs))))))

-- 2: a frame, and no bit behind it
unfoldable pub alone : Cutting → Reading
alone uncut = refused 2
alone (cut_into cs []) = checked cs
alone (cut_into cs (b ∷ r)) = refused 2

-- 1: the bit count, the run and the output. Bits of the run beyond the count are not looked at
unfoldable pub read_frame : List ℕ → ℕ → ℕ → Reading
read_frame run count room =
    refused_if (ltb most_bits count) 1
    (refused_if (ltb (length run * 8) count) 1
    (refused_if (ltb room information_room) 1
    (alone (framed (take count (bits run))))))

-- a reply: the rules' number, 0 for success, and the number of octets given
pub record Reply : Type 0 where
  pub no : ℕ
  pub count : ℕ

-- each answer's number and value
abbrev pub read_told : Result ℕ FrameReadRefusal → Reply
read_told (Ok n) = record { no = 0; count = n }
read_told (Err BadLent) = record { no = 1; count = 0 }
read_told (Err BadFlags) = record { no = 2; count = 0 }
read_told (Err SplitOctet) = record { no = 3; count = 0 }
read_told (Err TooShort) = record { no = 4; count = 0 }
read_told (Err TooLong) = record { no = 5; count = 0 }
read_told (Err WrongCheck) = record { no = 6; count = 0 }

abbrev pub read_reply : Reading → Reply
read_reply (refused k) = record { no = k; count = 0 }
read_reply (information os) = record { no = 0; count = length os }

-- the output: a refusal writes nothing, success only the information's octets
abbrev pub read_leaves : Reading → List ℕ → List ℕ
read_leaves (refused k) out = out
read_leaves (information os) out = put os out

-- the reply r and the output out₁ are those of the reading x into the output out₀
pub record Reads (x : Reading) (out₀ : List ℕ) (r : Result ℕ FrameReadRefusal) (out₁ : List ℕ) : Type 0 where
  pub reply : read_told r ≡ read_reply x
  pub output : out₁ ≡ read_leaves x out₀
