-- To be believed: the flag (V.8 bis 7.2.5), and transparency (7.2.8): zeros put in for sending and taken out in receiving.
-- Assumes nothing.
use Rattle.std.specs.Prelude.{ℕ, zero, suc, Bool, true, false, List, [], ◌∷◌}
use Rattle.std.specs.Bool.{beq}
use Rattle.std.proofs.Math.Option.{Option, none, some}
use Rattle.octets.specs.Places.{both}

-- 01111110
abbrev pub flag : List Bool
flag = false ∷ true ∷ true ∷ true ∷ true ∷ true ∷ true ∷ false ∷ []

-- the second list begins with the first
unfoldable pub starts : List Bool → List Bool → Bool
starts [] bs = true
starts (a ∷ p) [] = false
starts (a ∷ p) (b ∷ bs) = both (beq a b) (starts p bs)

-- sending: a zero after every five ones in a row, at the very end too. k ones may still come before the one that a zero follows
unfoldable pub stuffed : ℕ → List Bool → List Bool
stuffed k [] = []
stuffed k (false ∷ bs) = false ∷ stuffed 4 bs
stuffed zero (true ∷ bs) = true ∷ false ∷ stuffed 4 bs
stuffed (suc k) (true ∷ bs) = true ∷ stuffed k bs

abbrev pub with_first : Bool → Option (List Bool) → Option (List Bool)
with_first b none = none
with_first b (some bs) = some (b ∷ bs)

-- receiving: the zero after every five ones is taken out. k ones may still come; after five only the zero may.
-- There is no answer where a sixth one stands, or where five ones end the bits without their zero
unfoldable pub unstuffed : ℕ → List Bool → Option (List Bool)
unstuffed zero [] = none
unstuffed (suc k) [] = some []
unstuffed zero (true ∷ bs) = none
unstuffed zero (false ∷ bs) = unstuffed 5 bs
unstuffed (suc k) (true ∷ bs) = with_first true (unstuffed k bs)
unstuffed (suc k) (false ∷ bs) = with_first false (unstuffed 5 bs)

-- bits taken from the front of some, and those that follow; or nothing of the kind
pub data Cutting : Type 0 where
  uncut : Cutting
  cut_into : List Bool → List Bool → Cutting

abbrev pub with_front : Bool → Cutting → Cutting
with_front b uncut = uncut
with_front b (cut_into bs r) = cut_into (b ∷ bs) r

-- the bits before the first flag, and those from it on. The first argument says whether a flag begins here
unfoldable pub cut_here : Bool → List Bool → Cutting
cut_here f [] = uncut
cut_here true (b ∷ bs) = cut_into [] (b ∷ bs)
cut_here false (b ∷ bs) = with_front b (cut_here (starts flag bs) bs)

abbrev pub cut : List Bool → Cutting
cut bs = cut_here (starts flag bs) bs

abbrev pub with_rest : Option (List Bool) → List Bool → Cutting
with_rest none r = uncut
with_rest (some cs) r = cut_into cs r

abbrev pub unstuffed_part : ℕ → Cutting → Cutting
unstuffed_part k uncut = uncut
unstuffed_part k (cut_into body r) = with_rest (unstuffed k body) r

-- the content without its inserted zeros, and the bits from the closing flag on. The content ends at the first flag
unfoldable pub content_from : ℕ → List Bool → Cutting
content_from k bs = unstuffed_part k (cut bs)
