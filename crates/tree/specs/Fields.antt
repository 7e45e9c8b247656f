-- To be believed: the total functions over a field: its codes and its form in a message's octets, of which there are so many at most;
-- numbers as octets; and one list in another.
-- Assumes nothing.
use Rattle.std.specs.Prelude.{ℕ, ◌+◌, ◌/◌, ◌%◌, Bool, true, false, List, [], ◌∷◌, ltb, eqb, length}
use Rattle.octets.specs.Places.{pick}
use Rattle.tree.specs.Codes.{field_base, s_of, field_codes}
use Rattle.tree.specs.Form.{Form, Left, field_form}
use Rattle.tree.specs.declared.Field.{Field}
use Rattle.tree.specs.declared.Field.TheVariants.{Identification, Standard}

-- the octets of the longest message
abbrev pub most_octets : ℕ
most_octets = 64

abbrev pub base_of : Field → ℕ
base_of Identification = field_base 1
base_of Standard = field_base 2

-- the codes of a field; more octets than a message has give none
unfoldable pub codes_in : Field → List ℕ → ℕ → List ℕ
codes_in f l at = pick (ltb most_octets (length l)) [] (field_codes (base_of f) l at)

-- the form of a field; in more octets than a message has, the 65th is left over
unfoldable pub form_in : List ℕ → ℕ → Form
form_in l at = pick (ltb most_octets (length l)) (Left most_octets) (field_form l at)

-- each number as four octets, lowest first
unfoldable pub fours : List ℕ → List ℕ
fours [] = []
fours (c ∷ l) = c % 256 ∷ (c / 256 % 256) ∷ (c / 65536 % 256) ∷ (c / 16777216 % 256) ∷ fours l

-- a number is in a list, and all of one list are in another
unfoldable pub is_in : ℕ → List ℕ → Bool
is_in x [] = false
is_in x (y ∷ l) = pick (eqb y x) true (is_in x l)

unfoldable pub all_in : List ℕ → List ℕ → Bool
all_in [] m = true
all_in (x ∷ l) m = pick (is_in x m) (all_in l m) false

-- a field has position q of the first octet of its NPar(1): positions 1 to 7 are that octet's
unfoldable pub has_first : Field → List ℕ → ℕ → ℕ → Bool
has_first f l at q = pick (ltb 0 q) (pick (ltb q 8) (is_in (base_of f + q) (codes_in f l at)) false) false

-- a list of codes has an SPar(1)
unfoldable pub has_spar : List ℕ → Bool
has_spar [] = false
has_spar (c ∷ l) = pick (ltb 0 (s_of c)) true (has_spar l)
