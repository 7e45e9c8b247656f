-- To be believed: a field that a step sends, as the message reader reads it, and a field that it stores, by its codes.
-- Assumes nothing.
use Rattle.std.specs.Prelude.{ℕ, Bool, true, false, not, List, [], ◌∷◌, ◌++◌, ◌≡◌, length}
use Rattle.tree.specs.Codes.{code_of, field_base, field_codes, field_behind}
use Rattle.tree.specs.Fields.{is_in}
use Rattle.tree.specs.Form.{Fine, field_form}
use Rattle.message.specs.Reader.{message_codes}
use Rattle.octets.specs.Places.{both}
use Rattle.meaning.specs.Minimal.{field_minimal, message_minimal}
use Rattle.names.specs.Named.{named_code}
use Rattle.names.specs.Masks.{only}
use Rattle.choice.specs.Wishes.{Wish, standard_codes, wish_codes}
use Rattle.choice.specs.Choosing.{Far, unheard, heard}
use Rattle.demands.specs.Returning.{Tells}
use Rattle.demands.specs.Given.{Given, standard_heard}

-- ---- messages

-- a position of the first octet of I (V.8 bis Table 5-1), where it is said: 1 is V.8, 2 Short V.8, 4 Transmit ACK(1)
abbrev pub says : ℕ → Bool → List ℕ
says q true = code_of 1 0 0 q ∷ []
says q false = []

-- the message reader accepts the octets and tells this type, revision 2, exactly these parameters and no NS; and they are minimal
pub record IsSent (kind : ℕ) (eight short ack : Bool) (standard os : List ℕ) : Type 0 where
  pub read : Tells os 448 kind 2 (says 1 eight ++ (says 2 short ++ (says 4 ack ++ standard))) []
  pub minimal : message_minimal os ≡ true

-- a CL is type 2, a CLR type 3: our V.8 and Short V.8 settings and the own table
abbrev pub IsCl : Given → List ℕ → Type 0
IsCl g os = IsSent 2 g.settings.v8 g.settings.short_v8 false (standard_codes g.own) os

abbrev pub IsClr : Given → List ℕ → Type 0
IsClr g os = IsSent 3 g.settings.v8 g.settings.short_v8 false (standard_codes g.own) os

-- ---- what the far side says

-- whether its message says a position of the first octet of I
abbrev pub far_says : ℕ → Given → Bool
far_says q g = is_in (code_of 1 0 0 q) (message_codes g.field)

abbrev pub both_short : Given → Bool
both_short g = both g.settings.short_v8 (far_says 2 g)

abbrev pub both_eight : Given → Bool
both_eight g = both g.settings.v8 (far_says 1 g)

-- the named parameters of its list
abbrev pub list_named : Given → List ℕ
list_named g = only named_code (standard_heard g)

-- an MS is type 1, with the wish's parameters, and asks for ACK(1) by the setting. With no far list it says neither V.8 nor Short V.8;
-- after one it says Short V.8 if both sides offer it, else V.8 if both do, else neither
abbrev pub IsMs : Far → Given → Wish → List ℕ → Type 0
IsMs unheard g w os = IsSent 1 false false g.settings.ack (wish_codes w) os
IsMs (heard list) g w os = IsSent 1 (both (not (both_short g)) (both_eight g)) (both_short g) g.settings.ack (wish_codes w) os

-- ---- what is stored

-- a standard field in minimal form that has exactly these codes and fills its octets
pub record IsField (codes os : List ℕ) : Type 0 where
  pub form : field_form os 0 ≡ Fine
  pub whole : field_behind os 0 ≡ length os
  pub minimal : field_minimal os 0 ≡ true
  pub told : field_codes (field_base 2) os 0 ≡ codes
