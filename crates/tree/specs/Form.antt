-- To be believed: whether a field is well-formed, and if not, which rule broke first and at which octet (RULES, Messages;
-- V.8 bis 8.2.3). The places are those of Codes.
-- Assumes nothing.
use Rattle.std.specs.Prelude.{ℕ, zero, suc, ◌+◌, ◌-◌, ◌/◌, Bool, true, false, List, [], ◌∷◌, Option, Some, None, Result, Ok, Err, ltb, drop}
use Rattle.octets.specs.Bits.{odd}
use Rattle.octets.specs.Places.{pick}
use Rattle.tree.specs.Block.{behind, announced, ended}
use Rattle.tree.specs.Codes.{group_behind}
use Rattle.tree.specs.declared.Fault.{Fault}
use Rattle.tree.specs.declared.Fault.TheVariants.{Early as EarlyAt, Wrong as WrongAt, Left as LeftAt, BadLength as BadLengthAt}

-- well-formed, or the first rule that is broken and the place of the octet
pub data Form : Type 0 where
  Fine : Form
  Early : ℕ → Form
  Wrong : ℕ → Form
  Left : ℕ → Form
  BadLength : ℕ → Form

-- how a form is told: where it is fine, with what comes with it
abbrev pub told : {A : Type 0} → Form → A → Result A Fault
told Fine x = Ok x
told (Early i) x = Err (EarlyAt i)
told (Wrong i) x = Err (WrongAt i)
told (Left i) x = Err (LeftAt i)
told (BadLength i) x = Err (BadLengthAt i)

-- the form that is told
abbrev pub form_of : {A : Type 0} → Result A Fault → Form
form_of (Ok x) = Fine
form_of (Err (EarlyAt i)) = Early i
form_of (Err (WrongAt i)) = Wrong i
form_of (Err (LeftAt i)) = Left i
form_of (Err (BadLengthAt i)) = BadLength i

-- what comes with a form, and none where a rule is broken
abbrev pub told_end : {A : Type 0} → Form → A → Option A
told_end Fine x = Some x
told_end (Early i) x = None
told_end (Wrong i) x = None
told_end (Left i) x = None
told_end (BadLength i) x = None

-- the first that reading meets
abbrev pub and_then : Form → Form → Form
and_then Fine x = x
and_then (Early i) x = Early i
and_then (Wrong i) x = Wrong i
and_then (Left i) x = Left i
and_then (BadLength i) x = BadLength i

abbrev pub is_fine : Form → Bool
is_fine Fine = true
is_fine (Early i) = false
is_fine (Wrong i) = false
is_fine (Left i) = false
is_fine (BadLength i) = false

-- a block that begins at i: its last octet has the delimiting bit, and bit 8 stands in no octet before
unfoldable pub block_form : ℕ → ℕ → List ℕ → Form
block_form m i [] = Early i
block_form m i (o ∷ l) = pick (ltb o m) (block_form m (i + 1) l) (pick (odd (o / m)) Fine (Wrong i))

abbrev pub form_at : ℕ → List ℕ → ℕ → Form
form_at m l e = block_form m e (drop e l)

-- in a Par(2) block, bit 8 of the octet before place e: set exactly if no block follows
abbrev pub last_form : Bool → Bool → ℕ → Form
last_form follows true e = pick follows (Wrong (e - 1)) Fine
last_form follows false e = pick follows Fine (Wrong (e - 1))

-- k NPar(3) blocks, from place e on
unfoldable pub subs_form : ℕ → List ℕ → ℕ → Form
subs_form zero l e = last_form false (ended l e) e
subs_form (suc k) l e = and_then (last_form true (ended l e) e) (and_then (form_at 64 l e) (subs_form k l (behind 64 l e)))

-- what stands in a Par(2) block behind its NPar(2), which ends before e
unfoldable pub group_form : List ℕ → ℕ → Form
group_form l e = pick (ended l e) Fine (and_then (form_at 64 l e) (subs_form (announced 6 64 l e) l (behind 64 l e)))

-- k Par(2) blocks, from place e on
unfoldable pub pars_form : ℕ → List ℕ → ℕ → Form
pars_form zero l e = Fine
pars_form (suc k) l e =
    and_then (form_at 64 l e) (and_then (group_form l (behind 64 l e)) (pars_form k l (group_behind l (behind 64 l e))))

-- SPar(1) at place e, and the Par(2) blocks that it announces
unfoldable pub rest_form : List ℕ → ℕ → Form
rest_form l e = and_then (form_at 128 l e) (pars_form (announced 7 128 l e) l (behind 128 l e))

-- the field at a place
unfoldable pub field_form : List ℕ → ℕ → Form
field_form l at = and_then (form_at 128 l at) (rest_form l (behind 128 l at))
