-- To be believed: the non-standard field (V.8 bis 8.5): one or more blocks, each a length of 2 to 63 and that many octets, filling
-- the field.
-- Assumes nothing.
use Rattle.tree.specs.Form.{Form, Fine, Early, Left, BadLength}
use Rattle.std.specs.Prelude.{ℕ, zero, suc, ◌+◌, ◌/◌, Bool, List, ltb, leb, eqb, length, get_or}
use Rattle.octets.specs.Bits.{odd}
use Rattle.octets.specs.Places.{pick}

-- it is present exactly if bit 7 of the first I NPar(1) octet is set
abbrev pub ns_announced : List ℕ → Bool
ns_announced l = odd (get_or l 1 0 / 64)

-- the blocks from place e on, k of them at most: one is due at e
unfoldable pub ns_form : ℕ → List ℕ → ℕ → Form
ns_form zero l e = Early (length l)
ns_form (suc k) l e =
    pick (leb (length l) e) (Early (length l))
    (pick (ltb (get_or l e 0) 2) (BadLength e)
    (pick (ltb 63 (get_or l e 0)) (BadLength e)
    (pick (ltb (length l) (e + 1 + get_or l e 0)) (Early (length l))
    (pick (eqb (e + 1 + get_or l e 0) (length l)) Fine
    (ns_form k l (e + 1 + get_or l e 0))))))

-- what stands behind S, from place e on: NS where it is announced, else nothing
unfoldable pub tail_form : List ℕ → ℕ → Form
tail_form l e = pick (ns_announced l) (ns_form (length l) l e) (pick (eqb e (length l)) Fine (Left e))
