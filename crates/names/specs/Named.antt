-- To be believed: which parameters are named (RULES, Striking), and which of those are standard ones: what the tables
-- print of a code.
-- Assumes nothing.
use Rattle.std.specs.Prelude.{ℕ, zero, suc, ◌-◌, ◌%◌, Bool, true, false, List, [], ◌∷◌, ltb, eqb}
use Rattle.octets.specs.Places.{pick}
use Rattle.tree.specs.Codes.{of_t, of_s, of_f, s_of, t_of, n_of}
use Rattle.names.specs.Tables.{Printed, named, non_standard, reserved, PrintedBlock, npar_blocks, spar_blocks}
use Rattle.names.specs.declared.Keep.{Keep}
use Rattle.names.specs.declared.Keep.TheVariants.{All, Named, Standard}

-- what is printed of the block that stands under a code; where no table is, nothing
unfoldable pub printed_under : ℕ → List PrintedBlock → List Printed
printed_under c [] = []
printed_under c (b ∷ bs) = pick (eqb b.under c) b.printed (printed_under c bs)

-- what is printed of a position, counted from 1; behind the printed ones all are reserved
unfoldable pub printed_at : List Printed → ℕ → Printed
printed_at [] q = reserved
printed_at (p ∷ ps) zero = reserved
printed_at (p ∷ ps) (suc zero) = p
printed_at (p ∷ ps) (suc (suc q)) = printed_at ps (suc q)

abbrev pub npar_printed : ℕ → ℕ → Printed
npar_printed c q = printed_at (printed_under c npar_blocks) q

abbrev pub spar_printed : ℕ → ℕ → Printed
spar_printed c q = printed_at (printed_under c spar_blocks) q

-- what is printed of a code: of an NPar with n, else of an SPar(2) with t, else of an SPar(1)
unfoldable pub printed_of : ℕ → Printed
printed_of c =
    pick (ltb 0 (n_of c)) (npar_printed (c - c % of_t) (n_of c))
    (pick (ltb 0 (t_of c)) (spar_printed (c - c % of_s) (t_of c))
    (spar_printed (c - c % of_f) (s_of c)))

abbrev pub is_named : Printed → Bool
is_named named = true
is_named non_standard = true
is_named reserved = false

abbrev pub is_standard : Printed → Bool
is_standard named = true
is_standard non_standard = false
is_standard reserved = false

-- printed and not reserved; and of these, no non-standard bit
abbrev pub named_code : ℕ → Bool
named_code c = is_named (printed_of c)

abbrev pub standard_code : ℕ → Bool
standard_code c = is_standard (printed_of c)

-- what is kept of a field when it is rewritten: all, the named, or the named and standard
abbrev pub keeps_printed : Keep → Printed → Bool
keeps_printed All p = true
keeps_printed Named p = is_named p
keeps_printed Standard p = is_standard p

abbrev pub keeps : Keep → ℕ → Bool
keeps k c = keeps_printed k (printed_of c)
