-- Worked examples of the rules, computed from the definitions.
-- Assumes nothing.
use mathlib.Core.Path.{◌≡◌, refl}
use mathlib.Core.List.{List, [], ◌∷◌, ◌++◌}
use Prim.Native.Nat.{ℕ}
use lib.ListN.{replicate}
use Rattle.tree.specs.Block.{set_bits, block_numbers, block_end}
use Rattle.tree.specs.Codes.{code_of, field_base, sub_codes, subs_behind, group_codes, group_behind, par_codes, pars_behind, rest_codes, rest_behind, field_codes, field_behind}
use Rattle.tree.specs.Form.{block_form, subs_form, group_form, pars_form, rest_form, field_form}
use Rattle.tree.specs.Wide.{low_fits, field_fits, codes_wide}
use Rattle.tree.specs.declared.Field.TheVariants.{Standard}
use Rattle.tree.specs.Form.{Fine, Early, Wrong}

-- code 2.1.0.11
pub code_of_lem : code_of 2 1 0 11 ≡ 268697611
code_of_lem = refl

-- 22 81 80 80 A1 02 D0 C0
abbrev pub listed : List ℕ
listed = 0x22 ∷ 0x81 ∷ 0x80 ∷ 0x80 ∷ 0xa1 ∷ 0x02 ∷ 0xd0 ∷ 0xc0 ∷ []

pub listed_i : field_codes (field_base 1) listed 1 ≡ code_of 1 0 0 1 ∷ []
unfolding set_bits block_numbers block_end sub_codes subs_behind group_codes group_behind par_codes pars_behind rest_codes rest_behind field_codes field_behind
listed_i = refl

pub listed_s : field_codes (field_base 2) listed (field_behind listed 1) ≡ code_of 2 1 0 0 ∷ code_of 2 1 0 2 ∷ code_of 2 1 0 11 ∷ code_of 2 6 0 0 ∷ []
unfolding set_bits block_numbers block_end sub_codes subs_behind group_codes group_behind par_codes pars_behind rest_codes rest_behind field_codes field_behind
listed_s = refl

pub listed_fine : field_form listed 3 ≡ Fine
unfolding set_bits block_numbers block_end subs_behind group_behind block_form subs_form group_form pars_form rest_form field_form
listed_fine = refl

-- 22 80 80 80 81: the Par(2) block is missing. 22 80 80 80 81 80: bit 8 without bit 7
pub missing : field_form (0x22 ∷ 0x80 ∷ 0x80 ∷ 0x80 ∷ 0x81 ∷ []) 3 ≡ Early 5
unfolding set_bits block_numbers block_end subs_behind group_behind block_form subs_form group_form pars_form rest_form field_form
missing = refl

pub bit_eight : field_form (0x22 ∷ 0x80 ∷ 0x80 ∷ 0x80 ∷ 0x81 ∷ 0x80 ∷ []) 3 ≡ Wrong 5
unfolding set_bits block_numbers block_end subs_behind group_behind block_form subs_form group_form pars_form rest_form field_form
bit_eight = refl

-- 22 80 80 80 81 40 C0: an SPar(2) block with nothing set
abbrev pub nothing_set : List ℕ
nothing_set = 0x22 ∷ 0x80 ∷ 0x80 ∷ 0x80 ∷ 0x81 ∷ 0x40 ∷ 0xc0 ∷ []

pub nothing_set_lem : field_codes (field_base 2) nothing_set 3 ≡ code_of 2 1 0 0 ∷ []
unfolding set_bits block_numbers block_end sub_codes subs_behind group_codes group_behind par_codes pars_behind rest_codes rest_behind field_codes field_behind
nothing_set_lem = refl

pub nothing_set_fine : field_form nothing_set 3 ≡ Fine
unfolding set_bits block_numbers block_end subs_behind group_behind block_form subs_form group_form pars_form rest_form field_form
nothing_set_fine = refl

-- the S field of 32 91 80 80 21 84 02 D0 C0 41 42 C4, whose SPar(1) has two octets: 1, 6 and 10, the last with SPar(2) 2
abbrev pub newer : List ℕ
newer = 0x32 ∷ 0x91 ∷ 0x80 ∷ 0x80 ∷ 0x21 ∷ 0x84 ∷ 0x02 ∷ 0xd0 ∷ 0xc0 ∷ 0x41 ∷ 0x42 ∷ 0xc4 ∷ []

pub newer_s : field_codes (field_base 2) newer 3
    ≡ code_of 2 1 0 0 ∷ code_of 2 1 0 2 ∷ code_of 2 1 0 11 ∷ code_of 2 6 0 0 ∷ code_of 2 10 0 0 ∷ code_of 2 10 0 1 ∷ code_of 2 10 2 0 ∷ code_of 2 10 2 3 ∷ []
unfolding set_bits block_numbers block_end sub_codes subs_behind group_codes group_behind par_codes pars_behind rest_codes rest_behind field_codes field_behind
newer_s = refl

pub newer_fine : field_form newer 3 ≡ Fine
unfolding set_bits block_numbers block_end subs_behind group_behind block_form subs_form group_form pars_form rest_form field_form
newer_fine = refl

-- 80 81, 85 times 00 and a last octet: 88 octets. With C1, position 511 of NPar(2) under SPar(1) 1. With C2, position 512, whose number
-- would be that of SPar(2) 1 in 80 81 40 41 C0: so it has no code, and the field none
abbrev pub of_many : ℕ → List ℕ
of_many last = 0x80 ∷ 0x81 ∷ (replicate 85 0 ++ last ∷ [])

pub highest : codes_wide Standard (of_many 0xc1) 0 ≡ code_of 2 1 0 0 ∷ code_of 2 1 0 511 ∷ []
unfolding set_bits block_numbers block_end sub_codes subs_behind group_codes group_behind par_codes pars_behind rest_codes rest_behind field_codes field_behind low_fits field_fits codes_wide
highest = refl

pub too_high : codes_wide Standard (of_many 0xc2) 0 ≡ []
unfolding set_bits block_numbers block_end sub_codes subs_behind group_codes group_behind par_codes pars_behind rest_codes rest_behind field_codes field_behind low_fits field_fits codes_wide
too_high = refl

pub not_that : codes_wide Standard (0x80 ∷ 0x81 ∷ 0x40 ∷ 0x41 ∷ 0xc0 ∷ []) 0 ≡ field_codes (field_base 2) (of_many 0xc2) 0
unfolding set_bits block_numbers block_end sub_codes subs_behind group_codes group_behind par_codes pars_behind rest_codes rest_behind field_codes field_behind low_fits field_fits codes_wide
not_that = refl

pub low_one : codes_wide Standard (0x80 ∷ 0x81 ∷ 0x40 ∷ 0x41 ∷ 0xc0 ∷ []) 0 ≡ code_of 2 1 0 0 ∷ code_of 2 1 1 0 ∷ []
unfolding set_bits block_numbers block_end sub_codes subs_behind group_codes group_behind par_codes pars_behind rest_codes rest_behind field_codes field_behind low_fits field_fits codes_wide
low_one = refl
