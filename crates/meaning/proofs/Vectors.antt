-- Worked examples of the rules, computed from the definitions.
-- Assumes nothing.
use mathlib.Core.Bool.{true, false}
use mathlib.Core.Path.{◌≡◌, refl}
use mathlib.Core.List.{[], ◌∷◌}
use Rattle.tree.specs.Block.{set_bits, block_numbers, block_end}
use Rattle.tree.specs.Codes.{code_of, field_base, subs_behind, group_behind}
use Rattle.tree.specs.Fields.{is_in}
use Rattle.message.specs.Nonstandard.{ns_form}
use Rattle.meaning.specs.Meaning.{shaped, all_shaped, ascending_from, has_parent, all_parented}
use Rattle.meaning.specs.Written.{block_from, run, from, positions, marked, subs_written, lower_written, par_written, pars_written, rest_written, written}
use Rattle.meaning.specs.Minimal.{full_at_end, tight, subs_minimal, group_minimal, pars_minimal, field_minimal}
use Rattle.meaning.specs.Writing.{refused, sent, ns_agrees, message_octets, checked_writing, list_writing, write_message}

-- the S field of the listing's example: 80 A1 02 D0 C0
pub listed : written (field_base 2) (code_of 2 1 0 0 ∷ code_of 2 1 0 2 ∷ code_of 2 1 0 11 ∷ code_of 2 6 0 0 ∷ []) ≡ 0x80 ∷ 0xa1 ∷ 0x02 ∷ 0xd0 ∷ 0xc0 ∷ []
unfolding block_from run from positions marked subs_written lower_written par_written pars_written rest_written written
listed = refl

-- that of a newer board: SPar(1) in two octets, SPar(2) with one block
pub newer : written (field_base 2) (code_of 2 1 0 0 ∷ code_of 2 1 0 2 ∷ code_of 2 1 0 11 ∷ code_of 2 6 0 0 ∷ code_of 2 10 0 0 ∷ code_of 2 10 0 1 ∷ code_of 2 10 2 0 ∷ code_of 2 10 2 3 ∷ [])
    ≡ 0x80 ∷ 0x21 ∷ 0x84 ∷ 0x02 ∷ 0xd0 ∷ 0xc0 ∷ 0x41 ∷ 0x42 ∷ 0xc4 ∷ []
unfolding block_from run from positions marked subs_written lower_written par_written pars_written rest_written written
newer = refl

-- the minimal form of 22 80 80 80 81 40 C0 is 22 80 80 80 81 C0
pub nothing_set_lem : write_message 2 2 (code_of 2 1 0 0 ∷ []) [] 64 ≡ sent (0x22 ∷ 0x80 ∷ 0x80 ∷ 0x80 ∷ 0x81 ∷ 0xc0 ∷ [])
unfolding shaped all_shaped ascending_from has_parent all_parented is_in ns_form ns_agrees message_octets checked_writing list_writing write_message block_from run from positions marked subs_written lower_written par_written pars_written rest_written written
nothing_set_lem = refl

pub not_minimal : field_minimal (0x22 ∷ 0x80 ∷ 0x80 ∷ 0x80 ∷ 0x81 ∷ 0x40 ∷ 0xc0 ∷ []) 3 ≡ false
unfolding set_bits block_numbers block_end subs_behind group_behind full_at_end tight subs_minimal group_minimal pars_minimal field_minimal
not_minimal = refl

pub minimal : field_minimal (0x22 ∷ 0x80 ∷ 0x80 ∷ 0x80 ∷ 0x81 ∷ 0xc0 ∷ []) 3 ≡ true
unfolding set_bits block_numbers block_end subs_behind group_behind full_at_end tight subs_minimal group_minimal pars_minimal field_minimal
minimal = refl

-- the parent of 2.1.0.2 is missing; t without s; an ACK with a list
pub no_parent : write_message 2 2 (code_of 2 1 0 2 ∷ []) [] 64 ≡ refused 7
unfolding shaped all_shaped ascending_from has_parent all_parented is_in list_writing write_message
no_parent = refl

pub bad_shape : write_message 2 2 (code_of 2 0 1 0 ∷ []) [] 64 ≡ refused 5
unfolding shaped all_shaped is_in list_writing write_message
bad_shape = refl

pub ack_with_list : write_message 4 2 (code_of 1 0 0 1 ∷ []) [] 64 ≡ refused 8
unfolding shaped all_shaped ascending_from has_parent all_parented is_in checked_writing list_writing write_message
ack_with_list = refl

pub ack : write_message 4 2 [] [] 64 ≡ sent (0x24 ∷ [])
unfolding shaped all_shaped ascending_from has_parent all_parented is_in ns_form ns_agrees message_octets checked_writing list_writing write_message
ack = refl
