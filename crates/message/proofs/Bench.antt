-- The bench positions of the rules that speak of reading a message, and the listing example: one list, computed from the definitions.
-- Assumes nothing.
use Prim.Native.Nat.{ℕ}
use mathlib.Core.Path.{◌≡◌, refl}
use mathlib.Core.List.{List, [], ◌∷◌}
use Rattle.tree.specs.Block.{set_bits, block_numbers, block_end}
use Rattle.tree.specs.Codes.{code_of, sub_codes, subs_behind, group_codes, group_behind, par_codes, pars_behind, rest_codes, rest_behind, field_codes, field_behind}
use Rattle.tree.specs.Form.{block_form, subs_form, group_form, pars_form, rest_form, field_form}
use Rattle.tree.specs.Fields.{is_in}
use Rattle.message.specs.Kinds.{cl, ack1, type_of, revision_of}
use Rattle.message.specs.Nonstandard.{ns_form, tail_form}
use Rattle.message.specs.Reader.{message_form, message_codes, ns_place, ns_size, Reading, refused, accepted, read_message}

-- the octets of a message, read with room for 448 codes
abbrev reading : List ℕ → Reading
reading l = read_message l 448

-- accepted, with this type, this revision and these codes
abbrev Tells : List ℕ → ℕ → ℕ → List ℕ → Type 0
Tells l kind revision codes = (reading l ≡ accepted) × (type_of l ≡ kind) × (revision_of l ≡ revision) × (message_codes l ≡ codes)

-- accepted, with an NS of so many octets from a place on
abbrev HasNs : List ℕ → ℕ → ℕ → Type 0
HasNs l at size = (reading l ≡ accepted) × (ns_place l ≡ at) × (ns_size l ≡ size)

pub record Positions : Type 0 where
  -- CL with empty lists, and with one octet more
  pub empty : Tells (0x22 ∷ 0x80 ∷ 0x80 ∷ 0x80 ∷ 0x80 ∷ []) cl 2 []
  pub left_over : reading (0x22 ∷ 0x80 ∷ 0x80 ∷ 0x80 ∷ 0x80 ∷ 0x00 ∷ []) ≡ refused 4
  -- a Par(2) block that is missing, and one with bit 8 and not bit 7
  pub missing : reading (0x22 ∷ 0x80 ∷ 0x80 ∷ 0x80 ∷ 0x81 ∷ []) ≡ refused 4
  pub bit_eight : reading (0x22 ∷ 0x80 ∷ 0x80 ∷ 0x80 ∷ 0x81 ∷ 0x80 ∷ []) ≡ refused 4
  -- an SPar(2) block with nothing set: code 2.1.0.0
  pub nothing_set_lem : Tells (0x22 ∷ 0x80 ∷ 0x80 ∷ 0x80 ∷ 0x81 ∷ 0x40 ∷ 0xc0 ∷ []) cl 2 (code_of 2 1 0 0 ∷ [])
  -- ACK(1) of revision 2, alone and with an octet behind it, and a type that is not known
  pub ack : Tells (0x24 ∷ []) ack1 2 []
  pub behind_ack : reading (0x24 ∷ 0x00 ∷ []) ≡ refused 4
  pub unknown : reading (0x2d ∷ []) ≡ refused 3
  -- the listing example: 1.0.0.1, then 2.1.0.0, 2.1.0.2, 2.1.0.11 and 2.6.0.0
  pub listed : Tells (0x22 ∷ 0x81 ∷ 0x80 ∷ 0x80 ∷ 0xa1 ∷ 0x02 ∷ 0xd0 ∷ 0xc0 ∷ []) cl 2 (code_of 1 0 0 1 ∷ code_of 2 1 0 0 ∷ code_of 2 1 0 2 ∷ code_of 2 1 0 11 ∷ code_of 2 6 0 0 ∷ [])
  -- the code of V.34 as a number
  pub code : code_of 2 1 0 11 ≡ 268697611
  -- NS: two blocks, none though announced, a length of 1, and octets that end within a block
  pub two_blocks : HasNs (0x22 ∷ 0xc0 ∷ 0x80 ∷ 0x80 ∷ 0x80 ∷ 0x02 ∷ 0x41 ∷ 0x42 ∷ 0x03 ∷ 0x43 ∷ 0x44 ∷ 0x45 ∷ []) 5 7
  pub no_block : reading (0x22 ∷ 0xc0 ∷ 0x80 ∷ 0x80 ∷ 0x80 ∷ []) ≡ refused 4
  pub short_block : reading (0x22 ∷ 0xc0 ∷ 0x80 ∷ 0x80 ∷ 0x80 ∷ 0x01 ∷ 0x41 ∷ []) ≡ refused 4
  pub cut_block : reading (0x22 ∷ 0xc0 ∷ 0x80 ∷ 0x80 ∷ 0x80 ∷ 0x03 ∷ 0x41 ∷ 0x42 ∷ []) ≡ refused 4
  -- the checks in their order: a small list before no octet
  pub small_list : read_message [] 447 ≡ refused 1
  pub no_octet : reading [] ≡ refused 2

pub positions : Positions
unfolding set_bits block_numbers block_end sub_codes subs_behind group_codes group_behind par_codes pars_behind rest_codes rest_behind field_codes field_behind block_form subs_form group_form pars_form rest_form field_form is_in ns_form tail_form message_form message_codes read_message
positions =
    record {
      empty = (refl, refl, refl, refl);
      left_over = refl;
      missing = refl;
      bit_eight = refl;
      nothing_set_lem = (refl, refl, refl, refl);
      ack = (refl, refl, refl, refl);
      behind_ack = refl;
      unknown = refl;
      listed = (refl, refl, refl, refl);
      code = refl;
      two_blocks = (refl, refl, refl);
      no_block = refl;
      short_block = refl;
      cut_block = refl;
      small_list = refl;
      no_octet = refl;
    }
