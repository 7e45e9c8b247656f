-- The bench positions of the rules that speak of striking, and others beside them: one list, computed from the definitions.
-- Assumes nothing.
use Prim.Native.Nat.{ℕ}
use mathlib.Core.List.{List, [], ◌∷◌}
use mathlib.Core.Path.{◌≡◌, refl}
use Rattle.tree.specs.Block.{set_bits, block_numbers, block_end}
use Rattle.tree.specs.Codes.{sub_codes, subs_behind, group_codes, group_behind, par_codes, pars_behind, rest_codes, rest_behind, field_codes, field_behind}
use Rattle.tree.specs.Form.{block_form, subs_form, group_form, pars_form, rest_form, field_form}
use Rattle.tree.specs.Fields.{is_in}
use Rattle.message.specs.Nonstandard.{ns_form, tail_form}
use Rattle.message.specs.Reader.{message_form, read_message}
use Rattle.meaning.specs.Written.{block_from, run, from, positions, marked, subs_written, lower_written, par_written, pars_written, rest_written, written}
use Rattle.meaning.specs.Writing.{Writing, refused, sent, message_octets}
use Rattle.names.specs.Named.{printed_under, printed_at, printed_of}
use Rattle.names.specs.Masks.{only}
use Rattle.strike.specs.Striking.{struck_codes, struck_form, strike_message}

-- a message, struck into 64 octets
abbrev striking : List ℕ → Writing
striking l = strike_message l 64

-- what it strikes to
abbrev StrikesTo : List ℕ → List ℕ → Type 0
StrikesTo l os = striking l ≡ sent os

pub record Bench : Type 0 where
  -- a CL with 1.0.0.5, and with 2.10.0.0 and what is below it
  pub newer : StrikesTo (0x32 ∷ 0x91 ∷ 0x80 ∷ 0x80 ∷ 0x21 ∷ 0x84 ∷ 0x02 ∷ 0xd0 ∷ 0xc0 ∷ 0x41 ∷ 0x42 ∷ 0xc4 ∷ []) (0x32 ∷ 0x81 ∷ 0x80 ∷ 0x80 ∷ 0xa1 ∷ 0x02 ∷ 0xd0 ∷ 0xc0 ∷ [])
  -- nothing to strike, but an SPar(2) with nothing set
  pub nothing_set_lem : StrikesTo (0x22 ∷ 0x80 ∷ 0x80 ∷ 0x80 ∷ 0x81 ∷ 0x40 ∷ 0xc0 ∷ []) (0x22 ∷ 0x80 ∷ 0x80 ∷ 0x80 ∷ 0x81 ∷ 0xc0 ∷ [])
  -- the first as an MS: I is struck and S is not
  pub ms : StrikesTo (0x31 ∷ 0x91 ∷ 0x80 ∷ 0x80 ∷ 0x21 ∷ 0x84 ∷ 0x02 ∷ 0xd0 ∷ 0xc0 ∷ 0x41 ∷ 0x42 ∷ 0xc4 ∷ []) (0x31 ∷ 0x81 ∷ 0x80 ∷ 0x80 ∷ 0x21 ∷ 0x84 ∷ 0x02 ∷ 0xd0 ∷ 0xc0 ∷ 0x41 ∷ 0x42 ∷ 0xc4 ∷ [])
  -- a CLR with NS, which stays
  pub ns : StrikesTo (0x23 ∷ 0xd1 ∷ 0x80 ∷ 0x80 ∷ 0x80 ∷ 0x02 ∷ 0x41 ∷ 0x42 ∷ []) (0x23 ∷ 0xc1 ∷ 0x80 ∷ 0x80 ∷ 0x80 ∷ 0x02 ∷ 0x41 ∷ 0x42 ∷ [])
  -- the unnamed 1.2.0.0 and 2.1.2.0, each with blocks of its own, stand before named blocks
  pub passed_over : StrikesTo (0x22 ∷ 0x80 ∷ 0x82 ∷ 0x41 ∷ 0x44 ∷ 0xc3 ∷ 0x80 ∷ 0xa1 ∷ 0x02 ∷ 0x50 ∷ 0x42 ∷ 0xc1 ∷ 0xc1 ∷ []) (0x22 ∷ 0x80 ∷ 0x80 ∷ 0x80 ∷ 0xa1 ∷ 0x02 ∷ 0xd0 ∷ 0xc1 ∷ [])
  -- of two SPar(2) the second is unnamed: bit 8 moves to the first one's block
  pub second_goes : StrikesTo (0x22 ∷ 0x80 ∷ 0x80 ∷ 0x80 ∷ 0x84 ∷ 0x41 ∷ 0x43 ∷ 0x41 ∷ 0xc1 ∷ []) (0x22 ∷ 0x80 ∷ 0x80 ∷ 0x80 ∷ 0x84 ∷ 0x41 ∷ 0x41 ∷ 0xc1 ∷ [])
  -- ACK(1)
  pub ack : StrikesTo (0x24 ∷ []) (0x24 ∷ [])
  -- the refusals in their order
  pub small_output : strike_message [] 63 ≡ refused 1
  pub no_octet : striking [] ≡ refused 2
  pub unknown : striking (0x2d ∷ []) ≡ refused 3
  pub missing : striking (0x22 ∷ 0x80 ∷ 0x80 ∷ 0x80 ∷ 0x81 ∷ []) ≡ refused 4

pub bench : Bench
unfolding set_bits block_numbers block_end sub_codes subs_behind group_codes group_behind par_codes pars_behind rest_codes rest_behind field_codes field_behind block_form subs_form group_form pars_form rest_form field_form is_in ns_form tail_form message_form read_message block_from run from positions marked subs_written lower_written par_written pars_written rest_written written message_octets printed_under printed_at printed_of only struck_codes struck_form strike_message
bench =
    record {
      newer = refl;
      nothing_set_lem = refl;
      ms = refl;
      ns = refl;
      passed_over = refl;
      second_goes = refl;
      ack = refl;
      small_output = refl;
      no_octet = refl;
      unknown = refl;
      missing = refl;
    }
