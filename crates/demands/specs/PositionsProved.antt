-- To be believed: the bench positions that are proved: one list, in the order and words of the rules, under one proof. Each is said over
-- the definitions that the contracts cite.
-- Assumes nothing.
use Rattle.std.specs.Prelude.{true, false, [], ◌∷◌, ◌≡◌, length}
use Rattle.octets.specs.Bits.{bits}
use Rattle.frame.specs.Stuffing.{stuffed}
use Rattle.tree.specs.Codes.{code_of}
use Rattle.message.specs.Kinds.{type_of, revision_of}
use Rattle.message.specs.Reader.{message_codes, ns_of, refused, accepted, read_message}
use Rattle.meaning.specs.Writing.{sent, write_message}
use Rattle.strike.specs.Striking.{strike_message}
use Rattle.table.specs.declared.OnCrD.TheVariants as on-cr-d
use Rattle.table.specs.declared.OnCrE.TheVariants as on-cr-e
use Rattle.table.specs.declared.OnMrD.TheVariants as on-mr-d
use Rattle.table.specs.declared.OnMrE.TheVariants as on-mr-e
use Rattle.table.specs.declared.Phase.TheVariants.{Initial, AskedD, ListsD, Proposed}
use Rattle.table.specs.declared.Settings.{Settings}
use Rattle.station.specs.Acting.{sends}
use Rattle.station.specs.Stepping.{step_of}
use Rattle.station.specs.declared.Event.TheVariants.{Field}

-- V.8 is offered, and ACK(1) asked
abbrev pub settings : Settings
settings = record { v8 = true; short_v8 = false; ack = true; on_mr_e = on-mr-e.Ms; on_cr_d = on-cr-d.Cl; on_cr_e = on-cr-e.AsOnCrD; on_mr_d = on-mr-d.Ms }

pub record PositionsProved : Type 0 where
  -- 22 80 80 80 80: CL, empty lists.
  pub empty_lists_lem : (read_message (0x22 ∷ 0x80 ∷ 0x80 ∷ 0x80 ∷ 0x80 ∷ []) 448 ≡ accepted)
      × (type_of (0x22 ∷ 0x80 ∷ 0x80 ∷ 0x80 ∷ 0x80 ∷ []) ≡ 2)
      × (message_codes (0x22 ∷ 0x80 ∷ 0x80 ∷ 0x80 ∷ 0x80 ∷ []) ≡ [])
  -- One octet 00 more: 4.
  pub one_more : read_message (0x22 ∷ 0x80 ∷ 0x80 ∷ 0x80 ∷ 0x80 ∷ 0x00 ∷ []) 448 ≡ refused 4
  -- 22 80 80 80 81: 4.
  pub missing : read_message (0x22 ∷ 0x80 ∷ 0x80 ∷ 0x80 ∷ 0x81 ∷ []) 448 ≡ refused 4
  -- 22 80 80 80 81 80: 4.
  pub bit_eight : read_message (0x22 ∷ 0x80 ∷ 0x80 ∷ 0x80 ∷ 0x81 ∷ 0x80 ∷ []) 448 ≡ refused 4
  -- 22 80 80 80 81 40 C0: s=1.0.0,
  pub nothing_set_lem : (read_message (0x22 ∷ 0x80 ∷ 0x80 ∷ 0x80 ∷ 0x81 ∷ 0x40 ∷ 0xc0 ∷ []) 448 ≡ accepted)
      × (message_codes (0x22 ∷ 0x80 ∷ 0x80 ∷ 0x80 ∷ 0x81 ∷ 0x40 ∷ 0xc0 ∷ []) ≡ code_of 2 1 0 0 ∷ [])
  -- minimal 22 80 80 80 81 C0. (What the writer makes of what was read.)
  pub minimal : write_message (type_of (0x22 ∷ 0x80 ∷ 0x80 ∷ 0x80 ∷ 0x81 ∷ 0x40 ∷ 0xc0 ∷ [])) (revision_of (0x22 ∷ 0x80 ∷ 0x80 ∷ 0x80 ∷ 0x81 ∷ 0x40 ∷ 0xc0 ∷ [])) (message_codes (0x22 ∷ 0x80 ∷ 0x80 ∷ 0x80 ∷ 0x81 ∷ 0x40 ∷ 0xc0 ∷ [])) (ns_of (0x22 ∷ 0x80 ∷ 0x80 ∷ 0x80 ∷ 0x81 ∷ 0x40 ∷ 0xc0 ∷ [])) 64 ≡ sent (0x22 ∷ 0x80 ∷ 0x80 ∷ 0x80 ∷ 0x81 ∷ 0xc0 ∷ [])
  -- 32 91 80 80 21 84 02 D0 C0 41 42 C4 strikes to 32 81 80 80 A1 02 D0 C0.
  pub strikes : strike_message (0x32 ∷ 0x91 ∷ 0x80 ∷ 0x80 ∷ 0x21 ∷ 0x84 ∷ 0x02 ∷ 0xd0 ∷ 0xc0 ∷ 0x41 ∷ 0x42 ∷ 0xc4 ∷ []) 64
      ≡ sent (0x32 ∷ 0x81 ∷ 0x80 ∷ 0x80 ∷ 0xa1 ∷ 0x02 ∷ 0xd0 ∷ 0xc0 ∷ [])
  -- Code 2.1.0.11 is 268697611.
  pub code : code_of 2 1 0 11 ≡ 268697611
  -- 24 is ACK(1) of revision 2;
  pub ack : (read_message (0x24 ∷ []) 448 ≡ accepted) × (type_of (0x24 ∷ []) ≡ 4) × (revision_of (0x24 ∷ []) ≡ 2)
  -- 2D is refused with 3.
  pub unknown : read_message (0x2d ∷ []) 448 ≡ refused 3
  -- FF FF becomes 19 bits.
  pub nineteen : length (stuffed 4 (bits (0xff ∷ 0xff ∷ []))) ≡ 19
  -- Wish 80 81 02 D0, V.8 on both sides, ACK asked: MS is 21 89 80 80 81 02 D0. (Sent when the CL of the listing example, which
  -- offers V.8, is heard after CRd.)
  pub proposed : step_of (ListsD 0) settings (0x80 ∷ 0x81 ∷ 0x02 ∷ 0xd0 ∷ []) (0x01 ∷ 0x04 ∷ 0x80 ∷ 0x81 ∷ 0x02 ∷ 0xd0 ∷ []) Field (0x22 ∷ 0x81 ∷ 0x80 ∷ 0x80 ∷ 0xa1 ∷ 0x02 ∷ 0xd0 ∷ 0xc0 ∷ []) 20 128 64
      ≡ sends (0x21 ∷ 0x89 ∷ 0x80 ∷ 0x80 ∷ 0x81 ∷ 0x02 ∷ 0xd0 ∷ []) [] (0x80 ∷ 0xa1 ∷ 0x02 ∷ 0xd0 ∷ 0xc0 ∷ []) (Proposed 20 1 true)
  -- 21 80 80 80 81 02 D8 to that wish: NAK(3), 2A. (Heard after MRd; nothing is stored.)
  pub mode_refused : step_of (AskedD 0) settings (0x80 ∷ 0x81 ∷ 0x02 ∷ 0xd0 ∷ []) (0x01 ∷ 0x04 ∷ 0x80 ∷ 0x81 ∷ 0x02 ∷ 0xd0 ∷ []) Field (0x21 ∷ 0x80 ∷ 0x80 ∷ 0x80 ∷ 0x81 ∷ 0x02 ∷ 0xd8 ∷ []) 20 128 64
      ≡ sends (0x2a ∷ []) [] [] (Initial 20)
