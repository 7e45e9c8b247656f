-- To be believed: the tables of parameters as V.8 bis prints them, 5-1 to 5-3 and 6-1 to 6-10: one list for each printed octet,
-- from bit 1 up. A parameter is named if it is printed and not reserved; a non-standard one is named too. Beside each row stands
-- what V.8 bis prints there, without "ITU-T" in front and without remarks in brackets (but for the two V.34 of Table 6-10a); of a
-- reserved one the word "Reserved" alone. tools/names.py reads these rows.
-- Assumes nothing.
use Rattle.std.specs.Prelude.{ℕ, List, [], ◌∷◌, ◌++◌}
use Rattle.tree.specs.Codes.{code_of}

-- what is printed of a parameter
pub data Printed : Type 0 where
  named : Printed
  non_standard : Printed
  reserved : Printed

-- ---- the identification field

-- Table 5-1: NPar(1)
abbrev pub table5_1 : List Printed
table5_1 =
    named ∷  -- V.8
    named ∷  -- Short V.8
    named ∷  -- Additional information available
    named ∷  -- Transmit ACK(1)
    reserved ∷  -- Reserved
    reserved ∷  -- Reserved
    non_standard ∷  -- Non-standard field
    []

-- Table 5-2: SPar(1)
abbrev pub table5_2 : List Printed
table5_2 =
    named ∷  -- Network type
    reserved ∷  -- Reserved
    reserved ∷  -- Reserved
    reserved ∷  -- Reserved
    reserved ∷  -- Reserved
    reserved ∷  -- Reserved
    reserved ∷  -- Reserved
    []

-- Table 5-3: Network type, NPar(2)
abbrev pub table5_3 : List Printed
table5_3 =
    named ∷  -- Cellular access
    named ∷  -- ISDN access
    named ∷  -- Digital PSTN access
    reserved ∷  -- Reserved
    reserved ∷  -- Reserved
    non_standard ∷  -- Non-standard network
    []

-- ---- the standard information field

-- Table 6-1: NPar(1)
abbrev pub table6_1 : List Printed
table6_1 =
    reserved ∷  -- Reserved
    reserved ∷  -- Reserved
    reserved ∷  -- Reserved
    reserved ∷  -- Reserved
    reserved ∷  -- Reserved
    reserved ∷  -- Reserved
    non_standard ∷  -- Non-standard capabilities
    []

-- Table 6-2a: SPar(1), octet 1
abbrev pub table6_2a : List Printed
table6_2a =
    named ∷  -- Data
    named ∷  -- Simultaneous voice and data
    named ∷  -- H.324 multimedia terminal
    named ∷  -- V.18 text telephone
    named ∷  -- T.30 facsimile
    named ∷  -- Analogue telephony
    named ∷  -- T.101 videotex terminal
    []

-- Table 6-2b: SPar(1), octet 2
abbrev pub table6_2b : List Printed
table6_2b =
    named ∷  -- H.324-Multilink
    named ∷  -- Multilink-Additional-Connection
    reserved ∷  -- Reserved
    reserved ∷  -- Reserved
    reserved ∷  -- Reserved
    reserved ∷  -- Reserved
    reserved ∷  -- Reserved
    []

-- Table 6-3a: Data, NPar(2), octet 1
abbrev pub table6_3a : List Printed
table6_3a =
    named ∷  -- Transparent data
    named ∷  -- V.42 error control
    named ∷  -- V.42 bis data compression
    named ∷  -- V.14 async/sync conversion
    named ∷  -- T.120 conferencing
    non_standard ∷  -- Non-standard capabilities
    []

-- Table 6-3b: Data, NPar(2), octet 2
abbrev pub table6_3b : List Printed
table6_3b =
    named ∷  -- T.84 SPIFF
    named ∷  -- T.434 file transfer
    named ∷  -- V.80 synchronous data HDLC
    reserved ∷  -- Reserved
    named ∷  -- V.34
    named ∷  -- V.32 bis
    []

-- Table 6-3c: Data, NPar(2), octet 3
abbrev pub table6_3c : List Printed
table6_3c =
    named ∷  -- V.32
    named ∷  -- V.22 bis
    named ∷  -- V.22
    named ∷  -- V.21
    named ∷  -- V.90 analogue modem
    named ∷  -- V.90 digital modem
    []

-- Table 6-3d: Data, NPar(2), octet 4
abbrev pub table6_3d : List Printed
table6_3d =
    named ∷  -- V.91
    named ∷  -- V.92 analogue modem
    named ∷  -- V.92 digital modem
    reserved ∷  -- Reserved
    reserved ∷  -- Reserved
    reserved ∷  -- Reserved
    []

-- Table 6-4a: Simultaneous voice and data, NPar(2), octet 1
abbrev pub table6_4a : List Printed
table6_4a =
    named ∷  -- V.70
    named ∷  -- V.61
    reserved ∷  -- Reserved
    named ∷  -- V.34
    named ∷  -- V.32 bis
    non_standard ∷  -- Non-standard capabilities
    []

-- Table 6-4b: Simultaneous voice and data, NPar(2), octet 2
abbrev pub table6_4b : List Printed
table6_4b =
    named ∷  -- Transparent data
    named ∷  -- V.42 error control
    named ∷  -- V.42 bis data compression
    named ∷  -- V.14 async/sync conversion
    named ∷  -- T.120 conferencing
    named ∷  -- Synchronous HDLC
    []

-- Table 6-4c: Simultaneous voice and data, NPar(2), octet 3
abbrev pub table6_4c : List Printed
table6_4c =
    named ∷  -- T.84 SPIFF
    named ∷  -- T.434 file transfer
    named ∷  -- V.76 with default Suspend/Resume parameters
    reserved ∷  -- Reserved
    reserved ∷  -- Reserved
    reserved ∷  -- Reserved
    []

-- Table 6-5a: H.324 and H.324-Multilink, NPar(2)
abbrev pub table6_5a : List Printed
table6_5a =
    named ∷  -- Video
    named ∷  -- Audio
    named ∷  -- Encryption
    reserved ∷  -- Reserved
    reserved ∷  -- Reserved
    non_standard ∷  -- Non-standard capabilities
    []

-- Table 6-5b: H.324 and H.324-Multilink, SPar(2)
abbrev pub table6_5b : List Printed
table6_5b =
    named ∷  -- Data
    reserved ∷  -- Reserved
    reserved ∷  -- Reserved
    reserved ∷  -- Reserved
    reserved ∷  -- Reserved
    reserved ∷  -- Reserved
    []

-- Table 6-5c: H.324 and H.324-Multilink, Data, NPar(3), octet 1
abbrev pub table6_5c : List Printed
table6_5c =
    named ∷  -- V.42
    named ∷  -- V.14
    named ∷  -- PPP
    named ∷  -- T.120
    named ∷  -- T.84
    named ∷  -- T.434
    []

-- Table 6-5d: H.324 and H.324-Multilink, Data, NPar(3), octet 2
abbrev pub table6_5d : List Printed
table6_5d =
    named ∷  -- T.140
    reserved ∷  -- Reserved
    reserved ∷  -- Reserved
    reserved ∷  -- Reserved
    reserved ∷  -- Reserved
    reserved ∷  -- Reserved
    []

-- Table 6-6a: Multilink-Additional-Connection, NPar(2), octet 1
abbrev pub table6_6a : List Printed
table6_6a =
    reserved ∷  -- Reserved
    reserved ∷  -- Reserved
    reserved ∷  -- Reserved
    named ∷  -- Call association number present
    named ∷  -- MSB of call association number
    named ∷  -- Call association number
    []

-- Table 6-6b: Multilink-Additional-Connection, NPar(2), octets 2 to 5, each
abbrev pub table6_6b : List Printed
table6_6b =
    named ∷  -- Call association number
    named ∷  -- Call association number
    named ∷  -- Call association number
    named ∷  -- Call association number
    named ∷  -- Call association number
    named ∷  -- Call association number
    []

-- Table 6-7: V.18, NPar(2)
abbrev pub table6_7 : List Printed
table6_7 =
    named ∷  -- V.21
    named ∷  -- V.61
    reserved ∷  -- Reserved
    reserved ∷  -- Reserved
    reserved ∷  -- Reserved
    non_standard ∷  -- Non-standard capabilities
    []

-- Table 6-8: Analogue telephony, NPar(2)
abbrev pub table6_8 : List Printed
table6_8 =
    named ∷  -- Voice
    named ∷  -- Audio recording device
    named ∷  -- Voice bridging device
    reserved ∷  -- Reserved
    reserved ∷  -- Reserved
    non_standard ∷  -- Non-standard capabilities
    []

-- Table 6-9: T.101, NPar(2)
abbrev pub table6_9 : List Printed
table6_9 =
    named ∷  -- Duplex
    named ∷  -- V.29 short train
    named ∷  -- V.27 ter
    reserved ∷  -- Reserved
    reserved ∷  -- Reserved
    non_standard ∷  -- Non-standard capabilities
    []

-- Table 6-10a: T.30, NPar(2), octet 1
abbrev pub table6_10a : List Printed
table6_10a =
    named ∷  -- T.30 procedures
    named ∷  -- V.34 (half duplex)
    named ∷  -- V.34 (duplex)
    named ∷  -- V.61
    named ∷  -- V.70
    non_standard ∷  -- Non-standard capabilities
    []

-- Table 6-10b: T.30, NPar(2), octet 2
abbrev pub table6_10b : List Printed
table6_10b =
    named ∷  -- H.324
    named ∷  -- Extended negotiation method
    named ∷  -- Ms initiated session
    reserved ∷  -- Reserved
    reserved ∷  -- Reserved
    non_standard ∷  -- Non-standard capabilities
    []

-- ---- which table belongs to which block: a block is known by the code that it stands under

pub record PrintedBlock : Type 0 where
  pub under : ℕ
  pub printed : List Printed

abbrev pub printed_block : ℕ → List Printed → PrintedBlock
printed_block c ps = record { under = c; printed = ps }

-- the NPar blocks, of all levels
abbrev pub npar_blocks : List PrintedBlock
npar_blocks =
    printed_block (code_of 1 0 0 0) table5_1
    ∷ printed_block (code_of 1 1 0 0) table5_3
    ∷ printed_block (code_of 2 0 0 0) table6_1
    ∷ printed_block (code_of 2 1 0 0) (table6_3a ++ table6_3b ++ table6_3c ++ table6_3d)
    ∷ printed_block (code_of 2 2 0 0) (table6_4a ++ table6_4b ++ table6_4c)
    ∷ printed_block (code_of 2 3 0 0) table6_5a
    ∷ printed_block (code_of 2 3 1 0) (table6_5c ++ table6_5d)
    ∷ printed_block (code_of 2 4 0 0) table6_7
    ∷ printed_block (code_of 2 5 0 0) (table6_10a ++ table6_10b)
    ∷ printed_block (code_of 2 6 0 0) table6_8
    ∷ printed_block (code_of 2 7 0 0) table6_9
    ∷ printed_block (code_of 2 8 0 0) table6_5a
    ∷ printed_block (code_of 2 8 1 0) (table6_5c ++ table6_5d)
    ∷ printed_block (code_of 2 9 0 0) (table6_6a ++ table6_6b ++ table6_6b ++ table6_6b ++ table6_6b)
    ∷ []

-- the SPar blocks, of both levels
abbrev pub spar_blocks : List PrintedBlock
spar_blocks =
    printed_block (code_of 1 0 0 0) table5_2
    ∷ printed_block (code_of 2 0 0 0) (table6_2a ++ table6_2b)
    ∷ printed_block (code_of 2 3 0 0) table6_5b
    ∷ printed_block (code_of 2 8 0 0) table6_5b
    ∷ []
