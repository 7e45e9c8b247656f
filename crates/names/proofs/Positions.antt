-- The positions that the rules list, computed from the definition: of each printed block those that are named, and so which of the
-- first 36 are reserved; and of all of them the non-standard ones.
-- Assumes nothing.
use Prim.Native.Nat.{ℕ, zero, suc, ◌+◌, ◌*◌}
use mathlib.Core.Bool.{Bool, true, false, not}
use mathlib.Core.List.{List, [], ◌∷◌, ◌++◌}
use mathlib.Core.Path.{◌≡◌, refl}
use Rattle.octets.specs.Places.{pick}
use Rattle.tree.specs.Codes.{code_of}
use Rattle.tree.proofs.Numbering.{shift}
use Rattle.names.specs.Tables.{PrintedBlock, npar_blocks}
use Rattle.names.specs.Named.{printed_under, printed_at, printed_of, named_code, standard_code}
use Rattle.names.specs.Masks.{only}

-- the positions 1 to n
unfoldable pub one_to : ℕ → List ℕ
one_to zero = []
one_to (suc n) = one_to n ++ suc n ∷ []

-- those of the first 36 whose codes are named: NPar under a code, SPar(2) under a code, SPar(1) of a field
abbrev pub npars_of : ℕ → List ℕ
npars_of c = only (λ q. named_code (c + q)) (one_to 36)

abbrev pub subs_of : ℕ → List ℕ
subs_of c = only (λ t. named_code (c + t * 512)) (one_to 36)

abbrev pub pars_of : ℕ → List ℕ
pars_of f = only (λ s. named_code (code_of f s 0 0)) (one_to 36)

-- ---- SPar: the network type of I; Data to Multilink-Additional-Connection of S, of which 10 is reserved; Data of H.324 and its multilink
pub spars : (pars_of 1 ≡ 1 ∷ []) × (pars_of 2 ≡ one_to 9) × (subs_of (code_of 2 3 0 0) ≡ 1 ∷ []) × (subs_of (code_of 2 8 0 0) ≡ 1 ∷ [])
unfolding one_to only printed_under printed_at printed_of
spars = (refl, refl, refl, refl)

-- ---- NPar

-- I, network type, S
pub level1 : (npars_of (code_of 1 0 0 0) ≡ 1 ∷ 2 ∷ 3 ∷ 4 ∷ 7 ∷ []) × (npars_of (code_of 1 1 0 0) ≡ 1 ∷ 2 ∷ 3 ∷ 6 ∷ []) × (npars_of (code_of 2 0 0 0) ≡ 7 ∷ [])
unfolding one_to only printed_under printed_at printed_of
level1 = (refl, refl, refl)

-- Data: V.42 is 2, V.34 11, V.32 bis 12, V.90 analogue 17, digital 18, V.92 analogue 20, digital 21; 10 and 22 to 24 are reserved
pub data_modes : npars_of (code_of 2 1 0 0) ≡ one_to 9 ++ 11 ∷ 12 ∷ 13 ∷ 14 ∷ 15 ∷ 16 ∷ 17 ∷ 18 ∷ 19 ∷ 20 ∷ 21 ∷ []
unfolding one_to only printed_under printed_at printed_of
data_modes = refl

-- Simultaneous voice and data: 3 and 16 to 18 are reserved
pub voice_and_data : npars_of (code_of 2 2 0 0) ≡ 1 ∷ 2 ∷ 4 ∷ 5 ∷ 6 ∷ 7 ∷ 8 ∷ 9 ∷ 10 ∷ 11 ∷ 12 ∷ 13 ∷ 14 ∷ 15 ∷ []
unfolding one_to only printed_under printed_at printed_of
voice_and_data = refl

-- H.324 and its multilink, and the Data of either
pub multimedia :
    (npars_of (code_of 2 3 0 0) ≡ 1 ∷ 2 ∷ 3 ∷ 6 ∷ []) × (npars_of (code_of 2 8 0 0) ≡ 1 ∷ 2 ∷ 3 ∷ 6 ∷ [])
    × (npars_of (code_of 2 3 1 0) ≡ one_to 7) × (npars_of (code_of 2 8 1 0) ≡ one_to 7)
unfolding one_to only printed_under printed_at printed_of
multimedia = (refl, refl, refl, refl)

-- V.18; analogue telephony; T.101, of which 4 and 5 are reserved
pub terminals : (npars_of (code_of 2 4 0 0) ≡ 1 ∷ 2 ∷ 6 ∷ []) × (npars_of (code_of 2 6 0 0) ≡ 1 ∷ 2 ∷ 3 ∷ 6 ∷ []) × (npars_of (code_of 2 7 0 0) ≡ 1 ∷ 2 ∷ 3 ∷ 6 ∷ [])
unfolding one_to only printed_under printed_at printed_of
terminals = (refl, refl, refl)

-- T.30: 1 to 9 and 12
pub facsimile : npars_of (code_of 2 5 0 0) ≡ one_to 9 ++ 12 ∷ []
unfolding one_to only printed_under printed_at printed_of
facsimile = refl

-- Multilink-Additional-Connection: all of 1 to 30 but 1 to 3
pub additional_connection : 1 ∷ 2 ∷ 3 ∷ npars_of (code_of 2 9 0 0) ≡ one_to 30
unfolding one_to only printed_under printed_at printed_of
additional_connection = refl

-- ---- non-standard: named, and not standard

abbrev pub not_standard : ℕ → Bool
not_standard c = pick (named_code c) (not (standard_code c)) false

-- the NPar codes under the blocks' codes that are so
unfoldable pub non_standards : List PrintedBlock → List ℕ
non_standards [] = []
non_standards (b ∷ bs) = only not_standard (shift b.under (one_to 36)) ++ non_standards bs

-- bit 7 of I and of S, bit 6 of the network type and of the first eight of S, and position 12 of T.30
pub non-standard :
    non_standards npar_blocks
    ≡ code_of 1 0 0 7 ∷ code_of 1 1 0 6 ∷ code_of 2 0 0 7 ∷ code_of 2 1 0 6 ∷ code_of 2 2 0 6 ∷ code_of 2 3 0 6 ∷ code_of 2 4 0 6 ∷ code_of 2 5 0 6 ∷ code_of 2 5 0 12
    ∷ code_of 2 6 0 6 ∷ code_of 2 7 0 6 ∷ code_of 2 8 0 6 ∷ []
unfolding one_to only printed_under printed_at printed_of non_standards
non-standard = refl

-- so position 6 of the Data of H.324 and its multilink, T.434, is standard
pub file_transfer : (standard_code (code_of 2 3 1 6) ≡ true) × (standard_code (code_of 2 8 1 6) ≡ true)
unfolding printed_under printed_at printed_of
file_transfer = (refl, refl)

-- and 2.9.0.0 is named and 2.10.0.0 is not
pub last_of_standard : (named_code (code_of 2 9 0 0) ≡ true) × (named_code (code_of 2 10 0 0) ≡ false)
unfolding printed_under printed_at printed_of
last_of_standard = (refl, refl)
