-- To be believed: a phase, by its name, the time it was entered and what it carries of an MS; its number, and whether it is one of
-- some; and whether a transaction is over in it.
-- Assumes nothing.
use Rattle.std.specs.Prelude.{ℕ, Bool, false, ◌||◌, List, [], ◌∷◌, eqb}
use Rattle.table.specs.declared.Phase.{Phase}
use Rattle.table.specs.declared.Phase.TheVariants.{Initial, AskedE, AskedD, ListsE, ListsD, Counter, Listed, Traded, Pair, Half, Proposed, Mode}
use Rattle.table.specs.declared.Kind.{Kind}
use Rattle.table.specs.declared.Kind.TheVariants.{AtInitial, AtAskedE, AtAskedD, AtListsE, AtListsD, AtCounter, AtListed, AtTraded, AtPair, AtHalf, AtProposed, AtMode}
use Rattle.table.specs.declared.Carried.{Carried}

abbrev pub carried : Kind → ℕ → ℕ → Bool → Carried
carried k t w a = record { kind = k; entry = t; wish = w; ack = a }

-- the name, the time of entry, the number of the wish sent (0 if none), and whether ACK was asked
abbrev pub carried_by : Phase → Carried
carried_by (Initial t) = carried AtInitial t 0 false
carried_by (AskedE t) = carried AtAskedE t 0 false
carried_by (AskedD t) = carried AtAskedD t 0 false
carried_by (ListsE t) = carried AtListsE t 0 false
carried_by (ListsD t) = carried AtListsD t 0 false
carried_by (Counter t) = carried AtCounter t 0 false
carried_by (Listed t) = carried AtListed t 0 false
carried_by (Traded t) = carried AtTraded t 0 false
carried_by (Pair t) = carried AtPair t 0 false
carried_by (Half t) = carried AtHalf t 0 false
carried_by (Proposed t w a) = carried AtProposed t w a
carried_by (Mode t w a) = carried AtMode t w a

abbrev pub kind_of : Phase → Kind
kind_of p = (carried_by p).kind

abbrev pub entry_of : Phase → ℕ
entry_of p = (carried_by p).entry

abbrev pub wish_of : Phase → ℕ
wish_of p = (carried_by p).wish

abbrev pub ack_of : Phase → Bool
ack_of p = (carried_by p).ack

-- a number for each, to compare them
abbrev pub kind_number : Kind → ℕ
kind_number AtInitial = 0
kind_number AtAskedE = 1
kind_number AtAskedD = 2
kind_number AtListsE = 3
kind_number AtListsD = 4
kind_number AtCounter = 5
kind_number AtListed = 6
kind_number AtTraded = 7
kind_number AtPair = 8
kind_number AtHalf = 9
kind_number AtProposed = 10
kind_number AtMode = 11

abbrev pub is_among : Kind → List Kind → Bool
is_among k [] = false
is_among k (x ∷ xs) = eqb (kind_number k) (kind_number x) || is_among k xs

abbrev pub is_mode : Kind → Bool
is_mode k = is_among k (AtMode ∷ [])

-- a transaction is over in these
abbrev pub is_over : Kind → Bool
is_over k = is_among k (AtMode ∷ AtInitial ∷ [])
