-- The table read the other way (RULES, The station): for each thing heard, the phases that act on it and what they do.
-- Assumes nothing.
use mathlib.Core.Path.{◌≡◌, refl}
use mathlib.Core.Bool.{Bool, true, false, cond}
use mathlib.Core.List.{List, [], ◌∷◌}
use Rattle.table.specs.declared.Kind.{Kind}
use Rattle.table.specs.declared.Kind.TheVariants.{AtInitial, AtAskedE, AtAskedD, AtListsE, AtListsD, AtCounter, AtListed, AtTraded, AtPair, AtHalf, AtProposed, AtMode}
use Rattle.table.specs.declared.Heard.{Heard}
use Rattle.table.specs.declared.Heard.TheVariants as heard
use Rattle.table.specs.declared.Signal.TheVariants.{MrE, MrD, CrE, CrD}
use Rattle.table.specs.declared.Start.{Start}
use Rattle.table.specs.declared.Act.{Act}
use Rattle.table.specs.declared.Act.TheVariants.{NoRow, Propose, Take, Judge, Agree, GiveUp, SendNak1}
use Rattle.table.specs.declared.After.TheVariants.{ThenMs, ThenClMs, ThenCl, ThenHalf}
use Rattle.table.specs.declared.Settings.{Settings}
use Rattle.table.specs.Phases.{is_among}
use Rattle.table.specs.Rows.{on_mr_e, on_mr_d, on_cr_d, on_cr_e, start_act, act_of}

-- ---- in some phases, and in all

-- the first act in these phases, the second in every other
abbrev pub within : List Kind → Act → Act → Kind → Act
within phases x y k = cond (is_among k phases) x y

-- what holds of each phase holds of all
pub each : (P : Kind → Type 0) → P AtInitial → P AtAskedE → P AtAskedD → P AtListsE → P AtListsD → P AtCounter → P AtListed → P AtTraded → P AtPair → P AtHalf → P AtProposed → P AtMode → (k : Kind) → P k
each P a b c d e f g h i j l m AtInitial = a
each P a b c d e f g h i j l m AtAskedE = b
each P a b c d e f g h i j l m AtAskedD = c
each P a b c d e f g h i j l m AtListsE = d
each P a b c d e f g h i j l m AtListsD = e
each P a b c d e f g h i j l m AtCounter = f
each P a b c d e f g h i j l m AtListed = g
each P a b c d e f g h i j l m AtTraded = h
each P a b c d e f g h i j l m AtPair = i
each P a b c d e f g h i j l m AtHalf = j
each P a b c d e f g h i j l m AtProposed = l
each P a b c d e f g h i j l m AtMode = m

-- ---- Mode

pub mode_is_deaf : (s : Settings) (a : Bool) (h : Heard) → act_of AtMode s a h ≡ NoRow
mode_is_deaf s a h = refl

-- ---- NAK, what is spoilt, ACK, the answer tone

pub nak_gives_up : (s : Settings) (a : Bool) (k : Kind) → act_of k s a heard.Nak ≡ within (AtInitial ∷ AtMode ∷ []) NoRow GiveUp k
nak_gives_up s a = each _ refl refl refl refl refl refl refl refl refl refl refl refl

pub spoilt_gets_nak1 : (s : Settings) (a : Bool) (k : Kind) → act_of k s a heard.Spoilt ≡ within (AtMode ∷ []) NoRow SendNak1 k
spoilt_gets_nak1 s a = each _ refl refl refl refl refl refl refl refl refl refl refl refl

pub ack1_agrees : (s : Settings) (a : Bool) (k : Kind) → act_of k s a heard.Ack1 ≡ within (AtProposed ∷ []) Agree NoRow k
ack1_agrees s a = each _ refl refl refl refl refl refl refl refl refl refl refl refl

pub ack2_never : (s : Settings) (a : Bool) (k : Kind) → act_of k s a heard.Ack2 ≡ NoRow
ack2_never s a = each _ refl refl refl refl refl refl refl refl refl refl refl refl

pub tone_though_asked : (s : Settings) (k : Kind) → act_of k s true heard.AnswerTone ≡ NoRow
tone_though_asked s = each _ refl refl refl refl refl refl refl refl refl refl refl refl

pub tone_unasked : (s : Settings) (k : Kind) → act_of k s false heard.AnswerTone ≡ within (AtProposed ∷ []) Agree NoRow k
tone_unasked s = each _ refl refl refl refl refl refl refl refl refl refl refl refl

-- ---- MS and lists

pub ms_judged : (s : Settings) (a : Bool) (k : Kind) → act_of k s a heard.Ms ≡ within (AtInitial ∷ AtAskedE ∷ AtAskedD ∷ AtCounter ∷ AtListed ∷ AtHalf ∷ []) Judge NoRow k
ms_judged s a = each _ refl refl refl refl refl refl refl refl refl refl refl refl

pub cl_taken : (s : Settings) (a : Bool) (k : Kind) → act_of k s a heard.Cl ≡ within (AtInitial ∷ AtListsE ∷ AtListsD ∷ AtTraded ∷ []) (Take ThenMs) (within (AtPair ∷ []) (Take ThenHalf) NoRow k) k
cl_taken s a = each _ refl refl refl refl refl refl refl refl refl refl refl refl

pub clr_taken : (s : Settings) (a : Bool) (k : Kind) → act_of k s a heard.Clr ≡ within (AtInitial ∷ []) (Take ThenCl) (within (AtListsE ∷ AtListsD ∷ []) (Take ThenClMs) NoRow k) k
clr_taken s a = each _ refl refl refl refl refl refl refl refl refl refl refl refl

-- ---- MR and CR

pub mr_e_answered : (s : Settings) (a : Bool) (k : Kind) → act_of k s a (heard.Signal MrE) ≡ within (AtInitial ∷ []) (on_mr_e s.on_mr_e) NoRow k
mr_e_answered s a = each _ refl refl refl refl refl refl refl refl refl refl refl refl

pub mr_d_answered : (s : Settings) (a : Bool) (k : Kind) → act_of k s a (heard.Signal MrD) ≡ within (AtInitial ∷ []) Propose (within (AtAskedE ∷ []) (on_mr_d s.on_mr_d) NoRow k) k
mr_d_answered s a = each _ refl refl refl refl refl refl refl refl refl refl refl refl

pub cr_e_answered : (s : Settings) (a : Bool) (k : Kind) → act_of k s a (heard.Signal CrE) ≡ within (AtInitial ∷ []) (on_cr_e s.on_cr_e s.on_cr_d) NoRow k
cr_e_answered s a = each _ refl refl refl refl refl refl refl refl refl refl refl refl

pub cr_d_answered : (s : Settings) (a : Bool) (k : Kind) → act_of k s a (heard.Signal CrD) ≡ within (AtInitial ∷ AtAskedE ∷ AtListsE ∷ AtCounter ∷ []) (on_cr_d s.on_cr_d) NoRow k
cr_d_answered s a = each _ refl refl refl refl refl refl refl refl refl refl refl refl

-- ---- starts

pub start_only_in_initial : (s : Settings) (a : Bool) (x : Start) (k : Kind) → act_of k s a (heard.Start x) ≡ within (AtInitial ∷ []) (start_act x) NoRow k
start_only_in_initial s a x = each _ refl refl refl refl refl refl refl refl refl refl refl refl
