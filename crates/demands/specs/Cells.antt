-- To be believed: the station's table, one line for each cell, in literal words: the phase, what comes, what is sent and stored, and the
-- next phase. Held beside the table of the rules it is that table.
-- Assumes nothing.
use Rattle.std.specs.Prelude.{ℕ, ◌≤◌, Bool, true, false, List, [], ◌∷◌, ◌≡◌}
use Rattle.message.specs.Reader.{refused, read_message}
use Rattle.choice.specs.Choosing.{unheard, heard}
use Rattle.table.specs.declared.Phase.{Phase}
use Rattle.table.specs.declared.Phase.TheVariants.{Initial, AskedE, AskedD, ListsE, ListsD, Counter, Listed, Traded, Pair, Half, Proposed, Mode}
use Rattle.table.specs.declared.Kind.{Kind}
use Rattle.table.specs.declared.Kind.TheVariants.{AtInitial, AtAskedE, AtAskedD, AtListsE, AtListsD, AtCounter, AtListed, AtTraded, AtPair, AtHalf, AtProposed}
use Rattle.table.specs.declared.OnMrE.TheVariants as on-mr-e
use Rattle.table.specs.declared.OnCrD.TheVariants as on-cr-d
use Rattle.table.specs.declared.OnCrE.TheVariants as on-cr-e
use Rattle.table.specs.declared.OnMrD.TheVariants as on-mr-d
use Rattle.table.specs.Phases.{kind_of}
use Rattle.table.specs.Phases.{is_among}
use Rattle.station.specs.Acting.{Outcome, quiet, signals, sends}
use Rattle.table.specs.declared.Start.{Start}
use Rattle.table.specs.declared.Start.TheVariants as start
use Rattle.table.specs.declared.Signal.TheVariants.{MrE, MrD, CrE, CrD}
use Rattle.station.specs.declared.Event.{Event}
use Rattle.station.specs.declared.Event.TheVariants as events
use Rattle.demands.specs.Given.{Given, steps, Sound, Due, HearsType, HearsSpoilt}
use Rattle.demands.specs.Sent.{IsCl, IsClr, IsField, list_named}
use Rattle.demands.specs.Proposals.{SendsMs, SendsClMs, Judged}

-- an event comes in a phase, and nothing is refused before the table
abbrev pub Comes : Event → Phase → Given → Type 0
Comes event p g = Due p g × (g.event ≡ event)

-- and so does a message of a type: MS is 1, CL 2, CLR 3, ACK(1) 4, ACK(2) 5, NAK 8 to 11
abbrev pub ComesMessage : ℕ → Phase → Given → Type 0
ComesMessage kind p g = Due p g × HearsType kind g

-- the phase is none of these
abbrev pub NoneOf : List Kind → Phase → Type 0
NoneOf kinds p = is_among (kind_of p) kinds ≡ false

-- a CL, or a CLR, is sent
abbrev pub SendsCl : List ℕ → Phase → Given → Outcome → Type 0
SendsCl stored next g o = (cl : List ℕ) × IsCl g cl × (o ≡ sends cl [] stored next)

abbrev pub SendsClr : Phase → Given → Outcome → Type 0
SendsClr next g o = (clr : List ℕ) × IsClr g clr × (o ≡ sends clr [] [] next)

-- the far list's named parameters are stored in minimal form, and then something is done
abbrev pub Stores : Given → (List ℕ → Type 0) → Type 0
Stores g Then = (stored : List ℕ) × IsField (list_named g) stored × Then stored

-- what follows a list: an MS; a CL and an MS; a CL
abbrev pub MsOnList : Given → Outcome → Type 0
MsOnList g o = Stores g (λ stored. SendsMs (heard (list_named g)) stored g o)

abbrev pub ClMsOnList : Given → Outcome → Type 0
ClMsOnList g o = Stores g (λ stored. SendsClMs (heard (list_named g)) stored g o)

abbrev pub ClOnList : Phase → Given → Outcome → Type 0
ClOnList next g o = Stores g (λ stored. SendsCl stored next g o)

pub record Cells (g : Given) : Type 0 where
  -- Initial. A start sends what it names: MR_e, MR_d, CR_e, CR_d
  pub start_mr_e : (t : ℕ) → Comes (events.Start start.MrE) (Initial t) g → steps (Initial t) g ≡ signals MrE (AskedE g.time)
  pub start_mr_d : (t : ℕ) → Comes (events.Start start.MrD) (Initial t) g → steps (Initial t) g ≡ signals MrD (AskedD g.time)
  pub start_cr_e : (t : ℕ) → Comes (events.Start start.CrE) (Initial t) g → steps (Initial t) g ≡ signals CrE (ListsE g.time)
  pub start_cr_d : (t : ℕ) → Comes (events.Start start.CrD) (Initial t) g → steps (Initial t) g ≡ signals CrD (ListsD g.time)
  -- MS, CL, CLR
  pub start_ms : (t : ℕ) → Comes (events.Start start.Ms) (Initial t) g → SendsMs unheard [] g (steps (Initial t) g)
  pub start_cl : (t : ℕ) → Comes (events.Start start.Cl) (Initial t) g → SendsCl [] (Listed g.time) g (steps (Initial t) g)
  pub start_clr : (t : ℕ) → Comes (events.Start start.Clr) (Initial t) g → SendsClr (Traded g.time) g (steps (Initial t) g)
  -- heard MR_d: MS
  pub initial_mr_d : (t : ℕ) → Comes (events.Signal MrD) (Initial t) g → SendsMs unheard [] g (steps (Initial t) g)
  -- MR_e: by setting MS, MR_d (Counter) or CR_d (Lists-d)
  pub initial_mr_e_ms : (t : ℕ) → Comes (events.Signal MrE) (Initial t) g → g.settings.on_mr_e ≡ on-mr-e.Ms → SendsMs unheard [] g (steps (Initial t) g)
  pub initial_mr_e_mr_d : (t : ℕ) → Comes (events.Signal MrE) (Initial t) g → g.settings.on_mr_e ≡ on-mr-e.MrD → steps (Initial t) g ≡ signals MrD (Counter g.time)
  pub initial_mr_e_cr_d : (t : ℕ) → Comes (events.Signal MrE) (Initial t) g → g.settings.on_mr_e ≡ on-mr-e.CrD → steps (Initial t) g ≡ signals CrD (ListsD g.time)
  -- CR_d: by setting CL (Listed) or CLR (Pair)
  pub initial_cr_d_cl : (t : ℕ) → Comes (events.Signal CrD) (Initial t) g → g.settings.on_cr_d ≡ on-cr-d.Cl → SendsCl [] (Listed g.time) g (steps (Initial t) g)
  pub initial_cr_d_clr : (t : ℕ) → Comes (events.Signal CrD) (Initial t) g → g.settings.on_cr_d ≡ on-cr-d.Clr → SendsClr (Pair g.time) g (steps (Initial t) g)
  -- CR_e: the same or CR_d (Lists-d)
  pub initial_cr_e_cl : (t : ℕ) → Comes (events.Signal CrE) (Initial t) g → g.settings.on_cr_e ≡ on-cr-e.AsOnCrD → g.settings.on_cr_d ≡ on-cr-d.Cl → SendsCl [] (Listed g.time) g (steps (Initial t) g)
  pub initial_cr_e_clr : (t : ℕ) → Comes (events.Signal CrE) (Initial t) g → g.settings.on_cr_e ≡ on-cr-e.AsOnCrD → g.settings.on_cr_d ≡ on-cr-d.Clr → SendsClr (Pair g.time) g (steps (Initial t) g)
  pub initial_cr_e_cr_d : (t : ℕ) → Comes (events.Signal CrE) (Initial t) g → g.settings.on_cr_e ≡ on-cr-e.CrD → steps (Initial t) g ≡ signals CrD (ListsD g.time)
  -- MS: verdict. CL: MS. CLR: CL (Listed)
  pub initial_ms : (t : ℕ) → ComesMessage 1 (Initial t) g → Judged g (steps (Initial t) g)
  pub initial_cl : (t : ℕ) → ComesMessage 2 (Initial t) g → MsOnList g (steps (Initial t) g)
  pub initial_clr : (t : ℕ) → ComesMessage 3 (Initial t) g → ClOnList (Listed g.time) g (steps (Initial t) g)
  -- Asked-e. MS: verdict. MR_d: by setting MS or CR_d (Lists-d). CR_d: CL or CLR (Pair)
  pub asked_e_ms : (t : ℕ) → ComesMessage 1 (AskedE t) g → Judged g (steps (AskedE t) g)
  pub asked_e_mr_d_ms : (t : ℕ) → Comes (events.Signal MrD) (AskedE t) g → g.settings.on_mr_d ≡ on-mr-d.Ms → SendsMs unheard [] g (steps (AskedE t) g)
  pub asked_e_mr_d_cr_d : (t : ℕ) → Comes (events.Signal MrD) (AskedE t) g → g.settings.on_mr_d ≡ on-mr-d.CrD → steps (AskedE t) g ≡ signals CrD (ListsD g.time)
  pub asked_e_cr_d_cl : (t : ℕ) → Comes (events.Signal CrD) (AskedE t) g → g.settings.on_cr_d ≡ on-cr-d.Cl → SendsCl [] (Listed g.time) g (steps (AskedE t) g)
  pub asked_e_cr_d_clr : (t : ℕ) → Comes (events.Signal CrD) (AskedE t) g → g.settings.on_cr_d ≡ on-cr-d.Clr → SendsClr (Pair g.time) g (steps (AskedE t) g)
  -- Asked-d, Listed. MS: verdict
  pub asked_d_ms : (t : ℕ) → ComesMessage 1 (AskedD t) g → Judged g (steps (AskedD t) g)
  pub listed_ms : (t : ℕ) → ComesMessage 1 (Listed t) g → Judged g (steps (Listed t) g)
  -- Lists-e, Lists-d. CL: MS. CLR: CL then MS (Proposed). Lists-e also CR_d: CL or CLR (Pair)
  pub lists_e_cl : (t : ℕ) → ComesMessage 2 (ListsE t) g → MsOnList g (steps (ListsE t) g)
  pub lists_e_clr : (t : ℕ) → ComesMessage 3 (ListsE t) g → ClMsOnList g (steps (ListsE t) g)
  pub lists_e_cr_d_cl : (t : ℕ) → Comes (events.Signal CrD) (ListsE t) g → g.settings.on_cr_d ≡ on-cr-d.Cl → SendsCl [] (Listed g.time) g (steps (ListsE t) g)
  pub lists_e_cr_d_clr : (t : ℕ) → Comes (events.Signal CrD) (ListsE t) g → g.settings.on_cr_d ≡ on-cr-d.Clr → SendsClr (Pair g.time) g (steps (ListsE t) g)
  pub lists_d_cl : (t : ℕ) → ComesMessage 2 (ListsD t) g → MsOnList g (steps (ListsD t) g)
  pub lists_d_clr : (t : ℕ) → ComesMessage 3 (ListsD t) g → ClMsOnList g (steps (ListsD t) g)
  -- Counter. MS: verdict. CR_d: CL or CLR (Pair)
  pub counter_ms : (t : ℕ) → ComesMessage 1 (Counter t) g → Judged g (steps (Counter t) g)
  pub counter_cr_d_cl : (t : ℕ) → Comes (events.Signal CrD) (Counter t) g → g.settings.on_cr_d ≡ on-cr-d.Cl → SendsCl [] (Listed g.time) g (steps (Counter t) g)
  pub counter_cr_d_clr : (t : ℕ) → Comes (events.Signal CrD) (Counter t) g → g.settings.on_cr_d ≡ on-cr-d.Clr → SendsClr (Pair g.time) g (steps (Counter t) g)
  -- Traded. CL: MS. Pair. CL: nothing sent, Half. Half. MS: verdict
  pub traded_cl : (t : ℕ) → ComesMessage 2 (Traded t) g → MsOnList g (steps (Traded t) g)
  pub pair_cl : (t : ℕ) → ComesMessage 2 (Pair t) g → Stores g (λ stored. steps (Pair t) g ≡ sends [] [] stored (Half g.time))
  pub half_ms : (t : ℕ) → ComesMessage 1 (Half t) g → Judged g (steps (Half t) g)
  -- Proposed. ACK(1): Mode. events.AnswerTone tone, if ACK was not asked: Mode
  pub proposed_ack : (t w : ℕ) (a : Bool) → ComesMessage 4 (Proposed t w a) g → steps (Proposed t w a) g ≡ quiet 0 (Mode g.time w a)
  pub proposed_tone : (t w : ℕ) → Comes events.AnswerTone (Proposed t w false) g → steps (Proposed t w false) g ≡ quiet 0 (Mode g.time w false)
  -- Mode: only reset
  pub mode_deaf : (t w : ℕ) (a : Bool) → Sound g → t ≤ g.time → steps (Mode t w a) g ≡ quiet 10 (Mode t w a)
  pub reset : (p : Phase) → g.event ≡ events.Reset → steps p g ≡ quiet 0 (Initial g.time)
  -- any NAK in a phase other than Initial and Mode gives Initial
  pub nak : (p : Phase) (kind : ℕ) → 8 ≤ kind → kind ≤ 11 → ComesMessage kind p g → NoneOf (AtInitial ∷ []) p → steps p g ≡ quiet 0 (Initial g.time)
  -- an invalid frame, or a message refused with 2 or 4, gives NAK(1) and Initial, except in Mode
  pub spoilt : (p : Phase) → Due p g → HearsSpoilt g → steps p g ≡ sends (0x28 ∷ []) [] [] (Initial g.time)
  -- 9: a message of unknown type, which the reader refuses with 3
  pub unknown : (p : Phase) → Comes events.Field p g → read_message g.field 448 ≡ refused 3 → steps p g ≡ quiet 9 p
  -- 10: what stands in no line above
  pub start_elsewhere : (p : Phase) (s : Start) → Comes (events.Start s) p g → NoneOf (AtInitial ∷ []) p → steps p g ≡ quiet 10 p
  pub mr_e_elsewhere : (p : Phase) → Comes (events.Signal MrE) p g → NoneOf (AtInitial ∷ []) p → steps p g ≡ quiet 10 p
  pub mr_d_elsewhere : (p : Phase) → Comes (events.Signal MrD) p g → NoneOf (AtInitial ∷ AtAskedE ∷ []) p → steps p g ≡ quiet 10 p
  pub cr_e_elsewhere : (p : Phase) → Comes (events.Signal CrE) p g → NoneOf (AtInitial ∷ []) p → steps p g ≡ quiet 10 p
  pub cr_d_elsewhere : (p : Phase) → Comes (events.Signal CrD) p g → NoneOf (AtInitial ∷ AtAskedE ∷ AtListsE ∷ AtCounter ∷ []) p → steps p g ≡ quiet 10 p
  pub ms_elsewhere : (p : Phase) → ComesMessage 1 p g → NoneOf (AtInitial ∷ AtAskedE ∷ AtAskedD ∷ AtCounter ∷ AtListed ∷ AtHalf ∷ []) p → steps p g ≡ quiet 10 p
  pub cl_elsewhere : (p : Phase) → ComesMessage 2 p g → NoneOf (AtInitial ∷ AtListsE ∷ AtListsD ∷ AtTraded ∷ AtPair ∷ []) p → steps p g ≡ quiet 10 p
  pub clr_elsewhere : (p : Phase) → ComesMessage 3 p g → NoneOf (AtInitial ∷ AtListsE ∷ AtListsD ∷ []) p → steps p g ≡ quiet 10 p
  pub ack_1_elsewhere : (p : Phase) → ComesMessage 4 p g → NoneOf (AtProposed ∷ []) p → steps p g ≡ quiet 10 p
  pub ack_2 : (p : Phase) → ComesMessage 5 p g → steps p g ≡ quiet 10 p
  pub nak_initial : (t kind : ℕ) → 8 ≤ kind → kind ≤ 11 → ComesMessage kind (Initial t) g → steps (Initial t) g ≡ quiet 10 (Initial t)
  pub tone_elsewhere : (p : Phase) → Comes events.AnswerTone p g → NoneOf (AtProposed ∷ []) p → steps p g ≡ quiet 10 p
  pub tone_though_asked : (t w : ℕ) → Comes events.AnswerTone (Proposed t w true) g → steps (Proposed t w true) g ≡ quiet 10 (Proposed t w true)
