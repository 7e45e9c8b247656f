-- To be believed: the steps that propose a mode, what they propose, how an MS that was heard is judged, and what leads to Mode.
-- Assumes nothing.
use Rattle.std.specs.Prelude.{ℕ, ◌+◌, ◌≤◌, true, false, ◌⊎◌, ◌≡◌}
use mathlib.Core.List.{List, [], ◌∷◌, Memᴰ}
use Rattle.choice.specs.Wishes.{Wish, wishes_of, standard_codes}
use Rattle.choice.specs.Choosing.{Far, unheard, heard, suits, First}
use Rattle.choice.specs.Judging.{Fitting}
use Rattle.choice.specs.declared.Pick.{Pick}
use Rattle.table.specs.declared.Phase.{Phase}
use Rattle.table.specs.declared.Phase.TheVariants.{Initial, Proposed, Mode}
use Rattle.table.specs.declared.Heard.{Heard}
use Rattle.table.specs.declared.Act.{Act}
use Rattle.table.specs.declared.Act.TheVariants.{Propose, Take, Judge, Agree}
use Rattle.table.specs.declared.After.TheVariants.{ThenMs, ThenClMs}
use Rattle.station.specs.Acting.{Outcome, sends, stays}
use Rattle.demands.specs.Given.{Given, Passes, act_on, standard_heard}
use Rattle.demands.specs.Sent.{IsCl, IsClr, IsMs, IsField, far_says, list_named}

-- ---- a mode is proposed

-- the wish that is proposed is the first that suits: ready, and common where a list was heard; and its MS
pub record Proposal (far : Far) (g : Given) : Type 0 where
  pub pick : Pick
  pub chosen : First (standard_codes g.own) far g.wishes pick
  pub ms : List ℕ
  pub sent : IsMs far g chosen.wish ms

-- the phase that it leads to
abbrev pub proposed_by : {far : Far} {g : Given} → Proposal far g → Phase
proposed_by {far} {g} x = Proposed g.time x.pick.number g.settings.ack

-- no wish suits
abbrev pub NoneSuits : Far → Given → Type 0
NoneSuits far g = (w : Wish) → Memᴰ w (wishes_of g.wishes) → suits (standard_codes g.own) far w ≡ false

-- the MS of the first wish that suits is sent, and Proposed is next; 11 where none does: nothing is sent, and Initial is next
pub data SendsMs (far : Far) (stored : List ℕ) (g : Given) (o : Outcome) : Type 0 where
  ms_first : (x : Proposal far g) → o ≡ sends x.ms [] stored (proposed_by x) → SendsMs far stored g o
  ms_none : NoneSuits far g → o ≡ stays 11 stored g.time → SendsMs far stored g o

-- the same with a CL before the MS
pub data SendsClMs (far : Far) (stored : List ℕ) (g : Given) (o : Outcome) : Type 0 where
  cl_ms_first : (x : Proposal far g) (cl : List ℕ) → IsCl g cl → o ≡ sends cl x.ms stored (proposed_by x) → SendsClMs far stored g o
  cl_ms_none : NoneSuits far g → o ≡ stays 11 stored g.time → SendsClMs far stored g o

-- the acts of the table that propose, each with the far list that it goes by
pub data Proposing (g : Given) : Act → Far → Type 0 where
  at_once : Proposing g Propose unheard
  on_list : Proposing g (Take ThenMs) (heard (list_named g))
  behind_list : Proposing g (Take ThenClMs) (heard (list_named g))

-- the step is one that proposes
pub record Proposes (p : Phase) (g : Given) : Type 0 where
  pub heard : Heard
  pub far : Far
  pub passes : Passes p g heard
  pub acts : Proposing g (act_on p g heard) far

-- the MS stands alone, or behind a CL
abbrev pub SendsMode : Given → List ℕ → Outcome → Type 0
SendsMode g ms o = ((o.first ≡ ms) × (o.second ≡ [])) ⊎ (IsCl g o.first × (o.second ≡ ms))

-- ---- a field that a step sends

pub data FieldSent (g : Given) (os : List ℕ) : Type 0 where
  nothing : os ≡ [] → FieldSent g os
  -- ACK(1), and NAK(1) to NAK(3)
  ack : os ≡ 0x24 ∷ [] → FieldSent g os
  nak : (k : ℕ) → 1 ≤ k → k ≤ 3 → os ≡ (0x27 + k) ∷ [] → FieldSent g os
  cl : IsCl g os → FieldSent g os
  clr : IsClr g os → FieldSent g os
  -- an MS by the wishes alone, or by the list heard
  ms : (x : Proposal unheard g) → os ≡ x.ms → FieldSent g os
  ms_on_list : (x : Proposal (heard (list_named g)) g) → os ≡ x.ms → FieldSent g os

-- ---- an MS is judged

-- a wish that the mode heard fits
abbrev pub Fits : Given → Type 0
Fits g = Fitting (standard_heard g) (wishes_of g.wishes)

-- it fits a ready wish: its S field is stored, ACK(1) is sent if it asks for that, and Mode is next. It fits only wishes not ready: NAK(2),
-- and Initial. It fits none: NAK(3), and Initial
pub data Judged (g : Given) (o : Outcome) : Type 0 where
  asked : (f : Fits g) → f.wish.ready ≡ true → (stored : List ℕ) → IsField (standard_heard g) stored → far_says 4 g ≡ true
      → o ≡ sends (0x24 ∷ []) [] stored (Mode g.time 0 true) → Judged g o
  unasked : (f : Fits g) → f.wish.ready ≡ true → (stored : List ℕ) → IsField (standard_heard g) stored → far_says 4 g ≡ false
      → o ≡ sends [] [] stored (Mode g.time 0 false) → Judged g o
  unready : Fits g → ((f : Fits g) → f.wish.ready ≡ false) → o ≡ sends (0x29 ∷ []) [] [] (Initial g.time) → Judged g o
  unfit : (Fits g → ⊥) → o ≡ sends (0x2a ∷ []) [] [] (Initial g.time) → Judged g o

-- ---- Mode is reached

-- the step judged an MS, or a proposal was agreed
pub record Reaches (p : Phase) (g : Given) : Type 0 where
  pub heard : Heard
  pub passes : Passes p g heard
  pub acts : (act_on p g heard ≡ Judge) ⊎ (act_on p g heard ≡ Agree)
