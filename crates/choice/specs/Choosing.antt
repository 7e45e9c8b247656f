-- To be believed: the choice (RULES, Own table, wishes, choice), which is the first ready wish that is common; with no far list
-- the first ready wish.
-- Assumes nothing.
use Rattle.std.specs.Prelude.{ℕ, ◌+◌, ◌≤◌, Bool, true, false, ◌≡◌, length, take, drop, Option, Some, None}
use mathlib.Core.List.{List, [], ◌∷◌, ◌++◌, Memᴰ}
use Rattle.octets.specs.Places.{pick, both}
use Rattle.tree.specs.Fields.{all_in}
use Rattle.tree.specs.Wide.{codes_wide}
use Rattle.tree.specs.declared.Field.TheVariants.{Standard}
use Rattle.choice.specs.Wishes.{Wish, most_wishes, wishes_of, wish_codes}
use Rattle.choice.specs.declared.Pick.{Pick}

-- what is common: all parameters of a wish are in both the own table's codes and the far list's
abbrev pub common : List ℕ → List ℕ → List ℕ → Bool
common own far wish = both (all_in wish own) (all_in wish far)

-- the far list, by its codes, or that none was heard
pub data Far : Type 0 where
  unheard : Far
  heard : List ℕ → Far

-- whether a wish may be proposed
abbrev pub suits : List ℕ → Far → Wish → Bool
suits own unheard w = w.ready
suits own (heard far) w = both w.ready (common own far (wish_codes w))

-- what is chosen: a wish, by its number and where its field lies; or the rules' refusal
pub data Choosing : Type 0 where
  chosen : Pick → Choosing
  refused : ℕ → Choosing

-- each answer's number and values: 11, where there is no choice
abbrev pub choice_told : Option Pick → Choosing
choice_told (Some p) = chosen p
choice_told None = refused 11

-- the first of the wishes that may be proposed: its number, counted on from n, and where its field lies; the first record is at a place
unfoldable pub first_suiting : List ℕ → Far → List Wish → ℕ → ℕ → Choosing
first_suiting own far [] n at = refused 11
first_suiting own far (w ∷ ws) n at =
    pick (suits own far w)
    (chosen (record { number = n + 1; at = at + 2; length = length w.field }))
    (first_suiting own far ws (n + 1) (at + 2 + length w.field))

-- among the wishes of a run
unfoldable pub choice : List ℕ → Far → List ℕ → Choosing
choice own far run = first_suiting own far (wishes_of run) 0 0

-- the codes of a far list whose standard field begins at a place of its octets, of which there may be more than a message has
abbrev pub far_codes : List ℕ → ℕ → Far
far_codes octets at = heard (codes_wide Standard octets at)

-- the first wish that suits: none before it does; its number counts from 1, and its field lies in the run where the choice says
pub record First (own : List ℕ) (far : Far) (run : List ℕ) (p : Pick) : Type 0 where
  pub before : List Wish
  pub wish : Wish
  pub rest : List Wish
  pub wishes : wishes_of run ≡ before ++ (wish ∷ rest)
  pub none : (w : Wish) → Memᴰ w before → suits own far w ≡ false
  pub suited : suits own far wish ≡ true
  pub number : p.number ≡ length before + 1
  pub few : p.number ≤ most_wishes
  pub field : take p.length (drop p.at run) ≡ wish.field
  pub inside : p.at + p.length ≤ length run
