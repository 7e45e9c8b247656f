-- Codes stored run after run in one list.
-- Assumes nothing.
use Prim.Native.Nat.{ℕ, ◌+◌, ◌*◌}
use mathlib.Core.Path.{◌≡◌, refl, sym, ap, ◌∙◌}
use mathlib.Core.List.{List, [], ◌∷◌, ◌++◌}
use native.Mathlib.Omega.{arith}
use lib.ListN.{length, set, length-append}
use lib.Seq.{sets}
use Rattle.octets.specs.Lay.{over}
use Rattle.tree.specs.Fields.{fours}
use Rattle.tree.proofs.Filling.{sets_append, sets_over}
use Rattle.fill.specs.Storing.{set_number, set_fours, laid, Fills}
use Rattle.fill.specs.declared.Tally.{Tally}

-- four octets to a code
pub fours-length : (cs : List ℕ) → length (fours cs) ≡ 4 * length cs
unfolding fours
fours-length [] = refl
fours-length (c ∷ cs) = omega (arith, fours-length cs)

-- two runs are stored one behind the other
pub laid_append : {A : Type 0} (stored : List A → ℕ → ℕ → List A) (list : List A) (n : ℕ) (cs ds : List ℕ)
    → laid stored list n (cs ++ ds) ≡ laid stored (laid stored list n cs) (n + length cs) ds
unfolding laid
laid_append stored list n [] ds = ap (λ m. laid stored list m ds) (omega arith)
laid_append stored list n (c ∷ cs) ds = laid_append stored (stored list n c) (n + 1) cs ds ∙ ap (λ m. laid stored (laid stored (stored list n c) (n + 1) cs) m ds) (omega arith)

-- numbers from the front are laid over a list, and so are octets
laid_numbers : (list : List ℕ) (n : ℕ) (cs : List ℕ) → laid set_number list n cs ≡ sets list n cs
unfolding laid
laid_numbers list n [] = refl
laid_numbers list n (c ∷ cs) = laid_numbers (set list n c) (n + 1) cs ∙ ap (λ (k : ℕ). sets (set list n c) k cs) (omega arith)

laid_fours : (list : List ℕ) (n : ℕ) (cs : List ℕ) → laid set_fours list n cs ≡ sets list (4 * n) (fours cs)
unfolding laid fours
laid_fours list n [] = refl
laid_fours list n (c ∷ cs) =
    let place : 4 * (n + 1) ≡ 4 * n + length (fours (c ∷ [])) = omega (arith, fours-length (c ∷ [])) in
    laid_fours (set_fours list n c) (n + 1) cs ∙ rw place (sym (sets_append list (4 * n) (fours (c ∷ [])) (fours cs)))

pub numbers_over : (list cs : List ℕ) → laid set_number list 0 cs ≡ over cs list
numbers_over list cs = laid_numbers list 0 cs ∙ sets_over cs list

pub fours_over : (list cs : List ℕ) → laid set_fours list 0 cs ≡ over (fours cs) list
fours_over list cs = laid_fours list 0 cs ∙ sets_over (fours cs) list

-- of the codes cs, behind the n before, those to come are todo, to be read up to the place to
pub record Going {A : Type 0} (stored : List A → ℕ → ℕ → List A) (cs : List ℕ) (end : ℕ) (list₀ : List A) (n : ℕ) (todo : List ℕ) (to : ℕ) (list : List A) (count : ℕ) : Type 0 where
  pub same : laid stored list count todo ≡ laid stored list₀ n cs
  pub sum : count + length todo ≡ n + length cs
  pub at : to ≡ end

module _ {A : Type 0} {stored : List A → ℕ → ℕ → List A} {cs : List ℕ} {end : ℕ} {list₀ : List A} {n : ℕ} where
  pub going_run : (ones todo : List ℕ) {to : ℕ} {list list₁ : List A} {count r : ℕ} → r ≡ count + length ones → list₁ ≡ laid stored list count ones → Going stored cs end list₀ n (ones ++ todo) to list count
      → Going stored cs end list₀ n todo to list₁ r
  going_run ones todo {list = list} {count = count} e h g =
      record {
        same = rw (h, e) (sym (laid_append stored list count ones todo) ∙ g.same);
        sum = omega (arith, e, g.sum, length-append ones todo);
        at = g.at;
      }

-- what is stored in two steps
pub fills_then : {A : Type 0} {stored : List A → ℕ → ℕ → List A} {cs ds : List ℕ} {place end : ℕ} {list₀ list₁ list₂ : List A} {n : ℕ} {r v : Tally} → Fills stored cs place list₀ n list₁ r
    → Fills stored ds end list₁ r.count list₂ v → Fills stored (cs ++ ds) end list₀ n list₂ v
fills_then {stored = stored} {cs} {ds} {list₀ = list₀} {n = n} f h =
    record {
      count = omega (arith, f.count, h.count, length-append cs ds);
      list = h.list ∙ rw (f.list, f.count) (sym (laid_append stored list₀ n cs ds));
      at = h.at;
    }

-- over a list without room nothing is laid
pub over_none : (cs d : List ℕ) → length d ≡ 0 → d ≡ over cs d
unfolding over
over_none [] d h = refl
over_none (c ∷ cs) [] h = refl
over_none (c ∷ cs) (x ∷ d) h = absurd (omega arith)

-- nothing is stored
pub fills_none : {A : Type 0} {stored : List A → ℕ → ℕ → List A} (list : List A) (n e : ℕ) → Fills stored [] e list n list (record { count = n; at = e })
unfolding laid
fills_none list n e = record { count = omega arith; list = refl; at = refl }

-- one code is stored
pub fills_one : {A : Type 0} {stored : List A → ℕ → ℕ → List A} {list list₁ : List A} {n code e : ℕ} → list₁ ≡ stored list n code → Fills stored (code ∷ []) e list n list₁ (record { count = n + 1; at = e })
unfolding laid
fills_one h = record { count = omega arith; list = h; at = refl }

-- codes are stored, and nothing is read
pub fills_run : {A : Type 0} {stored : List A → ℕ → ℕ → List A} {cs : List ℕ} {list list₁ : List A} {n r e : ℕ} → (r ≡ n + length cs) × (list₁ ≡ laid stored list n cs)
    → Fills stored cs e list n list₁ (record { count = r; at = e })
fills_run h = record { count = h.0; list = h.1; at = refl }
