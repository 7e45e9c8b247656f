-- The verdict on a mode: when it is accepted, when only a wish that is not ready fits, and when none does.
-- Assumes nothing.
use Prim.Native.Nat.{ℕ}
use mathlib.Core.Bool.{Bool, true, false}
use mathlib.Core.List.Memᴰ
use mathlib.Core.List.{List, [], ◌∷◌, Memᴰ}
use mathlib.Core.Logic.{⊎_elim}
use mathlib.Core.Path.{◌≡◌, refl, sym, ◌∙◌}
use native.Mathlib.Omega.{arith}
use Rattle.std.specs.Prelude.{◌||◌}
use Rattle.std.specs.List.{list_any}
use Rattle.octets.specs.Places.{pick, both}
use Rattle.tree.specs.Fields.{is_in, all_in, has_spar}
use Rattle.tree.proofs.Within.{is_in-all_in, all_in-is_in}
use Rattle.tree.proofs.Modes.{spar_in, spar_some}
use Rattle.names.specs.Named.{named_code}
use Rattle.choice.specs.Wishes.{Wish, wishes_of, wish_codes, good_wishes}
use Rattle.choice.specs.Judging.{fits, fits_some, fits_ready, verdict, Fitting}
use Rattle.choice.proofs.Truths.{never, not_so, same_tests, both_not, not_both}
use Rattle.octets.proofs.Laws.{both_true}
use Rattle.choice.proofs.Tabled.{wish_named}

-- ---- some wish passes a test

-- as a list's own test says it
or_else : (t x : Bool) → pick t true x ≡ t || x
or_else true x = refl
or_else false x = refl

-- a mode fits some wish
fits_some_lem : (mode : List ℕ) (ws : List Wish) → fits_some mode ws ≡ list_any (fits mode) ws
unfolding fits_some
fits_some_lem mode [] = refl
fits_some_lem mode (w ∷ ws) = rw (fits_some_lem mode ws) (or_else (fits mode w) (list_any (fits mode) ws))

-- and some ready wish
abbrev fits_if_ready : List ℕ → Wish → Bool
fits_if_ready mode w = both w.ready (fits mode w)

fits_ready_lem : (mode : List ℕ) (ws : List Wish) → fits_ready mode ws ≡ list_any (fits_if_ready mode) ws
unfolding fits_ready
fits_ready_lem mode [] = refl
fits_ready_lem mode (w ∷ ws) = rw (fits_ready_lem mode ws) (or_else (fits_if_ready mode w) (list_any (fits_if_ready mode) ws))

-- where one is found, it is there and does
some_one : (f : Wish → Bool) (ws : List Wish) → list_any f ws ≡ true → (w : Wish) × Memᴰ w ws × (f w ≡ true)
some_one f [] e = never e
some_one f (v ∷ ws) e = go (f v) refl e (some_one f ws)
  where
    go : (t : Bool) → f v ≡ t → t || list_any f ws ≡ true → (list_any f ws ≡ true → (w : Wish) × Memᴰ w ws × (f w ≡ true))
        → (w : Wish) × Memᴰ w (v ∷ ws) × (f w ≡ true)
    go true p q others = (v, Memᴰ.head refl, p)
    go false p q others = let o = others q in (o.0, Memᴰ.tail o.1, o.2)

-- where none is found, none does
none_each : (f : Wish → Bool) (ws : List Wish) → list_any f ws ≡ false → (w : Wish) → Memᴰ w ws → f w ≡ false
none_each f [] e w m = absurd (Memᴰ.not-nil m)
none_each f (v ∷ ws) e w m = go (f v) refl e (none_each f ws)
  where
    go : (t : Bool) → f v ≡ t → t || list_any f ws ≡ false → (list_any f ws ≡ false → (u : Wish) → Memᴰ u ws → f u ≡ false) → f w ≡ false
    go true p q others = never (sym q)
    go false p q others = ⊎_elim (λ d. rw d p) (others q w) (Memᴰ.cases_cons m)

-- and where none does, none is found
each_none : (f : Wish → Bool) (ws : List Wish) → ((w : Wish) → Memᴰ w ws → f w ≡ false) → list_any f ws ≡ false
each_none f [] h = refl
each_none f (v ∷ ws) h = rw (h v (Memᴰ.head refl)) (each_none f ws (λ w m. h w (Memᴰ.tail m)))

-- one that does is found
one_some : (f : Wish → Bool) (ws : List Wish) (w : Wish) → Memᴰ w ws → f w ≡ true → list_any f ws ≡ true
one_some f ws w m e = go (list_any f ws) refl
  where
    go : (t : Bool) → list_any f ws ≡ t → t ≡ true
    go true p = refl
    go false p = sym (none_each f ws p w m) ∙ e

-- tests that are the same find the same
some_same : (f g : Wish → Bool) (ws : List Wish) → ((w : Wish) → f w ≡ g w) → list_any f ws ≡ list_any g ws
some_same f g [] h = refl
some_same f g (v ∷ ws) h = rw (h v, some_same f g ws h)

-- ---- the three verdicts

-- each verdict tells what was found: whether the mode fits a ready wish, and whether it fits any
only_accepted : (a b : Bool) → ◌≡◌ {A = ℕ} (pick a 0 (pick b 2 3)) 0 → a ≡ true
only_accepted true b e = refl
only_accepted false true e = absurd (omega arith)
only_accepted false false e = absurd (omega arith)

only_not_ready : (a b : Bool) → ◌≡◌ {A = ℕ} (pick a 0 (pick b 2 3)) 2 → (a ≡ false) × (b ≡ true)
only_not_ready true b e = absurd (omega arith)
only_not_ready false true e = (refl, refl)
only_not_ready false false e = absurd (omega arith)

only_no_fit : (a b : Bool) → ◌≡◌ {A = ℕ} (pick a 0 (pick b 2 3)) 3 → b ≡ false
only_no_fit true b e = absurd (omega arith)
only_no_fit false true e = absurd (omega arith)
only_no_fit false false e = refl

module _ (mode : List ℕ) (ws : List Wish) where
  -- it does where a wish's test tells so
  abbrev fitting : (w : Wish) → Memᴰ w ws → fits mode w ≡ true → Fitting mode ws
  fitting w m e =
      let p = both_true (has_spar mode) (all_in mode (wish_codes w)) e in record { wish = w; member = m; spar = p.0; lies = p.1 }

  -- and where it does, the test tells so
  fits_there : (f : Fitting mode ws) → fits mode f.wish ≡ true
  fits_there f = rw f.spar f.lies

  -- the verdict, by what is found
  told : verdict mode ws ≡ pick (list_any (fits_if_ready mode) ws) 0 (pick (list_any (fits mode) ws) 2 3)
  unfolding verdict
  told = rw (fits_ready_lem mode ws, fits_some_lem mode ws)

  -- a mode that is accepted has an SPar(1) and lies in a ready wish
  pub accepted : verdict mode ws ≡ 0 → (f : Fitting mode ws) × (f.wish.ready ≡ true)
  accepted e =
      let o = some_one (fits_if_ready mode) ws (only_accepted (list_any (fits_if_ready mode) ws) (list_any (fits mode) ws) (sym told ∙ e)) in
      let b = both_true o.0.ready (fits mode o.0) o.2 in
      (fitting o.0 o.1 b.1, b.0)

  -- and one that does is accepted
  pub accepts : (f : Fitting mode ws) → f.wish.ready ≡ true → verdict mode ws ≡ 0
  accepts f r = told ∙ rw (one_some (fits_if_ready mode) ws f.wish f.member (rw r (fits_there f)))

  -- a mode that is told not ready has an SPar(1) and lies in a wish, and in none that is ready
  pub not_ready : verdict mode ws ≡ 2 → Fitting mode ws × ((f : Fitting mode ws) → f.wish.ready ≡ false)
  not_ready e =
      let t = only_not_ready (list_any (fits_if_ready mode) ws) (list_any (fits mode) ws) (sym told ∙ e) in
      let o = some_one (fits mode) ws t.1 in (
        fitting o.0 o.1 o.2,
        λ f. not_both f.wish.ready (fits mode f.wish) (none_each (fits_if_ready mode) ws t.0 f.wish f.member) (fits_there f),
      )

  -- and one that does is told so
  pub not_readies : Fitting mode ws → ((f : Fitting mode ws) → f.wish.ready ≡ false) → verdict mode ws ≡ 2
  not_readies f h =
      told
      ∙ rw (
        each_none (fits_if_ready mode) ws (λ w m. both_not w.ready (fits mode w) (λ e. h (fitting w m e))),
        one_some (fits mode) ws f.wish f.member (fits_there f),
      )

  -- a mode that is told to fit no wish has no SPar(1), or lies in none
  pub no_fit : verdict mode ws ≡ 3 → Fitting mode ws → ⊥
  no_fit e f = never (sym (only_no_fit (list_any (fits_if_ready mode) ws) (list_any (fits mode) ws) (sym told ∙ e)) ∙ one_some (fits mode) ws f.wish f.member (fits_there f))

  -- and one of which that holds is told so
  pub no_fits : (Fitting mode ws → ⊥) → verdict mode ws ≡ 3
  no_fits h =
      told
      ∙ rw (
        each_none (fits_if_ready mode) ws (λ w m. both_not w.ready (fits mode w) (λ e. absurd (h (fitting w m e)))),
        each_none (fits mode) ws (λ w m. not_so (fits mode w) (λ e. h (fitting w m e))),
      )

-- ---- modes that fit no wish

-- one without an SPar(1)
pub no_spar : (mode : List ℕ) (ws : List Wish) → has_spar mode ≡ false → verdict mode ws ≡ 3
no_spar mode ws h = no_fits mode ws (λ f. never (sym h ∙ f.spar))

-- so an empty one
pub empty_mode : (ws : List Wish) → verdict [] ws ≡ 3
unfolding has_spar
empty_mode ws = no_spar [] ws refl

-- one with a code that no wish has
pub strange_code : (x : ℕ) (mode : List ℕ) (ws : List Wish) → is_in x mode ≡ true → ((w : Wish) → Memᴰ w ws → is_in x (wish_codes w) ≡ false) → verdict mode ws ≡ 3
strange_code x mode ws i h =
    no_fits mode ws (λ f. never (sym (h f.wish f.member) ∙ all_in-is_in x mode (wish_codes f.wish) f.lies i))

-- so one with a code that is not named, where the wishes are good
pub unnamed_code : (x : ℕ) (mode run : List ℕ) → good_wishes run ≡ true → is_in x mode ≡ true → named_code x ≡ false → verdict mode (wishes_of run) ≡ 3
unnamed_code x mode run g i u =
    strange_code x mode (wishes_of run) i (λ w m. not_so (is_in x (wish_codes w)) (λ e. never (sym u ∙ wish_named run g w m x e)))

-- ---- what the verdict depends on

-- a mode with more codes has an SPar(1) where another has
spar_more : (a b : List ℕ) → ((x : ℕ) → is_in x a ≡ true → is_in x b ≡ true) → has_spar a ≡ true → has_spar b ≡ true
spar_more a b h e = let s = spar_some a e in spar_in s.0 b s.1 (h s.0 s.2)

-- and lies where that other lies only if its own codes do
lies_less : (a b m : List ℕ) → ((x : ℕ) → is_in x b ≡ true → is_in x a ≡ true) → all_in a m ≡ true → all_in b m ≡ true
lies_less a b m h e = is_in-all_in b m (λ x i. all_in-is_in x a m e (h x i))

-- modes with the same codes get the same verdict
pub verdict_same : (mode mode' : List ℕ) (ws : List Wish) → ((x : ℕ) → is_in x mode ≡ is_in x mode') → verdict mode ws ≡ verdict mode' ws
verdict_same mode mode' ws h =
    told mode ws ∙ rw (some_same (fits_if_ready mode) (fits_if_ready mode') ws (λ w. rw (fit w)), some_same (fits mode) (fits mode') ws fit) (sym (told mode' ws))
  where
    to : (x : ℕ) → is_in x mode ≡ true → is_in x mode' ≡ true
    to x i = sym (h x) ∙ i

    from : (x : ℕ) → is_in x mode' ≡ true → is_in x mode ≡ true
    from x i = h x ∙ i

    fit : (w : Wish) → fits mode w ≡ fits mode' w
    fit w =
        rw (
          same_tests (has_spar mode) (has_spar mode') (spar_more mode mode' to) (spar_more mode' mode from),
          same_tests (all_in mode (wish_codes w)) (all_in mode' (wish_codes w)) (lies_less mode mode' (wish_codes w) from) (lies_less mode' mode (wish_codes w) to),
        )
