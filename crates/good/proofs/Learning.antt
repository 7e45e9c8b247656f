-- The names that are put of one Par(2) block of a good own table are the positions of its codes.
-- Assumes nothing.
use Prim.Native.Nat.{ℕ, ◌+◌, ◌-◌, ◌*◌, ◌/◌, ◌%◌, ◌^◌, ◌≤◌, ◌<◌}
use mathlib.Core.Bool.{Bool, true, false, not}
use mathlib.Core.List.{List, [], ◌∷◌, ◌++◌, append-nil}
use mathlib.Core.Logic.{◌⊎◌, ⊎_elim}
use mathlib.Core.Path.{◌≡◌, refl, sym, ap, ◌∙◌}
use native.Mathlib.Nat.{mod-eq_of_lt}
use native.Mathlib.Omega.{arith}
use borrow.Author.Tests.{eq-eqb, ne_eqb, eqb-true, eqb-false, ltb-true, ltb-false, le-leb, leb-true}
use lib.Dec.{eqb, ltb, leb}
use lib.ListN.{length, drop, get_or, set, length-set}
use lib.Seq.{get_or-set_same, get_or-set_other}
use Rattle.octets.specs.Bits.{odd}
use Rattle.octets.specs.Places.{pick}
use Rattle.octets.proofs.Laws.{both_true}
use Rattle.tree.specs.Block.{numbers, behind, announced, ended}
use Rattle.tree.specs.Codes.{field_base, of_t, of_s, sub_codes, subs_behind, group_codes, group_behind}
use Rattle.tree.specs.Fields.{is_in}
use Rattle.tree.specs.Order.{AllBelow, AllFrom}
use Rattle.tree.specs.Wide.{low_fits}
use Rattle.tree.proofs.Ascending.{low_between, par_between, group_above, numbers_between}
use Rattle.tree.proofs.Numbering.{numbers_shift, shift}
use Rattle.tree.proofs.Wide.{fits_parts, fits_short}
use Rattle.within.proofs.Apart.{from_ascending, in_front, in_behind}
use Rattle.meaning.specs.Minimal.{group_minimal}
use Rattle.meaning.proofs.Reading.{rising_at}
use Rattle.meaning.proofs.Trees.{Rising}
use Rattle.names.specs.Named.{standard_code}
use Rattle.good.specs.Goodness.{spars_in, npars_in, below_at, lows_in, subs_in, all_pass}
use Rattle.good.specs.Learned.{block_bits, group_end, par_put}
use Rattle.good.proofs.Judgement.{pass_split}
use Rattle.good.proofs.Standards.{bit_none, clash, npars_over, sub_only}
use Rattle.good.proofs.Values.{block_bit, block_small}
use Rattle.good.proofs.Putting.{par_size}

-- ---- numbers in lists

pub in_over : (x h : ℕ) (l : List ℕ) → h ≤ x → AllBelow h l → is_in x l ≡ false
unfolding is_in AllBelow
in_over x h [] k a = refl
in_over x h (y ∷ l) k a = rw (ne_eqb y x (λ (e : y ≡ x). omega (arith, a.0))) (in_over x h l k a.1)

pub below_higher : (g h : ℕ) (l : List ℕ) → g ≤ h → AllBelow g l → AllBelow h l
unfolding AllBelow
below_higher g h [] k a = tt
below_higher g h (x ∷ l) k a = (omega (arith, a.0), below_higher g h l k a.1)

pub below_append : (h : ℕ) (a b : List ℕ) → AllBelow h a → AllBelow h b → AllBelow h (a ++ b)
unfolding AllBelow
below_append h [] b x y = y
below_append h (c ∷ a) b x y = (x.0, below_append h a b x.1 y)

in_shift : (c k : ℕ) (qs : List ℕ) → is_in (c + k) (shift c qs) ≡ is_in k qs
unfolding is_in
in_shift c k [] = refl
in_shift c k (q ∷ qs) = rw (same (eqb q k) refl, in_shift c k qs)
  where
    same : (t : Bool) → eqb q k ≡ t → eqb (c + q) (c + k) ≡ eqb q k
    same true e = eq-eqb (c + q) (c + k) (omega (arith, eqb-true q k e)) ∙ sym e
    same false e = ne_eqb (c + q) (c + k) (λ (z : c + q ≡ c + k). eqb-false q k e (omega arith)) ∙ sym e

-- where all codes pass a test, one that fails it is none of them
pub pass_none : (P : ℕ → Bool) (c : ℕ) (l : List ℕ) → all_pass P l ≡ true → P c ≡ false → is_in c l ≡ false
unfolding all_pass is_in
pass_none P c [] h e = refl
pass_none P c (x ∷ l) h e =
    let p = both_true (P x) (all_pass P l) h in
    rw (ne_eqb x c (λ (z : x ≡ c). clash (ap P (sym z) ∙ p.0) e)) (pass_none P c l p.1 e)

-- ---- where names are

pub below_between : (q : ℕ) → (10 ≤ below_at q) × (below_at q ≤ 12)
below_between q = go (eqb q 3) (eqb q 8)
  where
    go : (t u : Bool) → (10 ≤ pick t 10 (pick u 11 12)) × (pick t 10 (pick u 11 12) ≤ 12)
    go true u = omega arith
    go false true = omega arith
    go false false = omega arith

-- the two that have SPar(2) have places of their own
below_apart : (s q : ℕ) → (s ≡ 3) ⊎ (s ≡ 8) → (q ≡ s → ⊥) → below_at q ≡ below_at s → ⊥
below_apart s q w h = ⊎_elim (λ (z : s ≡ 3). rw z (three (eqb q 3) refl (eqb q 8) (λ f. h (f ∙ sym z)))) (λ (z : s ≡ 8). rw z (eight (eqb q 3) (eqb q 8) refl (λ f. h (f ∙ sym z)))) w
  where
    three : (t : Bool) → eqb q 3 ≡ t → (u : Bool) → (q ≡ 3 → ⊥) → ◌≡◌ {A = ℕ} (pick t 10 (pick u 11 12)) 10 → ⊥
    three true e u k f = k (eqb-true q 3 e)
    three false e true k f = omega arith
    three false e false k f = omega arith

    eight : (t u : Bool) → eqb q 8 ≡ u → (q ≡ 8 → ⊥) → ◌≡◌ {A = ℕ} (pick t 10 (pick u 11 12)) 11 → ⊥
    eight t true e k f = k (eqb-true q 8 e)
    eight true false e k f = omega arith
    eight false false e k f = omega arith

-- ---- the names of one SPar(1)

-- they are the positions whose codes pass a test
pub record At (P : ℕ → Bool) (n : List ℕ) (q : ℕ) : Type 0 where
  pub npar : (k : ℕ) → 0 < k → k < 512 → odd (npars_in n q / 2 ^ (k - 1)) ≡ P (field_base 2 + q * of_s + k)
  pub sub : (t : ℕ) → 0 < t → t < 512 → odd (subs_in n q / 2 ^ (t - 1)) ≡ P (field_base 2 + q * of_s + t * of_t)
  pub low : (k : ℕ) → 0 < k → k < 512 → odd (lows_in n q / 2 ^ (k - 1)) ≡ P (field_base 2 + q * of_s + of_t + k)

-- in a list of codes
abbrev pub among : List ℕ → ℕ → Bool
among D x = is_in x D

-- it asks only of the codes under that SPar(1)
at_as : (P Q : ℕ → Bool) (n m : List ℕ) (q : ℕ) → ((x : ℕ) → field_base 2 + q * of_s < x → x < field_base 2 + q * of_s + of_s → P x ≡ Q x)
    → npars_in m q ≡ npars_in n q → subs_in m q ≡ subs_in n q → lows_in m q ≡ lows_in n q → At P n q → At Q m q
at_as P Q n m q same a b c y = record {
  npar = λ k h s. rw a (y.npar k h s ∙ same (field_base 2 + q * of_s + k) (omega arith) (omega arith));
  sub = λ t h s. rw b (y.sub t h s ∙ same (field_base 2 + q * of_s + t * of_t) (omega arith) (omega arith));
  low = λ k h s. rw c (y.low k h s ∙ same (field_base 2 + q * of_s + of_t + k) (omega arith) (omega arith));
}

-- names of some codes, with those of SPar(1)
pub record Learnt (v : ℕ) (D n : List ℕ) : Type 0 where
  pub size : length n ≡ 16
  pub few : (q : ℕ) → subs_in n q < 2
  pub spars : spars_in n ≡ v
  pub at : (q : ℕ) → 0 < q → q < 512 → At (among D) n q

module _ (l : List ℕ) (short : length l ≤ 64) where
  pub fits : low_fits 0 l ≡ true
  fits = (fits_parts l 0 (fits_short l 0 short)).2

  -- the bits of a block with standard codes are its codes
  block_codes : (c e : ℕ) → c % 512 ≡ 0 → all_pass standard_code (numbers 6 64 c l e) ≡ true → (k : ℕ) → 0 < k
      → odd (block_bits 6 64 l e / 2 ^ (k - 1)) ≡ is_in (c + k) (numbers 6 64 c l e)
  block_codes c e a h k p =
      let back : k - 1 + 1 ≡ k = omega arith in
      ap (λ (v : ℕ). odd (v / 2 ^ (k - 1))) (mod-eq_of_lt (block_small 6 64 l e 32 (λ j i. none j i (ltb j 512) refl)))
      ∙ rw back at (block_bit 6 64 l e (k - 1)) ∙ sym (same k)
    where
      same : (j : ℕ) → is_in (c + j) (numbers 6 64 c l e) ≡ is_in j (numbers 6 64 0 l e)
      same j = ap (is_in (c + j)) (numbers_shift 6 64 c (drop e l)) ∙ in_shift c j (numbers 6 64 0 l e)

      none : (j : ℕ) → 32 < j → (t : Bool) → ltb j 512 ≡ t → is_in j (numbers 6 64 0 l e) ≡ false
      none j i true f = sym (same j) ∙ pass_none standard_code (c + j) (numbers 6 64 c l e) h (npars_over c j a i (ltb-true j 512 f))
      none j i false f = in_over j 512 (numbers 6 64 0 l e) (ltb-false j 512 f) (numbers_between 6 64 0 l e (omega arith) short).1

  -- SPar(2) with standard codes has the first position and no other, under two SPar(1) alone
  subs_one : (s y : ℕ) (ts : List ℕ) → 0 < s → s < 512 → Rising 0 ts → not (eqb (length ts) 0) ≡ true → all_pass standard_code (sub_codes (field_base 2 + s * of_s) ts l y) ≡ true
      → (ts ≡ 1 ∷ []) × ((s ≡ 3) ⊎ (s ≡ 8))
  unfolding Rising all_pass sub_codes
  subs_one s y [] h u r n a = absurd (clash n refl)
  subs_one s y (t ∷ []) h u r n a =
      let p = sub_only s t h u r.0 (omega (arith, r.1)) (both_true (standard_code (field_base 2 + s * of_s + t * of_t)) _ a).0 in
      (rw p.0, p.1)
  subs_one s y (t ∷ v ∷ ts) h u r n a =
      let c = field_base 2 + s * of_s in
      let p = both_true (standard_code (c + t * of_t)) _ a in
      let q = pass_split standard_code (numbers 6 64 (c + t * of_t) l y) (sub_codes c (v ∷ ts) l (behind 64 l y)) p.1 in
      let w = both_true (standard_code (c + v * of_t)) _ q.1 in
      let last = sub_only s v h u (omega (arith, r.2.0)) (omega (arith, r.2.1)) w.0 in
      absurd (omega (arith, r.0, r.2.0, last.0))

  group_one : (s x : ℕ) → 0 < s → s < 512 → ended l x ≡ false → group_minimal l x ≡ true → all_pass standard_code (group_codes (field_base 2 + s * of_s) l x) ≡ true
      → (numbers 6 64 0 l x ≡ 1 ∷ []) × ((s ≡ 3) ⊎ (s ≡ 8))
  unfolding group_minimal group_codes
  group_one s x h u o m a =
      subs_one s (behind 64 l x) (numbers 6 64 0 l x) h u (rising_at l short 6 64 x (omega arith))
      (both_true (not (eqb (announced 6 64 l x) 0)) _ (rw o at m)).0 (rw o at a)

  -- ---- a Par(2) block

  module _ (s e : ℕ) (pos : 0 < s) (most : s ≤ 9) where
    abbrev c : ℕ
    c = field_base 2 + s * of_s

    abbrev x : ℕ
    x = behind 64 l e

    abbrev y : ℕ
    y = behind 64 l x

    abbrev N : List ℕ
    N = numbers 6 64 c l e

    abbrev G : List ℕ
    G = group_codes c l x

    module _ (hN : all_pass standard_code N ≡ true) (hG : all_pass standard_code G ≡ true) (min : group_minimal l x ≡ true) where
      one : ended l x ≡ false → (numbers 6 64 0 l x ≡ 1 ∷ []) × ((s ≡ 3) ⊎ (s ≡ 8))
      one o = group_one s x pos (omega arith) o min hG

      -- the place behind it
      pub end_is : group_end l x ≡ group_behind l x
      unfolding group_behind subs_behind
      end_is = go (ended l x) refl
        where
          go : (t : Bool) → ended l x ≡ t → pick t x (behind 64 l y) ≡ pick t x (subs_behind (announced 6 64 l x) l y)
          go true o = refl
          go false o = rw (one o).0

      -- the codes behind NPar(2)
      codes_none : ended l x ≡ true → G ≡ []
      unfolding group_codes
      codes_none o = rw o

      codes_some : ended l x ≡ false → G ≡ (c + of_t) ∷ numbers 6 64 (c + of_t) l y
      unfolding group_codes sub_codes
      codes_some o =
          let z : c + 1 * of_t ≡ c + of_t = omega arith in
          rw (o, (one o).0, z) (ap (λ (r : List ℕ). (c + of_t) ∷ r) (append-nil (numbers 6 64 (c + of_t) l y)))

      module _ (n : List ℕ) (size : length n ≡ 16) where
        abbrev m : List ℕ
        m = par_put s l e n

        abbrev v : ℕ
        v = block_bits 6 64 l e

        abbrev w : ℕ
        w = block_bits 6 64 l y

        put_none : ended l x ≡ true → m ≡ set n s v
        put_none o = rw o

        put_some : ended l x ≡ false → m ≡ set (set (set n s v) (below_at s + 3) 1) (below_at s) w
        put_some o = rw o

        -- a name that is not put is the one before
        other : (j : ℕ) → (j ≡ s → ⊥) → (ended l x ≡ false → (j ≡ below_at s + 3 → ⊥) × (j ≡ below_at s → ⊥)) → get_or m j 0 ≡ get_or n j 0
        other j h k = go (ended l x) refl
          where
            go : (t : Bool) → ended l x ≡ t → get_or m j 0 ≡ get_or n j 0
            go true o = ap (λ (z : List ℕ). get_or z j 0) (put_none o) ∙ get_or-set_other n s j v 0 h
            go false o =
                ap (λ (z : List ℕ). get_or z j 0) (put_some o)
                ∙ get_or-set_other (set (set n s v) (below_at s + 3) 1) (below_at s) j w 0 (k o).1
                ∙ get_or-set_other (set n s v) (below_at s + 3) j 1 0 (k o).0
                ∙ get_or-set_other n s j v 0 h

        -- those of another SPar(1) are
        module _ (q : ℕ) (ne : q ≡ s → ⊥) where
          npars_other : npars_in m q ≡ npars_in n q
          npars_other = go (leb q 9) refl
            where
              go : (t : Bool) → leb q 9 ≡ t → pick t (get_or m q 0) 0 ≡ pick t (get_or n q 0) 0
              go true f = let less = leb-true q 9 f in other q ne (λ o. (λ z. omega (arith, below_between s), λ z. omega (arith, below_between s)))
              go false f = refl

          subs_other : subs_in m q ≡ subs_in n q
          subs_other =
              other (below_at q + 3) (λ z. omega (arith, below_between q))
              (λ o. (λ z. below_apart s q (one o).1 ne (omega arith), λ z. omega (arith, below_between q, below_between s)))

          lows_other : lows_in m q ≡ lows_in n q
          lows_other =
              other (below_at q) (λ z. omega (arith, below_between q))
              (λ o. (λ z. omega (arith, below_between q, below_between s), below_apart s q (one o).1 ne))

        -- those of this one are those of the blocks
        npars_here : npars_in m s ≡ v
        npars_here = rw (le-leb s 9 most) (go (ended l x) refl)
          where
            go : (t : Bool) → ended l x ≡ t → get_or m s 0 ≡ v
            go true o = ap (λ (z : List ℕ). get_or z s 0) (put_none o) ∙ get_or-set_same n s v 0 (omega arith)
            go false o =
                ap (λ (z : List ℕ). get_or z s 0) (put_some o)
                ∙ get_or-set_other (set (set n s v) (below_at s + 3) 1) (below_at s) s w 0 (λ z. omega (arith, below_between s))
                ∙ get_or-set_other (set n s v) (below_at s + 3) s 1 0 (λ z. omega (arith, below_between s))
                ∙ get_or-set_same n s v 0 (omega arith)

        module _ (o : ended l x ≡ false) where
          subs_here : subs_in m s ≡ 1
          subs_here =
              ap (λ (z : List ℕ). get_or z (below_at s + 3) 0) (put_some o)
              ∙ get_or-set_other (set (set n s v) (below_at s + 3) 1) (below_at s) (below_at s + 3) w 0 (λ z. omega arith)
              ∙ get_or-set_same (set n s v) (below_at s + 3) 1 0 (omega (arith, below_between s, length-set n s v))

          lows_here : lows_in m s ≡ w
          lows_here =
              ap (λ (z : List ℕ). get_or z (below_at s) 0) (put_some o)
              ∙ get_or-set_same (set (set n s v) (below_at s + 3) 1) (below_at s) w 0
              (omega (arith, below_between s, length-set (set n s v) (below_at s + 3) 1, length-set n s v))

        module _ (o : ended l x ≡ true) where
          subs_kept_lem : subs_in m s ≡ subs_in n s
          subs_kept_lem = other (below_at s + 3) (λ z. omega (arith, below_between s)) (λ f. absurd (clash o f))

          lows_kept : lows_in m s ≡ lows_in n s
          lows_kept = other (below_at s) (λ z. omega (arith, below_between s)) (λ f. absurd (clash o f))

        -- so they are its codes
        module _ (D : List ℕ) (less : AllBelow c D) where
          npar_at : (k : ℕ) → 0 < k → k < 512 → odd (npars_in m s / 2 ^ (k - 1)) ≡ is_in (c + k) (N ++ G)
          npar_at k h u =
              rw npars_here
              (block_codes c e (omega arith) hN k h
              ∙ sym (in_front (c + k) (c + 512) N G (omega arith) (from_ascending (c + 512) (c + 511) G (omega arith) (group_above c l x fits))))

          -- behind NPar(2)
          late : (z : ℕ) → c + 512 ≤ z → is_in z (N ++ G) ≡ is_in z G
          late z h = in_behind z (c + 512) N G h (low_between c l e fits).1

          late_none : ended l x ≡ true → (z : ℕ) → c + 512 ≤ z → is_in z D ≡ is_in z (N ++ G)
          unfolding is_in
          late_none o z h = in_over z c D (omega arith) less ∙ sym (late z h ∙ ap (is_in z) (codes_none o))

          late_some : ended l x ≡ false → (z : ℕ) → c + 512 < z → is_in z (N ++ G) ≡ is_in z (numbers 6 64 (c + of_t) l y)
          unfolding is_in
          late_some o z h = late z (omega arith) ∙ ap (is_in z) (codes_some o) ∙ rw (ne_eqb (c + of_t) z (λ (f : c + of_t ≡ z). omega arith))

          sub_at : At (among D) n s → (t : ℕ) → 0 < t → t < 512 → odd (subs_in m s / 2 ^ (t - 1)) ≡ is_in (c + t * of_t) (N ++ G)
          unfolding is_in
          sub_at was t h u = go (ended l x) refl
            where
              first : ended l x ≡ false → (b : Bool) → ltb 1 t ≡ b → odd (1 / 2 ^ (t - 1)) ≡ is_in (c + t * of_t) (N ++ G)
              first o true f =
                  let two = ltb-true 1 t f in
                  bit_none 1 1 (t - 1) (omega arith) (omega arith)
                  ∙ sym (late_some o (c + t * of_t) (omega arith) ∙ in_over (c + t * of_t) (c + of_t + 512) (numbers 6 64 (c + of_t) l y) (omega arith) (low_between (c + of_t) l y fits).1)
              first o false f =
                  let only : t ≡ 1 = omega (arith, ltb-false 1 t f) in
                  rw only (sym (late (c + 1 * of_t) (omega arith) ∙ ap (is_in (c + 1 * of_t)) (codes_some o) ∙ rw (eq-eqb (c + of_t) (c + 1 * of_t) (omega arith))))

              go : (b : Bool) → ended l x ≡ b → odd (subs_in m s / 2 ^ (t - 1)) ≡ is_in (c + t * of_t) (N ++ G)
              go true o = rw (subs_kept_lem o) (was.sub t h u ∙ late_none o (c + t * of_t) (omega arith))
              go false o = rw (subs_here o) (first o (ltb 1 t) refl)

          low_at : At (among D) n s → (k : ℕ) → 0 < k → k < 512 → odd (lows_in m s / 2 ^ (k - 1)) ≡ is_in (c + of_t + k) (N ++ G)
          unfolding all_pass
          low_at was k h u = go (ended l x) refl
            where
              go : (b : Bool) → ended l x ≡ b → odd (lows_in m s / 2 ^ (k - 1)) ≡ is_in (c + of_t + k) (N ++ G)
              go true o = rw (lows_kept o) (was.low k h u ∙ late_none o (c + of_t + k) (omega arith))
              go false o =
                  let all = (both_true (standard_code (c + of_t)) (all_pass standard_code (numbers 6 64 (c + of_t) l y)) (rw (codes_some o) at hG)).1 in
                  rw (lows_here o) (block_codes (c + of_t) y (omega arith) all k h ∙ sym (late_some o (c + of_t + k) (omega arith)))

          -- and with those before, all
          abbrev E : List ℕ
          E = D ++ (c ∷ (N ++ G))

          within_here : (z : ℕ) → c < z → is_in z (N ++ G) ≡ is_in z E
          unfolding is_in
          within_here z h = sym (in_behind z c D (c ∷ (N ++ G)) (omega arith) less ∙ rw (ne_eqb c z (λ (f : c ≡ z). omega arith)))

          within_other : (q : ℕ) → (q ≡ s → ⊥) → (z : ℕ) → field_base 2 + q * of_s < z → z < field_base 2 + q * of_s + of_s → is_in z D ≡ is_in z E
          unfolding AllFrom AllBelow
          within_other q ne z h u = go (ltb q s) refl
            where
              go : (b : Bool) → ltb q s ≡ b → is_in z D ≡ is_in z E
              go true f =
                  let before = ltb-true q s f in
                  sym (in_front z c D (c ∷ (N ++ G)) (omega arith) (omega arith, from_ascending c c (N ++ G) (omega arith) (par_between c l e fits).0))
              go false f =
                  let behind = ltb-false q s f in
                  let over : c + of_s ≤ z = omega arith in
                  in_over z c D (omega arith) less
                  ∙ sym (in_over z (c + of_s) E over (below_append (c + of_s) D (c ∷ (N ++ G)) (below_higher c (c + of_s) D (omega arith) less) (omega arith, (par_between c l e fits).1)))

          pub par_learnt : {v : ℕ} → Learnt v D n → Learnt v E m
          par_learnt was = record {
            size = par_size s l e n ∙ size;
            few = few;
            spars = other 0 (λ z. omega arith) (λ o. (λ z. omega (arith, below_between s), λ z. omega (arith, below_between s))) ∙ was.spars;
            at = λ q h u. at q h u (eqb q s) refl;
          }
            where
              few : (q : ℕ) → subs_in m q < 2
              few q = go (eqb q s) refl (ended l x) refl
                where
                  go : (b : Bool) → eqb q s ≡ b → (t : Bool) → ended l x ≡ t → subs_in m q < 2
                  go true f true o = rw (eqb-true q s f, subs_kept_lem o) (was.few s)
                  go true f false o = rw (eqb-true q s f, subs_here o) (omega arith)
                  go false f t o = rw (subs_other q (eqb-false q s f)) (was.few q)

              at : (q : ℕ) → 0 < q → q < 512 → (b : Bool) → eqb q s ≡ b → At (among E) m q
              at q h u true f =
                  let here = was.at s pos (omega arith) in
                  rw (eqb-true q s f)
                  (at_as (among (N ++ G)) (among E) m m s (λ z i j. within_here z i) refl refl refl (record { npar = npar_at; sub = sub_at here; low = low_at here }))
              at q h u false f =
                  let ne = eqb-false q s f in
                  at_as (among D) (among E) n m q (within_other q ne) (npars_other q ne) (subs_other q ne) (lows_other q ne) (was.at q h u)
