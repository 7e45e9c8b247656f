-- The names that are put of a good own table are the positions of its codes.
-- Assumes nothing.
use Prim.Native.Nat.{ℕ, zero, suc, ◌+◌, ◌-◌, ◌*◌, ◌/◌, ◌^◌, ◌≤◌, ◌<◌}
use mathlib.Core.Bool.{Bool, true, false}
use mathlib.Core.List.{List, [], ◌∷◌, ◌++◌, append-nil, append_assoc}
use mathlib.Core.Path.{◌≡◌, refl, sym, ap, ◌∙◌}
use native.Mathlib.Nat.{mod-eq_of_lt, zero-div}
use native.Mathlib.Omega.{arith}
use borrow.Author.Tests.{eq-eqb, ne_eqb, eqb-true, eqb-false, ltb-true, ltb-false, leb-true}
use lib.Dec.{eqb, ltb, leb}
use lib.ListN.{length, get_or, set, replicate, length-set, length-replicate}
use lib.Seq.{get_or-set_same, get_or-set_other}
use Rattle.octets.specs.Bits.{odd}
use Rattle.octets.specs.Places.{pick}
use Rattle.octets.proofs.Laws.{both_true}
use Rattle.tree.specs.Block.{numbers, behind, announced}
use Rattle.tree.specs.Codes.{field_base, of_s, group_codes, group_behind, par_codes, rest_codes, field_codes, field_behind}
use Rattle.tree.specs.Fields.{is_in}
use Rattle.tree.specs.Form.{is_fine, field_form}
use Rattle.tree.specs.Order.{Ascending, AllBelow}
use Rattle.tree.proofs.Ascending.{par_between, numbers_between}
use Rattle.within.proofs.Apart.{from_ascending, in_none, in_append}
use Rattle.meaning.specs.Minimal.{tight_at, group_minimal, pars_minimal, field_minimal}
use Rattle.meaning.proofs.Reading.{rising_at}
use Rattle.meaning.proofs.Trees.{Rising}
use Rattle.names.specs.Named.{standard_code}
use Rattle.good.specs.Good.{most_standard}
use Rattle.good.specs.Goodness.{below_at, Names, all_pass, good_by}
use Rattle.good.specs.Learned.{block_value, block_bits, par_put, pars_put}
use Rattle.good.proofs.Standards.{clash, spars_over, standard_names_lem}
use Rattle.good.proofs.Values.{block_bit, block_small}
use Rattle.good.proofs.Judgement.{pass_split}
use Rattle.good.proofs.Learning.{in_over, below_higher, below_append, pass_none, below_between, Learnt, fits, end_is, par_learnt}

-- ---- the Par(2) blocks of some SPar(1)

module _ (l : List ℕ) (short : length l ≤ 64) where
  -- their codes are added to those before
  pars_learnt : (v : ℕ) (ss : List ℕ) (lo e : ℕ) (D n : List ℕ) → Rising lo ss → pars_minimal (length ss) l e ≡ true → all_pass standard_code (par_codes (field_base 2) ss l e) ≡ true
      → AllBelow (field_base 2 + lo * of_s + of_s) D → Learnt v D n → Learnt v (D ++ par_codes (field_base 2) ss l e) (pars_put ss l e n)
  unfolding Rising pars_minimal par_codes pars_put all_pass AllBelow
  pars_learnt v [] lo e D n r i a b k = rw (append-nil D) k
  pars_learnt v (s ∷ ss) lo e D n r i a b k =
      let c = field_base 2 + s * of_s in
      let x = behind 64 l e in
      let N = numbers 6 64 c l e in
      let G = group_codes c l x in
      let P = par_codes (field_base 2) ss l (group_behind l x) in
      let min = both_true (group_minimal l x) _ (both_true (tight_at 64 l e) _ i).1 in
      let first = both_true (standard_code c) (all_pass standard_code ((N ++ G) ++ P)) a in
      let rest = pass_split standard_code (N ++ G) P first.1 in
      let block = pass_split standard_code N G rest.0 in
      let pos : 0 < s = omega (arith, r.0) in
      let most : s ≤ 9 = nine s (omega (arith, r.1)) first.0 in
      let less : AllBelow c D = below_higher (field_base 2 + lo * of_s + of_s) c D (omega (arith, r.0)) b in
      let m = par_learnt l short s e pos most block.0 block.1 min.0 n k.size D less k in
      let below : AllBelow (field_base 2 + s * of_s + of_s) (D ++ (c ∷ (N ++ G))) =
      below_append (c + of_s) D (c ∷ (N ++ G)) (below_higher c (c + of_s) D (omega arith) less) (omega arith, (par_between c l e (fits l short)).1)
      in
      rw (end_is l short s e pos most block.0 block.1 min.0, ← (append_assoc D (c ∷ (N ++ G)) P))
      (pars_learnt v ss s (group_behind l x) (D ++ (c ∷ (N ++ G))) (par_put s l e n) r.2 min.1 rest.1 below m)
    where
      nine : (s : ℕ) → s < 512 → standard_code (field_base 2 + s * of_s) ≡ true → s ≤ 9
      nine s h f = go (ltb 9 s) refl
        where
          go : (t : Bool) → ltb 9 s ≡ t → s ≤ 9
          go true g = absurd (clash f (spars_over s (ltb-true 9 s g) h))
          go false g = ltb-false 9 s g

  -- which SPar(1) there are
  spar_in : (q : ℕ) (ss : List ℕ) (lo e : ℕ) → Rising lo ss → is_in (field_base 2 + q * of_s) (par_codes (field_base 2) ss l e) ≡ is_in q ss
  unfolding Rising par_codes is_in
  spar_in q [] lo e r = refl
  spar_in q (s ∷ ss) lo e r = go (ltb q s) refl (eqb s q) refl (spar_in q ss s (group_behind l (behind 64 l e)) r.2)
    where
      c : ℕ
      c = field_base 2 + s * of_s

      d : ℕ
      d = field_base 2 + q * of_s

      M : List ℕ
      M = numbers 6 64 c l e ++ group_codes c l (behind 64 l e)

      P : List ℕ
      P = par_codes (field_base 2) ss l (group_behind l (behind 64 l e))

      none : (t : Bool) → ltb q s ≡ t → (s ≡ q → ⊥) → is_in d M ≡ false
      none true f ne = in_none d c M (omega (arith, ltb-true q s f)) (from_ascending c c M (omega arith) (par_between c l e (fits l short)).0)
      none false f ne = in_over d (c + of_s) M (omega (arith, ltb-false q s f)) (par_between c l e (fits l short)).1

      go : (t : Bool) → ltb q s ≡ t → (b : Bool) → eqb s q ≡ b → is_in d P ≡ is_in q ss → pick (eqb c d) true (is_in d (M ++ P)) ≡ pick b true (is_in q ss)
      go t f true g rest = rw (eq-eqb c d (omega (arith, eqb-true s q g)))
      go t f false g rest =
          let ne = eqb-false s q g in
          rw (ne_eqb c d (λ (z : c ≡ d). ne (omega arith)), in_append d M P, none t f ne) rest

-- ---- a field

-- no NPar(1) is standard
top_none : (cs : List ℕ) → Ascending (field_base 2) cs → AllBelow (field_base 2 + 512) cs → all_pass standard_code cs ≡ true → cs ≡ []
unfolding Ascending AllBelow all_pass
top_none [] a b h = refl
top_none (c ∷ cs) a b h =
    let k : ℕ = c - field_base 2 in
    let at : field_base 2 + k ≡ c = omega (arith, a.0) in
    absurd (clash (both_true (standard_code c) _ h).0 (rw at at (standard_names_lem.top k (omega (arith, a.0)) (omega (arith, b.0)))))

-- positions of which none is above
all_below : (n : ℕ) (qs : List ℕ) → ((k : ℕ) → n ≤ k → is_in k qs ≡ false) → AllBelow n qs
unfolding AllBelow is_in
all_below n [] h = tt
all_below n (q ∷ qs) h = (low (ltb q n) refl, all_below n qs (λ k g. rest k (h k g) (eqb q k)))
  where
    low : (t : Bool) → ltb q n ≡ t → q < n
    low true e = ltb-true q n e
    low false e = absurd (clash (rw (eq-eqb q q refl)) (h q (ltb-false q n e)))

    rest : (k : ℕ) → pick (eqb q k) true (is_in k qs) ≡ false → (t : Bool) → is_in k qs ≡ false
    rest k e t = go (eqb q k) e
      where
        go : (t : Bool) → pick t true (is_in k qs) ≡ false → is_in k qs ≡ false
        go true f = cc
        go false f = f

-- sixteen that are 0
zeros : (n i : ℕ) → ◌≡◌ {A = ℕ} (get_or (replicate n 0) i 0) 0
zeros zero i = refl
zeros (suc n) zero = refl
zeros (suc n) (suc i) = zeros n i

-- with those of SPar(1) before they are no names yet
module _ (v : ℕ) where
  abbrev none : List ℕ
  none = set (replicate 16 0) 0 v

  none_at : (j : ℕ) → 0 < j → get_or none j 0 ≡ 0
  none_at j h = get_or-set_other (replicate 16 0) 0 j v 0 (λ z. omega arith) ∙ zeros 16 j

  none_learnt : Learnt v [] none
  unfolding is_in
  none_learnt = record {
    size = length-set (replicate 16 0) 0 v ∙ length-replicate {A = ℕ} 16 0;
    few = λ q. rw (none_at (below_at q + 3) (omega arith)) (omega arith);
    spars = get_or-set_same (replicate 16 0) 0 v 0 (omega (arith, length-replicate {A = ℕ} 16 0));
    at = λ q h u. record {
      npar = λ k i s. rw (npars q h (leb q 9), zero-div (2 ^ (k - 1)));
      sub = λ k i s. rw (none_at (below_at q + 3) (omega arith), zero-div (2 ^ (k - 1)));
      low = λ k i s. rw (none_at (below_at q) (omega (arith, below_between q)), zero-div (2 ^ (k - 1)));
    };
  }
    where
      npars : (q : ℕ) → 0 < q → (t : Bool) → pick t (get_or none q 0) 0 ≡ 0
      npars q h true = none_at q h
      npars q h false = refl

module _ (t : List ℕ) (good : good_by standard_code t ≡ true) where
  abbrev e : ℕ
  e = behind 128 t 0

  abbrev start : ℕ
  start = behind 128 t e

  abbrev ss : List ℕ
  ss = numbers 7 128 0 t e

  abbrev codes : List ℕ
  codes = par_codes (field_base 2) ss t start

  -- what is asked of a good field, of that what is needed here
  asked : (length t ≤ 64) × (pars_minimal (announced 7 128 t e) t start ≡ true) × (all_pass standard_code (field_codes (field_base 2) t 0) ≡ true)
  unfolding good_by field_minimal
  asked =
      let a = both_true (leb (length t) most_standard) _ good in
      let b = both_true (is_fine (field_form t 0)) _ a.1 in
      let f = both_true (eqb (field_behind t 0) (length t)) _ b.1 in
      let d = both_true (field_minimal t 0) (all_pass standard_code (field_codes (field_base 2) t 0)) f.1 in
      (omega (arith, leb-true (length t) most_standard a.0), (both_true (tight_at 128 t e) _ (both_true (tight_at 128 t 0) _ d.0).1).1, d.1)

  short : length t ≤ 64
  short = asked.0

  rising : Rising 0 ss
  rising = rising_at t short 7 128 e (omega arith)

  split : (all_pass standard_code (numbers 7 128 (field_base 2) t 0) ≡ true) × (all_pass standard_code codes ≡ true)
  unfolding field_codes rest_codes
  split = pass_split standard_code (numbers 7 128 (field_base 2) t 0) codes asked.2

  codes_are : field_codes (field_base 2) t 0 ≡ codes
  unfolding field_codes rest_codes
  codes_are = let b = numbers_between 7 128 (field_base 2) t 0 (omega arith) short in rw (top_none (numbers 7 128 (field_base 2) t 0) b.0 b.1 split.0)

  -- the positions of SPar(1)
  none_above : (k : ℕ) → 9 < k → is_in k ss ≡ false
  none_above k h = go k h (ltb k 512) refl
    where
      go : (k : ℕ) → 9 < k → (b : Bool) → ltb k 512 ≡ b → is_in k ss ≡ false
      go k h true f = sym (spar_in t short k ss 0 start rising) ∙ pass_none standard_code (field_base 2 + k * of_s) codes split.1 (spars_over k h (ltb-true k 512 f))
      go k h false f = in_over k 512 ss (ltb-false k 512 f) (numbers_between 7 128 0 t e (omega arith) short).1

  small : block_value 7 128 t e < 2 ^ 9
  small = block_small 7 128 t e 9 none_above

  value_is : block_bits 7 128 t e ≡ block_value 7 128 t e
  value_is = mod-eq_of_lt (omega (arith, small))

  own_names : let v = block_bits 7 128 t e in Names (λ c. is_in c (field_codes (field_base 2) t 0)) (pars_put ss t start (none v))
  unfolding AllBelow
  own_names =
      let v = block_bits 7 128 t e in
      let all : Learnt v codes (pars_put ss t start (none v)) = pars_learnt t short v ss 0 start [] (none v) rising asked.1 split.1 tt (none_learnt v) in
      rw codes_are
      (record {
        fit = (all.size, all.few);
        top = λ k h s. pass_none standard_code (field_base 2 + k) codes split.1 (standard_names_lem.top k h s);
        spar = λ q h s.
            let back : q - 1 + 1 ≡ q = omega arith in
            rw all.spars (ap (λ (z : ℕ). odd (z / 2 ^ (q - 1))) value_is ∙ rw back at (block_bit 7 128 t e (q - 1)) ∙ sym (spar_in t short q ss 0 start rising));
        npar = λ q k h s. (all.at q h s).npar k;
        sub = λ q k h s. (all.at q h s).sub k;
        low = λ q k h s. (all.at q h s).low k;
      })

  -- as the code finds the places
  module _ {p q v : ℕ} (a : p ≡ behind 128 t 0) (b : q ≡ behind 128 t p) (h : v ≡ block_bits 7 128 t p) where
    pub names_are : {n m : List ℕ} → n ≡ replicate 16 0 → m ≡ pars_put (numbers 7 128 0 t p) t q (set n 0 v) → Names (λ c. is_in c (field_codes (field_base 2) t 0)) m
    names_are f g = rw (g, f, h, b, a) own_names

  -- they are few and low
  pub spars_low : {p : ℕ} → p ≡ behind 128 t 0 → (length t ≤ 64) × AllBelow 10 (numbers 7 128 0 t p)
  spars_low a = (short, rw a (all_below 10 ss (λ k h. none_above k h)))
