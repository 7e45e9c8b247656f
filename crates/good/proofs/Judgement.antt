-- The main law: a field is well-formed and minimal with codes that pass a test only exactly if it is judged good, block by block, by the
-- names of that test.
-- Assumes nothing.
use Prim.Native.Nat.{ℕ, ◌+◌, ◌-◌, ◌*◌, ◌/◌, ◌%◌, ◌^◌, ◌≤◌, ◌<◌}
use mathlib.Core.Bool.{Bool, true, false, not}
use mathlib.Core.List.{List, [], ◌∷◌, ◌++◌}
use mathlib.Core.Logic.{⊎_elim}
use mathlib.Core.Path.{◌≡◌, refl, sym, ap, ◌∙◌}
use native.Mathlib.Nat.{div-eq_of_lt}
use native.Mathlib.Omega.{arith}
use lib.Dec.{eqb}
use lib.ListN.{length, get_or, drop}
use lib.Pow.{pow_mono}
use Rattle.octets.specs.Bits.{num, odd}
use Rattle.octets.specs.Places.{pick, both}
use Rattle.tree.specs.Block.{numbers, behind, announced, ended}
use Rattle.tree.specs.Codes.{field_base, sub_codes, group_codes, group_behind, par_codes, rest_codes, field_codes, of_t, of_s}
use Rattle.tree.specs.Form.{Form, Fine, Early, Wrong, Left, BadLength, is_fine, and_then, last_form, form_at, subs_form, group_form, pars_form, rest_form, field_form}
use Rattle.meaning.specs.Minimal.{tight_at, subs_minimal, group_minimal, pars_minimal, field_minimal}
use Rattle.tree.proofs.Numbering.{numbers_shift, shift}
use Rattle.octets.proofs.Laws.{both_true}
use Rattle.meaning.proofs.Reading.{rising_at}
use Rattle.meaning.proofs.Trees.{Rising}
use Rattle.good.specs.Goodness.{spars_in, npars_in, subs_in, lows_in, Names, all_named, good_block, good_sub, good_group, good_par, good_pars, good_rest, good_blocks, all_pass}
use Rattle.good.proofs.Allowed.{both_none, both_assoc}
use Rattle.good.proofs.Grouping.{sub_few, sub_set}

-- codes of two lists all pass if those of each do
all_append : (P : ℕ → Bool) (a r : List ℕ) → all_pass P (a ++ r) ≡ both (all_pass P a) (all_pass P r)
unfolding all_pass
all_append P [] r = refl
all_append P (c ∷ a) r = rw (all_append P a r) (sym (both_assoc (P c) (all_pass P a) (all_pass P r)))

pub pass_split : (P : ℕ → Bool) (a r : List ℕ) → all_pass P (a ++ r) ≡ true → (all_pass P a ≡ true) × (all_pass P r ≡ true)
pass_split P a r h = both_true (all_pass P a) (all_pass P r) (sym (all_append P a r) ∙ h)

-- the codes of an NPar block pass exactly if its positions are bits of a number, where that number has a bit for each that does
shift_named : (P : ℕ → Bool) (x c lo : ℕ) (qs : List ℕ) → ((k : ℕ) → 0 < k → k < 512 → odd (x / 2 ^ (k - 1)) ≡ P (c + k)) → Rising lo qs → all_pass P (shift c qs) ≡ all_named x qs
unfolding Rising all_pass all_named
shift_named P x c lo [] a r = refl
shift_named P x c lo (q ∷ qs) a r = rw (a q (omega (arith, r.0)) (omega (arith, r.1)), shift_named P x c q qs a r.2)

-- those of an SPar(2) block only if they are
subs_named : (P : ℕ → Bool) (x c lo : ℕ) (ts l : List ℕ) (e : ℕ) → ((t : ℕ) → 0 < t → t < 512 → odd (x / 2 ^ (t - 1)) ≡ P (c + t * of_t)) → Rising lo ts
    → all_pass P (sub_codes c ts l e) ≡ true → all_named x ts ≡ true
unfolding Rising all_pass all_named sub_codes
subs_named P x c lo [] l e a r h = refl
subs_named P x c lo (t ∷ ts) l e a r h =
    let d = c + t * of_t in
    let p = both_true (P d) _ h in
    let q = pass_split P (numbers 6 64 d l e) (sub_codes c ts l (behind 64 l e)) p.1 in
    rw (a t (omega (arith, r.0)) (omega (arith, r.1)), p.0) (subs_named P x c t ts l (behind 64 l e) a r.2 q.1)

-- two parts are well-formed if each is
and_fine : (f x : Form) → is_fine (and_then f x) ≡ both (is_fine f) (is_fine x)
and_fine Fine x = refl
and_fine (Early i) x = refl
and_fine (Wrong i) x = refl
and_fine (Left i) x = refl
and_fine (BadLength i) x = refl

-- a single NPar(3) block is, by bit 8 before it and in its last octet
one_fine : (l : List ℕ) (e : ℕ) → is_fine (subs_form 1 l e) ≡ both (not (ended l e)) (both (is_fine (form_at 64 l e)) (ended l (behind 64 l e)))
unfolding subs_form
one_fine l e = and_fine (last_form true (ended l e) e) _ ∙ rw (and_fine (form_at 64 l e) (last_form false (ended l (behind 64 l e)) (behind 64 l e))) (go (ended l e) (ended l (behind 64 l e)))
  where
    go : (t u : Bool) → both (is_fine (last_form true t e)) (both (is_fine (form_at 64 l e)) (is_fine (last_form false u (behind 64 l e)))) ≡ both (not t) (both (is_fine (form_at 64 l e)) u)
    go true u = refl
    go false true = refl
    go false false = refl

-- the pieces in the order of each definition: of SPar(2) with its only NPar(3) block, of Par(2) blocks, of a field
only_sub : (f t u g v n w : Bool) → both (both f (both u (both g w))) (both (both t (both v true)) (both n true)) ≡ both (both f (both t true)) (both u (both (both g (both v n)) w))
only_sub false t u g v n w = refl
only_sub true false u g v n w = both_none (both u (both g w))
only_sub true true false g v n w = refl
only_sub true true true false v n w = refl
only_sub true true true true false n w = both_none w
only_sub true true true true true false w = both_none w
only_sub true true true true true true true = refl
only_sub true true true true true true false = refl

par_pieces : (f t n k g h s o p q a r : Bool) → both o (both p q) ≡ both a r
    → both (both f (both k o)) (both (both t (both g p)) (both s (both (both n h) q))) ≡ both (both s a) (both (both (both f (both t n)) (both k (both g h))) r)
par_pieces false t n k g h s o p q a r e = sym (both_none (both s a))
par_pieces true false n k g h s o p q a r e = rw (both_none (both k o)) (sym (both_none (both s a)))
par_pieces true true false k g h s o p q a r e = rw (both_none s, both_none (both g p), both_none (both k o)) (sym (both_none (both s a)))
par_pieces true true true false g h s o p q a r e = sym (both_none (both s a))
par_pieces true true true true false h s o p q a r e = rw (both_none o) (sym (both_none (both s a)))
par_pieces true true true true true false s o p q a r e = rw (both_none s, both_none p, both_none o) (sym (both_none (both s a)))
par_pieces true true true true true true true o p q a r e = e
par_pieces true true true true true true false o p q a r e = rw (both_none p) (both_none o)

field_pieces : (f k t g n o p q a r : Bool) → both o (both p q) ≡ both a r → both (both f (both k o)) (both (both t (both g p)) (both n q)) ≡ both (both f (both t n)) (both (both k (both g a)) r)
field_pieces false k t g n o p q a r e = refl
field_pieces true k false g n o p q a r e = both_none (both k o)
field_pieces true k true g false o p q a r e = rw (both_none (both g p)) (both_none (both k o))
field_pieces true false true g true o p q a r e = refl
field_pieces true true true false true o p q a r e = both_none o
field_pieces true true true true true o p q a r e = e

module _ {P : ℕ → Bool} {n : List ℕ} (names : Names P n) (l : List ℕ) (short : length l ≤ 64) where
  npars_named : (x w m c e : ℕ) → w ≤ 7 → ((k : ℕ) → 0 < k → k < 512 → odd (x / 2 ^ (k - 1)) ≡ P (c + k)) → all_pass P (numbers w m c l e) ≡ all_named x (numbers w m 0 l e)
  npars_named x w m c e h a = ap (all_pass P) (numbers_shift w m c (drop e l)) ∙ shift_named P x c 0 (numbers w m 0 l e) a (rising_at l short w m e h)

  -- SPar(2) and what it announces
  lower_judged : (q e : ℕ) → 0 < q → q < 512 →
      let c = field_base 2 + q * of_s in
      let k = announced 6 64 l e in
      let x = behind 64 l e in
      both (both (is_fine (form_at 64 l e)) (is_fine (subs_form k l x)))
      (both (both (not (eqb k 0)) (both (tight_at 64 l e) (subs_minimal k l x))) (all_pass P (sub_codes c (numbers 6 64 0 l e) l x)))
      ≡ both (not (eqb (get_or l e 0 % 64) 0)) (both (good_block 6 64 (subs_in n q) l e) (good_sub (lows_in n q) l x))
  unfolding subs_form subs_minimal sub_codes all_pass all_named good_sub
  lower_judged q e a u = go (all_named (subs_in n q) ts) refl (all_pass P (sub_codes c ts l x)) refl
    where
      c : ℕ
      c = field_base 2 + q * of_s

      x : ℕ
      x = behind 64 l e

      ts : List ℕ
      ts = numbers 6 64 0 l e

      few : subs_in n q < 2
      few = names.fit.1 q

      F : Bool
      F = is_fine (form_at 64 l e)

      T : Bool
      T = tight_at 64 l e

      N : Bool
      N = all_named (lows_in n q) (numbers 6 64 0 l x)

      G : Bool
      G = good_sub (lows_in n q) l x

      go : (v : Bool) → all_named (subs_in n q) ts ≡ v → (s : Bool) → all_pass P (sub_codes c ts l x) ≡ s
          → both (both F (is_fine (subs_form (length ts) l x))) (both (both (not (eqb (length ts) 0)) (both T (subs_minimal (length ts) l x))) s)
          ≡ both (not (eqb (get_or l e 0 % 64) 0)) (both (both F (both T v)) G)
      go true f s h =
          rw (sub_set (subs_in n q) l e few f)
          (⊎_elim (λ (z : ts ≡ []). rw z (both_none (both F (is_fine (subs_form 0 l x))))) (λ (z : ts ≡ 1 ∷ []). rw (← h, z) (first z)) (sub_few (subs_in n q) l e few f))
        where
          first : ts ≡ 1 ∷ []
              → both (both F (is_fine (subs_form 1 l x))) (both (both T (both (tight_at 64 l x) true)) (both (P (c + 1 * of_t)) (all_pass P (numbers 6 64 (c + 1 * of_t) l x ++ []))))
              ≡ both (both F (both T true)) G
          first z =
              let named : P (c + 1 * of_t) ≡ true = sym (names.sub q 1 a u (omega arith) (omega arith)) ∙ (both_true _ true (rw z at f)).0 in
              let next : c + 1 * of_t ≡ c + of_t = omega arith in
              rw (named, next, all_append P (numbers 6 64 (c + of_t) l x) [], npars_named (lows_in n q) 6 64 (c + of_t) x (omega arith) (λ k. names.low q k a u), one_fine l x)
              (only_sub F T (not (ended l x)) (is_fine (form_at 64 l x)) (tight_at 64 l x) N (ended l (behind 64 l x)))
      go false f true h = absurd (omega (arith, ap num (sym (subs_named P (subs_in n q) c 0 ts l x (λ t. names.sub q t a u) (rising_at l short 6 64 e (omega arith)) h) ∙ f)))
      go false f false h =
          rw (
            both_none T,
            both_none F,
            both_none (both (not (eqb (length ts) 0)) (both T (subs_minimal (length ts) l x))),
            both_none (both F (is_fine (subs_form (length ts) l x))),
          )
          (sym (both_none (not (eqb (get_or l e 0 % 64) 0))))

  group_judged_lem : (q e : ℕ) → 0 < q → q < 512
      → both (is_fine (group_form l e)) (both (group_minimal l e) (all_pass P (group_codes (field_base 2 + q * of_s) l e))) ≡ good_group n q l e
  unfolding group_form group_minimal group_codes good_group all_pass
  group_judged_lem q e a u =
      let k = announced 6 64 l e in
      let x = behind 64 l e in
      go (form_at 64 l e) (subs_form k l x) (both (not (eqb k 0)) (both (tight_at 64 l e) (subs_minimal k l x))) (sub_codes (field_base 2 + q * of_s) (numbers 6 64 0 l e) l x) (ended l e) (lower_judged q e a u)
    where
      go : (f g : Form) (m : Bool) (cs : List ℕ) {r : Bool} (t : Bool) → both (both (is_fine f) (is_fine g)) (both m (all_pass P cs)) ≡ r
          → both (is_fine (pick t Fine (and_then f g))) (both (pick t true m) (all_pass P (pick t [] cs))) ≡ pick t true r
      go f g m cs true h = refl
      go f g m cs false h = rw (and_fine f g) h

  pars_judged_lem : (lo : ℕ) (ss : List ℕ) (e : ℕ) → Rising lo ss
      → both (is_fine (pars_form (length ss) l e)) (both (pars_minimal (length ss) l e) (all_pass P (par_codes (field_base 2) ss l e))) ≡ both (all_named (spars_in n) ss) (good_pars n ss l e)
  unfolding Rising pars_form pars_minimal par_codes good_pars good_par all_pass all_named
  pars_judged_lem lo [] e r = refl
  pars_judged_lem lo (s ∷ ss) e r =
      let c = field_base 2 + s * of_s in
      let x = behind 64 l e in
      let y = group_behind l x in
      let N = numbers 6 64 c l e in
      let some : 0 < s = omega (arith, r.0) in
      let most : s < 512 = omega (arith, r.1) in
      rw (
        and_fine (form_at 64 l e) (and_then (group_form l x) (pars_form (length ss) l y)),
        and_fine (group_form l x) (pars_form (length ss) l y),
        all_append P (N ++ group_codes c l x) (par_codes (field_base 2) ss l y),
        all_append P N (group_codes c l x),
        npars_named (npars_in n s) 6 64 c e (omega arith) (λ k. names.npar s k some most),
        names.spar s some most,
        ← (group_judged_lem s x some most),
      )
      (par_pieces (is_fine (form_at 64 l e)) (tight_at 64 l e) (all_named (npars_in n s) (numbers 6 64 0 l e)) (is_fine (group_form l x)) (group_minimal l x) (all_pass P (group_codes c l x)) (P c)
      _ _ _ _ _ (pars_judged_lem s ss y r.2))

  -- no bit of 0 is set
  none_named : (k : ℕ) → 0 < k → k < 512 → odd (0 / 2 ^ (k - 1)) ≡ P (field_base 2 + k)
  none_named k a u = rw (div-eq_of_lt {n = 0} {m = 2 ^ (k - 1)} (omega (arith, pow_mono {i = 0} {j = k - 1} (omega arith)))) (sym (names.top k a u))

  -- the field
  pub field_judged_lem : both (is_fine (field_form l 0)) (both (field_minimal l 0) (all_pass P (field_codes (field_base 2) l 0))) ≡ good_blocks n l
  unfolding field_form rest_form field_minimal field_codes rest_codes good_blocks good_rest
  field_judged_lem =
      let b = field_base 2 in
      let x = behind 128 l 0 in
      let y = behind 128 l x in
      let ss = numbers 7 128 0 l x in
      rw (
        and_fine (form_at 128 l 0) (and_then (form_at 128 l x) (pars_form (length ss) l y)),
        and_fine (form_at 128 l x) (pars_form (length ss) l y),
        all_append P (numbers 7 128 b l 0) (par_codes b ss l y),
        npars_named 0 7 128 b 0 (omega arith) none_named,
      )
      (field_pieces (is_fine (form_at 128 l 0)) (is_fine (form_at 128 l x)) (tight_at 128 l 0) (tight_at 128 l x) (all_named 0 (numbers 7 128 0 l 0))
      _ _ _ _ _ (pars_judged_lem 0 ss y (rising_at l short 7 128 x (omega arith))))
