-- Positions with what they announce, held beside others one after the other: one law for those of SPar(2) and for those of SPar(1). The
-- codes of a position lie below those of the next, so that a code can only be found at its own.
-- Assumes nothing.
use Prim.Native.Nat.{ℕ, ◌+◌, ◌*◌, ◌≤◌, ◌<◌}
use mathlib.Core.Bool.{Bool, true, false}
use mathlib.Core.List.{List, [], ◌∷◌, ◌++◌}
use mathlib.Core.Logic.{⊎_elim}
use mathlib.Core.Path.{◌≡◌, refl, sym, ◌∙◌, subst⁻¹}
use native.Mathlib.Omega.{arith}
use borrow.Author.Tests.{ltb-true, ltb-false, eqb-false}
use lib.Dec.{ltb, eqb}
use Rattle.octets.specs.Places.{pick}
use Rattle.tree.specs.Block.{numbers, behind}
use Rattle.tree.specs.Codes.{sub_codes, subs_behind, group_codes, group_behind, par_codes, pars_behind, of_s}
use Rattle.tree.specs.Order.{AllBelow, AllFrom}
use Rattle.within.specs.Pairing.{from_of, to_of, Compared, BlockWithin, Spars, subs, pars, spars, one_of, OneWithin, AllWithin}
use Rattle.tree.specs.Fields.{is_in, all_in}
use Rattle.tree.specs.Wide.{low_fits}
use Rattle.std.specs.Prelude.{Option, is_some}
use Rattle.tree.specs.declared.Level.{Level}
use Rattle.tree.specs.declared.Level.TheVariants.{Top, Low}
use Rattle.within.specs.declared.Places.{Places}
use Rattle.within.proofs.Apart.{from_lower, from_append, from_ascending, in_none, in_append, in_behind, parts_within}
use Rattle.tree.proofs.Ascending.{low_between, par_between}
use Rattle.tree.proofs.Within.{in_cases, in_first, all_in-is_in, is_in-all_in}

-- codes made of positions one after the other, each read at the place behind the one before; those of a position are from low on,
-- and below low of the next
pub record Stepped (x : Spars) (low : ℕ → ℕ → ℕ) (one : ℕ → ℕ → List ℕ) (next : ℕ → ℕ) : Type 0 where
  pub none : (c e : ℕ) → x.codes c [] e ≡ []
  pub more : (c q : ℕ) (qs : List ℕ) (e : ℕ) → x.codes c (q ∷ qs) e ≡ one e (low c q) ++ x.codes c qs (next e)
  pub stay : (e : ℕ) → x.past [] e ≡ e
  pub pass : (q : ℕ) (qs : List ℕ) (e : ℕ) → x.past (q ∷ qs) e ≡ x.past qs (next e)
  pub from : (y e : ℕ) → AllFrom y (one e y)
  pub below : (c q e : ℕ) → AllBelow (low c (q + 1)) (one e (low c q))
  pub rise : (c q r : ℕ) → q ≤ r → low c q ≤ low c r
  pub apart : (c q : ℕ) → low c q < low c (q + 1)
  pub first : (y e : ℕ) → is_in y (one e y) ≡ true

-- a position of SPar(2) with its NPar(3) block, and one of SPar(1) with its Par(2) block
abbrev pub sub_one : List ℕ → ℕ → ℕ → List ℕ
sub_one l e y = y ∷ numbers 6 64 y l e

abbrev pub par_one : List ℕ → ℕ → ℕ → List ℕ
par_one l e y = y ∷ (numbers 6 64 y l e ++ group_codes y l (behind 64 l e))

module _ (l : List ℕ) (h : low_fits 0 l ≡ true) where
  pub subs_stepped : Stepped (subs l) (λ c q. c + q * 512) (sub_one l) (λ e. behind 64 l e)
  unfolding sub_codes subs_behind AllFrom AllBelow
  subs_stepped = record {
    none = λ c e. refl;
    more = λ c q qs e. refl;
    stay = λ e. refl;
    pass = λ q qs e. refl;
    from = λ y e. (omega arith, from_ascending y y _ (omega arith) (low_between y l e h).0);
    below = λ c q e. let n : c + (q + 1) * 512 ≡ c + q * 512 + 512 = omega arith in subst⁻¹ (λ (b : ℕ). AllBelow b (sub_one l e (c + q * 512))) n (omega arith, (low_between (c + q * 512) l e h).1);
    rise = λ c q r k. omega arith;
    apart = λ c q. omega arith;
    first = λ y e. in_first y _;
  }

  pub pars_stepped : Stepped (pars l) (λ c q. c + q * of_s) (par_one l) (λ e. group_behind l (behind 64 l e))
  unfolding par_codes pars_behind AllFrom AllBelow
  pars_stepped = record {
    none = λ c e. refl;
    more = λ c q qs e. refl;
    stay = λ e. refl;
    pass = λ q qs e. refl;
    from = λ y e. (omega arith, from_ascending y y _ (omega arith) (par_between y l e h).0);
    below = λ c q e. let n : c + (q + 1) * of_s ≡ c + q * of_s + of_s = omega arith in subst⁻¹ (λ (b : ℕ). AllBelow b (par_one l e (c + q * of_s))) n (omega arith, (par_between (c + q * of_s) l e h).1);
    rise = λ c q r k. omega arith;
    apart = λ c q. omega arith;
    first = λ y e. in_first y _;
  }

-- the same by the level of the SPar block
abbrev pub low_at : Level → ℕ → ℕ → ℕ
low_at Top c q = c + q * of_s
low_at Low c q = c + q * 512

abbrev pub one_at : Level → List ℕ → ℕ → ℕ → List ℕ
one_at Top = par_one
one_at Low = sub_one

abbrev pub next_at : Level → List ℕ → ℕ → ℕ
next_at Top l e = group_behind l (behind 64 l e)
next_at Low l e = behind 64 l e

pub spars_stepped : (v : Level) (l : List ℕ) → low_fits 0 l ≡ true → Stepped (spars v l) (low_at v) (one_at v l) (next_at v l)
spars_stepped Top l h = pars_stepped l h
spars_stepped Low l h = subs_stepped l h

-- ---- one position

module _ {x : Spars} {low : ℕ → ℕ → ℕ} {one : ℕ → ℕ → List ℕ} {next : ℕ → ℕ} (s : Stepped x low one next) where
  -- the codes of positions that are not below q
  pub many_from : (c q : ℕ) (qs : List ℕ) (e : ℕ) → AllFrom q qs → AllFrom (low c q) (x.codes c qs e)
  unfolding AllFrom
  many_from c q [] e a = rw (s.none c e) tt
  many_from c q (r ∷ qs) e a =
      rw (s.more c r qs e)
      (from_append (low c q) (one e (low c r)) (x.codes c qs (next e)) (from_lower (low c q) (low c r) (one e (low c r)) (s.rise c q r a.0) (s.from (low c r) e)) (many_from c q qs (next e) a.1))

  -- a position that is set or not, and more behind it
  one_split : (c : ℕ) (b : Bool) (q : ℕ) (qs : List ℕ) (e : ℕ) → x.codes c (one_of b q ++ qs) e ≡ pick b (one e (low c q)) [] ++ x.codes c qs (pick b (next e) e)
  one_split c true q qs e = s.more c q qs e
  one_split c false q qs e = refl

  one_past : (b : Bool) (q : ℕ) (qs : List ℕ) (e : ℕ) → x.past (one_of b q ++ qs) e ≡ x.past qs (pick b (next e) e)
  one_past true q qs e = s.pass q qs e
  one_past false q qs e = refl

  one_below : (c : ℕ) (b : Bool) (q e : ℕ) → AllBelow (low c (q + 1)) (pick b (one e (low c q)) [])
  unfolding AllBelow
  one_below c true q e = s.below c q e
  one_below c false q e = tt

  -- a position has its own code, and no other has it
  code_in : (c q : ℕ) (qs : List ℕ) (e : ℕ) → is_in q qs ≡ true → is_in (low c q) (x.codes c qs e) ≡ true
  unfolding is_in
  code_in c q [] e h = cc
  code_in c q (r ∷ qs) e h =
      rw (s.more c r qs e, in_append (low c q) (one e (low c r)) (x.codes c qs (next e)))
      (⊎_elim (λ (n : r ≡ q). rw (n, s.first (low c q) e)) (λ (n : is_in q qs ≡ true). rw (code_in c q qs (next e) n) (either (is_in (low c q) (one e (low c r))))) (in_cases q r qs h))
    where
      either : (t : Bool) → pick t true true ≡ true
      either true = refl
      either false = refl

  code_own : (c q : ℕ) (qs : List ℕ) (e : ℕ) → is_in (low c q) (x.codes c qs e) ≡ true → is_in q qs ≡ true
  unfolding is_in
  code_own c q [] e h = let n = rw (s.none c e) at h in cc
  code_own c q (r ∷ qs) e h = go (eqb r q) refl (code_own c q qs (next e))
    where
      behind_it : (r ≡ q → ⊥) → (t : Bool) → ltb r q ≡ t → is_in (low c q) (one e (low c r) ++ x.codes c qs (next e)) ≡ is_in (low c q) (x.codes c qs (next e))
      behind_it n true i = in_behind (low c q) (low c (r + 1)) (one e (low c r)) _ (s.rise c (r + 1) q (omega (arith, ltb-true r q i))) (s.below c r e)
      behind_it n false i =
          let over : q + 1 ≤ r = omega (arith, ltb-false r q i) in
          in_append (low c q) (one e (low c r)) _ ∙ rw (in_none (low c q) (low c r) (one e (low c r)) (omega (arith, s.apart c q, s.rise c (q + 1) r over)) (s.from (low c r) e))

      go : (t : Bool) → eqb r q ≡ t → (is_in (low c q) (x.codes c qs (next e)) ≡ true → is_in q qs ≡ true) → pick t true (is_in q qs) ≡ true
      go true i rest = refl
      go false i rest = rest (sym (behind_it (eqb-false r q i) (ltb r q) refl) ∙ rw (s.more c r qs e) at h)

module _ {x y : Spars} {low : ℕ → ℕ → ℕ} {one one' : ℕ → ℕ → List ℕ} {next next' : ℕ → ℕ} (s : Stepped x low one next) (u : Stepped y low one' next') (a : Places) where
  -- what is asked of a position, and of what is behind it, is asked of each for itself
  one_parts : (c q : ℕ) (mine : Bool) (qs qs' : List ℕ) → AllFrom (q + 1) qs → AllFrom (q + 1) qs'
      → all_in (x.codes c (one_of mine q ++ qs) a.from) (y.codes c (q ∷ qs') a.to)
      ≡ pick (all_in (pick mine (one a.from (low c q)) []) (one' a.to (low c q)))
      (all_in (x.codes c qs (pick mine (next a.from) a.from)) (y.codes c qs' (next' a.to))) false
  one_parts c q mine qs qs' f g =
      rw (one_split s c mine q qs a.from, u.more c q qs' a.to)
      (parts_within (low c (q + 1)) _ _ _ _ (one_below s c mine q a.from) (many_from s c (q + 1) qs _ f) (u.below c q a.to) (many_from u c (q + 1) qs' _ g))

  -- what it announces was compared
  one_within : {mine : Bool} {r : Option Places} → Compared (λ c. pick mine (one a.from c) []) (one' a.to) (pick mine (next a.from) a.from) (next' a.to) r → OneWithin x y mine a r
  one_within {mine = mine} z = record {
    found = λ n q qs qs' f g o v. record {
      told = λ c. v.told c ∙ sym (one_parts c q mine qs qs' f g ∙ rw (sym (z.told (low c q)), n, sym (z.from n), sym (z.to n)));
      from = λ i. v.from i ∙ rw (z.from n) (sym (one_past s mine q qs a.from));
      to = λ i. v.to i ∙ rw (z.to n) (sym (u.pass q qs' a.to));
    };
    lost = λ n q qs qs' f g. record { told = λ c. n ∙ sym (one_parts c q mine qs qs' f g ∙ rw (sym (z.told (low c q)), n)); from = λ i. cc; to = λ i. cc };
  }

  -- only the second has it set, or both have
  pub one_passed : {mine : Bool} → mine ≡ false → {r : Option Places} → is_some r ≡ true → from_of r ≡ a.from → to_of r ≡ next' a.to → OneWithin x y mine a r
  unfolding all_in
  one_passed h k n m = rw h (one_within {mine = false} (record { told = λ c. k; from = λ v. n; to = λ v. m }))

  pub one_both : {mine : Bool} → mine ≡ true → {r : Option Places} → Compared (one a.from) (one' a.to) (next a.from) (next' a.to) r → OneWithin x y mine a r
  one_both h z = rw h (one_within {mine = true} z)

-- a position of the first alone has a code that the second has not
module _ {x y : Spars} {low : ℕ → ℕ → ℕ} {one one' : ℕ → ℕ → List ℕ} {next next' : ℕ → ℕ} (s : Stepped x low one next) (u : Stepped y low one' next') where
  codes_lost : (c : ℕ) (qs qs' : List ℕ) (e k : ℕ) → all_in qs qs' ≡ false → all_in (x.codes c qs e) (y.codes c qs' k) ≡ false
  codes_lost c qs qs' e k h = go (all_in (x.codes c qs e) (y.codes c qs' k)) refl
    where
      go : (t : Bool) → all_in (x.codes c qs e) (y.codes c qs' k) ≡ t → t ≡ false
      go true i =
          let n : all_in qs qs' ≡ true = is_in-all_in qs qs' (λ q v. code_own u c q qs' k (all_in-is_in (low c q) (x.codes c qs e) (y.codes c qs' k) i (code_in s c q qs e v))) in
          cc
      go false i = refl

  pub all_lost : (w m : ℕ) (l : List ℕ) (e : ℕ) (t : List ℕ) (k : ℕ) {r : Option Places} → BlockWithin w m l e t k r → is_some r ≡ false → AllWithin x y w m l e t k r
  all_lost w m l e t k b n = record { told = λ c. n ∙ sym (codes_lost c _ _ _ _ (sym (b.told 0) ∙ n)); from = λ v. cc; to = λ v. cc }
