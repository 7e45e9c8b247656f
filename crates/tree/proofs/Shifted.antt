-- What a field is depends only on the octets from its place on: it has the codes and the form that it would have by itself, at place 0,
-- and ends as far behind its place. So fields from which on the octets are the same are the same.
-- Assumes nothing.
use Prim.Native.Nat.{ℕ, zero, suc, ◌+◌, ◌-◌, ◌*◌, ◌/◌, ◌≤◌, ◌<◌}
use mathlib.Core.Bool.{Bool, true, false}
use mathlib.Core.List.{List, [], ◌∷◌}
use mathlib.Core.Path.{◌≡◌, refl, sym, ap, ◌∙◌}
use native.Mathlib.Omega.{arith}
use lib.Dec.{ltb}
use lib.ListN.{length, get_or, drop}
use lib.Seq.{drop-drop, get_or-drop}
use Rattle.octets.specs.Bits.{odd}
use Rattle.octets.specs.Places.{pick}
use Rattle.tree.specs.Block.{block_numbers, block_end, numbers, behind, announced, ended}
use Rattle.tree.specs.Codes.{sub_codes, subs_behind, group_codes, group_behind, par_codes, pars_behind, rest_codes, rest_behind, field_codes, field_behind, of_s}
use Rattle.tree.specs.Form.{and_then, is_fine, block_form, form_at, last_form, subs_form, group_form, pars_form, rest_form, field_form}
use Rattle.tree.specs.Form.{Form, Fine, Early, Wrong, Left, BadLength}
use Rattle.tree.proofs.Forms.{end_above}

-- ---- whether a form is fine

-- two parts are where each is
and_fine : (f x : Form) → is_fine (and_then f x) ≡ pick (is_fine f) (is_fine x) false
and_fine Fine x = refl
and_fine (Early i) x = refl
and_fine (Wrong i) x = refl
and_fine (Left i) x = refl
and_fine (BadLength i) x = refl

-- bit 8 is right at one place where it is at another
last_fine : (follows t : Bool) (i j : ℕ) → is_fine (last_form follows t i) ≡ is_fine (last_form follows t j)
last_fine true true i j = refl
last_fine true false i j = refl
last_fine false true i j = refl
last_fine false false i j = refl

-- and so is a block
block_fine : (m i j : ℕ) (l : List ℕ) → is_fine (block_form m i l) ≡ is_fine (block_form m j l)
unfolding block_form
block_fine m i j [] = refl
block_fine m i j (o ∷ l) = go (ltb o m) (odd (o / m)) (block_fine m (i + 1) (j + 1) l)
  where
    go : (t u : Bool) → is_fine (block_form m (i + 1) l) ≡ is_fine (block_form m (j + 1) l)
        → is_fine (pick t (block_form m (i + 1) l) (pick u Fine (Wrong i))) ≡ is_fine (pick t (block_form m (j + 1) l) (pick u Fine (Wrong j)))
    go true u h = h
    go false true h = refl
    go false false h = refl

-- ---- where blocks end

-- a block that begins e later ends e later
end_later : (e m i : ℕ) (l : List ℕ) → block_end m (e + i) l ≡ e + block_end m i l
unfolding block_end
end_later e m i [] = refl
end_later e m i (o ∷ l) =
    let z : e + i + 1 ≡ e + (i + 1) = omega arith in
    rw (z, end_later e m (i + 1) l) (go (ltb o m))
  where
    go : (t : Bool) → pick t (e + block_end m (i + 1) l) (e + (i + 1)) ≡ e + pick t (block_end m (i + 1) l) (i + 1)
    go true = refl
    go false = refl

-- blocks below level 1 end no earlier than they begin
subs_above : (k : ℕ) (l : List ℕ) (e : ℕ) → e ≤ subs_behind k l e
unfolding subs_behind
subs_above zero l e = omega arith
subs_above (suc k) l e = omega (arith, end_above 64 e (drop e l), subs_above k l (behind 64 l e))

-- nor does what stands in a Par(2) block behind its NPar(2)
group_above : (l : List ℕ) (e : ℕ) → e ≤ group_behind l e
unfolding group_behind
group_above l e = go (ended l e)
  where
    go : (t : Bool) → e ≤ pick t e (subs_behind (announced 6 64 l e) l (behind 64 l e))
    go true = omega arith
    go false = omega (arith, end_above 64 e (drop e l), subs_above (announced 6 64 l e) l (behind 64 l e))

-- a block in which something is set does not end at place 0
some_behind : (w m p i : ℕ) (l : List ℕ) → 0 < length (block_numbers w m p l) → 0 < block_end m i l
unfolding block_numbers block_end
some_behind w m p i [] h = absurd (omega arith)
some_behind w m p i (o ∷ l) h = go (ltb o m) (end_above m (i + 1) l)
  where
    go : (t : Bool) → i + 1 ≤ block_end m (i + 1) l → 0 < pick t (block_end m (i + 1) l) (i + 1)
    go true k = omega arith
    go false k = omega arith

-- ---- the octets r from place e of l on, by themselves

module _ (l r : List ℕ) (e : ℕ) (d : drop e l ≡ r) where
  octets_moved : (a : ℕ) → drop (e + a) l ≡ drop a r
  octets_moved a = sym (drop-drop a e l) ∙ ap (drop a) d

  behind_moved : (m a : ℕ) → behind m l (e + a) ≡ e + behind m r a
  behind_moved m a = rw (octets_moved a) (end_later e m a (drop a r))

  form_moved : (m a : ℕ) → is_fine (form_at m l (e + a)) ≡ is_fine (form_at m r a)
  form_moved m a = rw (octets_moved a) (block_fine m (e + a) a (drop a r))

  -- the octet before a place is one of them where the place is behind at least one
  ended_moved : (a : ℕ) → 0 < a → ended l (e + a) ≡ ended r a
  ended_moved a p =
      let z : e + a - 1 ≡ e + (a - 1) = omega arith in
      let same : get_or l (e + (a - 1)) 0 ≡ get_or r (a - 1) 0 = sym (get_or-drop e l (a - 1) 0) ∙ ap (λ (x : List ℕ). get_or x (a - 1) 0) d in
      rw (z, same)

  -- NPar(3) blocks
  subs_codes_lem : (c : ℕ) (ts : List ℕ) (a : ℕ) → sub_codes c ts l (e + a) ≡ sub_codes c ts r a
  unfolding sub_codes
  subs_codes_lem c [] a = refl
  subs_codes_lem c (t ∷ ts) a = rw (behind_moved 64 a, octets_moved a, subs_codes_lem c ts (behind 64 r a))

  subs_behind_lem : (k a : ℕ) → subs_behind k l (e + a) ≡ e + subs_behind k r a
  unfolding subs_behind
  subs_behind_lem zero a = refl
  subs_behind_lem (suc k) a = rw (behind_moved 64 a) (subs_behind_lem k (behind 64 r a))

  subs_fine : (k a : ℕ) → 0 < a → is_fine (subs_form k l (e + a)) ≡ is_fine (subs_form k r a)
  unfolding subs_form
  subs_fine zero a p = rw (ended_moved a p) (last_fine false (ended r a) (e + a) a)
  subs_fine (suc k) a p =
      simp (and_fine, ended_moved a p, form_moved 64 a, behind_moved 64 a, last_fine true (ended r a) (e + a) a, subs_fine k (behind 64 r a) (omega (arith, end_above 64 a (drop a r))))

  -- what stands in a Par(2) block behind its NPar(2)
  group_codes_lem : (c a : ℕ) → 0 < a → group_codes c l (e + a) ≡ group_codes c r a
  unfolding group_codes
  group_codes_lem c a p = rw (ended_moved a p, behind_moved 64 a, octets_moved a, subs_codes_lem c (numbers 6 64 0 r a) (behind 64 r a))

  group_behind_lem : (a : ℕ) → 0 < a → group_behind l (e + a) ≡ e + group_behind r a
  unfolding group_behind
  group_behind_lem a p = rw (ended_moved a p, behind_moved 64 a, octets_moved a, subs_behind_lem (announced 6 64 r a) (behind 64 r a)) (go (ended r a))
    where
      go : (t : Bool) → pick t (e + a) (e + subs_behind (announced 6 64 r a) r (behind 64 r a)) ≡ e + pick t a (subs_behind (announced 6 64 r a) r (behind 64 r a))
      go true = refl
      go false = refl

  group_fine : (a : ℕ) → 0 < a → is_fine (group_form l (e + a)) ≡ is_fine (group_form r a)
  unfolding group_form
  group_fine a p = rw (ended_moved a p) (go (ended r a))
    where
      x : ℕ
      x = behind 64 r a

      go : (t : Bool)
          → is_fine (pick t Fine (and_then (form_at 64 l (e + a)) (subs_form (announced 6 64 l (e + a)) l (behind 64 l (e + a)))))
          ≡ is_fine (pick t Fine (and_then (form_at 64 r a) (subs_form (announced 6 64 r a) r x)))
      go true = refl
      go false =
          simp (and_fine, octets_moved a, block_fine 64 (e + a) a (drop a r), end_later e 64 a (drop a r), subs_fine (announced 6 64 r a) x (omega (arith, end_above 64 a (drop a r))))

  -- Par(2) blocks: where there is one, its place is behind at least one octet
  pars_codes_lem : (b : ℕ) (ss : List ℕ) (a : ℕ) → (0 < length ss → 0 < a) → par_codes b ss l (e + a) ≡ par_codes b ss r a
  unfolding par_codes
  pars_codes_lem b [] a h = refl
  pars_codes_lem b (s ∷ ss) a h =
      let x = behind 64 r a in
      let p : 0 < x = omega (arith, h (omega arith), end_above 64 a (drop a r)) in
      rw (behind_moved 64 a, octets_moved a, group_codes_lem (b + s * of_s) x p, group_behind_lem x p, pars_codes_lem b ss (group_behind r x) (λ k. omega (arith, group_above r x)))

  pars_behind_lem : (k a : ℕ) → (0 < k → 0 < a) → pars_behind k l (e + a) ≡ e + pars_behind k r a
  unfolding pars_behind
  pars_behind_lem zero a h = refl
  pars_behind_lem (suc k) a h =
      let x = behind 64 r a in
      let p : 0 < x = omega (arith, h (omega arith), end_above 64 a (drop a r)) in
      rw (behind_moved 64 a, group_behind_lem x p) (pars_behind_lem k (group_behind r x) (λ n. omega (arith, group_above r x)))

  pars_fine : (k a : ℕ) → (0 < k → 0 < a) → is_fine (pars_form k l (e + a)) ≡ is_fine (pars_form k r a)
  unfolding pars_form
  pars_fine zero a h = refl
  pars_fine (suc k) a h =
      let x = behind 64 r a in
      let p : 0 < x = omega (arith, h (omega arith), end_above 64 a (drop a r)) in
      simp (and_fine, form_moved 64 a, behind_moved 64 a, group_fine x p, group_behind_lem x p, pars_fine k (group_behind r x) (λ n. omega (arith, group_above r x)))

  -- the field
  field_codes_lem : (b a : ℕ) → field_codes b l (e + a) ≡ field_codes b r a
  unfolding field_codes rest_codes
  field_codes_lem b a =
      let x = behind 128 r a in
      let y = behind 128 r x in
      rw (behind_moved 128 a, behind_moved 128 x, octets_moved a, octets_moved x, pars_codes_lem b (numbers 7 128 0 r x) y (some_behind 7 128 0 x (drop x r)))

  field_behind_lem : (a : ℕ) → field_behind l (e + a) ≡ e + field_behind r a
  unfolding field_behind rest_behind
  field_behind_lem a =
      let x = behind 128 r a in
      rw (behind_moved 128 a, behind_moved 128 x, octets_moved x) (pars_behind_lem (announced 7 128 r x) (behind 128 r x) (some_behind 7 128 0 x (drop x r)))

  field_fine : (a : ℕ) → is_fine (field_form l (e + a)) ≡ is_fine (field_form r a)
  unfolding field_form rest_form
  field_fine a =
      let x = behind 128 r a in
      simp (and_fine, form_moved 128 a, behind_moved 128 a, octets_moved x, block_fine 128 (e + x) x (drop x r), end_later e 128 x (drop x r), pars_fine (announced 7 128 r x) (behind 128 r x) (some_behind 7 128 0 x (drop x r)))

  -- how far behind its place it ends is told by its octets
  behind_alone : field_behind l e ≡ e + field_behind r 0
  behind_alone = let here : e + 0 ≡ e = omega arith in rw here at (field_behind_lem 0)

-- ---- octets that are the same from two places on

module _ (l l' : List ℕ) (e e' : ℕ) (d : drop e l ≡ drop e' l') where
  here : e + 0 ≡ e
  here = omega arith

  there : e' + 0 ≡ e'
  there = omega arith

  -- the fields there have the same codes
  pub same_codes : (b : ℕ) → field_codes b l e ≡ field_codes b l' e'
  same_codes b = rw (here, there) at (field_codes_lem l (drop e l) e refl b 0 ∙ sym (field_codes_lem l' (drop e l) e' (sym d) b 0))

  -- both are well-formed or neither is
  pub same_fine : is_fine (field_form l e) ≡ is_fine (field_form l' e')
  same_fine = rw (here, there) at (field_fine l (drop e l) e refl 0 ∙ sym (field_fine l' (drop e l) e' (sym d) 0))

  -- they end as far behind
  pub same_behind : field_behind l e + e' ≡ field_behind l' e' + e
  same_behind = omega (arith, behind_alone l (drop e l) e refl, behind_alone l' (drop e l) e' (sym d))

  -- and the same octets stand there
  pub same_rest : drop (field_behind l e) l ≡ drop (field_behind l' e') l'
  same_rest =
      let n = field_behind (drop e l) 0 in
      rw (behind_alone l (drop e l) e refl, behind_alone l' (drop e l) e' (sym d)) (octets_moved l (drop e l) e refl n ∙ sym (octets_moved l' (drop e l) e' (sym d) n))
