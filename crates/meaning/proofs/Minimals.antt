-- A well-formed field is minimal exactly if it is what is written of its own tree, and it is never shorter.
-- Assumes nothing.
use Prim.Native.Nat.{ℕ, ◌+◌, ◌*◌, ◌-◌, ◌/◌, ◌%◌, ◌^◌, ◌≤◌, ◌<◌}
use mathlib.Core.Bool.{Bool, true, false, not}
use mathlib.Core.List.{List, [], ◌∷◌, ◌++◌, append_assoc}
use mathlib.Core.Logic.{⊎_elim}
use mathlib.Core.Path.{◌≡◌, refl, sym, ap, ◌∙◌, subst}
use native.Mathlib.Nat.{mod-lt, mod-add-div', eq-zero-or-pos}
use native.Mathlib.Omega.{arith}
use borrow.Author.Tests.{ltb-true, eqb-true, leb-true, leb-false}
use lib.Dec.{ltb, leb, eqb, eqb-suc-zero}
use lib.ListN.{length, get_or, take, drop, length-append, get_or-eq_default, take-append-drop}
use lib.Pow.{pow_pos}
use lib.Seq.{take_at}
use Rattle.octets.specs.Bits.{AreOctets, odd}
use Rattle.octets.specs.Places.{pick, both}
use Rattle.octets.proofs.Laws.{both_true}
use Rattle.tree.specs.Block.{numbers, behind, announced, ended}
use Rattle.tree.specs.Codes.{subs_behind, group_behind, pars_behind, rest_behind, field_behind}
use Rattle.tree.proofs.Ascending.{numbers-ascending}
use Rattle.tree.proofs.Forms.{and_parts}
use Rattle.tree.specs.Form.{Fine, Wrong, and_then, last_form, block_form, form_at, subs_form, group_form, pars_form, rest_form, field_form}
use Rattle.tree.specs.Wide.{field_fits}
use Rattle.meaning.specs.Coded.{field_coded}
use Rattle.meaning.specs.Written.{block_octets, marked}
use Rattle.meaning.specs.Minimal.{tight_at, subs_minimal, group_minimal, pars_minimal, field_minimal}
use Rattle.meaning.proofs.Trees.{Sub, sub_places, subs_octets, lower_octets, par_octets, pars_octets, tree_octets}
use Rattle.meaning.proofs.Blocks.{Ends, last, more, ends_at, shorter, block_back, closing, none}
use Rattle.meaning.proofs.Reading.{places_subs, places_pars, marked_subs, marked_lower, subs_at, group_at, pars_at, tree_at, tree_read, tree_coded, fits_coded}

-- ---- a well-formed block

-- octets that begin with a block
record Cut (m : ℕ) (l : List ℕ) : Type 0 where
  k : ℕ
  front : List ℕ
  rest : List ℕ
  whole : l ≡ front ++ rest
  ends : Ends m k front
  odd_k : k % 2 ≡ 1

-- well-formed ones do
cut : (m i : ℕ) (l : List ℕ) → 0 < m → block_form m i l ≡ Fine → Cut m l
unfolding block_form
cut m i [] pos f = let z : ◌≡◌ {A = ℕ} 0 1 = cc in absurd (omega arith)
cut m i (o ∷ l) pos f = go (ltb o m) refl f (cut m (i + 1) l pos)
  where
    parity : (b : Bool) → odd (o / m) ≡ b → pick b Fine (Wrong i) ≡ Fine → o / m % 2 ≡ 1
    parity true e g = eqb-true (o / m % 2) 1 e
    parity false e g = let z : ◌≡◌ {A = ℕ} 0 1 = cc in omega arith

    go : (b : Bool) → ltb o m ≡ b → pick b (block_form m (i + 1) l) (pick (odd (o / m)) Fine (Wrong i)) ≡ Fine → (block_form m (i + 1) l ≡ Fine → Cut m l) → Cut m (o ∷ l)
    go true e g ih =
        let c = ih g in
        record { k = c.k; front = o ∷ c.front; rest = c.rest; whole = ap (λ (t : List ℕ). o ∷ t) c.whole; ends = more o c.front (ltb-true o m e) c.ends; odd_k = c.odd_k }
    go false e g ih =
        let split : Ends m (o / m) (o ∷ []) = subst (λ (x : ℕ). Ends m (o / m) (x ∷ [])) (mod-add-div' o m) (last (o % m) (mod-lt o pos)) in
        record { k = o / m; front = o ∷ []; rest = l; whole = refl; ends = split; odd_k = parity (odd (o / m)) refl g }

-- a well-formed block where it stands: its delimiter, and what is written of its numbers
record Found (w m : ℕ) (l : List ℕ) (e : ℕ) : Type 0 where
  k : ℕ
  odd_k : k % 2 ≡ 1
  low : k * m ≤ get_or l (behind m l e - 1) 0
  high : get_or l (behind m l e - 1) 0 < k * m + m
  less : (M : ℕ) → e + length (block_octets w M (numbers w m 0 l e)) ≤ behind m l e
  same : tight_at m l e ≡ true → drop e l ≡ block_octets w (k * m) (numbers w m 0 l e) ++ drop (behind m l e) l

-- a block that stands there, and so any well-formed one
found_cut : (w k : ℕ) (l : List ℕ) (e : ℕ) (B R : List ℕ) → 0 < w → k % 2 ≡ 1 → Ends (2 ^ w) k B → drop e l ≡ B ++ R → Found w (2 ^ w) l e
found_cut w k l e B R wide o b h =
    let m = 2 ^ w in
    let some : 0 < k = omega arith in
    let a = ends_at m k l e B R some b h in
    record {
      k = k;
      odd_k = o;
      low = a.low;
      high = a.high;
      less = λ M. rw (a.says w 0) (omega (arith, shorter w k wide some M 0 B b, a.next));
      same = λ t. rw (a.says w 0, block_back w k wide some _ B (record { ends = b; reads = refl; full = sym a.tells ∙ t }), a.rest) h;
    }

found : (w : ℕ) (l : List ℕ) (e : ℕ) → 0 < w → form_at (2 ^ w) l e ≡ Fine → Found w (2 ^ w) l e
found w l e wide f =
    let c = cut (2 ^ w) e (drop e l) (pow_pos w) f in
    found_cut w c.k l e c.front c.rest wide c.odd_k c.ends c.whole

-- any octet of a message is one
octet_at : (l : List ℕ) (i : ℕ) → AreOctets l → get_or l i 0 < 256
octet_at l i f =
    ⊎_elim
    (λ (e : length l - i ≡ 0). rw (get_or-eq_default l 0 {n = i} (omega arith)) (omega arith))
    (λ (h : 0 < length l - i). f i (omega arith))
    (eq-zero-or-pos (length l - i))

-- an octet below 256 has only two delimiters below level 1
closing_only : (k x : ℕ) → k % 2 ≡ 1 → k * 64 ≤ x → x < k * 64 + 64 → x < 256 → k ≡ closing (leb 128 x)
closing_only k x o low high h = go (leb 128 x) refl
  where
    go : (b : Bool) → leb 128 x ≡ b → k ≡ closing b
    go true e = omega (arith, leb-true 128 x e)
    go false e = omega (arith, leb-false 128 x e)

-- ---- a field, block by block

-- from place e to x stands no less than B, and B itself if t holds
record Kept (t : Bool) (l : List ℕ) (e : ℕ) (B : List ℕ) (x : ℕ) : Type 0 where
  less : e + length B ≤ x
  same : t ≡ true → drop e l ≡ B ++ drop x l

-- one behind the other
kept_on : (t u : Bool) (l : List ℕ) (e x y : ℕ) (B C : List ℕ) → e + length B ≤ x → (t ≡ true → u ≡ true → drop e l ≡ B ++ drop x l) → Kept u l x C y
    → Kept (both t u) l e (B ++ C) y
kept_on t u l e x y B C h f r =
    record {
      less = rw (length-append B C) (omega (arith, r.less));
      same = λ b. let p = both_true t u b in rw (append_assoc B C (drop y l), ← (r.same p.1)) (f p.0 p.1);
    }

-- bit 8 stands before e exactly if no NPar(3) block follows
subs_ended : (ts l : List ℕ) (e : ℕ) → subs_form (length ts) l e ≡ Fine → ended l e ≡ none ts
unfolding subs_form
subs_ended [] l e f = go (ended l e) f
  where
    go : (b : Bool) → last_form false b e ≡ Fine → b ≡ true
    go true f = refl
    go false f = cc
subs_ended (t ∷ ts) l e f = go (ended l e) (and_parts (last_form true (ended l e) e) _ f).0
  where
    go : (b : Bool) → last_form true b e ≡ Fine → b ≡ false
    go true f = cc
    go false f = refl

-- there are nodes exactly if there are positions
none_at : (ts l : List ℕ) (e : ℕ) → none (subs_at ts l e) ≡ none ts
unfolding subs_at
none_at [] l e = refl
none_at (t ∷ ts) l e = refl

module _ (l : List ℕ) (octets : AreOctets l) where
  -- a block of level 1, and what is kept behind it
  top_kept : (e : ℕ) (u : Bool) (C : List ℕ) (y : ℕ) → form_at 128 l e ≡ Fine → Kept u l (behind 128 l e) C y
      → Kept (both (tight_at 128 l e) u) l e (block_octets 7 128 (numbers 7 128 0 l e) ++ C) y
  top_kept e u C y f r =
      let a = found 7 l e (omega arith) f in
      let only : a.k ≡ 1 = omega (arith, a.odd_k, a.low, octet_at l (behind 128 l e - 1) octets) in
      kept_on (tight_at 128 l e) u l e (behind 128 l e) y (block_octets 7 128 (numbers 7 128 0 l e)) C (a.less 128) (λ t w. rw only at (a.same t)) r

  -- a block below level 1, with bit 8 where it should be
  low_kept : (e : ℕ) (b u : Bool) (C : List ℕ) (y : ℕ) → form_at 64 l e ≡ Fine → (u ≡ true → ended l (behind 64 l e) ≡ b) → Kept u l (behind 64 l e) C y
      → Kept (both (tight_at 64 l e) u) l e (block_octets 6 (closing b * 64) (numbers 6 64 0 l e) ++ C) y
  low_kept e b u C y f h r =
      let a = found 6 l e (omega arith) f in
      let only : a.k ≡ closing (ended l (behind 64 l e)) = closing_only a.k _ a.odd_k a.low a.high (octet_at l _ octets) in
      kept_on (tight_at 64 l e) u l e (behind 64 l e) y (block_octets 6 (closing b * 64) (numbers 6 64 0 l e)) C (a.less (closing b * 64)) (λ t w. rw (only, h w) at (a.same t)) r

  -- the NPar(3) blocks
  subs_kept_lem : (ts : List ℕ) (e : ℕ) → subs_form (length ts) l e ≡ Fine → Kept (subs_minimal (length ts) l e) l e (marked (subs_octets (subs_at ts l e))) (subs_behind (length ts) l e)
  unfolding subs_form subs_minimal subs_octets subs_at subs_behind
  subs_kept_lem [] e f = unfold marked in record { less = omega arith; same = λ t. refl }
  subs_kept_lem (t ∷ ts) e f =
      let x = behind 64 l e in
      let gs = subs_at ts l x in
      let g = and_parts (form_at 64 l e) (subs_form (length ts) l x) (and_parts (last_form true (ended l e) e) _ f).1 in
      rw (marked_subs (numbers 6 64 0 l e) gs (numbers-ascending 6 64 0 l e))
      (low_kept e (none gs) _ _ _ g.0 (λ u. subs_ended ts l x g.1 ∙ sym (none_at ts l x)) (subs_kept_lem ts x g.1))

  -- SPar(2) with the positions ts, and what it announces
  lower_kept_lem : (ts : List ℕ) (e : ℕ) → numbers 6 64 0 l e ≡ ts → form_at 64 l e ≡ Fine → subs_form (length ts) l (behind 64 l e) ≡ Fine
      → Kept (both (not (eqb (length ts) 0)) (both (tight_at 64 l e) (subs_minimal (length ts) l (behind 64 l e)))) l e
      (marked (lower_octets (subs_at ts l (behind 64 l e)))) (subs_behind (length ts) l (behind 64 l e))
      × (not (eqb (length ts) 0) ≡ true → false ≡ none (subs_at ts l (behind 64 l e)))
  unfolding subs_at lower_octets
  lower_kept_lem [] e q f g = (unfold marked subs_behind in record { less = omega (arith, (found 6 l e (omega arith) f).less 64); same = λ t. cc }, λ t. cc)
  lower_kept_lem (t ∷ ts) e q f g =
      let x = behind 64 l e in
      let ns : sub_places (subs_at (t ∷ ts) l x) ≡ numbers 6 64 0 l e = places_subs (t ∷ ts) l x ∙ sym q in (
        rw (eqb-suc-zero (length ts), ns, marked_subs (numbers 6 64 0 l e) (subs_at (t ∷ ts) l x) (numbers-ascending 6 64 0 l e))
            (low_kept e false _ _ _ f (λ u. subs_ended (t ∷ ts) l x g) (subs_kept_lem (t ∷ ts) x g)),
        λ u. refl,
      )

  -- what stands behind NPar(2)
  group_kept_lem : (e : ℕ) → group_form l e ≡ Fine
      → Kept (group_minimal l e) l e (marked (lower_octets (group_at l e))) (group_behind l e) × (group_minimal l e ≡ true → ended l e ≡ none (group_at l e))
  unfolding group_form group_minimal group_at group_behind
  group_kept_lem e f = go (ended l e) f
    where
      x : ℕ
      x = behind 64 l e

      n : ℕ
      n = announced 6 64 l e

      gs : List Sub
      gs = subs_at (numbers 6 64 0 l e) l x

      least : Bool → Bool
      least b = pick b true (both (not (eqb n 0)) (both (tight_at 64 l e) (subs_minimal n l x)))

      go : (b : Bool) → pick b Fine (and_then (form_at 64 l e) (subs_form n l x)) ≡ Fine
          → Kept (least b) l e (marked (lower_octets (pick b [] gs))) (pick b e (subs_behind n l x)) × (least b ≡ true → b ≡ none (pick b [] gs))
      go true f = (unfold marked lower_octets in record { less = omega arith; same = λ t. refl }, λ t. refl)
      go false f =
          let g = and_parts (form_at 64 l e) (subs_form n l x) f in
          let r = lower_kept_lem (numbers 6 64 0 l e) e refl g.0 g.1 in
          (r.0, λ t. r.1 (both_true (not (eqb n 0)) _ t).0)

  -- the Par(2) blocks
  pars_kept_lem : (ss : List ℕ) (e : ℕ) → pars_form (length ss) l e ≡ Fine → Kept (pars_minimal (length ss) l e) l e (pars_octets (pars_at ss l e)) (pars_behind (length ss) l e)
  unfolding pars_form pars_minimal par_octets pars_octets pars_at pars_behind
  pars_kept_lem [] e f = record { less = omega arith; same = λ t. refl }
  pars_kept_lem (s ∷ ss) e f =
      let x = behind 64 l e in
      let y = group_behind l x in
      let gs = group_at l x in
      let ns = numbers 6 64 0 l e in
      let G = marked (lower_octets gs) in
      let P = pars_octets (pars_at ss l y) in
      let p = and_parts (form_at 64 l e) _ f in
      let q = and_parts (group_form l x) (pars_form (length ss) l y) p.1 in
      let g = group_kept_lem x q.0 in
      rw (marked_lower ns gs (numbers-ascending 6 64 0 l e), append_assoc (block_octets 6 (closing (none gs) * 64) ns) G P)
      (low_kept e (none gs) _ (G ++ P) _ p.0 (λ u. g.1 (both_true (group_minimal l x) _ u).0)
      (kept_on (group_minimal l x) _ l x y _ G P g.0.less (λ t u. g.0.same t) (pars_kept_lem ss y q.1)))

  -- the field
  tree_kept : (e : ℕ) → field_form l e ≡ Fine → Kept (field_minimal l e) l e (tree_octets (tree_at l e)) (field_behind l e)
  unfolding field_form rest_form field_minimal tree_octets tree_at field_behind rest_behind
  tree_kept e f =
      let x = behind 128 l e in
      let y = behind 128 l x in
      let ss = numbers 7 128 0 l x in
      let p = and_parts (form_at 128 l e) _ f in
      let q = and_parts (form_at 128 l x) (pars_form (length ss) l y) p.1 in
      rw (places_pars ss l y) (top_kept e _ _ _ p.0 (top_kept x _ _ _ q.0 (pars_kept_lem ss y q.1)))

  -- a minimal field stands there as it is written of its tree
  pub minimal_stands : (e : ℕ) → field_form l e ≡ Fine → field_minimal l e ≡ true → drop e l ≡ tree_octets (tree_at l e) ++ drop (field_behind l e) l
  minimal_stands e f m = (tree_kept e f).same m

  -- what is written of a field's tree is never longer than the field
  pub never_longer : (e : ℕ) → field_form l e ≡ Fine → length (tree_octets (tree_at l e)) ≤ field_behind l e - e
  never_longer e f = omega (arith, (tree_kept e f).less)

-- where it has no position above 511 it is what is written exactly if it is minimal
module _ (l : List ℕ) (e : ℕ) (h : field_coded l e ≡ true) where
  pub minimal_same_coded : AreOctets l → field_form l e ≡ Fine → field_minimal l e ≡ true → take (field_behind l e - e) (drop e l) ≡ tree_octets (tree_at l e)
  minimal_same_coded octets f m =
      let y = field_behind l e in
      let s = minimal_stands l octets e f m in
      let r = tree_read 0 (tree_at l e) l e (drop y l) (tree_coded l e h) s in
      rw s (take_at (tree_octets (tree_at l e)) (drop y l) (y - e) (omega (arith, r.next)))

  pub same_minimal_coded : take (field_behind l e - e) (drop e l) ≡ tree_octets (tree_at l e) → field_minimal l e ≡ true
  same_minimal_coded s =
      let n = field_behind l e - e in
      (tree_read 0 (tree_at l e) l e (drop n (drop e l)) (tree_coded l e h) (rw (← s) (sym (take-append-drop n (drop e l))))).tight

module _ (l : List ℕ) (e : ℕ) (h : field_fits l e ≡ true) where
  pub minimal_same : AreOctets l → field_form l e ≡ Fine → field_minimal l e ≡ true → take (field_behind l e - e) (drop e l) ≡ tree_octets (tree_at l e)
  minimal_same = minimal_same_coded l e (fits_coded l e h)

  pub same_minimal : take (field_behind l e - e) (drop e l) ≡ tree_octets (tree_at l e) → field_minimal l e ≡ true
  same_minimal = same_minimal_coded l e (fits_coded l e h)
