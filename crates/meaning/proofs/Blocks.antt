-- One block: what is written of ascending positions is read back as these, well-formed and tight, wherever it stands; and a tight block
-- is what is written of its numbers. The delimiter in a last octet is k * 2 ^ w with k odd: 1, or 3 where bit 8 is set too.
-- Assumes nothing.
use Prim.Native.Nat.{ℕ, zero, suc, ◌+◌, ◌*◌, ◌-◌, ◌/◌, ◌%◌, ◌^◌, ◌≤◌, ◌<◌}
use mathlib.Core.Bool.{Bool, true, false, not}
use mathlib.Core.List.{List, [], ◌∷◌, ◌++◌, append_assoc, append-nil}
use mathlib.Core.Logic.{⊎_elim}
use mathlib.Core.Path.{◌≡◌, refl, sym, ap, ◌∙◌}
use native.Mathlib.Nat.{mul-le-mul_right, eq-zero-or-pos, pow-suc, div-add-mod', div-eq_of_lt, mod-eq_of_lt, add-div_right, add-mod_right, add-mul-div_right, add-mul-mod_self_right}
use native.Mathlib.Numerals.{add-one}
use native.Mathlib.Omega.{arith}
use borrow.Author.Tests.{eqb-false, not-true, lt-ltb, le-ltb, ne_eqb, eq-eqb, lt-leb, le-leb}
use lib.Dec.{ltb, leb, eqb}
use lib.ListN.{length, get_or, drop, replicate, set, length-append, length-set}
use lib.Seq.{sets, drop-drop, drop-append_seam, get_or-append_seam, get_or-drop, set-set, get_or-set_same}
use lib.Pow.{pow_pos, pow_mono}
use Rattle.octets.specs.Places.{pick}
use Rattle.tree.specs.Block.{keep, set_bits, block_numbers, block_end, numbers, behind, ended}
use Rattle.tree.specs.Form.{Fine, block_form, form_at}
use Rattle.tree.specs.Order.{Ascending}
use Rattle.meaning.specs.Written.{passed, skipped, carried, block_from, block_octets, marked}
use Rattle.meaning.specs.Minimal.{full_at_end, tight, tight_at}
use Rattle.tree.proofs.Ascending.{numbers-ascending}
use Rattle.tree.proofs.Numbering.{shift, keep_append, set_bits_over, set_bits_more, set_bits-zero, numbers_shift}

-- ---- a block as octets

-- each is below m but the last, which has k * m more
pub data Ends (m k : ℕ) : List ℕ → Type 0 where
  last : (a : ℕ) → a < m → Ends m k ((a + k * m) ∷ [])
  more : (a : ℕ) (B : List ℕ) → a < m → Ends m k B → Ends m k (a ∷ B)

module _ (m k : ℕ) (some : 0 < k) where
  -- a last octet is not below m
  past : (a : ℕ) → m ≤ a + k * m
  past a = omega (arith, mul-le-mul_right m some)

  -- what follows a block is not read
  numbers_end : (w p : ℕ) (B R : List ℕ) → Ends m k B → block_numbers w m p (B ++ R) ≡ block_numbers w m p B
  unfolding block_numbers
  numbers_end w p B R (last a h) = rw (le-ltb (a + k * m) m (past a))
  numbers_end w p B R (more a C h e) = rw (numbers_end w (p + w) C R e)

  -- a block ends behind its octets
  end_end : (i : ℕ) (B R : List ℕ) → Ends m k B → block_end m i (B ++ R) ≡ i + length B
  unfolding block_end
  end_end i B R (last a h) = rw (le-ltb (a + k * m) m (past a))
  end_end i B R (more a C h e) = rw (lt-ltb a m h, end_end (i + 1) C R e) (omega arith)

  -- with an odd delimiter it is well-formed
  form_end : (i : ℕ) (B R : List ℕ) → k % 2 ≡ 1 → Ends m k B → block_form m i (B ++ R) ≡ Fine
  unfolding block_form
  form_end i B R o (last a h) =
      let high : (a + k * m) / m ≡ k = rw (add-mul-div_right a k {z = m} (omega arith), div-eq_of_lt h) (omega arith) in
      rw (le-ltb (a + k * m) m (past a), high, eq-eqb (k % 2) 1 o)
  form_end i B R o (more a C h e) = rw (lt-ltb a m h) (form_end (i + 1) C R o e)

  -- nor is what follows looked at to see whether something is set at the end, or whether the block is tight
  full_end : (B R : List ℕ) → Ends m k B → full_at_end m (B ++ R) ≡ full_at_end m B
  unfolding full_at_end
  full_end B R (last a h) = rw (le-ltb (a + k * m) m (past a))
  full_end B R (more a C h e) = rw (full_end C R e)

  tight_end : (B R : List ℕ) → Ends m k B → tight m (B ++ R) ≡ tight m B
  unfolding tight
  tight_end B R (last a h) = rw (le-ltb (a + k * m) m (past a))
  tight_end B R (more a C h e) = rw (full_end C R e)

-- ---- the block that is written

-- a position in the octet at hand sets a bit there
near : (w M p a q : ℕ) (qs : List ℕ) → q - p - 1 < w → block_from w M p a (q ∷ qs) ≡ block_from w M p (a + 2 ^ (q - p - 1)) qs
unfolding block_from
near w M p a q qs h =
    let same : p + 0 * w ≡ p = omega arith in
    rw (div-eq_of_lt h, mod-eq_of_lt h, same)

-- with nothing in the octet at hand, the octets passed are all 0
skipped_none : (n : ℕ) → skipped n 0 ≡ replicate n 0
skipped_none zero = refl
skipped_none (suc n) = refl

carried_none : (n : ℕ) → carried n 0 ≡ 0
carried_none zero = refl
carried_none (suc n) = refl

-- a position behind it ends that octet
far : (w M p a q : ℕ) (qs : List ℕ) → 0 < w → p + w < q → block_from w M p a (q ∷ qs) ≡ a ∷ block_from w M (p + w) 0 (q ∷ qs)
unfolding block_from
far w M p a q qs pos h =
    let d = q - (p + w) - 1 in
    let gap : q - p - 1 ≡ d + w = omega arith in
    let count : (q - p - 1) / w ≡ suc (d / w) = rw (gap, add-div_right d pos) (add-one (d / w)) in
    let bit : (q - p - 1) % w ≡ d % w = rw (gap, add-mod_right d w) in
    let on : p + suc (d / w) * w ≡ p + w + d / w * w = omega arith in
    rw (count, bit, on, skipped_none (d / w), carried_none (d / w))

-- something is set where a bit is, or something behind it
some_keep : (b x : ℕ) (s : List ℕ) → (b ≡ 0 → 0 < length s) → 0 < length (keep b x s)
some_keep zero x s f = f refl
some_keep (suc b) x s f = omega arith

-- something is set in an octet that is not 0
some_bits : (w p d : ℕ) → 0 < d → d < 2 ^ w → 0 < length (set_bits w p d)
unfolding set_bits
some_bits zero p d h k = absurd (omega arith)
some_bits (suc w) p d h k =
    some_keep (d % 2) (p + 1) _ (λ (e : d % 2 ≡ 0). some_bits w (p + 1) (d / 2) (omega arith) (omega (arith, rw (pow-suc 2 w) at k)))

-- one bit, written
fill_one : (w M p b i a : ℕ) (s : List ℕ) → i < w → b < 2 → block_from w M p a (keep b (p + i + 1) s) ≡ block_from w M p (a + b * 2 ^ i) s
fill_one w M p zero i a s h k = ap (λ (n : ℕ). block_from w M p n s) (omega arith)
fill_one w M p (suc zero) i a s h k =
    let there : p + i + 1 - p - 1 ≡ i = omega arith in
    let one : 2 ^ i ≡ 1 * 2 ^ i = omega arith in
    near w M p a (p + i + 1) s (omega arith) ∙ rw (there, ← one)
fill_one w M p (suc (suc b)) i a s h k = absurd (omega arith)

-- the v bits of an octet from bit i on, written
fill : (w M p : ℕ) (qs : List ℕ) (v i a x : ℕ) → i + v ≤ w → x < 2 ^ v → block_from w M p a (set_bits v (p + i) x ++ qs) ≡ block_from w M p (a + x * 2 ^ i) qs
unfolding set_bits
fill w M p qs zero i a x h k = let z : x ≡ 0 = omega arith in ap (λ (n : ℕ). block_from w M p n qs) (rw z (omega arith))
fill w M p qs (suc v) i a x h k =
    let on : p + i + 1 ≡ p + suc i = omega arith in
    let sum : a + x % 2 * 2 ^ i + x / 2 * 2 ^ suc i ≡ a + x * 2 ^ i = rw (pow-suc 2 i) (omega (arith, ap (λ (n : ℕ). n * 2 ^ i) (div-add-mod' x 2))) in
    rw (keep_append (x % 2), fill_one w M p (x % 2) i a (set_bits v (p + i + 1) (x / 2) ++ qs) (omega arith) (omega arith), on, ← sum)
    (fill w M p qs v (suc i) (a + x % 2 * 2 ^ i) (x / 2) (omega arith) (omega (arith, rw (pow-suc 2 v) at k)))

-- the set bits of an octet, written, are that octet
fill_octet : (w M p a : ℕ) (qs : List ℕ) → a < 2 ^ w → block_from w M p 0 (set_bits w p a ++ qs) ≡ block_from w M p a qs
fill_octet w M p a qs h =
    let start : p + 0 ≡ p = omega arith in
    let all : 0 + a * 2 ^ 0 ≡ a = omega arith in
    rw (start, all) at (fill w M p qs w 0 0 a (omega arith) h)

-- positions behind an octet end it, if there are any
far_all : (w M p a : ℕ) (qs : List ℕ) → 0 < w → 0 < length qs → Ascending (p + w) qs → block_from w M p a qs ≡ a ∷ block_from w M (p + w) 0 qs
unfolding Ascending
far_all w M p a [] wide h r = absurd (omega arith)
far_all w M p a (q ∷ qs) wide h r = far w M p a q qs wide r.0

-- something set in the last octet is more than a tight block needs
full_tight : (m : ℕ) (l : List ℕ) → full_at_end m l ≡ true → tight m l ≡ true
unfolding full_at_end tight
full_tight m [] h = refl
full_tight m (o ∷ l) h = go (ltb o m) h
  where
    go : (b : Bool) → pick b (full_at_end m l) (not (eqb (o % m) 0)) ≡ true → pick b (full_at_end m l) true ≡ true
    go true h = h
    go false h = refl

-- ---- the block that is written, and the numbers that are read

-- B is a block with k * 2 ^ w in its last octet: a in its first octet, and then the positions qs
record Made (w k p a : ℕ) (qs B : List ℕ) : Type 0 where
  ends : Ends (2 ^ w) k B
  reads : block_numbers w (2 ^ w) p B ≡ set_bits w p a ++ qs
  full : 0 < a + length qs → full_at_end (2 ^ w) B ≡ true

-- B is a tight block of the positions qs, with k * 2 ^ w in its last octet
pub record Tight (w k : ℕ) (qs B : List ℕ) : Type 0 where
  pub ends : Ends (2 ^ w) k B
  pub reads : block_numbers w (2 ^ w) 0 B ≡ qs
  pub full : tight (2 ^ w) B ≡ true

module _ (w k : ℕ) (wide : 0 < w) (some : 0 < k) where
  -- what a last octet says, and one before it; and whether something is set at the end
  numbers_last : (p a : ℕ) → block_numbers w (2 ^ w) p ((a + k * 2 ^ w) ∷ []) ≡ set_bits w p a ++ []
  unfolding block_numbers
  numbers_last p a = rw (set_bits_over w p a k, le-ltb (a + k * 2 ^ w) (2 ^ w) (past (2 ^ w) k some a))

  numbers_more : (p a : ℕ) (B : List ℕ) → a < 2 ^ w → block_numbers w (2 ^ w) p (a ∷ B) ≡ set_bits w p a ++ block_numbers w (2 ^ w) (p + w) B
  unfolding block_numbers
  numbers_more p a B h = rw (lt-ltb a (2 ^ w) h)

  full_last : (a : ℕ) → a < 2 ^ w → full_at_end (2 ^ w) ((a + k * 2 ^ w) ∷ []) ≡ not (eqb a 0)
  unfolding full_at_end
  full_last a h =
      let low : (a + k * 2 ^ w) % 2 ^ w ≡ a = add-mul-mod_self_right a k (2 ^ w) ∙ mod-eq_of_lt h in
      rw (le-ltb (a + k * 2 ^ w) (2 ^ w) (past (2 ^ w) k some a), low)

  full_more : (a : ℕ) (B : List ℕ) → a < 2 ^ w → full_at_end (2 ^ w) (a ∷ B) ≡ full_at_end (2 ^ w) B
  unfolding full_at_end
  full_more a B h = rw (lt-ltb a (2 ^ w) h)

  -- nothing more
  made_last : (p a : ℕ) → a < 2 ^ w → Made w k p a [] ((a + k * 2 ^ w) ∷ [])
  made_last p a h =
      record {
        ends = last a h;
        reads = numbers_last p a;
        full = λ (n : 0 < a + 0). rw (full_last a h, ne_eqb a 0 (λ e. omega arith));
      }

  -- the next position stands in the first octet, above those of a
  made_near : (p a q : ℕ) (qs B : List ℕ) → a < 2 ^ (q - p - 1) → p < q → q ≤ p + w → Made w k p (a + 2 ^ (q - p - 1)) qs B → Made w k p a (q ∷ qs) B
  made_near p a q qs B h up on r =
      let i = q - p - 1 in
      let there : p + i + 1 ≡ q = omega arith in
      let one : set_bits w p (a + 2 ^ i) ≡ set_bits w p a ++ q ∷ [] = set_bits_more w p a i h (omega arith) ∙ rw there in
      record {
        ends = r.ends;
        reads = r.reads ∙ rw (one, append_assoc (set_bits w p a));
        full = λ n. r.full (omega (arith, pow_pos i));
      }

  -- it stands behind it
  made_far : (p a q : ℕ) (qs B : List ℕ) → a < 2 ^ w → Made w k (p + w) 0 (q ∷ qs) B → Made w k p a (q ∷ qs) (a ∷ B)
  made_far p a q qs B h r =
      record {
        ends = more a B h r.ends;
        reads = rw (numbers_more p a B h, r.reads, set_bits-zero w (p + w));
        full = λ n. rw (full_more a B h) (r.full (omega arith));
      }

  -- the next position, which is at most n behind p, and then what is written behind it
  made_next : (q : ℕ) (qs : List ℕ)
      → ((p a : ℕ) → a < 2 ^ (q - p) → p ≤ q → q ≤ p + w → Made w k p a qs (block_from w (k * 2 ^ w) p a qs))
      → (n p a lo : ℕ) → q ≤ p + n → a < 2 ^ (lo - p) → p ≤ lo → lo ≤ p + w → lo < q
      → Made w k p a (q ∷ qs) (block_from w (k * 2 ^ w) p a (q ∷ qs))
  made_next q qs later zero p a lo most h up on less = absurd (omega arith)
  made_next q qs later (suc n) p a lo most h up on less =
      let far-on = made_next q qs later n (p + w) 0 (p + w) (omega arith) (pow_pos (p + w - (p + w))) (omega arith) (omega arith) in
      ⊎_elim here (there far-on) (eq-zero-or-pos (q - (p + w)))
    where
      i : ℕ
      i = q - p - 1

      here : q - (p + w) ≡ 0 → Made w k p a (q ∷ qs) (block_from w (k * 2 ^ w) p a (q ∷ qs))
      here e =
          let low : a < 2 ^ i = omega (arith, pow_mono {i = lo - p} {j = i} (omega arith)) in
          let whole : q - p ≡ suc i = omega arith in
          let next : 2 ^ (q - p) ≡ 2 ^ i * 2 = ap (λ (n : ℕ). 2 ^ n) whole ∙ pow-suc 2 i in
          let then = later p (a + 2 ^ i) (omega arith) (omega arith) (omega arith) in
          rw (near w (k * 2 ^ w) p a q qs (omega arith)) (made_near p a q qs _ low (omega arith) (omega arith) then)

      there : (p + w < q → Made w k (p + w) 0 (q ∷ qs) (block_from w (k * 2 ^ w) (p + w) 0 (q ∷ qs))) → 0 < q - (p + w)
          → Made w k p a (q ∷ qs) (block_from w (k * 2 ^ w) p a (q ∷ qs))
      there r b =
          let low : a < 2 ^ w = omega (arith, pow_mono {i = lo - p} {j = w} (omega arith)) in
          rw (far w (k * 2 ^ w) p a q qs wide (omega arith)) (made_far p a q qs _ low (r (omega arith)))

  -- what is written from the middle of a block on: a holds positions up to lo
  made : (qs : List ℕ) (p a lo : ℕ) → a < 2 ^ (lo - p) → p ≤ lo → lo ≤ p + w → Ascending lo qs → Made w k p a qs (block_from w (k * 2 ^ w) p a qs)
  unfolding Ascending
  made [] p a lo h up on r = unfold block_from in made_last p a (omega (arith, pow_mono {i = lo - p} {j = w} (omega arith)))
  made (q ∷ qs) p a lo h up on r =
      made_next q qs (λ p a h up on. made qs p a q h up on r.1) q p a lo (omega arith) h up on r.0

  -- a block that ends with something set has something set
  some_numbers : (p : ℕ) (B : List ℕ) → Ends (2 ^ w) k B → full_at_end (2 ^ w) B ≡ true → 0 < length (block_numbers w (2 ^ w) p B)
  some_numbers p B (last a h) f =
      let set = eqb-false a 0 (not-true (eqb a 0) (sym (full_last a h) ∙ f)) in
      let pos : 0 < a = omega arith in
      rw (numbers_last p a, append-nil (set_bits w p a)) (some_bits w p a pos h)
  some_numbers p B (more a C h e) f =
      let rest = some_numbers (p + w) C e (sym (full_more a C h) ∙ f) in
      rw (numbers_more p a C h, length-append (set_bits w p a)) (omega arith)

  -- a tight block is what is written of its numbers
  back : (p : ℕ) (B : List ℕ) → Ends (2 ^ w) k B → tight (2 ^ w) B ≡ true → block_from w (k * 2 ^ w) p 0 (block_numbers w (2 ^ w) p B) ≡ B
  unfolding tight
  back p B (last a h) t = rw (numbers_last p a, fill_octet w (k * 2 ^ w) p a [] h) (unfold block_from in refl)
  back p B (more a C h e) t =
      let qs = block_numbers w (2 ^ w) (p + w) C in
      let f : full_at_end (2 ^ w) C ≡ true = rw (lt-ltb a (2 ^ w) h) at t in
      rw (numbers_more p a C h, fill_octet w (k * 2 ^ w) p a qs h, far_all w (k * 2 ^ w) p a qs wide (some_numbers (p + w) C e f) (numbers-ascending w (2 ^ w) (p + w) C 0))
      (ap (λ (l : List ℕ). a ∷ l) (back (p + w) C e (full_tight (2 ^ w) C f)))

  -- no block is shorter than what is written of its numbers
  pub shorter : (M p : ℕ) (B : List ℕ) → Ends (2 ^ w) k B → length (block_from w M p 0 (block_numbers w (2 ^ w) p B)) ≤ length B
  shorter M p B (last a h) = rw (numbers_last p a, fill_octet w M p a [] h) (unfold block_from in omega arith)
  shorter M p B (more a C h e) =
      let qs = block_numbers w (2 ^ w) (p + w) C in
      rw (numbers_more p a C h, fill_octet w M p a qs h) (go qs (numbers-ascending w (2 ^ w) (p + w) C 0) (shorter M (p + w) C e))
    where
      go : (qs : List ℕ) → Ascending (p + w) qs → length (block_from w M (p + w) 0 qs) ≤ length C → length (block_from w M p a qs) ≤ suc (length C)
      go [] r n = unfold block_from in omega arith
      go (q ∷ qs) r n = rw (far_all w M p a (q ∷ qs) wide (omega arith) r) (omega arith)

  -- of ascending positions a tight block is written
  pub block_made : (qs : List ℕ) → Ascending 0 qs → Tight w k qs (block_octets w (k * 2 ^ w) qs)
  block_made qs r =
      let m = made qs 0 0 0 (omega arith) (omega arith) (omega arith) r in
      record { ends = m.ends; reads = m.reads ∙ rw (set_bits-zero w 0); full = go qs m.full }
    where
      go : (qs : List ℕ) → (0 < 0 + length qs → full_at_end (2 ^ w) (block_octets w (k * 2 ^ w) qs) ≡ true) → tight (2 ^ w) (block_octets w (k * 2 ^ w) qs) ≡ true
      go [] f = unfold block_from tight full_at_end in rw (le-ltb (0 + k * 2 ^ w) (2 ^ w) (past (2 ^ w) k some 0))
      go (q ∷ qs) f = full_tight (2 ^ w) _ (f (omega arith))

  -- a tight block of given positions is the one that is written
  pub block_back : (qs B : List ℕ) → Tight w k qs B → block_octets w (k * 2 ^ w) qs ≡ B
  block_back qs B t = rw (← t.reads) (back 0 B t.ends t.full)

-- ---- bit 8

-- the factor of the delimiter below level 1: with bit 8 or without
abbrev pub closing : Bool → ℕ
closing true = 3
closing false = 1

-- both are odd, and tell whether bit 8 is set
closing_odd : (t : Bool) → (0 < closing t) × (closing t % 2 ≡ 1)
closing_odd true = omega arith
closing_odd false = omega arith

closing_ends : (t : Bool) (x : ℕ) → closing t * 64 ≤ x → x < closing t * 64 + 64 → leb 128 x ≡ t
closing_ends true x h k = le-leb 128 x (omega arith)
closing_ends false x h k = lt-leb 128 x (omega arith)

-- a block has an octet
ends_some : (m k : ℕ) (B : List ℕ) → Ends m k B → 0 < length B
ends_some m k B (last a h) = omega arith
ends_some m k B (more a C h e) = omega arith

-- the last octet of a block
last_octet : (m k : ℕ) (B R : List ℕ) → Ends m k B → (k * m ≤ get_or (B ++ R) (length B - 1) 0) × (get_or (B ++ R) (length B - 1) 0 < k * m + m)
last_octet m k B R (last a h) = omega arith
last_octet m k B R (more a C h e) =
    let z : suc (length C) - 1 ≡ suc (length C - 1) = omega (arith, ends_some m k C e) in
    rw z (last_octet m k C R e)

-- of two lists the last octet of the second is marked
marked_append : (X Y : List ℕ) → 0 < length Y → marked (X ++ Y) ≡ X ++ marked Y
unfolding marked
marked_append [] Y h = refl
marked_append (x ∷ []) [] h = absurd (omega arith)
marked_append (x ∷ []) (y ∷ Y) h = refl
marked_append (x ∷ (z ∷ X)) Y h = ap (λ (l : List ℕ). x ∷ l) (marked_append (z ∷ X) Y h)

-- a block but for its delimiter
record Open (w p a : ℕ) (qs : List ℕ) : Type 0 where
  before : List ℕ
  bits : ℕ
  whole : (M : ℕ) → block_from w M p a qs ≡ before ++ (bits + M) ∷ []

-- every block is so
opened : (w p a : ℕ) (qs : List ℕ) → Open w p a qs
unfolding block_from
opened w p a [] = record { before = []; bits = a; whole = λ M. refl }
opened w p a (q ∷ qs) =
    let n = passed w p q in
    let o = opened w (p + n * w) (carried n a + 2 ^ ((q - p - 1) % w)) qs in
    record {
      before = skipped n a ++ o.before;
      bits = o.bits;
      whole = λ M. rw (o.whole M) (sym (append_assoc (skipped n a) o.before _));
    }

-- no block is empty
pub block_some : (w M : ℕ) (qs : List ℕ) → 0 < length (block_octets w M qs)
block_some w M qs = let o = opened w 0 0 qs in rw (o.whole M, length-append o.before) (omega arith)

-- a marked block is the block with bit 8 in its delimiter
pub block_marked : (qs : List ℕ) → Ascending 0 qs → marked (block_octets 6 64 qs) ≡ block_octets 6 192 qs
unfolding marked
block_marked qs r =
    let o = opened 6 0 0 qs in
    let top = (last_octet 64 1 (block_octets 6 64 qs) [] (block_made 6 1 (omega arith) (omega arith) qs r).ends).1 in
    let end : length (o.before ++ (o.bits + 64) ∷ []) - 1 ≡ length o.before = rw (length-append o.before) (omega arith) in
    let it : get_or (block_octets 6 64 qs ++ []) (length (block_octets 6 64 qs) - 1) 0 ≡ o.bits + 64 = rw (append-nil (block_octets 6 64 qs), o.whole 64, end) (get_or-append_seam o.before (o.bits + 64) [] 0) in
    rw (o.whole 64, o.whole 192, marked_append o.before ((o.bits + 64) ∷ []) (omega arith))
    (ap (λ (d : ℕ). o.before ++ d ∷ []) (omega arith))

-- whether nothing is there
abbrev pub none : {A : Type 0} → List A → Bool
none [] = true
none (x ∷ l) = false

-- a block and what follows, marked: bit 8 stands in the block if nothing follows
pub marked_block : (qs Y : List ℕ) → Ascending 0 qs → marked (block_octets 6 64 qs ++ Y) ≡ block_octets 6 (closing (none Y) * 64) qs ++ marked Y
unfolding marked
marked_block qs [] r = rw (append-nil (block_octets 6 64 qs), append-nil (block_octets 6 192 qs)) (block_marked qs r)
marked_block qs (y ∷ Y) r = marked_append (block_octets 6 64 qs) (y ∷ Y) (omega arith)

-- ---- a block where it stands

-- from place e on stands the block B, and then R: what is read there is read of B, and its last octet has the delimiter
pub record At (m k : ℕ) (l : List ℕ) (e : ℕ) (B R : List ℕ) : Type 0 where
  pub says : (w p : ℕ) → numbers w m p l e ≡ block_numbers w m p B
  pub tells : tight_at m l e ≡ tight m B
  pub next : behind m l e ≡ e + length B
  pub rest : drop (behind m l e) l ≡ R
  pub low : k * m ≤ get_or l (behind m l e - 1) 0
  pub high : get_or l (behind m l e - 1) 0 < k * m + m

-- so it is read
pub ends_at : (m k : ℕ) (l : List ℕ) (e : ℕ) (B R : List ℕ) → 0 < k → Ends m k B → drop e l ≡ B ++ R → At m k l e B R
ends_at m k l e B R some b h =
    let on : behind m l e ≡ e + length B = rw h (end_end m k some e B R b) in
    let end = last_octet m k B R b in
    let before : behind m l e - 1 ≡ e + (length B - 1) = omega (arith, ends_some m k B b) in
    let it : get_or (B ++ R) (length B - 1) 0 ≡ get_or l (behind m l e - 1) 0 = rw (before, ← h) (get_or-drop e l (length B - 1) 0) in
    record {
      says = λ w p. rw h (numbers_end m k some w p B R b);
      tells = rw h (tight_end m k some B R b);
      next = on;
      rest = rw (on, ← (drop-drop (length B) e l), h) (drop-append_seam B R);
      low = rw it at end.0;
      high = rw it at end.1;
    }

-- the octets from place e on begin with the tight block B of the positions qs, and then comes R
pub record Stands (w m : ℕ) (qs l : List ℕ) (e : ℕ) (B R : List ℕ) : Type 0 where
  pub positions : numbers w m 0 l e ≡ qs
  pub numbered : (p : ℕ) → numbers w m p l e ≡ shift p qs
  pub next : behind m l e ≡ e + length B
  pub rest : drop (behind m l e) l ≡ R
  pub fine : form_at m l e ≡ Fine
  pub minimal : tight_at m l e ≡ true

-- so a block stands there that was written of ascending positions
block_stands : (w k : ℕ) (qs l : List ℕ) (e : ℕ) (R : List ℕ) → 0 < w → 0 < k → k % 2 ≡ 1 → Ascending 0 qs → drop e l ≡ block_octets w (k * 2 ^ w) qs ++ R
    → Stands w (2 ^ w) qs l e (block_octets w (k * 2 ^ w) qs) R × At (2 ^ w) k l e (block_octets w (k * 2 ^ w) qs) R
block_stands w k qs l e R wide some o r h =
    let B = block_octets w (k * 2 ^ w) qs in
    let t = block_made w k wide some qs r in
    let a = ends_at (2 ^ w) k l e B R some t.ends h in
    let set : numbers w (2 ^ w) 0 l e ≡ qs = a.says w 0 ∙ t.reads in (
      record {
        positions = set;
        numbered = λ p. numbers_shift w (2 ^ w) p (drop e l) ∙ ap (shift p) set;
        next = a.next;
        rest = a.rest;
        fine = rw h (form_end (2 ^ w) k some e B R o t.ends);
        minimal = a.tells ∙ t.full;
      },
      a,
    )

-- that of level 1
pub top_stands : (qs l : List ℕ) (e : ℕ) (R : List ℕ) → Ascending 0 qs → drop e l ≡ block_octets 7 128 qs ++ R → Stands 7 128 qs l e (block_octets 7 128 qs) R
top_stands qs l e R r h = (block_stands 7 1 qs l e R (omega arith) (omega arith) refl r h).0

-- that of a lower level: bit 8 stands in the last octet exactly if the delimiter has it
pub low_stands : (t : Bool) (qs l : List ℕ) (e : ℕ) (R : List ℕ) → Ascending 0 qs → drop e l ≡ block_octets 6 (closing t * 64) qs ++ R
    → Stands 6 64 qs l e (block_octets 6 (closing t * 64) qs) R × (ended l (behind 64 l e) ≡ t)
low_stands t qs l e R r h =
    let k = closing_odd t in
    let s = block_stands 6 (closing t) qs l e R (omega arith) k.0 k.1 r h in
    (s.0, closing_ends t _ s.1.low s.1.high)

-- ---- bit 8 in the last octet

-- bit 8 is set in the last octet that was stored
pub sets_marked : (d : ℕ) (ds l : List ℕ) (i : ℕ) → i + suc (length ds) ≤ length l
    → set (sets l i (d ∷ ds)) (i + length ds) (get_or (sets l i (d ∷ ds)) (i + length ds) 0 % 128 + 128) ≡ sets l i (marked (d ∷ ds))
unfolding marked
sets_marked d [] l i h = let e : i + 0 ≡ i = omega arith in rw (e, get_or-set_same l i d 0 (omega arith), set-set l i d (d % 128 + 128))
sets_marked d (e ∷ ds) l i h =
    let n : i + suc (length ds) ≡ suc i + length ds = omega arith in
    rw n (sets_marked e ds (set l i d) (suc i) (omega (arith, length-set l i d)))

-- marking changes no length
pub length_marked : (d : ℕ) (ds : List ℕ) → length (marked (d ∷ ds)) ≡ suc (length ds)
unfolding marked
length_marked d [] = refl
length_marked d (e ∷ ds) = ap suc (length_marked e ds)
