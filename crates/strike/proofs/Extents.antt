-- The minimal block of what is kept of a block, octet by octet: the kept octets up to the last in which something is set, or one where
-- nothing is, and the delimiter in the last.
-- Assumes nothing.
use Prim.Native.Nat.{ℕ, zero, suc, ◌+◌, ◌*◌, ◌-◌, ◌/◌, ◌%◌, ◌^◌, ◌≤◌, ◌<◌}
use mathlib.Core.Bool.{Bool, true, false}
use mathlib.Core.List.{List, [], ◌∷◌, ◌++◌}
use mathlib.Core.Path.{◌≡◌, refl, sym, ap, ◌∙◌}
use native.Mathlib.Nat.{add-mul-mod_self_right, mod-eq_of_lt, zero-div}
use native.Mathlib.Omega.{arith}
use borrow.Author.Tests.{eqb-true, eq-eqb, lt-ltb, le-ltb}
use lib.Bits.{bit_and}
use lib.Dec.{ltb, eqb}
use lib.ListN.{length, get_or, drop, length-drop, drop_of_length-le}
use lib.Pow.{pow_pos}
use lib.Seq.{get_or-drop}
use Rattle.octets.specs.Bits.{num}
use Rattle.octets.specs.Places.{pick}
use Rattle.tree.specs.Block.{set_bits, block_numbers, block_end, behind}
use Rattle.tree.specs.Levels.{width_of, mark_of}
use Rattle.tree.specs.declared.Level.{Level}
use Rattle.tree.specs.declared.Level.TheVariants.{Top, Low}
use Rattle.tree.proofs.Giving.{mark_power, width_most}
use Rattle.tree.proofs.Lowest.{bits_none}
use Rattle.meaning.specs.Minimal.{full_at_end, tight}
use Rattle.meaning.specs.Writing.{is_empty}
use Rattle.meaning.specs.Written.{block_octets}
use Rattle.meaning.proofs.Blocks.{Ends, last, more, block_back}
use Rattle.tree.proofs.Numbering.{set_bits_over}
use Rattle.octets.proofs.Laws.{drop_next}
use Rattle.names.specs.Masks.{only}
use Rattle.names.specs.Inner.{kept_place}
use Rattle.std.specs.Prelude.{Option, Some, None}
use Rattle.std.specs.Option.{option_eq}
use Rattle.names.proofs.Sieving.{only_append}
use Rattle.strike.specs.Inner.{sieved, block_kept}
use Rattle.strike.specs.declared.Sieve.{Sieve}
use Rattle.strike.proofs.Sifting.{kept_octet, kept_below, kept_zero, kept_bits, no_bits, Sieves, sieve_keeps, sieve_next}

-- ---- octets cut behind the last in which something is set

unfoldable pub all_zero : List ℕ → Bool
all_zero [] = true
all_zero (x ∷ xs) = pick (eqb x 0) (all_zero xs) false

-- the octets that are left, with the delimiter m in the last
unfoldable pub trim : ℕ → List ℕ → List ℕ
trim m [] = (0 + m) ∷ []
trim m (x ∷ xs) = pick (all_zero xs) ((x + m) ∷ []) (x ∷ trim m xs)

-- octets below m
data Small (m : ℕ) : List ℕ → Type 0 where
  none : Small m []
  next : (x : ℕ) (xs : List ℕ) → x < m → Small m xs → Small m (x ∷ xs)

module _ (w : ℕ) where
  -- nothing is set in octets that are all 0
  zero_numbers : (p : ℕ) (xs : List ℕ) → all_zero xs ≡ true → block_numbers w (2 ^ w) p xs ≡ []
  unfolding all_zero block_numbers
  zero_numbers p [] h = refl
  zero_numbers p (x ∷ xs) h = go (eqb x 0) refl h (zero_numbers (p + w) xs)
    where
      go : (t : Bool) → eqb x 0 ≡ t → pick t (all_zero xs) false ≡ true → (all_zero xs ≡ true → block_numbers w (2 ^ w) (p + w) xs ≡ [])
          → set_bits w p x ++ pick (ltb x (2 ^ w)) (block_numbers w (2 ^ w) (p + w) xs) [] ≡ []
      go true e k r = rw (eqb-true x 0 e, bits_none w p, lt-ltb 0 (2 ^ w) (pow_pos w)) (r k)
      go false e k r = absurd (omega (arith, ap num k))

  -- what a last octet says, and one before it
  numbers_last : (p x : ℕ) → block_numbers w (2 ^ w) p ((x + 1 * 2 ^ w) ∷ []) ≡ set_bits w p x ++ []
  unfolding block_numbers
  numbers_last p x = rw (set_bits_over w p x 1, le-ltb (x + 1 * 2 ^ w) (2 ^ w) (omega arith))

  numbers_next : (p x : ℕ) (xs : List ℕ) → x < 2 ^ w → block_numbers w (2 ^ w) p (x ∷ xs) ≡ set_bits w p x ++ block_numbers w (2 ^ w) (p + w) xs
  unfolding block_numbers
  numbers_next p x xs h = rw (lt-ltb x (2 ^ w) h)

  -- what is left is a block, with the same numbers, and tight
  trim_ends : (xs : List ℕ) → Small (2 ^ w) xs → Ends (2 ^ w) 1 (trim (1 * 2 ^ w) xs)
  unfolding trim
  trim_ends xs none = last 0 (pow_pos w)
  trim_ends xs (next x ys h s) = go (all_zero ys) (trim_ends ys s)
    where
      go : (t : Bool) → Ends (2 ^ w) 1 (trim (1 * 2 ^ w) ys) → Ends (2 ^ w) 1 (pick t ((x + 1 * 2 ^ w) ∷ []) (x ∷ trim (1 * 2 ^ w) ys))
      go true r = last x h
      go false r = more x (trim (1 * 2 ^ w) ys) h r

  trim_numbers : (p : ℕ) (xs : List ℕ) → Small (2 ^ w) xs → block_numbers w (2 ^ w) p (trim (1 * 2 ^ w) xs) ≡ block_numbers w (2 ^ w) p xs
  unfolding trim
  trim_numbers p xs none = numbers_last p 0 ∙ rw (bits_none w p) (unfold block_numbers in refl)
  trim_numbers p xs (next x ys h s) = go (all_zero ys) refl (trim_numbers (p + w) ys s)
    where
      go : (t : Bool) → all_zero ys ≡ t → block_numbers w (2 ^ w) (p + w) (trim (1 * 2 ^ w) ys) ≡ block_numbers w (2 ^ w) (p + w) ys
          → block_numbers w (2 ^ w) p (pick t ((x + 1 * 2 ^ w) ∷ []) (x ∷ trim (1 * 2 ^ w) ys)) ≡ block_numbers w (2 ^ w) p (x ∷ ys)
      go true e r = rw (numbers_last p x, numbers_next p x ys h, zero_numbers (p + w) ys e)
      go false e r = rw (numbers_next p x ys h, numbers_next p x (trim (1 * 2 ^ w) ys) h, r)

  trim_full : (xs : List ℕ) → Small (2 ^ w) xs → all_zero xs ≡ false → full_at_end (2 ^ w) (trim (1 * 2 ^ w) xs) ≡ true
  unfolding all_zero trim full_at_end
  trim_full xs none z = absurd (omega (arith, ap num z))
  trim_full xs (next x ys h s) z = go (all_zero ys) (eqb x 0) refl z (trim_full ys s)
    where
      go : (t u : Bool) → eqb x 0 ≡ u → pick u t false ≡ false → (t ≡ false → full_at_end (2 ^ w) (trim (1 * 2 ^ w) ys) ≡ true)
          → full_at_end (2 ^ w) (pick t ((x + 1 * 2 ^ w) ∷ []) (x ∷ trim (1 * 2 ^ w) ys)) ≡ true
      go true true e k r = absurd (omega (arith, ap num k))
      go true false e k r =
          let low : (x + 1 * 2 ^ w) % 2 ^ w ≡ x = add-mul-mod_self_right x 1 (2 ^ w) ∙ mod-eq_of_lt h in
          rw (le-ltb (x + 1 * 2 ^ w) (2 ^ w) (omega arith), low, e)
      go false u e k r = rw (lt-ltb x (2 ^ w) h) (r refl)

  trim_tight : (xs : List ℕ) → Small (2 ^ w) xs → tight (2 ^ w) (trim (1 * 2 ^ w) xs) ≡ true
  unfolding trim tight
  trim_tight xs none = rw (le-ltb (0 + 1 * 2 ^ w) (2 ^ w) (omega arith))
  trim_tight xs (next x ys h s) = go (all_zero ys) (trim_full ys s)
    where
      go : (t : Bool) → (t ≡ false → full_at_end (2 ^ w) (trim (1 * 2 ^ w) ys) ≡ true) → tight (2 ^ w) (pick t ((x + 1 * 2 ^ w) ∷ []) (x ∷ trim (1 * 2 ^ w) ys)) ≡ true
      go true r = rw (le-ltb (x + 1 * 2 ^ w) (2 ^ w) (omega arith))
      go false r = rw (lt-ltb x (2 ^ w) h) (r refl)

  -- so it is what is written of the numbers
  trim_written : (xs : List ℕ) → 0 < w → Small (2 ^ w) xs → block_octets w (2 ^ w) (block_numbers w (2 ^ w) 0 xs) ≡ trim (2 ^ w) xs
  trim_written xs wide s =
      let one : 1 * 2 ^ w ≡ 2 ^ w = omega arith in
      rw one at (block_back w 1 wide (omega arith) _ _ (record { ends = trim_ends xs s; reads = trim_numbers 0 xs s; full = trim_tight xs s }))

  -- octets have nothing set exactly if all are 0
  empty_numbers : (p : ℕ) (xs : List ℕ) → Small (2 ^ w) xs → is_empty (block_numbers w (2 ^ w) p xs) ≡ all_zero xs
  unfolding all_zero
  empty_numbers p xs none = unfold block_numbers in refl
  empty_numbers p xs (next x ys h s) = rw (numbers_next p x ys h, ← (empty_numbers (p + w) ys s), ← (no_bits w p x h)) (go (set_bits w p x) (block_numbers w (2 ^ w) (p + w) ys))
    where
      go : (a b : List ℕ) → is_empty (a ++ b) ≡ pick (is_empty a) (is_empty b) false
      go [] b = refl
      go (q ∷ a) b = refl

-- ---- the kept octets of a block

-- of the block that the octets begin with; the positions of the first stand above p
unfoldable pub kept_octets : ℕ → Option ℕ → ℕ → ℕ → List ℕ → List ℕ
kept_octets w places m p [] = []
kept_octets w places m p (o ∷ l) = kept_octet w places p o ∷ pick (ltb o m) (kept_octets w places m (p + w) l) []

module _ (w : ℕ) (places : Option ℕ) where
  octets_small : (p : ℕ) (l : List ℕ) → Small (2 ^ w) (kept_octets w places (2 ^ w) p l)
  unfolding kept_octets
  octets_small p [] = none
  octets_small p (o ∷ l) = next _ _ (kept_below w places p o) (go (ltb o (2 ^ w)) (octets_small (p + w) l))
    where
      go : {t : List ℕ} (b : Bool) → Small (2 ^ w) t → Small (2 ^ w) (pick b t [])
      go true s = s
      go false s = none

  octets_few : (m p : ℕ) (l : List ℕ) → length (kept_octets w places m p l) ≤ length l
  unfolding kept_octets
  octets_few m p [] = omega arith
  octets_few m p (o ∷ l) = go (ltb o m) (octets_few m (p + w) l)
    where
      go : (b : Bool) → length (kept_octets w places m (p + w) l) ≤ length l → suc (length (pick b (kept_octets w places m (p + w) l) [])) ≤ suc (length l)
      go true h = omega arith
      go false h = omega arith

  octets_some : (m p : ℕ) (l : List ℕ) → 0 < length l → 0 < length (kept_octets w places m p l)
  unfolding kept_octets
  octets_some m p [] h = absurd (omega arith)
  octets_some m p (o ∷ l) h = omega arith

  -- their numbers are the kept ones
  octets_numbers : (p : ℕ) (l : List ℕ) → block_numbers w (2 ^ w) p (kept_octets w places (2 ^ w) p l) ≡ only (kept_place places) (block_numbers w (2 ^ w) p l)
  unfolding kept_octets block_numbers
  octets_numbers p [] = unfold only in refl
  octets_numbers p (o ∷ l) =
      rw (lt-ltb (kept_octet w places p o) (2 ^ w) (kept_below w places p o), kept_bits w places p o, only_append (kept_place places) (set_bits w p o))
      (ap (λ (t : List ℕ). only (kept_place places) (set_bits w p o) ++ t) (go (ltb o (2 ^ w)) (octets_numbers (p + w) l)))
    where
      kept : List ℕ
      kept = kept_octets w places (2 ^ w) (p + w) l

      found : List ℕ
      found = block_numbers w (2 ^ w) (p + w) l

      go : (b : Bool) → block_numbers w (2 ^ w) (p + w) kept ≡ only (kept_place places) found → block_numbers w (2 ^ w) (p + w) (pick b kept []) ≡ only (kept_place places) (pick b found [])
      go true e = e
      go false e = unfold only in refl

-- ---- how many octets are left, and which

-- no more than there were, but one at least
trim_fits : (m x : ℕ) (xs : List ℕ) → length (trim m (x ∷ xs)) ≤ suc (length xs)
unfolding trim all_zero
trim_fits m x [] = omega arith
trim_fits m x (y ∷ ys) = go (all_zero (y ∷ ys)) (trim_fits m y ys)
  where
    go : (t : Bool) → length (trim m (y ∷ ys)) ≤ suc (length ys) → length (pick t ((x + m) ∷ []) (x ∷ trim m (y ∷ ys))) ≤ suc (suc (length ys))
    go true h = omega arith
    go false h = omega arith

trim_reach : (m : ℕ) (xs : List ℕ) → length (trim m xs) - 1 ≤ length xs - 1
trim_reach m [] = unfold trim in omega arith
trim_reach m (x ∷ xs) = omega (arith, trim_fits m x xs)

trim_some : (m : ℕ) (xs : List ℕ) → 0 < length (trim m xs)
unfolding trim
trim_some m [] = omega arith
trim_some m (x ∷ xs) = go (all_zero xs)
  where
    go : (t : Bool) → 0 < length (pick t ((x + m) ∷ []) (x ∷ trim m xs))
    go true = omega arith
    go false = omega arith

-- one where all are 0
trim_zero : (m : ℕ) (xs : List ℕ) → all_zero xs ≡ true → length (trim m xs) ≡ 1
unfolding trim all_zero
trim_zero m [] h = refl
trim_zero m (x ∷ xs) h = go (eqb x 0) (all_zero xs) h
  where
    go : (t u : Bool) → pick t u false ≡ true → length (pick u ((x + m) ∷ []) (x ∷ trim m xs)) ≡ 1
    go true true e = refl
    go true false e = absurd (omega (arith, ap num e))
    go false u e = absurd (omega (arith, ap num e))

-- counted octet by octet: up to count so far, of j octets
trim_step : (m x count j : ℕ) (xs : List ℕ)
    → pick (all_zero (x ∷ xs)) count (j + length (trim m (x ∷ xs))) ≡ pick (all_zero xs) (pick (eqb x 0) count (j + 1)) (j + 1 + length (trim m xs))
unfolding trim all_zero
trim_step m x count j xs = go (eqb x 0) (all_zero xs)
  where
    go : (t u : Bool) → pick (pick t u false) count (j + length (pick u ((x + m) ∷ []) (x ∷ trim m xs))) ≡ pick u (pick t count (j + 1)) (j + 1 + length (trim m xs))
    go true true = refl
    go true false = omega arith
    go false true = refl
    go false false = omega arith

-- each is as it was, and the last has the delimiter
trim_at : (m i : ℕ) (xs : List ℕ) → i + 1 < length (trim m xs) → get_or (trim m xs) i 0 ≡ get_or xs i 0
unfolding trim
trim_at m i [] h = absurd (omega arith)
trim_at m zero (x ∷ xs) h = go (all_zero xs) h
  where
    go : (t : Bool) → zero + 1 < length (pick t ((x + m) ∷ []) (x ∷ trim m xs)) → get_or (pick t ((x + m) ∷ []) (x ∷ trim m xs)) zero 0 ≡ x
    go true h = absurd (omega arith)
    go false h = refl
trim_at m (suc i) (x ∷ xs) h = go (all_zero xs) h (trim_at m i xs)
  where
    go : (t : Bool) → suc i + 1 < length (pick t ((x + m) ∷ []) (x ∷ trim m xs)) → (i + 1 < length (trim m xs) → get_or (trim m xs) i 0 ≡ get_or xs i 0)
        → get_or (pick t ((x + m) ∷ []) (x ∷ trim m xs)) (suc i) 0 ≡ get_or xs i 0
    go true h r = absurd (omega arith)
    go false h r = r (omega arith)

trim_last : (m n : ℕ) (xs : List ℕ) → suc n ≡ length (trim m xs) → get_or (trim m xs) n 0 ≡ get_or xs n 0 + m
unfolding trim
trim_last m zero [] h = refl
trim_last m (suc n) [] h = absurd (omega arith)
trim_last m zero (x ∷ xs) h = go (all_zero xs) h
  where
    go : (t : Bool) → 1 ≡ length (pick t ((x + m) ∷ []) (x ∷ trim m xs)) → get_or (pick t ((x + m) ∷ []) (x ∷ trim m xs)) zero 0 ≡ x + m
    go true h = refl
    go false h = absurd (omega (arith, trim_some m xs))
trim_last m (suc n) (x ∷ xs) h = go (all_zero xs) h (trim_last m n xs)
  where
    go : (t : Bool) → suc (suc n) ≡ length (pick t ((x + m) ∷ []) (x ∷ trim m xs)) → (suc n ≡ length (trim m xs) → get_or (trim m xs) n 0 ≡ get_or xs n 0 + m)
        → get_or (pick t ((x + m) ∷ []) (x ∷ trim m xs)) (suc n) 0 ≡ get_or xs n 0 + m
    go true h r = absurd (omega arith)
    go false h r = r (omega arith)

-- which the kept octets are
octets_at : (w : ℕ) (places : Option ℕ) (m p i : ℕ) (l : List ℕ) → i ≤ length (kept_octets w places m p l) - 1
    → get_or (kept_octets w places m p l) i 0 ≡ kept_octet w places (p + w * i) (get_or l i 0)
unfolding kept_octets
octets_at w places m p i [] h = sym (kept_zero w places (p + w * i))
octets_at w places m p zero (o ∷ l) h = let first : p + w * 0 ≡ p = omega arith in rw first
octets_at w places m p (suc i) (o ∷ l) h = go (ltb o m) h (octets_at w places m (p + w) i l)
  where
    on : p + w * suc i ≡ p + w + w * i
    on = omega arith

    go : (t : Bool) → suc i ≤ suc (length (pick t (kept_octets w places m (p + w) l) [])) - 1
        → (i ≤ length (kept_octets w places m (p + w) l) - 1 → get_or (kept_octets w places m (p + w) l) i 0 ≡ kept_octet w places (p + w + w * i) (get_or l i 0))
        → get_or (pick t (kept_octets w places m (p + w) l) []) i 0 ≡ kept_octet w places (p + w * suc i) (get_or l i 0)
    go true h r = rw on (r (omega arith))
    go false h r = absurd (omega arith)

-- ---- the block that the octets begin with

octets_reach : (w : ℕ) (places : Option ℕ) (m : ℕ) (l : List ℕ) → length (trim m (kept_octets w places m 0 l)) ≤ length l + 1
octets_reach w places m l = omega (arith, trim_reach m (kept_octets w places m 0 l), octets_few w places m 0 l)

-- the minimal block of what is kept
written_kept : (w m : ℕ) (places : Option ℕ) (l : List ℕ) → m ≡ 2 ^ w → 0 < w
    → block_octets w m (only (kept_place places) (block_numbers w m 0 l)) ≡ trim m (kept_octets w places m 0 l)
written_kept w m places l mark wide =
    rw (mark, ← (octets_numbers w places 0 l)) (trim_written w (kept_octets w places (2 ^ w) 0 l) wide (octets_small w places 0 l))

-- nothing is kept exactly if all kept octets are 0
empty_kept : (w m : ℕ) (places : Option ℕ) (l : List ℕ) → m ≡ 2 ^ w → is_empty (only (kept_place places) (block_numbers w m 0 l)) ≡ all_zero (kept_octets w places m 0 l)
empty_kept w m places l mark = rw (mark, ← (octets_numbers w places 0 l)) (empty_numbers w 0 _ (octets_small w places 0 l))

-- a test that no number passes
only_none : (f : ℕ → Bool) (l : List ℕ) → ((x : ℕ) → f x ≡ false) → only f l ≡ []
unfolding only
only_none f [] h = refl
only_none f (x ∷ l) h = rw (h x) (only_none f l h)

-- of one octet that is left the first says it
first_kept_lem : (w m : ℕ) (places : Option ℕ) (l : List ℕ) → length (trim m (kept_octets w places m 0 l)) ≤ 1 → eqb (kept_octet w places 0 (get_or l 0 0)) 0 ≡ all_zero (kept_octets w places m 0 l)
unfolding kept_octets all_zero trim
first_kept_lem w m places [] h = eq-eqb _ 0 (kept_zero w places 0)
first_kept_lem w m places (o ∷ l) h = go (eqb (kept_octet w places 0 o) 0) (pick (ltb o m) (kept_octets w places m (0 + w) l) []) h
  where
    go : (t : Bool) (xs : List ℕ) → length (pick (all_zero xs) ((kept_octet w places 0 o + m) ∷ []) (kept_octet w places 0 o ∷ trim m xs)) ≤ 1 → t ≡ pick t (all_zero xs) false
    go t xs h = in_one t (all_zero xs) h
      where
        in_one : (t u : Bool) → length (pick u ((kept_octet w places 0 o + m) ∷ []) (kept_octet w places 0 o ∷ trim m xs)) ≤ 1 → t ≡ pick t u false
        in_one true true h = refl
        in_one true false h = absurd (omega (arith, trim_some m xs))
        in_one false u h = refl

-- ---- the block at a place

-- an octet is always left
pub kept_any : (places : Option ℕ) (s : List ℕ) (e : ℕ) → 0 < length (block_kept 7 128 places s e)
kept_any places s e =
    rw (written_kept 7 128 places (drop e s) refl (omega arith)) (trim_some 128 (kept_octets 7 places 128 0 (drop e s)))

-- its delimiter, its width, and octets as few as a message has
pub record Framed (w m : ℕ) (s : List ℕ) : Type 0 where
  pub mark : m ≡ 2 ^ w
  pub wide : 0 < w
  pub narrow : w ≤ 7
  pub short : length s ≤ 64

width_some : (v : Level) → 0 < width_of v
width_some Top = omega arith
width_some Low = omega arith

nowhere : (places : Option ℕ) → true ≡ option_eq eqb places (Some 0) → (q : ℕ) → kept_place places q ≡ false
nowhere None z q = absurd (cc)
nowhere (Some bits) z q = rw (eqb-true bits 0 (sym z), zero-div (2 ^ (q - 1)))

-- so it is of either level
pub framed : (v : Level) (s : List ℕ) → length s ≤ 64 → Framed (width_of v) (mark_of v) s
framed v s h = record { mark = mark_power v; wide = omega (arith, width_some v); narrow = width_most v; short = h }

module _ {w m : ℕ} {s : List ℕ} (f : Framed w m s) (places : Option ℕ) (e : ℕ) where
  kept_written : block_kept w m places s e ≡ trim m (kept_octets w places m 0 (drop e s))
  kept_written = written_kept w m places (drop e s) f.mark f.wide

  -- whether nothing is kept: not where more than one octet is left, else by the first
  pub keeps_more : 1 < length (block_kept w m places s e) → false ≡ is_empty (sieved w m places s e)
  keeps_more h = sym (empty_kept w m places (drop e s) f.mark ∙ go (all_zero (kept_octets w places m 0 (drop e s))) refl)
    where
      go : (t : Bool) → all_zero (kept_octets w places m 0 (drop e s)) ≡ t → t ≡ false
      go true z = absurd (omega (arith, trim_zero m _ z, ap length kept_written))
      go false z = refl

  pub keeps_one : (r : ℕ) → length (block_kept w m places s e) ≤ 1 → r ≡ kept_octet w places 0 (get_or s e 0) → eqb r 0 ≡ is_empty (sieved w m places s e)
  keeps_one r h k =
      let first : get_or (drop e s) 0 0 ≡ get_or s e 0 = get_or-drop e s 0 0 ∙ ap (λ (n : ℕ). get_or s n 0) (omega arith) in
      rw (k, ← first) (first_kept_lem w m places (drop e s) (omega (arith, ap length kept_written)) ∙ sym (empty_kept w m places (drop e s) f.mark))

  -- and where no position is kept, nothing is
  pub keeps_nothing : true ≡ option_eq eqb places (Some 0) → true ≡ is_empty (sieved w m places s e)
  keeps_nothing h = sym (ap is_empty (only_none (kept_place places) (block_numbers w m 0 (drop e s)) (nowhere places h)))

  -- few octets are left
  pub kept_few : (0 < length (block_kept w m places s e)) × (length (block_kept w m places s e) ≤ 65)
  kept_few =
      let n = ap length kept_written in
      (omega (arith, trim_some m (kept_octets w places m 0 (drop e s))), omega (arith, octets_reach w places m (drop e s), length-drop e s, f.short))

  -- all of them at places of octets, where the block begins at one
  pub kept_within : e < length s → e + length (block_kept w m places s e) ≤ length s
  kept_within h =
      let K = kept_octets w places m 0 (drop e s) in
      let some : 0 < length (drop e s) = omega (arith, length-drop e s) in
      omega (arith, ap length kept_written, trim_reach m K, octets_some w places m 0 (drop e s) some, octets_few w places m 0 (drop e s), length-drop e s)

  -- each is the kept octet at its place, and the last has the delimiter
  octet_there : (i : ℕ) → i < length (block_kept w m places s e) → get_or (kept_octets w places m 0 (drop e s)) i 0 ≡ kept_octet w places (w * i) (get_or s (e + i) 0)
  octet_there i h =
      let on : 0 + w * i ≡ w * i = omega arith in
      let reach : i ≤ length (kept_octets w places m 0 (drop e s)) - 1 = omega (arith, trim_reach m (kept_octets w places m 0 (drop e s)), ap length kept_written) in
      octets_at w places m 0 i (drop e s) reach ∙ rw (on, get_or-drop e s)

  pub kept_at : (i r : ℕ) → i + 1 < length (block_kept w m places s e) → r ≡ kept_octet w places (w * i) (get_or s (e + i) 0) → get_or (block_kept w m places s e) i 0 ≡ r
  kept_at i r h k = rw kept_written (trim_at m i _ (omega (arith, ap length kept_written))) ∙ octet_there i (omega arith) ∙ sym k

  pub kept_last : (i r : ℕ) → i + 1 ≡ length (block_kept w m places s e) → r ≡ kept_octet w places (w * i) (get_or s (e + i) 0) → get_or (block_kept w m places s e) i 0 ≡ r + m
  kept_last i r h k =
      rw kept_written (trim_last m i _ (omega (arith, ap length kept_written))) ∙ ap (λ (n : ℕ). n + m) (octet_there i (omega arith) ∙ sym k)

-- by what a sieve keeps of the first octet
pub keeps_first : {v : Level} {places : Option ℕ} {sieve : Sieve} (s : List ℕ) → length s ≤ 64 → (e d r : ℕ) → length (block_kept (width_of v) (mark_of v) places s e) ≤ 1 → Sieves v places 0 sieve
    → d ≡ get_or s e 0 → r ≡ bit_and (d % mark_of sieve.level) (sieve.names % mark_of sieve.level) → eqb r 0 ≡ is_empty (sieved (width_of v) (mark_of v) places s e)
keeps_first {v} {places} s short e d r one h k n =
    keeps_one (framed v s short) places e r one (n ∙ sieve_keeps h d ∙ ap (kept_octet (width_of v) places 0) k)

-- ---- counting them

-- up to i, count octets are left if nothing more comes; the sieve stands at the octet there
pub record Reaching (v : Level) (places : Option ℕ) (s : List ℕ) (e count : ℕ) (sieve : Sieve) (i : ℕ) : Type 0 where
  pub above : ℕ
  pub passed : e ≤ i
  pub sieves : Sieves v places above sieve
  pub octets :
      pick (all_zero (kept_octets (width_of v) places (mark_of v) above (drop i s))) count (i - e + length (trim (mark_of v) (kept_octets (width_of v) places (mark_of v) above (drop i s))))
      ≡ length (block_kept (width_of v) (mark_of v) places s e)
  pub end : block_end (mark_of v) i (drop i s) ≡ behind (mark_of v) s e

pub reaching_none : {v : Level} {places : Option ℕ} {s : List ℕ} {sieve : Sieve} → length s ≤ 64 → (e : ℕ) → Sieves v places 0 sieve → Reaching v places s e 1 sieve e
reaching_none {v} {places} {s} short e h =
    record {
      above = 0;
      passed = omega arith;
      sieves = h;
      octets = let none : e - e ≡ 0 = omega arith in rw (none, kept_written (framed v s short) places e) (go (all_zero xs) refl);
      end = refl;
    }
  where
    xs : List ℕ
    xs = kept_octets (width_of v) places (mark_of v) 0 (drop e s)

    go : (t : Bool) → all_zero xs ≡ t → pick t 1 (0 + length (trim (mark_of v) xs)) ≡ length (trim (mark_of v) xs)
    go true z = sym (trim_zero (mark_of v) xs z)
    go false z = omega arith

module _ {v : Level} {places : Option ℕ} {s : List ℕ} {e count : ℕ} {sieve : Sieve} {i : ℕ} (r : Reaching v places s e count sieve i) where
  -- the octets are at their end
  pub reaching_end : length s ≤ i → (count ≡ length (block_kept (width_of v) (mark_of v) places s e)) × (i ≡ behind (mark_of v) s e)
  unfolding kept_octets all_zero block_end
  reaching_end h = let none = drop_of_length-le s h in (rw none at r.octets, rw none at r.end)

  module _ (inside : i < length s) {count' : ℕ} (counted : count' ≡ pick (eqb (bit_and (get_or s i 0 % mark_of sieve.level) (sieve.names % mark_of sieve.level)) 0) count (i + 1 - e)) where
    -- what is kept of the octet at hand
    abbrev here : ℕ
    here = kept_octet (width_of v) places r.above (get_or s i 0)

    -- one octet, and those behind it
    counted_on : (ys : List ℕ) → kept_octets (width_of v) places (mark_of v) r.above (drop i s) ≡ here ∷ ys
        → pick (all_zero ys) count' (i + 1 - e + length (trim (mark_of v) ys)) ≡ length (block_kept (width_of v) (mark_of v) places s e)
    counted_on ys k =
        let j : i + 1 - e ≡ i - e + 1 = omega (arith, r.passed) in
        rw (counted, sieve_keeps r.sieves (get_or s i 0), j) (sym (trim_step (mark_of v) here count (i - e) ys) ∙ (rw k at r.octets))

    -- the block goes on behind it
    pub reaching_more : {next : Sieve} → (next.level ≡ sieve.level) × (next.names ≡ sieve.names / 2 ^ sieve.step) × (next.step ≡ sieve.step) → get_or s i 0 < mark_of v
        → Reaching v places s e count' next (i + 1)
    unfolding kept_octets block_end
    reaching_more n h =
        let goes = lt-ltb (get_or s i 0) (mark_of v) h in
        let next = drop_next s i inside in
        record {
          above = r.above + width_of v;
          passed = omega (arith, r.passed);
          sieves = sieve_next r.sieves n;
          octets = counted_on (kept_octets (width_of v) places (mark_of v) (r.above + width_of v) (drop (i + 1) s)) (rw (next, goes));
          end = rw (next, goes) at r.end;
        }

    -- the block ends with it
    pub reaching_last : mark_of v ≤ get_or s i 0 → (count' ≡ length (block_kept (width_of v) (mark_of v) places s e)) × (i + 1 ≡ behind (mark_of v) s e)
    unfolding kept_octets all_zero block_end
    reaching_last h =
        let ends = le-ltb (get_or s i 0) (mark_of v) h in
        let next = drop_next s i inside in
        (counted_on [] (rw (next, ends)), rw (next, ends) at r.end)
