-- The codes of positions stored one after the other: of those set in an octet, found from the lowest up, and of those set in a block.
-- Said once for single codes, for the NPar(3) blocks under SPar(2) and for the Par(2) blocks under SPar(1).
-- Assumes nothing.
use Prim.Native.Nat.{ℕ, zero, suc, ◌+◌, ◌*◌, ◌-◌, ◌/◌, ◌%◌, ◌^◌, ◌≤◌, ◌<◌}
use mathlib.Core.Path.{◌≡◌, refl, sym, ap, ◌∙◌}
use mathlib.Core.List.{List, [], ◌∷◌, ◌++◌, append_assoc, append-nil}
use native.Mathlib.Nat.{mod-lt, pow-suc, add-mul}
use native.Mathlib.Numerals.{add-one}
use native.Mathlib.Omega.{arith}
use borrow.Author.Tests.{lt-ltb, le-ltb}
use lib.Count.{count_trailing_zeros}
use lib.Dec.{ltb}
use lib.ListN.{length, get_or, drop_of_length-le, length-append}
use lib.Pow.{pow_pos, pow_mono, shr_le}
use lib.Seq.{drop-cons}
use Rattle.octets.specs.Places.{pick}
use Rattle.tree.specs.Block.{keep, set_bits, block_numbers, numbers, behind}
use Rattle.tree.specs.Codes.{of_t, of_s, sub_codes, subs_behind, group_codes, group_behind, par_codes, pars_behind}
use Rattle.fill.specs.Storing.{Fills}
use Rattle.fill.specs.declared.Tally.{Tally}
use Rattle.tree.proofs.Lowest.{Lowest, lowest, bits_none, bits_below}
use Rattle.fill.proofs.Stored.{fills_none, fills_then}

-- codes made of positions one after the other, each read at the place behind the one before
pub record Stepped (one : ℕ → ℕ → List ℕ) (many : List ℕ → ℕ → List ℕ) (past : ℕ → ℕ) (pasts : ℕ → ℕ → ℕ) : Type 0 where
  pub none : (e : ℕ) → many [] e ≡ []
  pub next : (q : ℕ) (qs : List ℕ) (e : ℕ) → many (q ∷ qs) e ≡ one q e ++ many qs (past e)
  pub stay : (e : ℕ) → pasts 0 e ≡ e
  pub pass : (k e : ℕ) → pasts (suc k) e ≡ pasts k (past e)

-- each position is a code itself, and nothing is read
pub codes_stepped : Stepped (λ q e. q ∷ []) (λ qs e. qs) (λ e. e) (λ k e. e)
codes_stepped = record { none = λ e. refl; next = λ q qs e. refl; stay = λ e. refl; pass = λ k e. refl }

-- the same of codes that stand above b, each position counting u
pub record Family (u : ℕ) (one : ℕ → ℕ → List ℕ) (many : ℕ → List ℕ → ℕ → List ℕ) (past : ℕ → ℕ) (pasts : ℕ → ℕ → ℕ) : Type 0 where
  pub from : (b : ℕ) → Stepped (λ q e. one (b + q * u) e) (many b) past pasts

-- SPar(2) positions and SPar(1) positions
pub subs : (l : List ℕ) → Family of_t (λ c e. c ∷ numbers 6 64 c l e) (λ c ts e. sub_codes c ts l e) (λ e. behind 64 l e) (λ k e. subs_behind k l e)
unfolding sub_codes subs_behind
subs l = record { from = λ b. record { none = λ e. refl; next = λ q qs e. refl; stay = λ e. refl; pass = λ k e. refl } }

pub pars : (l : List ℕ)
    → Family of_s
    (λ c e. c ∷ (numbers 6 64 c l e ++ group_codes c l (behind 64 l e)))
    (λ b qs e. par_codes b qs l e)
    (λ e. group_behind l (behind 64 l e))
    (λ k e. pars_behind k l e)
unfolding par_codes pars_behind
pars l = record { from = λ b. record { none = λ e. refl; next = λ q qs e. refl; stay = λ e. refl; pass = λ k e. refl } }

-- of all positions those done have their codes stored, and the others are still to come
pub record Going {A : Type 0} (stored : List A → ℕ → ℕ → List A) (many : List ℕ → ℕ → List ℕ) (pasts : ℕ → ℕ → ℕ) (all : List ℕ) (start : Tally) (list₀ : List A) (todo : List ℕ) (list : List A) (tally : Tally) : Type 0 where
  pub done : List ℕ
  pub split : done ++ todo ≡ all
  pub fills : Fills stored (many done start.at) (pasts (length done) start.at) list₀ start.count list tally

module _ {one : ℕ → ℕ → List ℕ} {many : List ℕ → ℕ → List ℕ} {past : ℕ → ℕ} {pasts : ℕ → ℕ → ℕ} (x : Stepped one many past pasts) where
  -- over two lists of positions
  many_append : (qs ts : List ℕ) (e : ℕ) → many (qs ++ ts) e ≡ many qs e ++ many ts (pasts (length qs) e)
  many_append [] ts e = rw (x.none e, x.stay e)
  many_append (q ∷ qs) ts e =
      x.next q (qs ++ ts) e
      ∙ rw (x.next q qs e, x.pass (length qs) e, many_append qs ts (past e)) (sym (append_assoc (one q e) (many qs (past e)) (many ts (pasts (length qs) (past e)))))

  pasts_append : (qs ts : List ℕ) (e : ℕ) → pasts (length (qs ++ ts)) e ≡ pasts (length ts) (pasts (length qs) e)
  pasts_append [] ts e = rw (x.stay e)
  pasts_append (q ∷ qs) ts e = x.pass (length (qs ++ ts)) e ∙ rw (x.pass (length qs) e) (pasts_append qs ts (past e))

  -- of a single one
  many_one : (q e : ℕ) → many (q ∷ []) e ≡ one q e
  many_one q e = x.next q [] e ∙ rw (x.none (past e)) (append-nil (one q e))

  pasts_one : (e : ℕ) → pasts 1 e ≡ past e
  pasts_one e = x.pass 0 e ∙ x.stay (past e)

module _ {A : Type 0} {stored : List A → ℕ → ℕ → List A} {one : ℕ → ℕ → List ℕ} {many : List ℕ → ℕ → List ℕ} {past : ℕ → ℕ} {pasts : ℕ → ℕ → ℕ} (x : Stepped one many past pasts) where
  -- none is done yet
  pub going_none : (all : List ℕ) (list : List A) (start : Tally) → Going stored many pasts all start list all list start
  going_none all list start =
      record { done = []; split = refl; fills = rw (x.none start.at, x.stay start.at) (fills_none list start.count start.at) }

  -- all are done
  pub going_end : {all : List ℕ} {list₀ list : List A} {start tally : Tally} → Going stored many pasts all start list₀ [] list tally
      → Fills stored (many all start.at) (pasts (length all) start.at) list₀ start.count list tally
  going_end g = rw (sym (append-nil g.done) ∙ g.split) at g.fills

  -- some positions, and others behind them, are still to come
  module _ {all : List ℕ} {list₀ : List A} {start : Tally} (qs todo : List ℕ) {list : List A} {tally : Tally} (g : Going stored many pasts all start list₀ (qs ++ todo) list tally) where
    pub going_room : {most : ℕ} → start.count + length (many all start.at) ≤ most → tally.count + length (many qs tally.at) ≤ most
    going_room h =
        let e = tally.at in
        let m : many all start.at ≡ many g.done start.at ++ (many qs e ++ many todo (pasts (length qs) e))
        = rw (← g.split, many_append x g.done (qs ++ todo) start.at, ← g.fills.at, many_append x qs todo e) in
        omega (
          arith,
          ap length m,
          g.fills.count,
          length-append (many g.done start.at) (many qs e ++ many todo (pasts (length qs) e)),
          length-append (many qs e) (many todo (pasts (length qs) e)),
        )

    pub going_turn : {list₁ : List A} {tally₁ : Tally} → Fills stored (many qs tally.at) (pasts (length qs) tally.at) list tally.count list₁ tally₁
        → Going stored many pasts all start list₀ todo list₁ tally₁
    going_turn y = record {
      done = g.done ++ qs;
      split = append_assoc g.done qs todo ∙ g.split;
      fills = rw (many_append x g.done qs start.at, pasts_append x g.done qs start.at) (fills_then g.fills (rw g.fills.at at y));
    }

-- ---- the positions set in one octet

-- the bits up to position p are done; the others are shifted down to bits
pub record BitsGoing {A : Type 0} (stored : List A → ℕ → ℕ → List A) (many : List ℕ → ℕ → List ℕ) (pasts : ℕ → ℕ → ℕ) (above octet : ℕ) (start : Tally) (list₀ list : List A) (tally : Tally) (bits p : ℕ) : Type 0 where
  pub going : Going stored many pasts (set_bits 7 above octet) start list₀ (set_bits (above + 7 - p) p bits) list tally
  pub from : above ≤ p
  pub reach : p ≤ above + 7
  pub fits : bits < 2 ^ (above + 7 - p)

module _ {A : Type 0} {stored : List A → ℕ → ℕ → List A} {one : ℕ → ℕ → List ℕ} {many : List ℕ → ℕ → List ℕ} {past : ℕ → ℕ} {pasts : ℕ → ℕ → ℕ} (x : Stepped one many past pasts) {above octet : ℕ} where
  -- none is done yet, and none is left
  pub bits_start : (list : List A) (start : Tally) → octet < 128 → BitsGoing stored many pasts above octet start list list start octet above
  bits_start list start h =
      let e : above + 7 - above ≡ 7 = omega arith in
      record { going = rw e (going_none x (set_bits 7 above octet) list start); from = omega arith; reach = omega arith; fits = rw e h }

  module _ {start : Tally} {list₀ list : List A} {tally : Tally} {bits p : ℕ} (y : BitsGoing stored many pasts above octet start list₀ list tally bits p) where
    pub bits_end : bits ≡ 0
        → Fills stored (many (set_bits 7 above octet) start.at) (pasts (length (set_bits 7 above octet)) start.at) list₀ start.count list tally
    bits_end h = going_end x (rw (h, bits_none (above + 7 - p) p) at y.going)

    -- one is left: the lowest, behind the zeros that are counted
    module _ (some : bits ≡ 0 → ⊥) where
      abbrev z : ℕ
      z = count_trailing_zeros 32 bits

      low : Lowest (above + 7 - p) p bits z
      low = lowest 32 (above + 7 - p) p bits (omega (arith, y.from)) (omega arith) y.fits

      abbrev todo : List ℕ
      todo = set_bits (above + 7 - p - (z + 1)) (p + (z + 1)) (bits / 2 ^ z / 2)

      here : Going stored many pasts (set_bits 7 above octet) start list₀ ((p + (z + 1)) ∷ todo) list tally
      here = rw low.1 at y.going

      pub bits_reach : p + (z + 1) ≤ above + 7
      bits_reach = omega (arith, low.0, y.reach)

      pub bits_less : bits / 2 ^ z / 2 < bits
      bits_less = omega (arith, shr_le bits z)

      pub bits_room : {most : ℕ} → start.count + length (many (set_bits 7 above octet) start.at) ≤ most → tally.count + length (one (p + (z + 1)) tally.at) ≤ most
      bits_room h = rw (many_one x (p + (z + 1)) tally.at) at (going_room x ((p + (z + 1)) ∷ []) todo here h)

      pub bits_turn : {list₁ : List A} {tally₁ : Tally} → Fills stored (one (p + (z + 1)) tally.at) (past tally.at) list tally.count list₁ tally₁
          → BitsGoing stored many pasts above octet start list₀ list₁ tally₁ (bits / 2 ^ z / 2) (p + (z + 1))
      bits_turn f =
          let e : above + 7 - (p + (z + 1)) ≡ above + 7 - p - (z + 1) = omega arith in
          record {
            going = rw e (going_turn x ((p + (z + 1)) ∷ []) todo here (rw (← (many_one x (p + (z + 1)) tally.at), ← (pasts_one x tally.at)) at f));
            from = omega (arith, y.from);
            reach = bits_reach;
            fits = rw e low.2;
          }

-- the lowest bit alone is the number above
pub bits_first : (c : ℕ) → 0 < c → set_bits 7 (c - 1) 1 ≡ c ∷ []
unfolding set_bits
bits_first c h = let e : c - 1 + 1 ≡ c = omega arith in rw e

-- ---- the positions set in a block

-- a number of w bits has none set above them
bits_more : (k w p d : ℕ) → d < 2 ^ w → set_bits (w + k) p d ≡ set_bits w p d
unfolding set_bits
bits_more k zero p d h = let z : d ≡ 0 = omega arith in rw (z, bits_none (0 + k) p)
bits_more k (suc w) p d h =
    let s : suc w + k ≡ suc (w + k) = omega arith in
    rw (s, bits_more k w (p + 1) (d / 2) (omega (arith, pow-suc 2 w)))

-- of an octet the w lowest bits are positions of its block: what is left of it below 2 ^ w has no others
bits_seven : (w p d : ℕ) → w ≤ 7 → set_bits 7 p (d % 2 ^ w) ≡ set_bits w p d
bits_seven w p d h =
    let s : 7 ≡ w + (7 - w) = omega arith in
    ap (λ (k : ℕ). set_bits k p (d % 2 ^ w)) s ∙ bits_more (7 - w) w p (d % 2 ^ w) (mod-lt d (pow_pos w)) ∙ bits_below w p d

pub octet_seven : (w d : ℕ) → w ≤ 7 → d % 2 ^ w < 128
octet_seven w d h = omega (arith, mod-lt d (pow_pos w), pow_mono {j = 7} h)

-- those of its octet at a place, and those behind it
block_next : (w p i : ℕ) (l : List ℕ) {m : ℕ} → m ≡ 2 ^ w → w ≤ 7 → i < length l
    → numbers w (2 ^ w) p l i ≡ set_bits 7 p (get_or l i 0 % m) ++ pick (ltb (get_or l i 0) m) (numbers w (2 ^ w) (p + w) l (i + 1)) []
unfolding block_numbers
block_next w p i l mask v h = rw (mask, add-one i, bits_seven w p (get_or l i 0) v, drop-cons l i 0 h)

-- of the block at place e, its positions above p₀, the octets before place i are done, and none was its last; those of the octet at i stand above p
pub record OctetsGoing {A : Type 0} (stored : List A → ℕ → ℕ → List A) (many : List ℕ → ℕ → List ℕ) (pasts : ℕ → ℕ → ℕ) (w p₀ : ℕ) (l : List ℕ) (e : ℕ) (start : Tally) (list₀ list : List A) (tally : Tally) (p i : ℕ) : Type 0 where
  pub going : Going stored many pasts (numbers w (2 ^ w) p₀ l e) start list₀ (numbers w (2 ^ w) p l i) list tally
  pub reach : p ≤ p₀ + 7 * i

module _ {A : Type 0} {stored : List A → ℕ → ℕ → List A} {one : ℕ → ℕ → List ℕ} {many : List ℕ → ℕ → List ℕ} {past : ℕ → ℕ} {pasts : ℕ → ℕ → ℕ} (x : Stepped one many past pasts) {w p₀ : ℕ} {l : List ℕ} {e : ℕ} where
  -- none is done yet, and the octets are at their end
  pub octets_start : (list : List A) (start : Tally) → OctetsGoing stored many pasts w p₀ l e start list list start p₀ e
  octets_start list start = record { going = going_none x (numbers w (2 ^ w) p₀ l e) list start; reach = omega arith }

  module _ {start : Tally} {list₀ list : List A} {tally : Tally} {p i : ℕ} (y : OctetsGoing stored many pasts w p₀ l e start list₀ list tally p i) where
    pub octets_end : length l ≤ i
        → Fills stored (many (numbers w (2 ^ w) p₀ l e) start.at) (pasts (length (numbers w (2 ^ w) p₀ l e)) start.at) list₀ start.count list tally
    unfolding block_numbers
    octets_end h = going_end x (rw (drop_of_length-le l {i = i} h) at y.going)

    -- the octet at i, and what is behind it
    module _ {m : ℕ} (mask : m ≡ 2 ^ w) (v : w ≤ 7) (h : i < length l) where
      abbrev qs : List ℕ
      qs = set_bits 7 p (get_or l i 0 % m)

      abbrev rest : List ℕ
      rest = pick (ltb (get_or l i 0) m) (numbers w (2 ^ w) (p + w) l (i + 1)) []

      there : Going stored many pasts (numbers w (2 ^ w) p₀ l e) start list₀ (qs ++ rest) list tally
      there = rw (block_next w p i l mask v h) at y.going

      pub octets_room : {most : ℕ} → start.count + length (many (numbers w (2 ^ w) p₀ l e) start.at) ≤ most → tally.count + length (many qs tally.at) ≤ most
      octets_room = going_room x qs rest there

      module _ {list₁ : List A} {tally₁ : Tally} (z : Fills stored (many qs tally.at) (pasts (length qs) tally.at) list tally.count list₁ tally₁) where
        after : Going stored many pasts (numbers w (2 ^ w) p₀ l e) start list₀ rest list₁ tally₁
        after = going_turn x qs rest there z

        -- it is not the last of the block, or it is
        pub octets_turn : get_or l i 0 < m → OctetsGoing stored many pasts w p₀ l e start list₀ list₁ tally₁ (p + w) (i + 1)
        octets_turn k = record { going = rw (lt-ltb _ _ k) at after; reach = omega (arith, y.reach) }

        pub octets_last : m ≤ get_or l i 0
            → Fills stored (many (numbers w (2 ^ w) p₀ l e) start.at) (pasts (length (numbers w (2 ^ w) p₀ l e)) start.at) list₀ start.count list₁ tally₁
        octets_last k = going_end x (rw (le-ltb _ _ k) at after)

-- ---- positions by their codes

-- a code that stands p positions above b, each counting u, where P holds of p
pub record Above (P : ℕ → Type 0) (b u code : ℕ) : Type 0 where
  pub p : ℕ
  pub holds : P p
  pub here : code ≡ b + p * u

-- how many are set does not depend on their numbers
bits_length : (w p k d : ℕ) → length (set_bits w p d) ≡ length (set_bits w k d)
unfolding set_bits
bits_length zero p k d = refl
bits_length (suc w) p k d = go (d % 2) (bits_length w (p + 1) (k + 1) (d / 2))
  where
    go : (t : ℕ) → length (set_bits w (p + 1) (d / 2)) ≡ length (set_bits w (k + 1) (d / 2))
        → length (keep t (p + 1) (set_bits w (p + 1) (d / 2))) ≡ length (keep t (k + 1) (set_bits w (k + 1) (d / 2)))
    go zero h = h
    go (suc t) h = ap suc h

module _ {u : ℕ} {one : ℕ → ℕ → List ℕ} {many : ℕ → List ℕ → ℕ → List ℕ} {past : ℕ → ℕ} {pasts : ℕ → ℕ → ℕ} (x : Family u one many past pasts) where
  -- numbered from p further on, an octet's positions give the codes that they give above the code of p
  shifted : (b p k w d e : ℕ) → many b (set_bits w (p + k) d) e ≡ many (b + p * u) (set_bits w k d) e
  unfolding set_bits
  shifted b p k zero d e = (x.from b).none e ∙ sym ((x.from (b + p * u)).none e)
  shifted b p k (suc w) d e =
      let n : p + k + 1 ≡ p + (k + 1) = omega arith in
      rw n (go (d % 2) (shifted b p (k + 1) w (d / 2)))
    where
      go : (t : ℕ) → ((f : ℕ) → many b (set_bits w (p + (k + 1)) (d / 2)) f ≡ many (b + p * u) (set_bits w (k + 1) (d / 2)) f)
          → many b (keep t (p + (k + 1)) (set_bits w (p + (k + 1)) (d / 2))) e ≡ many (b + p * u) (keep t (k + 1) (set_bits w (k + 1) (d / 2))) e
      go zero h = h e
      go (suc t) h =
          let c : b + (p + (k + 1)) * u ≡ b + p * u + (k + 1) * u = rw (add-mul p (k + 1) u) (omega arith) in
          (x.from b).next (p + (k + 1)) (set_bits w (p + (k + 1)) (d / 2)) e
          ∙ rw (c, h (past e)) (sym ((x.from (b + p * u)).next (k + 1) (set_bits w (k + 1) (d / 2)) e))

  octet_shift : (b p d e : ℕ) {code : ℕ} → code ≡ b + p * u → many b (set_bits 7 p d) e ≡ many code (set_bits 7 0 d) e
  octet_shift b p d e h = let z : p ≡ p + 0 = omega arith in ap (λ (n : ℕ). many b (set_bits 7 n d) e) z ∙ shifted b p 0 7 d e ∙ ap (λ (c : ℕ). many c (set_bits 7 0 d) e) (sym h)

module _ {A : Type 0} {stored : List A → ℕ → ℕ → List A} {u : ℕ} {one : ℕ → ℕ → List ℕ} {many : ℕ → List ℕ → ℕ → List ℕ} {past : ℕ → ℕ} {pasts : ℕ → ℕ → ℕ} (x : Family u one many past pasts) where
  module _ {b octet : ℕ} {start : Tally} {list₀ list : List A} {tally : Tally} {bits code : ℕ} (y : Above (BitsGoing stored (many b) pasts 0 octet start list₀ list tally bits) b u code) (some : bits ≡ 0 → ⊥) where
    step : code + (count_trailing_zeros 32 bits + 1) * u ≡ b + (y.p + (count_trailing_zeros 32 bits + 1)) * u
    step = rw (y.here, add-mul y.p (count_trailing_zeros 32 bits + 1) u) (omega arith)

    pub code_room : {most : ℕ} → start.count + length (many b (set_bits 7 0 octet) start.at) ≤ most
        → tally.count + length (one (code + (count_trailing_zeros 32 bits + 1) * u) tally.at) ≤ most
    code_room h = rw step (bits_room (x.from b) y.holds some h)

    pub code_turn : {list₁ : List A} {tally₁ : Tally}
        → Fills stored (one (code + (count_trailing_zeros 32 bits + 1) * u) tally.at) (past tally.at) list tally.count list₁ tally₁
        → Above (BitsGoing stored (many b) pasts 0 octet start list₀ list₁ tally₁ (bits / 2 ^ count_trailing_zeros 32 bits / 2)) b u (code + (count_trailing_zeros 32 bits + 1) * u)
    code_turn f = record { p = y.p + (count_trailing_zeros 32 bits + 1); holds = bits_turn (x.from b) y.holds some (rw step at f); here = step }

  -- the octet at i of a block, by the code that its positions stand above
  module _ {b w e : ℕ} {l : List ℕ} {start : Tally} {list₀ list : List A} {tally : Tally} {i code : ℕ} (y : Above (λ p. OctetsGoing stored (many b) pasts w 0 l e start list₀ list tally p i) b u code) {m : ℕ} (mask : m ≡ 2 ^ w) (v : w ≤ 7) (h : i < length l) where
    abbrev d : ℕ
    d = get_or l i 0 % m

    pub row_room : {most : ℕ} → start.count + length (many b (numbers w (2 ^ w) 0 l e) start.at) ≤ most → tally.count + length (many code (set_bits 7 0 d) tally.at) ≤ most
    row_room k = rw (octet_shift x b y.p d tally.at y.here) at (octets_room (x.from b) y.holds mask v h k)

    module _ {list₁ : List A} {tally₁ : Tally} (f : Fills stored (many code (set_bits 7 0 d) tally.at) (pasts (length (set_bits 7 0 d)) tally.at) list tally.count list₁ tally₁) where
      row : Fills stored (many b (set_bits 7 y.p d) tally.at) (pasts (length (set_bits 7 y.p d)) tally.at) list tally.count list₁ tally₁
      row = rw (octet_shift x b y.p d tally.at y.here, bits_length 7 y.p 0 d) f

      pub row_turn : get_or l i 0 < m → Above (λ p. OctetsGoing stored (many b) pasts w 0 l e start list₀ list₁ tally₁ p (i + 1)) b u (code + w * u)
      row_turn k = record { p = y.p + w; holds = octets_turn (x.from b) y.holds mask v h row k; here = rw (y.here, add-mul y.p w u) (omega arith) }

      pub row_last : m ≤ get_or l i 0
          → Fills stored (many b (numbers w (2 ^ w) 0 l e) start.at) (pasts (length (numbers w (2 ^ w) 0 l e)) start.at) list₀ start.count list₁ tally₁
      row_last k = octets_last (x.from b) y.holds mask v h row k
