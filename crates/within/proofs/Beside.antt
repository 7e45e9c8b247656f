-- One field held beside another: what is asked of a block, of a Par(2) block, and of a field, is asked of its pieces.
-- Assumes nothing.
use Prim.Native.Nat.{ℕ, ◌+◌, ◌*◌, ◌%◌, ◌^◌, ◌≤◌, ◌<◌}
use mathlib.Core.Bool.{Bool, true, false}
use mathlib.Core.List.{List, [], ◌∷◌}
use Rattle.std.specs.Prelude.{Option, is_some}
use mathlib.Core.Path.{◌≡◌, refl, sym, ap, ◌∙◌}
use native.Mathlib.Omega.{arith}
use borrow.Author.Tests.{le-ltb, eq-eqb, ne_eqb}
use lib.Bits.{bit_and, and_zero_r}
use lib.ListN.{length, get_or, drop, drop_of_length-le, get_or-eq_default}
use Rattle.octets.specs.Places.{pick}
use Rattle.tree.specs.Block.{set_bits, block_numbers, block_end, numbers, behind, ended}
use Rattle.tree.specs.Codes.{sub_codes, subs_behind, group_codes, group_behind, par_codes, rest_codes, field_codes, of_s}
use Rattle.tree.specs.Order.{AllFrom}
use Rattle.within.specs.Pairing.{next_place, from_of, to_of, Compared, BlockWithin, BlockEmpty, subs, pars, AllWithin, GroupWithin, FieldWithin}
use Rattle.tree.specs.Fields.{base_of, codes_in, is_in, all_in}
use Rattle.tree.specs.Wide.{low_fits, field_fits, codes_wide}
use Rattle.tree.specs.declared.Field.{Field}
use Rattle.within.specs.declared.Places.{Places}
use Rattle.within.proofs.Apart.{from_lower, from_ascending, none_within, parts_within, first_within}
use Rattle.tree.proofs.Ascending.{numbers-ascending, low_between, top_between, par_between, group_above}
use Rattle.tree.proofs.Forms.{behind_stop, behind_go, behind_out}
use Rattle.tree.proofs.Shifted.{same_codes}
use Rattle.tree.proofs.Wide.{fits_parts}
use Rattle.within.proofs.Stepping.{sub_one, par_one, pars_stepped, many_from}
use Rattle.within.proofs.Taking.{bits_within, numbers_out, numbers_next, left_parts, place_on, place_end, place_out}

-- ---- a block alone

-- of the two blocks as many octets were looked at, all found, and what is asked of them is asked of those from i and j on
pub record BlockPairing (w m : ℕ) (l : List ℕ) (e : ℕ) (t : List ℕ) (k i j : ℕ) : Type 0 where
  pub rest : (r : Option Places) → BlockWithin w m l i t j r → BlockWithin w m l e t k r

module _ {w m : ℕ} {l : List ℕ} {e : ℕ} {t : List ℕ} {k : ℕ} where
  -- none was looked at yet
  pub block_start : BlockPairing w m l e t k e k
  block_start = record { rest = λ r y. y }

  module _ {i j : ℕ} (z : BlockPairing w m l e t k i j) where
    -- the first has no more
    pub block_done : length l ≤ i → {r : Option Places} → is_some r ≡ true → from_of r ≡ i → to_of r ≡ behind m t j → BlockWithin w m l e t k r
    unfolding all_in
    block_done h f n o = z.rest _ (record { told = λ p. f ∙ rw (numbers_out w m p l i h); from = λ v. n ∙ sym (behind_out m i l h); to = λ v. o })

    -- an octet of each is looked at
    module _ (h : m ≡ 2 ^ w) where
      abbrev a : ℕ
      a = get_or l i 0

      abbrev b : ℕ
      b = get_or t j 0

      octets_parts : (p : ℕ) → all_in (numbers w m p l i) (numbers w m p t j)
          ≡ pick (all_in (set_bits w p a) (set_bits w p b)) (all_in (numbers w m (p + w) l (next_place m l i)) (numbers w m (p + w) t (next_place m t j))) false
      octets_parts p = rw (numbers_next w m p l i, numbers_next w m p t j) (left_parts w m w p a b l t (next_place m l i) (next_place m t j))

      -- something is lost under the other
      pub block_lost : (bit_and (a % m) b ≡ a % m → ⊥) → {r : Option Places} → is_some r ≡ false → BlockWithin w m l e t k r
      block_lost x f = z.rest _ (record { told = λ p. f ∙ sym (octets_parts p ∙ rw (bits_within w p a b, ← h, ne_eqb _ _ x)); from = λ n. cc; to = λ n. cc })

      -- nothing is
      module _ (x : bit_and (a % m) b ≡ a % m) where
        block_on : (p : ℕ) → all_in (numbers w m p l i) (numbers w m p t j) ≡ all_in (numbers w m (p + w) l (next_place m l i)) (numbers w m (p + w) t (next_place m t j))
        block_on p = octets_parts p ∙ rw (bits_within w p a b, ← h, eq-eqb _ _ x)

        module _ (some : i < length l) where
          -- the first ends there
          pub block_last : m ≤ a → {r : Option Places} → is_some r ≡ true → from_of r ≡ i + 1 → to_of r ≡ behind m t j → BlockWithin w m l e t k r
          unfolding all_in
          block_last o f n v = z.rest _ (record {
            told = λ p. f ∙ sym (block_on p ∙ rw (place_end m l i o, numbers_out w m (p + w) l (length l) (omega arith)));
            from = λ y. n ∙ sym (behind_stop m i l some o);
            to = λ y. v;
          })

          module _ (less : a < m) where
            -- only the second does: from there on it has none
            pub block_rest : j < length t → m ≤ b → {r : Option Places} → BlockEmpty w m l (i + 1) (j + 1) r → BlockWithin w m l e t k r
            block_rest there o y = z.rest _ (record {
              told = λ p.
                  let q = p + w in
                  y.told q
                  ∙ sym (block_on p ∙ rw (place_on m l i some less, place_end m t j o, numbers_out w m q t (length t) (omega arith), numbers_out w m q [] (j + 1) (omega arith)));
              from = λ n. y.from n ∙ sym (behind_go m i l some less);
              to = λ n. y.to n ∙ behind_out m (j + 1) [] (omega arith) ∙ sym (behind_stop m j t there o);
            })

            -- both go on
            pub block_turn : j < length t → b < m → BlockPairing w m l e t k (i + 1) (j + 1)
            block_turn there o = record {
              rest = λ r y. z.rest r (record {
                told = λ p. y.told (p + w) ∙ sym (block_on p ∙ rw (place_on m l i some less, place_on m t j there o));
                from = λ n. y.from n ∙ sym (behind_go m i l some less);
                to = λ n. y.to n ∙ sym (behind_go m j t there o);
              });
            }

            -- the second has no more
            pub block_alone : length t ≤ j → BlockPairing w m l e t k (i + 1) j
            block_alone o = record {
              rest = λ r y. z.rest r (record {
                told = λ p.
                    let q = p + w in
                    y.told q ∙ sym (block_on p ∙ rw (place_on m l i some less, place_out m t j o, numbers_out w m q t (length t) (omega arith), numbers_out w m q t j o));
                from = λ n. y.from n ∙ sym (behind_go m i l some less);
                to = y.to;
              });
            }

-- ---- a block where the second has none: it is held beside no octets

-- a place there is behind any block
pub empty_behind : (m k : ℕ) → k ≡ behind m [] k
empty_behind m k = sym (behind_out m k [] (omega arith))

-- all of an octet is found there exactly if nothing is set in it
under_none : (o k : ℕ) → bit_and o (get_or [] k 0) ≡ 0
under_none o k =
    let out : length {A = ℕ} [] ≤ k = omega arith in
    rw (get_or-eq_default {A = ℕ} [] 0 out, and_zero_r o)

pub empty_found : (m o k : ℕ) → o % m ≡ 0 → bit_and (o % m) (get_or [] k 0) ≡ o % m
empty_found m o k h = under_none (o % m) k ∙ sym h

pub empty_lost : (m o k : ℕ) → (o % m ≡ 0 → ⊥) → bit_and (o % m) (get_or [] k 0) ≡ o % m → ⊥
empty_lost m o k h x = h (sym x ∙ under_none (o % m) k)

-- ---- what one position announces

module _ (l t : List ℕ) (h : low_fits 0 l ≡ true) (h' : low_fits 0 t ≡ true) (e k : ℕ) {r : Option Places} (x : BlockWithin 6 64 l e t k r) where
  -- the NPar(3) block of an SPar(2) position
  pub sub_found : Compared (sub_one l e) (sub_one t k) (behind 64 l e) (behind 64 t k) r
  sub_found = record {
    told = λ y. x.told y ∙ sym (first_within y (numbers 6 64 y l e) (numbers 6 64 y t k) (low_between y l e h).0 (low_between y t k h').0);
    from = x.from;
    to = x.to;
  }

  -- the Par(2) block of an SPar(1) position: its NPar(2), and what stands behind
  par_parts : (y : ℕ) → all_in (par_one l e y) (par_one t k y) ≡ pick (is_some r) (all_in (group_codes y l (behind 64 l e)) (group_codes y t (behind 64 t k))) false
  par_parts y =
      first_within y _ _ (par_between y l e h).0 (par_between y t k h').0
      ∙ parts_within (y + 512) (numbers 6 64 y l e) (group_codes y l (behind 64 l e)) (numbers 6 64 y t k) (group_codes y t (behind 64 t k))
      (low_between y l e h).1 (from_ascending (y + 512) (y + 511) _ (omega arith) (group_above y l (behind 64 l e) h))
      (low_between y t k h').1 (from_ascending (y + 512) (y + 511) _ (omega arith) (group_above y t (behind 64 t k) h'))
      ∙ rw (sym (x.told y))

  pub par_lost : is_some r ≡ false → Compared (par_one l e) (par_one t k) (group_behind l (behind 64 l e)) (group_behind t (behind 64 t k)) r
  par_lost n = record { told = λ y. n ∙ sym (par_parts y ∙ rw n); from = λ v. cc; to = λ v. cc }

  pub par_found : is_some r ≡ true → {r₁ : Option Places} → GroupWithin l (from_of r) t (to_of r) r₁
      → Compared (par_one l e) (par_one t k) (group_behind l (behind 64 l e)) (group_behind t (behind 64 t k)) r₁
  par_found n z =
      let g = rw (x.from n, x.to n) at z in
      record { told = λ y. g.told y ∙ sym (par_parts y ∙ rw n); from = g.from; to = g.to }

-- ---- what stands in a Par(2) block behind its NPar(2)

-- where nothing does it ends there
pub group_past : (l : List ℕ) (e : ℕ) → ended l e ≡ true → group_behind l e ≡ e
unfolding group_behind
group_past l e h = rw h

module _ (l : List ℕ) (e : ℕ) (t : List ℕ) (k : ℕ) where
  -- nothing does in the first
  pub group_none : ended l e ≡ true → {r : Option Places} → is_some r ≡ true → from_of r ≡ e → to_of r ≡ group_behind t k → GroupWithin l e t k r
  unfolding group_codes all_in
  group_none h f n o = record { told = λ c. rw (f, h); from = λ v. n ∙ sym (group_past l e h); to = λ v. o }

  module _ (h : ended l e ≡ false) {r : Option Places} where
    -- or in the second: then nothing may be set in SPar(2)
    pub group_alone : ended t k ≡ true → BlockEmpty 6 64 l e k r → GroupWithin l e t k r
    unfolding group_codes group_behind sub_codes subs_behind is_in all_in
    group_alone o none =
        let x = none in
        let told : is_some r ≡ all_in (numbers 6 64 0 l e) [] = rw (numbers_out 6 64 0 [] k (omega arith)) at (x.told 0) in
        record {
          told = λ c. told ∙ rw (h, o) (no_codes c (numbers 6 64 0 l e));
          from = λ n. rw (h, none_within (numbers 6 64 0 l e) (sym told ∙ n)) (x.from n);
          to = λ n. x.to n ∙ sym (empty_behind 64 k) ∙ sym (group_past t k o);
        }
      where
        no_codes : (c : ℕ) (qs : List ℕ) → all_in qs [] ≡ all_in (sub_codes c qs l (behind 64 l e)) []
        no_codes c [] = refl
        no_codes c (q ∷ qs) = refl

    -- SPar(2) stands in both
    pub group_both : ended t k ≡ false → AllWithin (subs l) (subs t) 6 64 l e t k r → GroupWithin l e t k r
    unfolding group_codes group_behind
    group_both o x = record { told = λ c. rw (h, o) (x.told c); from = λ n. rw h (x.from n); to = λ n. rw o (x.to n) }

-- ---- a field

-- codes of SPar(1) are above all of NPar(1)
pub rest_from : (b : ℕ) (l : List ℕ) (e : ℕ) → low_fits 0 l ≡ true → AllFrom (b + 512) (rest_codes b l e)
unfolding rest_codes
rest_from b l e h =
    from_lower (b + 512) (b + 1 * of_s) _ (omega arith)
    (many_from (pars_stepped l h) b 1 (numbers 7 128 0 l e) (behind 128 l e) (from_ascending 1 0 _ (omega arith) (numbers-ascending 7 128 0 l e)))

module _ (l t : List ℕ) (i j : ℕ) (h : field_fits l i ≡ true) (h' : field_fits t j ≡ true) where
  field_parts : (b : ℕ) → all_in (field_codes b l i) (field_codes b t j)
      ≡ pick (all_in (numbers 7 128 b l i) (numbers 7 128 b t j)) (all_in (rest_codes b l (behind 128 l i)) (rest_codes b t (behind 128 t j))) false
  unfolding field_codes
  field_parts b =
      let f = fits_parts l i h in
      let g = fits_parts t j h' in
      parts_within (b + 512) _ _ _ _ (top_between b l i f.0).1 (rest_from b l (behind 128 l i) f.2) (top_between b t j g.0).1 (rest_from b t (behind 128 t j) g.2)

  module _ {r : Option Places} (x : BlockWithin 7 128 l i t j r) where
    pub field_lost : is_some r ≡ false → FieldWithin l i t j false
    field_lost n = record { told = λ b. sym (field_parts b ∙ rw (sym (x.told b), n)) }

    pub field_found : is_some r ≡ true → {r₁ : Option Places} → AllWithin (pars l) (pars t) 7 128 l (from_of r) t (to_of r) r₁ → FieldWithin l i t j (is_some r₁)
    unfolding rest_codes
    field_found n y =
        let v = rw (x.from n, x.to n) at y in
        record { told = λ b. v.told b ∙ sym (field_parts b ∙ rw (sym (x.told b), n)) }

-- in octets of a message, and others that fit, they are the codes
pub within_codes : (f : Field) (l : List ℕ) (i : ℕ) (t : List ℕ) (j : ℕ) {r : Bool} → length l ≤ 64 → field_fits (drop j t) 0 ≡ true → FieldWithin l i t j r
    → r ≡ all_in (codes_in f l i) (codes_wide f t j)
unfolding codes_in codes_wide
within_codes f l i t j h k x = rw (le-ltb 64 (length l) h, k) (x.told (base_of f))

-- a field lies within another as it does in the other's octets from its place on
pub within_part : (l : List ℕ) (i : ℕ) (t : List ℕ) (j : ℕ) {r : Bool} → FieldWithin l i (drop j t) 0 r → FieldWithin l i t j r
within_part l i t j x = record { told = λ b. x.told b ∙ ap (all_in (field_codes b l i)) (same_codes (drop j t) t 0 j refl b) }

-- behind the octets there are none
none_codes : (b : ℕ) → field_codes b [] 0 ≡ []
unfolding field_codes rest_codes par_codes block_numbers block_end
none_codes b = refl

pub wide_out : (f : Field) (t : List ℕ) (j : ℕ) → length t ≤ j → codes_wide f t j ≡ []
unfolding codes_wide
wide_out f t j h = rw (same_codes t [] j 0 (drop_of_length-le t {i = j} h) (base_of f) ∙ none_codes (base_of f)) (go (field_fits (drop j t) 0))
  where
    go : (b : Bool) → ◌≡◌ {A = List ℕ} (pick b [] []) []
    go true = refl
    go false = refl

-- in no octets there are none
pub within_none : (f : Field) (l : List ℕ) (i : ℕ) {r : Bool} → length l ≤ 64 → FieldWithin l i [] 0 r → r ≡ all_in (codes_in f l i) []
unfolding codes_in
within_none f l i h x = rw (le-ltb 64 (length l) h) (rw (none_codes (base_of f)) at (x.told (base_of f)))
