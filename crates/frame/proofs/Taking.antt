-- Eight bits of a run taken: marks of those that stand behind five ones, the bits up to each mark, and an inserted zero or a sixth one there.
-- Assumes nothing.
use Prim.Native.Nat.{ℕ, zero, suc, ◌+◌, ◌-◌, ◌/◌, ◌%◌, ◌^◌, ◌<◌, ◌≤◌}
use mathlib.Core.Path.{◌≡◌, refl, sym, ap, ◌∙◌}
use mathlib.Core.Bool.{Bool, true, false, not}
use mathlib.Core.List.{List, [], ◌∷◌, ◌++◌, append_assoc}
use native.Mathlib.Nat.{div-one, zero-div, pow-suc}
use native.Mathlib.Omega.{arith}
use borrow.Author.Tests.{eqb-true, eq-eqb, ne_eqb}
use lib.Count.{count_trailing_zeros, under}
use lib.Dec.{eqb}
use lib.ListN.{length, length-append, take-append-drop}
use lib.Pow.{field, mod-mod-pow, shr_lt, shr-shr}
use Rattle.octets.specs.Bits.{odd}
use Rattle.frame.specs.Pen.{low_bits}
use Rattle.frame.specs.Inner.{taken, left_behind, takens, lefts_behind, NoSix}
use Rattle.frame.specs.Content.{Able, Gains, left_told, kept_told, five_ones, MarksFives, Passes, TakenAs}
use Rattle.frame.specs.declared.Kept.{Kept}
use Rattle.std.specs.declared.ops.ControlFlow.TheVariants.{Continue, Break}
use Rattle.frame.proofs.Pens.{length_low_bits, low_bits_rest, low_bits_take, low_bits_drop}
use Rattle.frame.proofs.Starts.{shifts}
use Rattle.frame.proofs.Keeping.{gains_none, gains_then}
use Rattle.frame.proofs.Windows.{window_spent, windows_behind, whole}

-- a digit of a number below others
digit : (x j k : ℕ) → x / 2 ^ k % 2 ≡ x % 2 ^ (j + 1 + k) / 2 ^ k % 2
digit x j k = sym (ap (λ (v : ℕ). v % 2) (field x (j + 1) k) ∙ mod-mod-pow (x / 2 ^ k) j 1)

pub taken_few : (k : ℕ) (b : Bool) → length (taken k b) ≤ 1
taken_few k true = omega arith
taken_few zero false = omega arith
taken_few (suc k) false = omega arith

-- no more bits are kept than taken
pub takens_few : (k : ℕ) (bs : List Bool) → length (takens k bs) ≤ length bs
unfolding takens
takens_few k [] = omega arith
takens_few k (b ∷ bs) = omega (arith, length-append (taken k b) (takens (left_behind k b) bs), taken_few k b, takens_few (left_behind k b) bs)

-- ---- bits one after the other

takens-append : (k : ℕ) (a b : List Bool) → takens k (a ++ b) ≡ takens k a ++ takens (lefts_behind k a) b
unfolding takens lefts_behind
takens-append k [] b = refl
takens-append k (x ∷ a) b = ap (λ (l : List Bool). taken k x ++ l) (takens-append (left_behind k x) a b) ∙ sym (append_assoc (taken k x) (takens (left_behind k x) a) (takens (lefts_behind (left_behind k x) a) b))

no_six_append : (k : ℕ) (a b : List Bool) → NoSix k a → NoSix (lefts_behind k a) b → NoSix k (a ++ b)
unfolding NoSix lefts_behind
no_six_append k [] b x y = y
no_six_append k (c ∷ a) b x y = (x.0, no_six_append (left_behind k c) a b x.1 y)

low_bits_append : (m n v : ℕ) → low_bits (m + n) v ≡ low_bits m v ++ low_bits n (v / 2 ^ m)
low_bits_append m n v =
    let e : m + n - m ≡ n = omega arith in
    sym (take-append-drop m (low_bits (m + n) v)) ∙ rw (low_bits_take m (m + n) v (omega arith), low_bits_drop m (m + n) v, e)

-- ---- bits taken

-- none
pub passes_none : (w : ℕ) (plain : List ℕ) (kept : Kept) → Passes w 0 plain kept plain kept
unfolding low_bits takens NoSix
passes_none w plain kept = record { no_six = tt; gains = gains_none plain kept }

-- bits of which none stands behind five ones
pub passes_whole : (w n : ℕ) {plain₀ plain₁ : List ℕ} {kept₀ kept₁ : Kept} → ((i : ℕ) → i < n → five_ones (w / 64 / 2 ^ i) ≡ false)
    → Gains (low_bits n (w / 2048)) plain₀ kept₀ plain₁ kept₁ → Passes w n plain₀ kept₀ plain₁ kept₁
passes_whole w n h g = let x = whole n w h in record { no_six = x.1; gains = rw x.0 g }

-- an inserted zero
passes_zero : (w : ℕ) (plain : List ℕ) (kept : Kept) → left_told (w % 2048) ≡ 0 → odd (w / 2048) ≡ false → Passes w 1 plain kept plain kept
unfolding low_bits takens NoSix
passes_zero w plain kept z e = record { no_six = rw e (λ q. absurd (let z : ◌≡◌ {A = ℕ} 0 1 = cc in omega arith), tt); gains = rw (z, e) (gains_none plain kept) }

-- one after the other
passes_then : (w m n : ℕ) {plain₀ plain₁ plain₂ : List ℕ} {kept₀ kept₁ kept₂ : Kept} → Passes w m plain₀ kept₀ plain₁ kept₁ → Passes (w / 2 ^ m) n plain₁ kept₁ plain₂ kept₂
    → Passes w (m + n) plain₀ kept₀ plain₂ kept₂
passes_then w m n x y =
    let d : w / 2 ^ m / 2048 ≡ w / 2048 / 2 ^ m = shifts w m 11 in
    let l = (windows_behind m w x.no_six).0 in
    let e = low_bits_append m n (w / 2048) in
    record {
      no_six = rw e (no_six_append (left_told (w % 2048)) (low_bits m (w / 2048)) (low_bits n (w / 2048 / 2 ^ m)) x.no_six (rw (l, ← d) y.no_six));
      gains = rw (e, takens-append (left_told (w % 2048)) (low_bits m (w / 2048)) (low_bits n (w / 2048 / 2 ^ m)), l, ← d) (gains_then x.gains y.gains);
    }

-- ---- marks

-- m bits on
marks_behind : (n m fives w : ℕ) → m ≤ n → MarksFives n fives w → MarksFives (n - m) (fives / 2 ^ m) (w / 2 ^ m)
marks_behind n m fives w h s i l =
    ap odd (shr-shr fives m i) ∙ s (m + i) (omega arith) ∙ ap five_ones (sym (shr-shr (w / 64) m i)) ∙ ap (λ (v : ℕ). five_ones (v / 2 ^ i)) (shifts w 6 m)

-- where no bit is marked none stands behind five ones
pub marks_none : (n fives w : ℕ) → MarksFives n fives w → fives ≡ 0 → (i : ℕ) → i < n → five_ones (w / 64 / 2 ^ i) ≡ false
marks_none n fives w s z i l = sym (s i l) ∙ ap (λ (v : ℕ). odd (v / 2 ^ i)) z ∙ ap odd (zero-div (2 ^ i))

-- the marks of eight bits, by the places where five ones begin
pub octet_marks : (line r : ℕ) → ((i : ℕ) → odd (r / 2 ^ i) ≡ five_ones (line / 524288 / 2 ^ i)) → MarksFives 8 (r % 256) (line / 8192)
octet_marks line r h i l =
    let e : 7 - i + 1 + i ≡ 8 = omega arith in
    let d : line / 8192 / 64 ≡ line / 524288 = shr-shr line 13 6 in
    ap (λ (v : ℕ). eqb v 1) (sym (rw e at (digit r (7 - i) i))) ∙ h i ∙ rw d

-- the lowest mark
pub record FirstMark (n fives z : ℕ) : Type 0 where
  pub few : z < n
  pub mark : odd (fives / 2 ^ z) ≡ true
  pub none : (i : ℕ) → i < z → odd (fives / 2 ^ i) ≡ false

pub first_mark : (k n d : ℕ) → n ≤ k → (d ≡ 0 → ⊥) → d < 2 ^ n → FirstMark n d (count_trailing_zeros k d)
unfolding count_trailing_zeros
first_mark k zero d h some fits = absurd (some (omega arith))
first_mark zero (suc n) d h some fits = absurd (omega arith)
first_mark (suc k) (suc n) d h some fits =
    go (d % 2) refl (omega arith) (λ (q : d / 2 ≡ 0 → ⊥). first_mark k n (d / 2) (omega arith) q (omega (arith, pow-suc 2 n)))
  where
    halves : (i : ℕ) → d / 2 ^ suc i ≡ d / 2 / 2 ^ i
    halves i = sym (shr-shr d 1 i ∙ ap (λ (j : ℕ). d / 2 ^ j) (omega arith))

    go : (b : ℕ) → d % 2 ≡ b → b < 2 → ((d / 2 ≡ 0 → ⊥) → FirstMark n (d / 2) (count_trailing_zeros k (d / 2))) → FirstMark (suc n) d (under b (count_trailing_zeros k (d / 2)))
    go zero e l rest =
        let r = rest (λ z. some (omega arith)) in
        record { few = omega (arith, r.few); mark = rw (halves (count_trailing_zeros k (d / 2))) r.mark; none = below r }
      where
        below : FirstMark n (d / 2) (count_trailing_zeros k (d / 2)) → (i : ℕ) → i < suc (count_trailing_zeros k (d / 2)) → odd (d / 2 ^ i) ≡ false
        below r zero l = rw (div-one d, e)
        below r (suc i) l = rw (halves i) (r.none i (omega arith))
    go (suc zero) e l rest = record { few = omega arith; mark = rw (div-one d, e); none = λ i h. absurd (omega arith) }
    go (suc (suc b)) e l rest = absurd (omega arith)

-- ---- the turns of `take_fives`

-- place of the bits of a word were taken; the others stand above eleven bits of what is left of it, with their marks
pub record Passed (w : ℕ) (plain₀ : List ℕ) (kept₀ : Kept) (plain : List ℕ) (kept : Kept) (word runs place : ℕ) : Type 0 where
  pub few : place ≤ 8
  pub here : word ≡ w / 2 ^ place
  pub marks : MarksFives (8 - place) runs word
  pub fits : runs < 2 ^ (8 - place)
  pub passes : Passes w place plain₀ kept₀ plain kept

pub passed_none : (w fives : ℕ) (plain : List ℕ) (kept : Kept) → fives < 256 → MarksFives 8 fives w → Passed w plain kept plain kept w fives 0
passed_none w fives plain kept fits marks = record {
  few = omega arith;
  here = sym (div-one w);
  marks = marks;
  fits = fits;
  passes = passes_none w plain kept;
}

module _ {w : ℕ} {plain₀ : List ℕ} {kept₀ : Kept} {plain : List ℕ} {kept : Kept} {word runs place : ℕ} (x : Passed w plain₀ kept₀ plain kept word runs place) where
  -- there is room for the others
  pub passed_able : Able kept₀ 8 → Able kept (8 - place)
  passed_able able =
      let bs = low_bits place (w / 2048) in
      omega (arith, able, x.few, x.passes.gains.size, takens_few (left_told (w % 2048)) bs, length_low_bits place (w / 2048))

  -- they are no more than eight
  pub passed_rest : w < 524288 → word / 2048 < 2 ^ (8 - place)
  passed_rest h =
      let e : 8 - place + (11 + place) ≡ 19 = omega (arith, x.few) in
      let d : word / 2048 ≡ w / 2 ^ (11 + place) = ap (λ (v : ℕ). v / 2048) x.here ∙ sym (shifts w 11 place) ∙ shr-shr w 11 place in
      rw d (shr_lt (8 - place) (11 + place) (rw e h))

  -- the bits behind the last mark
  pub passed_all : {plain₁ : List ℕ} {kept₁ : Kept} → runs ≡ 0 → Gains (low_bits (8 - place) (word / 2048)) plain kept plain₁ kept₁ → TakenAs w plain₀ kept₀ plain₁ (Continue kept₁)
  passed_all z g =
      let e : place + (8 - place) ≡ 8 = omega (arith, x.few) in
      rw e at (passes_then w place (8 - place) x.passes
      (rw x.here at (passes_whole word (8 - place) (marks_none (8 - place) runs word x.marks z) g)))

  module _ (some : runs ≡ 0 → ⊥) where
    abbrev z : ℕ
    z = count_trailing_zeros 32 runs

    pub first : FirstMark (8 - place) runs z
    first = first_mark 32 (8 - place) runs (omega arith) some x.fits

    there : word / 2 ^ z ≡ w / 2 ^ (place + z)
    there = ap (λ (v : ℕ). v / 2 ^ z) x.here ∙ shr-shr w place z

    -- the bit there stands behind five ones
    spent : left_told (word / 2 ^ z % 2048) ≡ 0
    spent = eqb-true (left_told (word / 2 ^ z % 2048)) 0 (window_spent (word / 2 ^ z) ∙ ap five_ones (sym (shifts word 6 z)) ∙ sym (x.marks z first.few) ∙ first.mark)

    module _ {plain₁ : List ℕ} {kept₁ : Kept} (g : Gains (low_bits z (word / 2048 % 2 ^ z)) plain kept plain₁ kept₁) where
      -- the bits up to the mark
      part : Passes w (place + z) plain₀ kept₀ plain₁ kept₁
      part =
          passes_then w place z x.passes
          (rw x.here at (passes_whole word z (λ i l. sym (x.marks i (omega (arith, first.few))) ∙ first.none i l) (rw (low_bits_rest z (word / 2048)) at g)))

      -- a sixth one
      pub passed_six : word / 2 ^ z / 2048 % 2 ≡ 1 → TakenAs w plain₀ kept₀ plain₁ (Break (record { kept = kept₁; place = place + z; real = not (eqb (word / 2 ^ z % 32) 31) }))
      passed_six o =
          let t = word / 2 ^ z % 2048 in
          let e : t / 2 ^ left_told t % 32 ≡ word / 2 ^ z % 32 = ap (λ (k : ℕ). t / 2 ^ k % 32) spent ∙ omega arith in (
            record {
              few = omega (arith, first.few, x.few);
              one = ap (λ (v : ℕ). odd (v / 2048)) (sym there) ∙ eq-eqb (word / 2 ^ z / 2048 % 2) 1 o;
              left = ap (λ (v : ℕ). left_told (v % 2048)) (sym there) ∙ spent;
              kept = ap (λ (v : ℕ). not (eqb v 31)) (sym e) ∙ ap (λ (v : ℕ). kept_told (v % 2048)) there;
            },
            part,
          )

      -- an inserted zero
      pub passed_zero : (word / 2 ^ z / 2048 % 2 ≡ 1 → ⊥) → Passed w plain₀ kept₀ plain₁ kept₁ (word / 2 ^ z / 2) (runs / 2 ^ z / 2) (place + z + 1)
      passed_zero o =
          let m : 8 - (place + z + 1) ≡ 8 - place - (z + 1) = omega arith in
          let f : 8 - place - (z + 1) + (z + 1) ≡ 8 - place = omega (arith, first.few) in
          record {
            few = omega (arith, first.few, x.few);
            here = ap (λ (v : ℕ). v / 2) there ∙ shr-shr w (place + z) 1;
            marks = rw (m, shr-shr word z 1, shr-shr runs z 1) (marks_behind (8 - place) (z + 1) runs word (omega (arith, first.few)) x.marks);
            fits = rw (m, shr-shr runs z 1) (shr_lt (8 - place - (z + 1)) (z + 1) (rw f x.fits));
            passes = passes_then w (place + z) 1 part (rw there at (passes_zero (word / 2 ^ z) plain₁ kept₁ spent (ne_eqb (word / 2 ^ z / 2048 % 2) 1 o)));
          }
