-- Bits of a run seen through a window of eleven: what the window tells of the next bit, and bits taken by what it tells.
-- Assumes nothing.
use Prim.Native.Nat.{ℕ, zero, suc, ◌+◌, ◌-◌, ◌*◌, ◌/◌, ◌%◌, ◌^◌, ◌<◌}
use mathlib.Core.Path.{◌≡◌, refl, sym, ap, ◌∙◌}
use mathlib.Core.Bool.{Bool, true, false, beq}
use mathlib.Core.List.{List, [], ◌∷◌}
use native.Mathlib.Nat.{div-one}
use native.Mathlib.Omega.{arith}
use borrow.Author.Tests.{eqb-true, eqb-false}
use lib.Count.{count_leading_zeros}
use lib.Dec.{eqb}
use lib.Pow.{shr-shr}
use Rattle.octets.specs.Bits.{num, odd}
use Rattle.octets.specs.Places.{pick, both}
use Rattle.octets.proofs.Laws.{both_true}
use Rattle.octets.proofs.Digits.{num-odd}
use Rattle.frame.specs.Pen.{low_bits}
use Rattle.frame.specs.Inner.{taken, left_behind, kept_behind, takens, lefts_behind, kepts_behind, NoSix}
use Rattle.frame.specs.Content.{left_told, kept_told, five_ones}
use Rattle.frame.proofs.Every.{every, every_at}

-- ---- tests of all windows

same : (a b : Bool) → beq a b ≡ true → a ≡ b
same true true e = refl
same true false e = sym e
same false true e = e
same false false e = refl

-- the window t behind a bit
abbrev behind : ℕ → Bool → ℕ
behind t b = t / 2 + num b * 1024

-- what it tells is right, if the bit is no sixth one
abbrev told : ℕ → Bool → Bool
told t b =
    pick (both b (eqb (left_told t) 0)) true
    (both (eqb (left_told (behind t b)) (left_behind (left_told t) b)) (beq (kept_told (behind t b)) (kept_behind (kept_told t) (left_told t) b)))

all_told : every (λ t. both (told t true) (told t false)) 2048 ≡ true
unfolding every count_leading_zeros
all_told = refl

-- no ones may come exactly behind five
abbrev spent : ℕ → Bool
spent five = beq (eqb (5 - count_leading_zeros 5 (31 - five)) 0) (eqb five 31)

all_spent : every spent 32 ≡ true
unfolding every count_leading_zeros
all_spent = refl

-- ---- the next bit

-- the window one bit on
window_next : (w : ℕ) → w / 2 % 2048 ≡ behind (w % 2048) (odd (w / 2048))
window_next w = omega (arith, num-odd (w / 2048))

told_is : (t : ℕ) (b : Bool) → t < 2048 → told t b ≡ true
told_is t b h = go b (both_true _ _ (every_at (λ t. both (told t true) (told t false)) 2048 t h all_told))
  where
    go : (b : Bool) → (told t true ≡ true) × (told t false ≡ true) → told t b ≡ true
    go true e = e.0
    go false e = e.1

-- how many ones may come behind a bit that is no sixth one, and whether the last zero stands in the content
record Behind (t : ℕ) (b : Bool) (t' : ℕ) : Type 0 where
  left : left_told t' ≡ left_behind (left_told t) b
  kept : kept_told t' ≡ kept_behind (kept_told t) (left_told t) b

behind_is : (t : ℕ) (b : Bool) → t < 2048 → (b ≡ true → 0 < left_told t) → Behind t b (behind t b)
behind_is t b h six = go (both b (eqb (left_told t) 0)) refl (told_is t b h)
  where
    right : Bool
    right = both (eqb (left_told (behind t b)) (left_behind (left_told t) b)) (beq (kept_told (behind t b)) (kept_behind (kept_told t) (left_told t) b))

    go : (s : Bool) → both b (eqb (left_told t) 0) ≡ s → pick s true right ≡ true → Behind t b (behind t b)
    go true e f =
        let x = both_true b (eqb (left_told t) 0) e in
        absurd (omega (arith, six x.0, eqb-true (left_told t) 0 x.1))
    go false e f = let x = both_true _ _ f in record { left = eqb-true _ _ x.0; kept = same _ _ x.1 }

window_behind : (w : ℕ) → (odd (w / 2048) ≡ true → 0 < left_told (w % 2048)) → Behind (w % 2048) (odd (w / 2048)) (w / 2 % 2048)
window_behind w six = rw (window_next w) (behind_is (w % 2048) (odd (w / 2048)) (omega arith) six)

-- behind five ones none may come
pub window_spent : (w : ℕ) → eqb (left_told (w % 2048)) 0 ≡ five_ones (w / 64)
window_spent w =
    let e : w % 2048 / 64 ≡ w / 64 % 32 = omega arith in
    rw e (same (eqb (5 - count_leading_zeros 5 (31 - w / 64 % 32)) 0) (eqb (w / 64 % 32) 31) (every_at spent 32 (w / 64 % 32) (omega arith) all_spent))

-- ---- the next bits

halves : (w n : ℕ) → w / 2 / 2 ^ n ≡ w / 2 ^ suc n
halves w n = shr-shr w 1 n ∙ ap (λ (k : ℕ). w / 2 ^ k) (omega arith)

-- the window behind bits that are taken
pub windows_behind : (n w : ℕ) → NoSix (left_told (w % 2048)) (low_bits n (w / 2048))
    → (lefts_behind (left_told (w % 2048)) (low_bits n (w / 2048)) ≡ left_told (w / 2 ^ n % 2048)) × (kepts_behind (kept_told (w % 2048)) (left_told (w % 2048)) (low_bits n (w / 2048)) ≡ kept_told (w / 2 ^ n % 2048))
unfolding low_bits lefts_behind kepts_behind NoSix
windows_behind zero w f = rw (div-one w) (refl, refl)
windows_behind (suc n) w f =
    let s = window_behind w f.0 in
    let d : w / 2048 / 2 ≡ w / 2 / 2048 = omega arith in
    let g : NoSix (left_told (w / 2 % 2048)) (low_bits n (w / 2 / 2048)) = rw (s.left, ← d) f.1 in
    let r = windows_behind n (w / 2) g in
    let q = halves w n in (
      ap (λ (k : ℕ). lefts_behind k (low_bits n (w / 2048 / 2))) (sym s.left) ∙ ap (λ (v : ℕ). lefts_behind (left_told (w / 2 % 2048)) (low_bits n v)) d ∙ r.0 ∙ ap (λ (v : ℕ). left_told (v % 2048)) q,
      ap (λ (k : ℕ). kepts_behind (kept_behind (kept_told (w % 2048)) (left_told (w % 2048)) (odd (w / 2048))) k (low_bits n (w / 2048 / 2))) (sym s.left)
          ∙ ap (λ (b : Bool). kepts_behind b (left_told (w / 2 % 2048)) (low_bits n (w / 2048 / 2))) (sym s.kept)
          ∙ ap (λ (v : ℕ). kepts_behind (kept_told (w / 2 % 2048)) (left_told (w / 2 % 2048)) (low_bits n v)) d ∙ r.1 ∙ ap (λ (v : ℕ). kept_told (v % 2048)) q,
    )

taken_whole : (k : ℕ) (b : Bool) → 0 < k → taken k b ≡ b ∷ []
taken_whole k true h = refl
taken_whole zero false h = absurd (omega arith)
taken_whole (suc k) false h = refl

-- bits of which none stands behind five ones are all bits of the content
pub whole : (n w : ℕ) → ((i : ℕ) → i < n → five_ones (w / 64 / 2 ^ i) ≡ false)
    → (takens (left_told (w % 2048)) (low_bits n (w / 2048)) ≡ low_bits n (w / 2048)) × NoSix (left_told (w % 2048)) (low_bits n (w / 2048))
unfolding low_bits takens NoSix
whole zero w h = (refl, tt)
whole (suc n) w h =
    let some : 0 < left_told (w % 2048) = omega (arith, eqb-false (left_told (w % 2048)) 0 (window_spent w ∙ ap five_ones (sym (div-one (w / 64))) ∙ h 0 (omega arith))) in
    let s = window_behind w (λ e. some) in
    let d : w / 2 / 2048 ≡ w / 2048 / 2 = omega arith in
    let c : w / 2 / 64 ≡ w / 64 / 2 = omega arith in
    let r = whole n (w / 2) (λ i l. ap (λ (v : ℕ). five_ones (v / 2 ^ i)) c ∙ ap five_ones (halves (w / 64) i) ∙ h (suc i) (omega arith)) in
    let q : (takens (left_behind (left_told (w % 2048)) (odd (w / 2048))) (low_bits n (w / 2048 / 2)) ≡ low_bits n (w / 2048 / 2)) × NoSix (left_behind (left_told (w % 2048)) (odd (w / 2048))) (low_bits n (w / 2048 / 2)) =
    rw (s.left, d) at r in
    (rw (taken_whole (left_told (w % 2048)) (odd (w / 2048)) some) (ap (λ (l : List Bool). odd (w / 2048) ∷ l) q.0), (λ e. some, q.1))
