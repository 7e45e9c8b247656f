-- The positions of a block as the bits of a number.
-- Assumes nothing.
use Prim.Native.Nat.{ℕ, zero, suc, ◌+◌, ◌-◌, ◌*◌, ◌/◌, ◌%◌, ◌^◌, ◌≤◌, ◌<◌}
use mathlib.Core.Bool.{Bool, true, false}
use mathlib.Core.List.{List, [], ◌++◌, append-nil}
use mathlib.Core.Path.{◌≡◌, refl, sym, ap, ◌∙◌}
use native.Mathlib.Nat.{mod-lt, mod-eq_of_lt, pow-suc, le-div_iff_mul-le}
use native.Mathlib.Numerals.{add-one}
use native.Mathlib.Omega.{arith}
use borrow.Author.Tests.{ltb-true, ltb-false, eq-eqb}
use lib.Arith.{digits_lt}
use lib.Count.{count_trailing_zeros}
use lib.Dec.{ltb}
use lib.ListN.{length, drop, get_or, length-drop, drop_of_length-le}
use lib.Pow.{pow_pos, pow-add, field, shl-shr, shr-shr, shr_le, high, low, mod-pow-add, mod-mod-pow}
use Rattle.octets.specs.Bits.{num, odd}
use Rattle.octets.specs.Places.{pick}
use Rattle.octets.proofs.Laws.{drop_next}
use Rattle.tree.specs.Block.{keep, set_bits, block_numbers, numbers, behind}
use Rattle.tree.specs.Fields.{is_in}
use Rattle.tree.proofs.Forms.{behind_stop, behind_go, behind_out, end_above}
use Rattle.tree.proofs.Few.{block_few}
use Rattle.tree.proofs.Lowest.{lowest, bits_none, in_bits}
use Rattle.tree.proofs.Numbering.{keep_append}
use Rattle.good.specs.Learned.{value_from, block_value, block_bits}

-- ---- an octet more, from the last to the first

-- what is above 32 bits is lost before or after
shifted : (w v d : ℕ) → w ≤ 32 → d < 2 ^ w → v % 2 ^ 32 * 2 ^ w % 2 ^ 32 + d ≡ (d + v * 2 ^ w) % 2 ^ 32
shifted w v d h k =
    let j : ℕ = 32 - w in
    let x : ℕ = v % 2 ^ 32 in
    let z : j + w ≡ 32 = omega arith in
    let y : w + j ≡ 32 = omega arith in
    let o : d + v * 2 ^ w ≡ v * 2 ^ w + d = omega arith in
    let zero_low : x * 2 ^ w % 2 ^ w ≡ 0 = ap (λ (n : ℕ). n % 2 ^ w) (omega arith) ∙ low x w (pow_pos w) in
    let left : x * 2 ^ w % 2 ^ 32 ≡ v % 2 ^ j * 2 ^ w + 0 = rw (z, shl-shr x w, zero_low, rw y at (mod-mod-pow v w j)) at (mod-pow-add (x * 2 ^ w) j w) in
    let right : (v * 2 ^ w + d) % 2 ^ 32 ≡ v % 2 ^ j * 2 ^ w + d = rw (z, high v w k, low v w k) at (mod-pow-add (v * 2 ^ w + d) j w) in
    rw o (omega (arith, left, right))

-- none is 0
pub value_none : (w : ℕ) (l : List ℕ) (i : ℕ) → 0 ≡ value_from w l i (i - i) % 2 ^ 32
unfolding value_from
value_none w l i = let z : i - i ≡ 0 = omega arith in rw z

pub value_turn : (w m : ℕ) (l : List ℕ) (i end bits : ℕ) → m ≡ 2 ^ w → w ≤ 7 → 0 < i → i ≤ end → bits ≡ value_from w l i (end - i) % 2 ^ 32
    → bits * 2 ^ w % 2 ^ 32 + get_or l (i - 1) 0 % m ≡ value_from w l (i - 1) (end - (i - 1)) % 2 ^ 32
unfolding value_from
value_turn w m l i end bits e h p q b =
    let z : end - (i - 1) ≡ suc (end - i) = omega arith in
    let n : i - 1 + 1 ≡ i = omega arith in
    rw (z, n, b, e) (shifted w (value_from w l i (end - i)) (get_or l (i - 1) 0 % 2 ^ w) (omega arith) (mod-lt (get_or l (i - 1) 0) (pow_pos w)))

-- at the first it is that of the block
pub value_end : (w m : ℕ) (l : List ℕ) (e i end : ℕ) {bits : ℕ} → end ≡ behind m l e → e ≤ i → i ≤ e → bits ≡ value_from w l i (end - i) % 2 ^ 32 → bits ≡ block_bits w m l e
value_end w m l e i end h p q b = let z : i ≡ e = omega arith in rw (z, h) at b

-- ---- the bits of a number that has octets of w bits

-- low bits and high bits
bits_join : (w v p a b : ℕ) → set_bits (w + v) p (a % 2 ^ w + b * 2 ^ w) ≡ set_bits w p a ++ set_bits v (p + w) b
unfolding set_bits
bits_join zero v p a b =
    let z : 0 + v ≡ v = omega arith in
    let n : a % 1 + b * 1 ≡ b = omega arith in
    let o : p + 0 ≡ p = omega arith in
    rw (z, n, o)
bits_join (suc w) v p a b =
    let z : suc w + v ≡ suc (w + v) = omega arith in
    let o : p + suc w ≡ p + 1 + w = omega arith in
    let twice : b * 2 ^ suc w ≡ b * 2 ^ w * 2 = rw (pow-suc 2 w) (omega arith) in
    let even : a % 2 ^ suc w % 2 ≡ a % 2 = ap (λ (n : ℕ). a % 2 ^ n % 2) (sym (add-one w)) ∙ mod-mod-pow a w 1 in
    let half : a % 2 ^ suc w / 2 ≡ a / 2 % 2 ^ w = ap (λ (n : ℕ). a % 2 ^ n / 2) (sym (add-one w)) ∙ field a w 1 in
    let m : (a % 2 ^ suc w + b * 2 ^ suc w) % 2 ≡ a % 2 = rw twice (omega (arith, even)) in
    let h : (a % 2 ^ suc w + b * 2 ^ suc w) / 2 ≡ a / 2 % 2 ^ w + b * 2 ^ w = rw twice (omega (arith, half)) in
    rw (z, o, m, h, keep_append (a % 2)) (ap (keep (a % 2) (p + 1)) (bits_join w v (p + 1) (a / 2) b))

-- no bit is above those that hold the number
bits_wide : (w v p a : ℕ) → a < 2 ^ w → set_bits (w + v) p a ≡ set_bits w p a
bits_wide w v p a h =
    let n : a % 2 ^ w + 0 * 2 ^ w ≡ a = omega (arith, mod-eq_of_lt h) in
    rw n at (bits_join w v p a 0) ∙ ap (λ (l : List ℕ). set_bits w p a ++ l) (bits_none v (p + w)) ∙ append-nil (set_bits w p a)

pub bits_same : (w v p a : ℕ) → a < 2 ^ w → a < 2 ^ v → set_bits w p a ≡ set_bits v p a
bits_same w v p a h k = let z : w + v ≡ v + w = omega arith in sym (bits_wide w v p a h) ∙ ap (λ (n : ℕ). set_bits n p a) z ∙ bits_wide v w p a k

value_small : (w : ℕ) (l : List ℕ) (i k : ℕ) → value_from w l i k < 2 ^ (w * k)
unfolding value_from
value_small w l i zero = pow_pos (w * 0)
value_small w l i (suc k) =
    let z : w * suc k ≡ w * k + w = omega arith in
    let o = get_or l i 0 in
    let v = value_from w l (i + 1) k in
    let e : v * 2 ^ w + o % 2 ^ w ≡ o % 2 ^ w + v * 2 ^ w = omega arith in
    rw (z, pow-add 2 (w * k) w, ← e) (digits_lt (value_small w l (i + 1) k) (mod-lt o (pow_pos w)))

-- ---- a block

-- an octet there is in the block
behind_some : (m i : ℕ) (l : List ℕ) → i < length l → i < behind m l i
behind_some m i l h = go (ltb (get_or l i 0) m) refl
  where
    go : (t : Bool) → ltb (get_or l i 0) m ≡ t → i < behind m l i
    go true e = omega (arith, behind_go m i l h (ltb-true _ m e), end_above m (i + 1) (drop (i + 1) l))
    go false e = omega (arith, behind_stop m i l h (ltb-false _ m e))

-- it ends within the octets
pub behind_most : (m : ℕ) (l : List ℕ) (e : ℕ) → e < behind m l e → behind m l e ≤ length l
behind_most m l e h = omega (arith, (block_few 0 m 0 e (drop e l)).1, length-drop e l)

-- its positions are the bits of its number
value_bits : (w m : ℕ) (l : List ℕ) (k i p : ℕ) → k ≡ behind m l i - i → set_bits (w * k) p (value_from w l i k) ≡ numbers w m p l i
unfolding value_from block_numbers set_bits
value_bits w m l zero i p e = go (ltb i (length l)) refl
  where
    go : (t : Bool) → ltb i (length l) ≡ t → set_bits (w * 0) p 0 ≡ numbers w m p l i
    go true h = absurd (omega (arith, behind_some m i l (ltb-true i _ h)))
    go false h = rw (drop_of_length-le l {i = i} (ltb-false i _ h)) (bits_none (w * 0) p)
value_bits w m l (suc k) i p e = start (ltb i (length l)) refl (value_bits w m l k (i + 1) (p + w))
  where
    o : ℕ
    o = get_or l i 0

    v : ℕ
    v = value_from w l (i + 1) k

    go : i < length l → (t : Bool) → ltb o m ≡ t → (k ≡ behind m l (i + 1) - (i + 1) → set_bits (w * k) (p + w) v ≡ numbers w m (p + w) l (i + 1))
        → set_bits (w * k) (p + w) v ≡ pick t (numbers w m (p + w) l (i + 1)) []
    go h true f rest = rest (omega (arith, behind_go m i l h (ltb-true o m f)))
    go h false f rest = let z : k ≡ 0 = omega (arith, behind_stop m i l h (ltb-false o m f)) in rw z (bits_none (w * 0) (p + w))

    start : (t : Bool) → ltb i (length l) ≡ t → (k ≡ behind m l (i + 1) - (i + 1) → set_bits (w * k) (p + w) v ≡ numbers w m (p + w) l (i + 1))
        → set_bits (w * suc k) p (o % 2 ^ w + v * 2 ^ w) ≡ numbers w m p l i
    start true h rest =
        let z : w * suc k ≡ w + w * k = omega arith in
        let inside = ltb-true i (length l) h in
        rw (z, drop_next l i inside) (bits_join w (w * k) p o v ∙ ap (λ (r : List ℕ). set_bits w p o ++ r) (go inside (ltb o m) refl rest))
    start false h rest = absurd (omega (arith, behind_out m i l (ltb-false i _ h)))

-- a position is set exactly if that bit is
pub block_bit : (w m : ℕ) (l : List ℕ) (e i : ℕ) → odd (block_value w m l e / 2 ^ i) ≡ is_in (i + 1) (numbers w m 0 l e)
block_bit w m l e i =
    let k = behind m l e - e in
    let v = block_value w m l e in
    let z : 0 + i + 1 ≡ i + 1 = omega arith in
    sym (rw z at (in_bits (w * k + (i + 1)) 0 i v (omega arith))) ∙ ap (is_in (i + 1)) (bits_wide (w * k) (i + 1) 0 v (value_small w l e k) ∙ value_bits w m l k e 0 refl)

-- where no position is above h, no bit is
pub block_small : (w m : ℕ) (l : List ℕ) (e h : ℕ) → ((k : ℕ) → h < k → is_in k (numbers w m 0 l e) ≡ false) → block_value w m l e < 2 ^ h
unfolding is_in
block_small w m l e h none = go (ltb v (2 ^ h)) refl
  where
    v : ℕ
    v = block_value w m l e

    n : ℕ
    n = w * (behind m l e - e)

    d : ℕ
    d = v / 2 ^ h

    z : ℕ
    z = count_trailing_zeros n d

    go : (t : Bool) → ltb v (2 ^ h) ≡ t → v < 2 ^ h
    go true f = ltb-true v (2 ^ h) f
    go false f =
        let some : 0 < d = (le-div_iff_mul-le (pow_pos h)).1 (omega (arith, ltb-false v (2 ^ h) f)) in
        let low = lowest n n 0 d (omega arith) some (omega (arith, shr_le v h, value_small w l e (behind m l e - e))) in
        let at : 0 + z + 1 ≡ 0 + (z + 1) = omega arith in
        let set : is_in (0 + z + 1) (set_bits n 0 d) ≡ true = rw (low.1, at, eq-eqb (0 + (z + 1)) (0 + (z + 1)) refl) in
        let bit = sym (in_bits n 0 z d low.0) ∙ set in
        absurd (omega (arith, ap num (sym bit ∙ ap odd (shr-shr v h z) ∙ block_bit w m l e (h + z) ∙ none (h + z + 1) (omega arith))))

-- then they are its positions above 0, as the bits of one octet would be
pub block_list : (w m : ℕ) (l : List ℕ) (e h : ℕ) → block_value w m l e < 2 ^ h → set_bits h 0 (block_value w m l e) ≡ numbers w m 0 l e
block_list w m l e h s = let k = behind m l e - e in bits_same h (w * k) 0 (block_value w m l e) s (value_small w l e k) ∙ value_bits w m l k e 0 refl
