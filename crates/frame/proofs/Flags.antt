-- Flags at the start of some bits: counted up to a bound, they are there, and those that are there are counted.
-- Assumes nothing.
use Prim.Native.Nat.{ℕ, zero, suc, ◌+◌, ◌*◌, ◌≤◌, ◌<◌}
use mathlib.Core.Path.{◌≡◌, refl, ap, ◌∙◌}
use mathlib.Core.Bool.{Bool, true, false}
use mathlib.Core.List.{List, ◌++◌}
use native.Mathlib.Numerals.{add-one}
use native.Mathlib.Omega.{arith}
use lib.ListN.{length, drop, length-append}
use lib.Seq.{drop-drop}
use Rattle.frame.specs.Stuffing.{flag, starts}
use Rattle.frame.specs.Frame.{flags, one_more, flags_at}
use Rattle.frame.proofs.Scanning.{starts_is}

-- a flag has eight bits
pub length_flags : (k : ℕ) → length (flags k) ≡ k * 8
unfolding flags
length_flags zero = refl
length_flags (suc k) = omega (arith, length_flags k)

-- the bits are the flags counted, and what follows them
pub flags_are : (m : ℕ) (l : List Bool) → l ≡ flags (flags_at m l) ++ drop (flags_at m l * 8) l
unfolding flags flags_at
flags_are zero l = refl
flags_are (suc m) l = go (starts flag l) (flags_at m (drop 8 l)) refl (flags_are m (drop 8 l))
  where
    go : (f : Bool) (n : ℕ) → starts flag l ≡ f → drop 8 l ≡ flags n ++ drop (n * 8) (drop 8 l) → l ≡ flags (one_more f n) ++ drop (one_more f n * 8) l
    go true n s h =
        let e : (n + 1) * 8 ≡ 8 + n * 8 = omega arith in
        rw (e, ← (drop-drop (n * 8) 8 l), add-one n) (starts_is flag l s ∙ ap (λ (t : List Bool). flag ++ t) h)
    go false n s h = refl

-- k flags before bits that begin with no flag are counted
pub flags_counted : (k m : ℕ) (l : List Bool) → k ≤ m → starts flag l ≡ false → flags_at m (flags k ++ l) ≡ k
unfolding flags flags_at starts
flags_counted zero zero l h s = refl
flags_counted zero (suc m) l h s = rw s
flags_counted (suc k) zero l h s = absurd (omega arith)
flags_counted (suc k) (suc m) l h s = rw (flags_counted k m l (omega arith) s, add-one)

-- of m flags or more, m are counted, whatever follows
pub flags_capped : (k m : ℕ) (l : List Bool) → m ≤ k → flags_at m (flags k ++ l) ≡ m
unfolding flags flags_at starts
flags_capped k zero l h = refl
flags_capped zero (suc m) l h = absurd (omega arith)
flags_capped (suc k) (suc m) l h = rw (flags_capped k m l (omega arith), add-one)

-- no more are counted than the bound
pub flags_most : (m : ℕ) (l : List Bool) → flags_at m l ≤ m
unfolding flags_at
flags_most zero l = omega arith
flags_most (suc m) l = go (starts flag l) (flags_most m (drop 8 l))
  where
    go : (f : Bool) → flags_at m (drop 8 l) ≤ m → one_more f (flags_at m (drop 8 l)) ≤ suc m
    go true h = omega arith
    go false h = omega arith

-- the bits have room for the flags counted
pub flags_fit : (m : ℕ) (l : List Bool) → flags_at m l * 8 ≤ length l
flags_fit m l =
    omega (arith, ap length (flags_are m l), length-append (flags (flags_at m l)) (drop (flags_at m l * 8) l), length_flags (flags_at m l))

-- a flag that is there is counted
pub flags_some : (m : ℕ) (l : List Bool) → starts flag l ≡ true → 0 < m → 0 < flags_at m l
unfolding flags_at
flags_some zero l s h = absurd (omega arith)
flags_some (suc m) l s h = rw s (omega arith)
