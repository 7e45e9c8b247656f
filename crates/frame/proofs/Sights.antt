-- What is seen at a place of the first bits of a run: a flag, and how many.
-- Assumes nothing.
use Prim.Native.Nat.{ℕ, zero, suc, ◌+◌, ◌-◌, ◌*◌, ◌<◌, ◌≤◌}
use mathlib.Core.Path.{◌≡◌, refl, sym, ap, ◌∙◌}
use mathlib.Core.Bool.{Bool, true, false}
use mathlib.Core.List.{List, [], ◌∷◌, ◌++◌}
use native.Mathlib.Nat.{add-zero}
use native.Mathlib.Omega.{arith}
use borrow.Author.Tests.{eq-eqb, ne_eqb}
use lib.Dec.{eqb}
use lib.ListN.{length, take, drop, length-drop, take-append-drop}
use lib.Seq.{length-take-le, take-take, take-nil, drop-drop}
use Rattle.octets.specs.Bits.{bits, number}
use Rattle.octets.proofs.Laws.{length_bits}
use Rattle.octets.proofs.Digits.{number_inj}
use Rattle.frame.specs.Stuffing.{flag, starts}
use Rattle.frame.specs.Frame.{flags_at}
use Rattle.frame.specs.Run.{seen}
use Rattle.frame.specs.declared.Run.{Run}
use Rattle.frame.proofs.Scanning.{starts_is}

-- the first bits of a run
pub length_run : (s : List ℕ) (count : ℕ) → count ≤ length s * 8 → length (take count (bits s)) ≡ count
length_run s count h = length-take-le count (bits s) (omega (arith, length_bits s))

pub length_seen : (run : Run) → length (seen run) ≡ run.count
length_seen run = length_run run.octets.now run.count run.held

-- what stands behind a place of the first n
pub drop_take : (a n : ℕ) (l : List Bool) → drop a (take n l) ≡ take (n - a) (drop a l)
drop_take zero n l = let e : n ≡ n - 0 = omega arith in ap (λ (m : ℕ). take m l) e
drop_take (suc a) zero l = let e : 0 - suc a ≡ 0 = omega arith in rw e
drop_take (suc a) (suc n) [] = sym (take-nil (suc n - suc a))
drop_take (suc a) (suc n) (x ∷ l) = let e : suc n - suc a ≡ n - a = omega arith in rw e (drop_take a n l)

-- fewer bits than a flag's do not begin with it
pub starts_short : (p q : List Bool) → length q < length p → starts p q ≡ false
unfolding starts
starts_short [] q h = absurd (omega arith)
starts_short (a ∷ p) [] h = refl
starts_short (true ∷ p) (true ∷ q) h = starts_short p q (omega arith)
starts_short (true ∷ p) (false ∷ q) h = refl
starts_short (false ∷ p) (true ∷ q) h = refl
starts_short (false ∷ p) (false ∷ q) h = starts_short p q (omega arith)

-- bits begin with themselves
pub starts_with : (p r : List Bool) → starts p (p ++ r) ≡ true
unfolding starts
starts_with [] r = refl
starts_with (true ∷ p) r = starts_with p r
starts_with (false ∷ p) r = starts_with p r

-- a flag is eight bits that make 126
module _ (X : List Bool) (long : 8 ≤ length X) where
  eight : length (take 8 X) ≡ 8
  eight = length-take-le 8 X long

  by_octet : eqb (number (take 8 X)) 126 ≡ starts flag X
  unfolding number
  by_octet = go (starts flag X) refl
    where
      go : (f : Bool) → starts flag X ≡ f → eqb (number (take 8 X)) 126 ≡ f
      go true e =
          let t : take 8 X ≡ flag = ap (take 8) (starts_is flag X e) in
          eq-eqb (number (take 8 X)) 126 (ap number t)
      go false e =
          ne_eqb (number (take 8 X)) 126
          (λ q.
          let t : take 8 X ≡ flag = number_inj (take 8 X) flag eight q in
          let y : starts flag X ≡ true = ap (starts flag) (sym (take-append-drop 8 X) ∙ ap (λ (m : List Bool). m ++ drop 8 X) t) ∙ starts_with flag (drop 8 X) in
          let z : ◌≡◌ {A = ℕ} 0 1 = cc in
          omega arith)

-- eight bits of a run are eight of its first bits
pub take_eight : (s : List ℕ) (count at : ℕ) → at + 8 ≤ count → take 8 (drop at (take count (bits s))) ≡ take 8 (drop at (bits s))
take_eight s count at h = ap (take 8) (drop_take at count (bits s)) ∙ take-take 8 (count - at) (drop at (bits s)) (omega arith)

-- the test of `flag_at`: x is the octet that its eight bits make
pub flag_seen : (s : List ℕ) (count at x : ℕ) → count ≤ length s * 8 → at + 8 ≤ count → x ≡ number (take 8 (drop at (bits s)))
    → eqb x 126 ≡ starts flag (drop at (take count (bits s)))
flag_seen s count at x hc h e =
    ap (λ (m : ℕ). eqb m 126) (e ∙ ap number (sym (take_eight s count at h)))
    ∙ by_octet (drop at (take count (bits s))) (omega (arith, length-drop at (take count (bits s)), length_run s count hc))

pub flag_unseen : (s : List ℕ) (count at : ℕ) → count ≤ length s * 8 → count - at < 8 → false ≡ starts flag (drop at (take count (bits s)))
flag_unseen s count at hc h =
    sym (starts_short flag (drop at (take count (bits s))) (omega (arith, length-drop at (take count (bits s)), length_run s count hc)))

-- the turns of `count_flags`
flag_room : (X : List Bool) → starts flag X ≡ true → 8 ≤ length X
flag_room X e = omega (arith, ap length (starts_is flag X e))

module _ (B : List Bool) (m k p : ℕ) (h : k < m) where
  step : m - k ≡ suc (m - (k + 1))
  step = omega arith

  pub flags_more : starts flag (drop p B) ≡ true → k + 1 + flags_at (m - (k + 1)) (drop (p + 8) B) ≡ k + flags_at (m - k) (drop p B)
  unfolding flags_at
  flags_more e = rw (step, e, drop-drop 8 p B) (omega arith)

  pub flags_stop : starts flag (drop p B) ≡ false → k ≡ k + flags_at (m - k) (drop p B)
  unfolding flags_at
  flags_stop e = rw (step, e) (omega arith)

pub flags_next : (B : List Bool) (p : ℕ) → p ≤ length B → starts flag (drop p B) ≡ true → p + 8 ≤ length B
flags_next B p h e = omega (arith, flag_room (drop p B) e, length-drop p B)

pub flags_none : (m k : ℕ) (X : List Bool) → m ≤ k → k + flags_at (m - k) X ≡ k
unfolding flags_at
flags_none m k X h = let e : m - k ≡ 0 = omega arith in rw (e, add-zero)
