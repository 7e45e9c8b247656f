-- The reading of a content as it goes: what holds at each place, and what is found at its end.
-- Assumes nothing.
use Prim.Native.Nat.{ℕ, zero, suc, ◌+◌, ◌-◌, ◌*◌, ◌/◌, ◌%◌, ◌^◌, ◌<◌, ◌≤◌}
use mathlib.Core.Path.{◌≡◌, refl, sym, ap, ◌∙◌}
use mathlib.Core.Bool.{Bool, true, false}
use mathlib.Core.List.{List, [], ◌∷◌, ◌++◌, append_assoc, append-nil}
use native.Mathlib.Decide.{dec_lt}
use native.Mathlib.Numerals.{add-one}
use native.Mathlib.Omega.{arith}
use lib.Count.{count_leading_zeros}
use lib.ListN.{length, get_or, take, drop, length-append, length-drop, length-take, take-append-drop, drop_of_length-le}
use lib.Pow.{shr-shr}
use lib.Seq.{length-take-le, take_all, take-nil, take-take, drop-cons, drop-drop, drop_at, get_or-take, get_or-drop}
use Rattle.octets.specs.Bits.{bits, number, odd}
use Rattle.octets.specs.Places.{pick}
use Rattle.octets.proofs.Laws.{length_bits}
use Rattle.octets.proofs.Digits.{octet_take}
use Rattle.std.specs.Prelude.{Option, Some, None}
use Rattle.frame.specs.Stuffing.{flag, stuffed, uncut, cut_into, content_from}
use Rattle.frame.specs.Pen.{low_bits}
use Rattle.frame.specs.Inner.{taken, left_behind, kept_behind, takens, lefts_behind, kepts_behind, NoSix, closes}
use Rattle.frame.specs.Content.{Keeps, left_told, kept_told, Passes, SixAt, Ends, Finds}
use Rattle.frame.specs.declared.Kept.{Kept}
use Rattle.frame.specs.declared.Found.{Found}
use Rattle.frame.proofs.Transparency.{content_is}
use Rattle.frame.proofs.Scanning.{pick_cutting, scan, scan_is}
use Rattle.frame.proofs.Sights.{length_run, drop_take}
use Rattle.frame.proofs.Pens.{length_low_bits, low_bits_take}
use Rattle.frame.proofs.Zeros.{low_bits_octet}
use Rattle.frame.proofs.Windows.{windows_behind}
use Rattle.frame.proofs.Starts.{shifts}
use Rattle.frame.proofs.Taking.{takens_few}

-- the bits B were read from start up to a place, where the window tells t: the bits kept, and what the rest will give
pub record Lined (B : List Bool) (start : ℕ) (plain : List ℕ) (kept : Kept) (t at : ℕ) : Type 0 where
  pub done : List Bool
  pub keeps : Keeps done plain kept
  pub goes : scan done (left_told t) (kept_told t) (drop at B) ≡ content_from 5 (drop start B)
  pub few : length done + start ≤ at
  pub six : kept_told t ≡ true → 6 ≤ length done + left_told t

-- ---- bits of `scan`

-- one bit
scan_turn : (done : List Bool) (k : ℕ) (kept b : Bool) (l : List Bool) → (b ≡ true → 0 < k) → scan (done ++ taken k b) (left_behind k b) (kept_behind kept k b) l ≡ scan done k kept (b ∷ l)
unfolding scan
scan_turn done k kept false l h = refl
scan_turn done zero kept true l h = absurd (omega (arith, h refl))
scan_turn done (suc k) kept true l h = let e : suc k - 1 ≡ k = omega arith in rw e

six_turn : (d k : ℕ) (kept b : Bool) → (b ≡ true → 0 < k) → (kept ≡ true → 6 ≤ d + k) → kept_behind kept k b ≡ true → 6 ≤ d + length (taken k b) + left_behind k b
six_turn d k kept true h s e = omega (arith, h refl, s e)
six_turn d zero kept false h s e = absurd (let z : ◌≡◌ {A = ℕ} 0 1 = cc in omega arith)
six_turn d (suc k) kept false h s e = omega arith

scan_turns : (done : List Bool) (k : ℕ) (kept : Bool) (bs l : List Bool) → NoSix k bs → scan (done ++ takens k bs) (lefts_behind k bs) (kepts_behind kept k bs) l ≡ scan done k kept (bs ++ l)
unfolding takens lefts_behind kepts_behind NoSix
scan_turns done k kept [] l f = rw (append-nil done)
scan_turns done k kept (b ∷ bs) l f =
    rw (← (append_assoc done (taken k b) (takens (left_behind k b) bs)))
    (scan_turns (done ++ taken k b) (left_behind k b) (kept_behind kept k b) bs l f.1 ∙ scan_turn done k kept b (bs ++ l) f.0)

six_turns : (d k : ℕ) (kept : Bool) (bs : List Bool) → NoSix k bs → (kept ≡ true → 6 ≤ d + k) → kepts_behind kept k bs ≡ true → 6 ≤ d + length (takens k bs) + lefts_behind k bs
unfolding takens lefts_behind kepts_behind NoSix
six_turns d k kept [] f s e = omega (arith, s e)
six_turns d k kept (b ∷ bs) f s e =
    omega (
      arith,
      length-append (taken k b) (takens (left_behind k b) bs),
      six_turns (d + length (taken k b)) (left_behind k b) (kept_behind kept k b) bs f.1 (six_turn d k kept b f.0 s) e,
    )

no_six_front : (n k : ℕ) (bs : List Bool) → NoSix k bs → NoSix k (take n bs)
unfolding NoSix
no_six_front zero k bs f = tt
no_six_front (suc n) k [] f = tt
no_six_front (suc n) k (b ∷ bs) f = (f.0, no_six_front n (left_behind k b) bs f.1)

-- bits of which only the first n are there, where nothing follows these
scan_through : (n : ℕ) (done : List Bool) (k : ℕ) (kept : Bool) (bs r : List Bool) → NoSix k bs → (n < length bs → r ≡ [])
    → scan (done ++ takens k bs) (lefts_behind k bs) (kepts_behind kept k bs) r ≡ scan done k kept (take n bs ++ r)
unfolding scan
scan_through n done k kept bs r f h = go (dec_lt n (length bs))
  where
    go : Dec (n < length bs) → scan (done ++ takens k bs) (lefts_behind k bs) (kepts_behind kept k bs) r ≡ scan done k kept (take n bs ++ r)
    go (yes y) = rw (h y) (scan_turns done k kept (take n bs) [] (no_six_front n k bs f))
    go (no y) = rw (take_all n bs (omega arith)) (scan_turns done k kept bs r f)

-- ---- the next bits of a run

take_both : (m n : ℕ) (l : List Bool) → take m (take n l) ≡ take n (take m l)
take_both zero n l = sym (take-nil n)
take_both (suc m) zero l = refl
take_both (suc m) (suc n) [] = refl
take_both (suc m) (suc n) (x ∷ l) = ap (λ (t : List Bool). x ∷ t) (take_both m n l)

get_or-low_bits : (n i v : ℕ) → i < n → get_or (low_bits n v) i false ≡ odd (v / 2 ^ i)
unfolding low_bits
get_or-low_bits zero i v h = absurd (omega arith)
get_or-low_bits (suc n) zero v h = let e : v / 1 ≡ v = omega arith in rw e
get_or-low_bits (suc n) (suc i) v h = get_or-low_bits n i (v / 2) (omega arith) ∙ ap odd (shr-shr v 1 i ∙ ap (λ (j : ℕ). v / 2 ^ j) (omega arith))

-- the bits of the octet x are the next ones of B; zeros may stand for bits behind its end
pub record Meets (B : List Bool) (at x : ℕ) : Type 0 where
  pub front : take 8 (drop at B) ≡ take (length B - at) (low_bits 8 x)

-- so they are where `octet_at` gives it
pub run_meets : (s : List ℕ) (count at x : ℕ) → count ≤ length s * 8 → at < count → x ≡ number (take 8 (drop at (bits s))) → Meets (take count (bits s)) at x
run_meets s count at x hc h e = record { front = rw (length_run s count hc) (a ∙ go (dec_lt (length X) (count - at))) }
  where
    X : List Bool
    X = take 8 (drop at (bits s))

    l : length (drop at (bits s)) ≡ length s * 8 - at
    l = length-drop at (bits s) ∙ ap (λ (n : ℕ). n - at) (length_bits s)

    a : take 8 (drop at (take count (bits s))) ≡ take (count - at) X
    a = ap (take 8) (drop_take at count (bits s)) ∙ take_both 8 (count - at) (drop at (bits s))

    b : take (length X) (low_bits 8 x) ≡ X
    b = rw (low_bits_octet x, e) (octet_take X (omega (arith, length-take 8 (drop at (bits s)))))

    go : Dec (length X < count - at) → take (count - at) X ≡ take (count - at) (low_bits 8 x)
    go (yes y) =
        let n : length X ≡ 8 = omega (arith, length-take 8 (drop at (bits s)), l) in
        ap (take (count - at)) (sym b ∙ ap (λ (m : ℕ). take m (low_bits 8 x)) n ∙ take_all 8 (low_bits 8 x) (omega (arith, length_low_bits 8 x)))
    go (no y) = ap (take (count - at)) (sym b) ∙ take-take (count - at) (length X) (low_bits 8 x) (omega arith)

-- ---- a turn

module _ (B : List Bool) (start w at : ℕ) (m : Meets B at (w / 2048)) where
  -- p of them, and what follows
  ahead : (p : ℕ) → p ≤ 8 → take (length B - at) (low_bits p (w / 2048)) ++ drop (at + p) B ≡ drop at B
  ahead p h =
      rw (← drop-drop p at B, ← (low_bits_take p 8 (w / 2048) h), take_both (length B - at) p (low_bits 8 (w / 2048)), ← m.front, take-take p 8 (drop at B) h)
      (take-append-drop p (drop at B))

  -- p bits are taken
  pub lined_turn : (p : ℕ) {plain₀ plain₁ : List ℕ} {kept₀ kept₁ : Kept} → p ≤ 8 → Lined B start plain₀ kept₀ (w % 2048) at → Passes w p plain₀ kept₀ plain₁ kept₁
      → Lined B start plain₁ kept₁ (w / 2 ^ p % 2048) (at + p)
  lined_turn p few now g =
      let bs = low_bits p (w / 2048) in
      let k = left_told (w % 2048) in
      let b = windows_behind p w g.no_six in
      let l = length-append now.done (takens k bs) in
      let through = scan_through (length B - at) now.done k (kept_told (w % 2048)) bs (drop (at + p) B) g.no_six (λ y. drop_of_length-le B {i = at + p} (omega (arith, length_low_bits p (w / 2048)))) in
      record {
        done = now.done ++ takens k bs;
        keeps = g.gains.keeps now.done now.keeps;
        goes =
            ap (λ (n : ℕ). scan (now.done ++ takens k bs) n (kept_told (w / 2 ^ p % 2048)) (drop (at + p) B)) (sym b.0)
            ∙ ap (λ (q : Bool). scan (now.done ++ takens k bs) (lefts_behind k bs) q (drop (at + p) B)) (sym b.1)
            ∙ through ∙ ap (scan now.done k (kept_told (w % 2048))) (ahead p few) ∙ now.goes;
        few = omega (arith, l, takens_few k bs, length_low_bits p (w / 2048), now.few);
        six =
            λ e.
            let s = six_turns (length now.done) k (kept_told (w % 2048)) bs g.no_six now.six (b.1 ∙ e) in
            omega (arith, b.0, l);
      }

  -- the sixth one is a bit of B, where the end is not before it
  pub six_one : (p : ℕ) (real : Bool) → SixAt w p real → at + p < length B → get_or B (at + p) false ≡ true
  six_one p real s h =
      sym (get_or-drop at B p false) ∙ sym (get_or-take 8 (drop at B) p false s.few) ∙ ap (λ (l : List Bool). get_or l p false) m.front
      ∙ get_or-take (length B - at) (low_bits 8 (w / 2048)) p false (omega arith) ∙ get_or-low_bits 8 p (w / 2048) s.few ∙ ap odd (shifts w 11 p) ∙ s.one

-- ---- the end

-- where the bits end there is no content
pub lined_end : (B : List Bool) (start : ℕ) (plain : List ℕ) (kept : Kept) (t at : ℕ) → Lined B start plain kept t at → length B ≤ at → content_from 5 (drop start B) ≡ uncut
unfolding scan
lined_end B start plain kept t at now h =
    let e : drop at B ≡ [] = drop_of_length-le B {i = at} h in
    sym now.goes ∙ ap (scan now.done (left_told t) (kept_told t)) e

closes_some : (kept : Bool) (r : List Bool) → closes kept r ≡ true → 1 ≤ length r
closes_some true [] e = absurd (let z : ◌≡◌ {A = ℕ} 0 1 = cc in omega arith)
closes_some true (true ∷ r) e = absurd (let z : ◌≡◌ {A = ℕ} 0 1 = cc in omega arith)
closes_some true (false ∷ r) e = omega arith
closes_some false r e = absurd (let z : ◌≡◌ {A = ℕ} 0 1 = cc in omega arith)

closes_kept : (kept : Bool) (r : List Bool) → closes kept r ≡ true → kept ≡ true
closes_kept true r e = refl
closes_kept false r e = e

module _ (B : List Bool) (start : ℕ) (plain : List ℕ) (kept : Kept) (t at : ℕ) (now : Lined B start plain kept t at) (z : left_told t ≡ 0)
    (one : at < length B → get_or B at false ≡ true) where
  -- a zero and five ones at least were kept, where the last zero counts
  pub lined_six : kept_told t ≡ true → (6 ≤ kept.size) × (6 ≤ at)
  lined_six k = (omega (arith, now.six k, now.keeps.size), omega (arith, now.six k, now.few))

  module _ (h : at < length B) where
    here : drop at B ≡ true ∷ drop (at + 1) B
    here = rw (add-one at) (drop-cons B at false h ∙ ap (λ (b : Bool). b ∷ drop (suc at) B) (one h))

    -- at a sixth one in a row, what `scan` gives is the content
    six_is : pick_cutting (closes (kept_told t) (drop (at + 1) B)) (cut_into (take (length now.done - 6) now.done) (flag ++ drop 1 (drop (at + 1) B))) uncut
        ≡ content_from 5 (drop start B)
    unfolding scan
    six_is = sym (ap (λ (k : ℕ). scan now.done k (kept_told t) (true ∷ drop (at + 1) B)) z) ∙ ap (scan now.done (left_told t) (kept_told t)) (sym here) ∙ now.goes

    -- where the rest is a flag and more, it begins six bits before the sixth one
    rest_is : (cs : List Bool) → 1 ≤ length (drop (at + 1) B) → 6 ≤ at → content_from 5 (drop start B) ≡ cut_into cs (flag ++ drop 1 (drop (at + 1) B))
        → drop (at - 6) B ≡ flag ++ drop 1 (drop (at + 1) B)
    rest_is cs some six e =
        let r = flag ++ drop 1 (drop (at + 1) B) in
        let d : drop start B ≡ stuffed 4 cs ++ r = (content_is (drop start B) cs r e).0 in
        let l₀ : length (drop start B) ≡ length B - start = length-drop start B in
        let l₁ : length (drop (at + 1) B) ≡ length B - (at + 1) = length-drop (at + 1) B in
        let l₂ : length (drop 1 (drop (at + 1) B)) ≡ length (drop (at + 1) B) - 1 = length-drop 1 (drop (at + 1) B) in
        let l₃ : length (drop start B) ≡ length (stuffed 4 cs) + length r = ap length d ∙ length-append (stuffed 4 cs) r in
        let s : at - 6 ≡ start + length (stuffed 4 cs) = omega (arith, now.few) in
        rw (s, ← drop-drop (length (stuffed 4 cs)) start B, d) (drop_at (stuffed 4 cs) r (length (stuffed 4 cs)) refl)

  -- what `end_content` found is the content
  found_end : (count : ℕ) (plain' : List ℕ) (found : Option Found) (closing : Bool) → count ≡ length B → closes (kept_told t) (drop (at + 1) B) ≡ closing
      → Ends (drop (at + 1) B) at plain kept (kept_told t) plain' found → Finds (content_from 5 (drop start B)) B count plain' found
  found_end count plain' found false hc c e =
      let f : found ≡ None = e.answer ∙ ap (λ (t : Bool). pick t (Some (record { bits = kept.size - 6; next = at - 6 })) None) c in
      rw f (go (dec_lt at (length B)))
    where
      go : Dec (at < length B) → content_from 5 (drop start B) ≡ uncut
      go (yes y) = sym (rw c at (six_is y))
      go (no n) = lined_end B start plain kept t at now (omega arith)
  found_end count plain' found true hc c e =
      let f : found ≡ Some (record { bits = kept.size - 6; next = at - 6 }) = e.answer ∙ ap (λ (t : Bool). pick t (Some (record { bits = kept.size - 6; next = at - 6 })) None) c in
      let some = closes_some (kept_told t) (drop (at + 1) B) c in
      let h : at < length B = omega (arith, length-drop (at + 1) B) in
      let n = length now.done - 6 in
      let six = lined_six (closes_kept (kept_told t) (drop (at + 1) B) c) in
      let p : cut_into (take n now.done) (flag ++ drop 1 (drop (at + 1) B)) ≡ content_from 5 (drop start B) = rw c at (six_is h) in
      let r : drop (at - 6) B ≡ flag ++ drop 1 (drop (at + 1) B) = rest_is h (take n now.done) some six.1 (sym p) in
      let size : kept.size - 6 ≡ n = ap (λ (m : ℕ). m - 6) now.keeps.size in
      rw (f, size)
      (record {
        content = take n now.done;
        cutting = rw r (sym p);
        long = length-take-le n now.done (omega arith);
        stands = λ k a b. e.plain c now.done now.keeps k (omega arith) b ∙ sym (take-take k n now.done a);
        within = omega arith;
      })

  pub found_content : (count : ℕ) (plain' : List ℕ) (found : Option Found) → count ≡ length B → Ends (drop (at + 1) B) at plain kept (kept_told t) plain' found
      → Finds (content_from 5 (drop start B)) B count plain' found
  found_content count plain' found hc e = found_end count plain' found (closes (kept_told t) (drop (at + 1) B)) hc refl e

-- nothing was read yet: the window has a zero behind five ones
pub lined_start : (B : List Bool) (start : ℕ) (plain : List ℕ) (kept : Kept) → kept.size ≡ 0 → kept.rest ≡ 0 → Lined B start plain kept 992 start
unfolding number count_leading_zeros
lined_start B start plain kept none rest =
    record {
      done = [];
      keeps = record { size = none; whole = λ k a b. go k a; rest = rest };
      goes = scan_is (drop start B);
      few = omega arith;
      six = λ e. absurd (let z : ◌≡◌ {A = ℕ} 0 1 = cc in omega arith);
    }
  where
    go : (k : ℕ) → k ≤ 0 → take k (bits plain) ≡ take k []
    go zero h = refl
    go (suc k) h = absurd (omega arith)

-- ---- the turns of `read_content`

-- the last 32 bits, with an octet more
abbrev pub with_octet : ℕ → ℕ → ℕ
with_octet line x = line / 256 + x * 16777216 % 4294967296

module _ (line x : ℕ) (hl : line < 4294967296) (hx : x < 256) where
  line_window : with_octet line x / 8192 % 2048 ≡ line / 2097152
  line_window = omega arith

  line_octet : with_octet line x / 8192 / 2048 ≡ x
  line_octet = omega arith

  line_behind : with_octet line x / 8192 / 256 % 2048 ≡ with_octet line x / 2097152
  line_behind = omega arith

-- x is the octet at a place of a run, and the line has the bits before it
module _ (s : List ℕ) (count start at line x : ℕ) (hc : count ≤ length s * 8) (h : at < count) (hl : line < 4294967296) (hx : x < 256) (ex : x ≡ number (take 8 (drop at (bits s))))
    {plain₀ : List ℕ} {kept₀ : Kept} (now : Lined (take count (bits s)) start plain₀ kept₀ (line / 2097152) at) where
  abbrev B : List Bool
  B = take count (bits s)

  abbrev w : ℕ
  w = with_octet line x / 8192

  meets : Meets B at (w / 2048)
  meets = rw (line_octet line x hl hx) (run_meets s count at x hc h ex)

  front : Lined B start plain₀ kept₀ (w % 2048) at
  front = rw (line_window line x hl hx) now

  -- eight bits
  pub octet_taken : {plain₁ : List ℕ} {kept₁ : Kept} → Passes w 8 plain₀ kept₀ plain₁ kept₁ → Lined B start plain₁ kept₁ (with_octet line x / 2097152) (at + 8)
  octet_taken g = rw (line_behind line x hl hx) at (lined_turn B start w at meets 8 (omega arith) front g)

  -- a sixth one
  module _ (p : ℕ) (real : Bool) {plain₁ : List ℕ} {kept₁ : Kept} (g : SixAt w p real × Passes w p plain₀ kept₀ plain₁ kept₁) where
    upto : Lined B start plain₁ kept₁ (w / 2 ^ p % 2048) (at + p)
    upto = lined_turn B start w at meets p (omega (arith, g.0.few)) front g.1

    pub six_kept : real ≡ true → (6 ≤ kept₁.size) × (6 ≤ at + p)
    six_kept e = lined_six B start plain₁ kept₁ (w / 2 ^ p % 2048) (at + p) upto g.0.left (six_one B start w at meets p real g.0) (sym g.0.kept ∙ e)

    pub six_found : {plain₂ : List ℕ} {found : Option Found} → Ends (drop (at + p + 1) B) (at + p) plain₁ kept₁ real plain₂ found → Finds (content_from 5 (drop start B)) B count plain₂ found
    six_found {plain₂} {found} e =
        found_content B start plain₁ kept₁ (w / 2 ^ p % 2048) (at + p) upto g.0.left (six_one B start w at meets p real g.0) count plain₂ found (sym (length_run s count hc))
        (rw g.0.kept at e)
