-- A content read bit by bit with a count of ones and no look-ahead is the content up to the first flag, without its inserted zeros.
-- Assumes nothing.
use Prim.Native.Nat.{ℕ, zero, suc, ◌+◌, ◌-◌, ◌<◌}
use mathlib.Core.Path.{◌≡◌, refl, sym, ap, ◌∙◌}
use mathlib.Core.Bool.{Bool, true, false}
use mathlib.Core.List.{List, [], ◌∷◌, ◌++◌, append_assoc, append-nil}
use mathlib.Core.Option.{Option, none, some}
use native.Mathlib.Omega.{arith}
use lib.ListN.{length, take, drop, length-append}
use lib.Seq.{take_at}
use Rattle.frame.specs.Stuffing.{flag, starts, unstuffed, with_first, Cutting, uncut, cut_into, with_front, cut_here, cut, with_rest, unstuffed_part, content_from}
use Rattle.frame.specs.Inner.{taken, kept_behind, closes}

-- k ones before the bits q
abbrev pub ones : ℕ → List Bool → List Bool
ones zero q = q
ones (suc k) q = true ∷ ones k q

abbrev pub with_fronts : List Bool → Cutting → Cutting
with_fronts [] x = x
with_fronts (b ∷ bs) x = with_front b (with_fronts bs x)

with_fronts_append : (c d : List Bool) (x : Cutting) → with_fronts (c ++ d) x ≡ with_fronts c (with_fronts d x)
with_fronts_append [] d x = refl
with_fronts_append (b ∷ c) d x = ap (with_front b) (with_fronts_append c d x)

with_fronts_uncut : (c : List Bool) → with_fronts c uncut ≡ uncut
with_fronts_uncut [] = refl
with_fronts_uncut (b ∷ c) = ap (with_front b) (with_fronts_uncut c)

with_fronts_cut : (c d r : List Bool) → with_fronts c (cut_into d r) ≡ cut_into (c ++ d) r
with_fronts_cut [] d r = refl
with_fronts_cut (b ∷ c) d r = ap (with_front b) (with_fronts_cut c d r)

abbrev pub pick_cutting : Bool → Cutting → Cutting → Cutting
pick_cutting true x y = x
pick_cutting false x y = y

-- one bit of `content_from`, where no flag begins
part_one : (k : ℕ) (x : Cutting) → unstuffed_part (suc k) (with_front true x) ≡ with_front true (unstuffed_part k x)
unfolding unstuffed
part_one k uncut = refl
part_one k (cut_into body r) = go (unstuffed k body)
  where
    go : (o : Option (List Bool)) → with_rest (with_first true o) r ≡ with_front true (with_rest o r)
    go none = refl
    go (some cs) = refl

part_zero : (k : ℕ) (x : Cutting) → unstuffed_part (suc k) (with_front false x) ≡ with_front false (unstuffed_part 5 x)
unfolding unstuffed
part_zero k uncut = refl
part_zero k (cut_into body r) = go (unstuffed 5 body)
  where
    go : (o : Option (List Bool)) → with_rest (with_first false o) r ≡ with_front false (with_rest o r)
    go none = refl
    go (some cs) = refl

part_six : (x : Cutting) → unstuffed_part zero (with_front true x) ≡ uncut
unfolding unstuffed
part_six uncut = refl
part_six (cut_into body r) = refl

part_skip : (x : Cutting) → unstuffed_part zero (with_front false x) ≡ unstuffed_part 5 x
unfolding unstuffed
part_skip uncut = refl
part_skip (cut_into body r) = refl

content_one : (k : ℕ) (l : List Bool) → content_from (suc k) (true ∷ l) ≡ with_front true (content_from k l)
unfolding content_from cut_here starts
content_one k l = part_one k (cut l)

content_six : (l : List Bool) → content_from zero (true ∷ l) ≡ uncut
unfolding content_from cut_here starts
content_six l = part_six (cut l)

content_zero : (k : ℕ) (l : List Bool) → starts flag (false ∷ l) ≡ false → content_from (suc k) (false ∷ l) ≡ with_front false (content_from 5 l)
unfolding content_from cut_here
content_zero k l f = rw f (part_zero k (cut l))

content_flag : (k : ℕ) (l : List Bool) → content_from (suc k) (flag ++ l) ≡ cut_into [] (flag ++ l)
unfolding content_from cut_here starts unstuffed
content_flag k l = refl

-- behind j ones
content_ones : (j k : ℕ) (l : List Bool) → content_from (j + k) (ones j l) ≡ with_fronts (ones j []) (content_from k l)
content_ones zero k l = ap (λ (n : ℕ). content_from n l) (omega arith)
content_ones (suc j) k l =
    let e : suc j + k ≡ suc (j + k) = omega arith in
    rw e (content_one (j + k) (ones j l) ∙ ap (with_front true) (content_ones j k l))

-- ones alone have no end
content_endless : (k j : ℕ) → content_from k (ones j []) ≡ uncut
unfolding content_from cut_here
content_endless k zero = refl
content_endless zero (suc j) = content_six (ones j [])
content_endless (suc k) (suc j) = content_one k (ones j []) ∙ ap (with_front true) (content_endless k j)

starts_ones_end : (m j : ℕ) → starts (ones m (false ∷ [])) (ones j []) ≡ false
unfolding starts
starts_ones_end zero zero = refl
starts_ones_end zero (suc j) = refl
starts_ones_end (suc m) zero = refl
starts_ones_end (suc m) (suc j) = starts_ones_end m j

-- fewer ones, and a zero behind them, are not the begin of a flag
starts_ones_few : (m j : ℕ) (q l : List Bool) → j < m → starts (ones m q) (ones j (false ∷ l)) ≡ false
unfolding starts
starts_ones_few zero j q l h = absurd (omega arith)
starts_ones_few (suc m) zero q l h = refl
starts_ones_few (suc m) (suc j) q l h = starts_ones_few m j q l (omega arith)

-- bits that begin with others are those and what follows
pub starts_is : (p l : List Bool) → starts p l ≡ true → l ≡ p ++ drop (length p) l
unfolding starts
starts_is [] l e = refl
starts_is (a ∷ p) [] e = absurd (let z : ◌≡◌ {A = ℕ} 0 1 = cc in omega arith)
starts_is (true ∷ p) (true ∷ l) e = ap (λ (m : List Bool). true ∷ m) (starts_is p l e)
starts_is (true ∷ p) (false ∷ l) e = absurd (let z : ◌≡◌ {A = ℕ} 0 1 = cc in omega arith)
starts_is (false ∷ p) (true ∷ l) e = absurd (let z : ◌≡◌ {A = ℕ} 0 1 = cc in omega arith)
starts_is (false ∷ p) (false ∷ l) e = ap (λ (m : List Bool). false ∷ m) (starts_is p l e)

-- six ones are no content, whatever follows
content_many : (l : List Bool) → content_from 5 (ones 6 l) ≡ uncut
content_many l = content_ones 5 0 (true ∷ l) ∙ ap (with_fronts (ones 5 [])) (content_six l)

-- the zero behind five ones is left out: where a flag begins at it, neither reading finds a content
content_skip : (l : List Bool) → content_from zero (false ∷ l) ≡ content_from 5 l
unfolding content_from cut_here starts unstuffed
content_skip l = go (starts flag (false ∷ l)) refl
  where
    go : (f : Bool) → starts flag (false ∷ l) ≡ f → unstuffed_part zero (cut_here f (false ∷ l)) ≡ content_from 5 l
    go true e = sym (ap (content_from 5) (starts_is (ones 6 (false ∷ [])) l e) ∙ content_many (false ∷ drop 7 l))
    go false e = part_skip (cut l)

-- the reading, bit by bit: the bits put so far, how many ones may still come, whether the last zero stands among the bits put
unfoldable pub scan : List Bool → ℕ → Bool → List Bool → Cutting
scan put k kept [] = uncut
scan put k kept (false ∷ l) = scan (put ++ taken k false) 5 (kept_behind kept k false) l
scan put (suc k) kept (true ∷ l) = scan (put ++ (true ∷ [])) k kept l
scan put zero kept (true ∷ l) = pick_cutting (closes kept l) (cut_into (take (length put - 6) put) (flag ++ drop 1 l)) uncut

-- the last zero, where it stands among the bits put, before the ones behind it
abbrev led : Bool → List Bool → List Bool
led true q = false ∷ q
led false q = q

-- how many ones might come before that zero
abbrev first : Bool → ℕ → ℕ
first true k = suc k
first false k = 5

ones_one : (j : ℕ) (l : List Bool) → ones j (true ∷ l) ≡ ones (suc j) l
ones_one zero l = refl
ones_one (suc j) l = ap (λ (m : List Bool). true ∷ m) (ones_one j l)

ones_append : (j : ℕ) (l : List Bool) → ones j [] ++ l ≡ ones j l
ones_append zero l = refl
ones_append (suc j) l = ap (λ (m : List Bool). true ∷ m) (ones_append j l)

led_one : (kept : Bool) (c : List Bool) (j : ℕ) → (c ++ led kept (ones j [])) ++ (true ∷ []) ≡ c ++ led kept (ones (suc j) [])
led_one true c j = append_assoc c (false ∷ ones j []) (true ∷ []) ∙ ap (λ (m : List Bool). c ++ (false ∷ m)) (ones_append j (true ∷ []) ∙ ones_one j [])
led_one false c j = append_assoc c (ones j []) (true ∷ []) ∙ ap (λ (m : List Bool). c ++ m) (ones_append j (true ∷ []) ∙ ones_one j [])

-- at a zero behind fewer than six ones
at_zero : (kept : Bool) (k j left : ℕ) (l : List Bool) → j + left ≡ 5 → content_from (first kept k) (led kept (ones j (false ∷ l))) ≡ with_fronts (led kept (ones j [])) (content_from left (false ∷ l))
unfolding starts
at_zero true k j left l h =
    content_zero k (ones j (false ∷ l)) (starts_ones_few 6 j (false ∷ []) l (omega arith))
    ∙ ap (with_front false) (rw h at (content_ones j left (false ∷ l)))
at_zero false k j left l h = rw h at (content_ones j left (false ∷ l))

-- at the end of the bits
at_end : (kept : Bool) (k j : ℕ) → content_from (first kept k) (led kept (ones j [])) ≡ uncut
unfolding starts
at_end true k j = content_zero k (ones j []) (starts_ones_end 6 j) ∙ ap (with_front false) (content_endless 5 j)
at_end false k j = content_endless 5 j

-- at a sixth one
at_six : (kept : Bool) (k : ℕ) (c l : List Bool)
    → pick_cutting (closes kept l) (cut_into (take (length (c ++ led kept (ones 5 [])) - 6) (c ++ led kept (ones 5 []))) (flag ++ drop 1 l)) uncut
    ≡ with_fronts c (content_from (first kept k) (led kept (ones 6 l)))
unfolding starts
at_six false k c l = sym (ap (with_fronts c) (content_many l) ∙ with_fronts_uncut c)
at_six true k c [] = sym (ap (with_fronts c) (at_end true k 6) ∙ with_fronts_uncut c)
at_six true k c (true ∷ l) = sym (ap (with_fronts c) (content_zero k (ones 7 l) refl ∙ ap (with_front false) (content_many (true ∷ l))) ∙ with_fronts_uncut c)
at_six true k c (false ∷ l) =
    ap (λ (m : List Bool). cut_into m (flag ++ l)) (take_at c (false ∷ ones 5 []) (length (c ++ (false ∷ ones 5 [])) - 6) (omega (arith, length-append c (false ∷ ones 5 []))) ∙ sym (append-nil c))
    ∙ sym (ap (with_fronts c) (content_flag k l) ∙ with_fronts_cut c [] (flag ++ l))

-- where j ones were put behind the last zero, and that zero too if it was kept, and the bits c before them
scan_led : (l : List Bool) (kept : Bool) (c : List Bool) (k j left : ℕ) → j + left ≡ 5
    → scan (c ++ led kept (ones j [])) left kept l ≡ with_fronts c (content_from (first kept k) (led kept (ones j l)))
unfolding scan
scan_led [] kept c k j left h = sym (ap (with_fronts c) (at_end kept k j) ∙ with_fronts_uncut c)
scan_led (false ∷ l) kept c k j zero h =
    scan_led l false (c ++ led kept (ones j [])) k 0 5 refl
    ∙ with_fronts_append c (led kept (ones j [])) (content_from 5 l)
    ∙ ap (with_fronts c) (ap (with_fronts (led kept (ones j []))) (sym (content_skip l)) ∙ sym (at_zero kept k j zero l h))
scan_led (false ∷ l) kept c k j (suc left) h =
    scan_led l true (c ++ led kept (ones j [])) left 0 5 refl
    ∙ with_fronts_append c (led kept (ones j [])) (content_from (suc left) (false ∷ l))
    ∙ ap (with_fronts c) (sym (at_zero kept k j (suc left) l h))
scan_led (true ∷ l) kept c k j (suc left) h = rw (led_one kept c j, ones_one j l) (scan_led l kept c k (suc j) left (omega arith))
scan_led (true ∷ l) kept c k j zero h = let e : j ≡ 5 = omega arith in rw (e, ones_one 5 l) (at_six kept k c l)

-- from the start of a content
pub scan_is : (l : List Bool) → scan [] 5 false l ≡ content_from 5 l
scan_is l = scan_led l false [] 0 0 5 refl
