-- What is put on a sheet, piece by piece: octets, a block, the blocks of a list head by head; and what is known of the parts of an
-- ascending list.
-- Assumes nothing.
use Prim.Native.Nat.{ℕ, zero, suc, ◌+◌, ◌-◌, ◌*◌, ◌/◌, ◌%◌, ◌^◌, ◌<◌, ◌≤◌}
use mathlib.Core.Path.{◌≡◌, refl, sym, ap, ◌∙◌}
use Rattle.std.specs.Prelude.{Result, Ok, Err}
use Rattle.std.specs.List.{prefix_len}
use mathlib.Core.Bool.{Bool, true, false, cond}
use mathlib.Core.List.{List, [], ◌∷◌, ◌++◌, append_assoc, append-nil}
use native.Mathlib.Nat.{div-eq_of_lt, mod-eq_of_lt, one-mul, mod-lt, mod-add-div', pow-suc, lt_of_mul-lt-mul_right}
use lib.Pow.{pow_pos, pow_mono, shl_exact}
use native.Mathlib.Numerals.{add-one}
use native.Mathlib.Omega.{arith}
use borrow.Author.Tests.{ltb-true, lt-ltb, eq-eqb, ne_eqb}
use lib.Dec.{ltb}
use lib.ListN.{length, get_or, set, take, drop, drop_of_length-le, length-append}
use lib.Seq.{take_at, drop_at}
use Rattle.octets.specs.Places.{pick}
use Rattle.octets.proofs.Laws.{drop_next, both_true}
use Rattle.tree.specs.Codes.{field_base}
use Rattle.message.specs.Kinds.{has_fields, first_octet}
use Rattle.tree.specs.Fields.{most_octets}
use Rattle.meaning.specs.Meaning.{all_shaped, ascending_from, ascending, all_parented}
use Rattle.meaning.specs.Written.{passed, skipped, carried, block_from, block_octets, run, from, positions, marked}
use Rattle.meaning.specs.Writing.{message_octets}
use Rattle.writer.specs.Inner.{Puts, ends_par, lower_block, head_put, heads_from, fields_put}
use Rattle.meaning.specs.Inner.{Between}
use Rattle.meaning.proofs.Blocks.{length_marked, block_some}
use Rattle.meaning.proofs.Growing.{within_wider, cut_within, run_from}
use Rattle.meaning.proofs.Meanings.{meaning_cut, within_between, between_within}
use Rattle.writer.proofs.Parents.{empty_some}
use Rattle.writer.proofs.Heads.{field_written, marked_both, heads_next}
use Rattle.writer.specs.declared.Full.{Full}
use Rattle.tree.specs.Levels.{width_of, mark_of}
use Rattle.tree.specs.declared.Level.{Level}
use Rattle.tree.specs.declared.Level.TheVariants.{Top, Low}

-- ---- octets put one after the other

-- octets put in two steps, and such that pass the end in the first or in the second
pub puts_then : (old a b : List ℕ) {now new : List ℕ} → now ≡ old ++ a → new ≡ now ++ b → new ≡ old ++ (a ++ b)
puts_then old a b x y = y ∙ rw (x, append_assoc old a b)

pub puts_over : (old a b : List ℕ) → most_octets < length (old ++ a) → most_octets < length (old ++ (a ++ b))
puts_over old a b h = omega (arith, length-append old a, length-append old (a ++ b), length-append a b)

pub puts_then_over : (old a b : List ℕ) {now : List ℕ} → now ≡ old ++ a → most_octets < length (now ++ b) → most_octets < length (old ++ (a ++ b))
puts_then_over old a b x h = rw (x, append_assoc old a b) at h

-- of the octets put behind old all but the last ones, todo, were put
pub record Putting (all todo old now : List ℕ) : Type 0 where
  pub whole : now ++ todo ≡ old ++ all

-- the next ones are put, or pass the end
pub putting_turn : (a : List ℕ) {all todo old now new : List ℕ} → Putting all (a ++ todo) old now → new ≡ now ++ a → Putting all todo old new
putting_turn a {todo = todo} {now = now} x y = record { whole = rw y (append_assoc now a todo ∙ x.whole) }

putting_long : (a todo : List ℕ) {all old now : List ℕ} → Putting all (a ++ todo) old now → most_octets < length now + length a → most_octets < length (old ++ all)
putting_long a todo {now = now} x h = omega (arith, ap length x.whole, length-append now (a ++ todo), length-append a todo)

pub putting_over : (a todo : List ℕ) {all old now : List ℕ} → Putting all (a ++ todo) old now → most_octets < length (now ++ a) → most_octets < length (old ++ all)
putting_over a todo {now = now} x h = putting_long a todo x (omega (arith, length-append now a))

-- all were put
pub putting_all : {all old now : List ℕ} → Putting all [] old now → now ≡ old ++ all
putting_all {now = now} x = sym (append-nil now) ∙ x.whole

-- the last ones are put, or pass the end
pub puts_last : {A : Type 0} {all a old now : List ℕ} (new : List ℕ) (r : Result A Full) → Putting all a old now → Puts a now new r → Puts all old new r
puts_last new (Ok v) x y = y ∙ x.whole
puts_last new (Err e) x y = rw x.whole at y

-- and octets put behind others
pub puts_more : {A : Type 0} (old a b : List ℕ) {now : List ℕ} (new : List ℕ) (r : Result A Full) → now ≡ old ++ a → Puts b now new r → Puts (a ++ b) old new r
puts_more old a b new (Ok v) x y = puts_then old a b x y
puts_more old a b new (Err e) x y = puts_then_over old a b x y

-- marking changes no length
marked_size : (l : List ℕ) → length (marked l) ≡ length l
unfolding marked
marked_size [] = refl
marked_size (d ∷ l) = length_marked d l

-- bit 8 is set in the last octet of the front of a buffer
marked_at : (k : ℕ) (l : List ℕ) → k < length l → take (suc k) (set l k (get_or l k 0 % 128 + 128)) ≡ marked (take (suc k) l)
unfolding marked
marked_at k [] h = absurd (omega arith)
marked_at zero (d ∷ l) h = refl
marked_at (suc k) (d ∷ []) h = absurd (omega arith)
marked_at (suc k) (d ∷ (e ∷ l)) h = ap (λ (x : List ℕ). d ∷ x) (marked_at k (e ∷ l) (omega arith))

pub marked_front : (n : ℕ) (l : List ℕ) → n ≤ length l → take n (pick (ltb 0 n) (set l (n - 1) (get_or l (n - 1) 0 % 128 + 128)) l) ≡ marked (take n l)
unfolding marked
marked_front zero l h = refl
marked_front (suc k) l h = let e : suc k - 1 ≡ k = omega arith in rw (lt-ltb 0 (suc k) (omega arith), e) (marked_at k l (omega arith))

-- ---- one block

-- k octets were passed from a hand of a block on, whose octet had a
pub record Passed (k a : ℕ) (old now : List ℕ) (octet : ℕ) : Type 0 where
  pub puts : now ≡ old ++ skipped k a
  pub left : octet ≡ carried k a

-- a block of either level has 6 or 7 positions to an octet, and the bit behind them ends it
pub level_widths : (v : Level) → (6 ≤ width_of v) × (width_of v ≤ 7) × (mark_of v ≡ 2 ^ width_of v)
level_widths Top = (omega arith, omega arith, refl)
level_widths Low = (omega arith, omega arith, refl)

-- the octets before that of position q were passed, from a hand on that has a, the positions above p: q stands so far ahead in the octet
-- then at hand
pub record Placed (w p a q : ℕ) (now new : List ℕ) (p₁ a₁ ahead : ℕ) : Type 0 where
  pub puts : new ≡ now ++ skipped (passed w p q) a
  pub above : p₁ ≡ p + passed w p q * w
  pub octet : a₁ ≡ carried (passed w p q) a
  pub ahead_is : ahead ≡ (q - p - 1) % w

-- it stands in the octet at hand
pub placed_here : (w p a q : ℕ) (now : List ℕ) → q - p - 1 < w → Placed w p a q now now p a (q - p - 1)
placed_here w p a q now h =
    let none : (q - p - 1) / w ≡ 0 = div-eq_of_lt h in
    record { puts = rw none (sym (append-nil now)); above = rw none (omega arith); octet = rw none; ahead_is = sym (mod-eq_of_lt h) }

-- or in one behind it
pub placed_far : (w p a q : ℕ) {now new : List ℕ} → 0 < w → w ≤ q - p - 1 → new ≡ now ++ skipped ((q - p - 1) / w) a
    → Placed w p a q now new (p + (q - p - 1) / w * w) 0 (q - p - 1 - (q - p - 1) / w * w)
placed_far w p a q some h y =
    let n = q - p - 1 in
    record { puts = y; above = refl; octet = none (n / w) (λ e. omega (arith, ap (λ (k : ℕ). k * w) e, mod-add-div' n w, mod-lt n some)); ahead_is = omega (arith, mod-add-div' n w) }
  where
    none : (k : ℕ) → (k ≡ 0 → ⊥) → 0 ≡ carried k a
    none zero h = absurd (h refl)
    none (suc k) h = refl

-- the bit ahead is one of the octet's seven, is not shifted out of eight, and stands above the bits that the octet has
pub record Bit (a ahead : ℕ) : Type 0 where
  pub few : ahead < 7
  pub kept : 1 * 2 ^ ahead % 256 ≡ 2 ^ ahead
  pub above : a + 2 ^ ahead < 2 ^ (ahead + 1)
  pub fits : a + 2 ^ ahead < 256

pub placed_bit : {w p a q : ℕ} {now new : List ℕ} {p₁ a₁ ahead : ℕ} → 0 < w → w ≤ 7 → a < 2 ^ (q - p - 1) → Placed w p a q now new p₁ a₁ ahead → Bit a₁ ahead
placed_bit {w} {p} {a} {q} some most low x =
    let n = q - p - 1 in
    let few : n % w < 7 = omega (arith, mod-lt n some) in
    let high = go (n / w) refl in
    rw (x.ahead_is, x.octet) (record {
      few = few;
      kept = shl_exact 1 (n % w) 8 (omega arith) (omega arith) ∙ one-mul (2 ^ (n % w));
      above = high;
      fits = omega (arith, high, pow_mono {i = n % w + 1} {j = 7} (omega (arith, few)));
    })
  where
    go : (k : ℕ) → (q - p - 1) / w ≡ k → carried k a + 2 ^ ((q - p - 1) % w) < 2 ^ ((q - p - 1) % w + 1)
    go zero e =
        let n = q - p - 1 in
        let z : n % w ≡ n = omega (arith, mod-add-div' n w, ap (λ (k : ℕ). k * w) e) in
        rw (z, add-one n) (omega (arith, pow-suc 2 n))
    go (suc k) e = let n = q - p - 1 in rw (add-one (n % w)) (omega (arith, pow-suc 2 (n % w), pow_pos (n % w)))

-- ---- the parts of a list

-- the codes below a limit with which a list begins are as many as pass the test
pub run_length : (lim : ℕ) (l : List ℕ) → prefix_len (λ x. ltb x lim) l ≡ length (run lim l)
unfolding run
run_length lim [] = refl
run_length lim (c ∷ l) = go (ltb c lim) (run_length lim l)
  where
    go : (t : Bool) → prefix_len (λ x. ltb x lim) l ≡ length (run lim l) → cond t (1 + prefix_len (λ x. ltb x lim) l) 0 ≡ length (pick t (c ∷ run lim l) [])
    go true e = omega (arith, e)
    go false e = refl

-- they, and the others, are its front and what is behind it
pub run_part : (lim n : ℕ) (l : List ℕ) → n ≡ length (run lim l) → take n l ≡ run lim l
run_part lim n l e = ap (λ (x : List ℕ). take n x) (sym (run_from lim l)) ∙ take_at (run lim l) (from lim l) n (sym e)

pub from_part : (lim n : ℕ) (l : List ℕ) → n ≡ length (run lim l) → drop n l ≡ from lim l
from_part lim n l e = ap (λ (x : List ℕ). drop n x) (sym (run_from lim l)) ∙ drop_at (run lim l) (from lim l) n (sym e)

-- ---- ascending lists

-- what is known of the first code, and of the others
pub between_head : {b lim c : ℕ} {l : List ℕ} → Between b lim (c ∷ l) → (b < c) × (c < lim)
unfolding ascending_from
between_head {b} {c = c} {l} x = (ltb-true b c (both_true (ltb b c) (ascending_from c l) x.up).0, x.below 0 (omega arith))

pub between_rest : {b lim c : ℕ} {l : List ℕ} → Between b lim (c ∷ l) → Between c lim l
unfolding ascending_from
between_rest {b} {c = c} {l} x = record { up = (both_true (ltb b c) (ascending_from c l) x.up).1; below = λ i h. x.below (suc i) (omega arith) }

-- in a wider range
pub between_wider : {b b' lim lim' : ℕ} {l : List ℕ} → b' ≤ b → lim ≤ lim' → Between b lim l → Between b' lim' l
between_wider {b} {b'} {lim} {l = l} h k x = record {
  up = (within_between b' lim l (within_wider (suc b) (suc b') lim l (omega arith) (between_within b lim l x))).up;
  below = λ i j. omega (arith, x.below i j);
}

-- the codes of an ascending list below a limit, and from it on
pub between_run : {b lim : ℕ} (x : ℕ) (l : List ℕ) → Between b lim l → Between b x (run x l)
between_run {b} {lim} x l y = within_between b x (run x l) (cut_within (suc b) x lim l (between_within b lim l y)).0

pub between_from : {b lim : ℕ} (x : ℕ) (l : List ℕ) → b < x → Between b lim l → Between b lim (from x l)
between_from {b} {lim} x l h y = within_between b lim (from x l) (within_wider x (suc b) lim (from x l) h (cut_within (suc b) x lim l (between_within b lim l y)).1)

-- ---- a block, code by code

-- of the block of a list all but what the codes from place i on give was put. The last position put stands in the octet at hand, which has
-- the positions above p, and a so far, with nothing above that
pub record Blocking (w m step base : ℕ) (list : List ℕ) (i : ℕ) (old now : List ℕ) (p a : ℕ) : Type 0 where
  pub puts : Putting (block_octets w m (positions step base list)) (block_from w m p a (positions step base (drop i list))) old now
  pub last : ℕ
  pub reached : p ≤ last
  pub near : last ≤ p + w
  pub low : a < 2 ^ (last - p)
  pub rest : Between (base + last * step) (base + 512 * step) (drop i list)

-- the code at place i, and its position q
module _ {w m step base : ℕ} {list : List ℕ} {i : ℕ} {old now : List ℕ} {p a : ℕ} (x : Blocking w m step base list i old now p a) (h : i < length list) where
  here : Between (base + x.last * step) (base + 512 * step) (get_or list i 0 ∷ drop (i + 1) list)
  here = rw (drop_next list i h) at x.rest

  pub blocking_base : base ≤ get_or list i 0
  blocking_base = omega (arith, (between_head here).0)

  -- it is no position of the block
  pub blocking_miss : ((get_or list i 0 - base) % step ≡ 0 → ⊥) → Blocking w m step base list (i + 1) old now p a
  unfolding positions
  blocking_miss k = record {
    puts = rw (drop_next list i h, ne_eqb _ _ k) at x.puts;
    last = x.last;
    reached = x.reached;
    near = x.near;
    low = x.low;
    rest = between_wider (omega (arith, (between_head here).0)) (omega arith) (between_rest here);
  }

  -- it is one, q: above the last one, and at most 511
  module _ (k : (get_or list i 0 - base) % step ≡ 0) where
    abbrev q : ℕ
    q = (get_or list i 0 - base) / step

    whole : q * step ≡ get_or list i 0 - base
    whole = omega (arith, mod-add-div' (get_or list i 0 - base) step)

    pub blocking_next : p < q
    blocking_next = let above : x.last < q = lt_of_mul-lt-mul_right step (omega (arith, whole, (between_head here).0)) in omega (arith, x.reached)

    -- the octet at hand has no bit there
    pub blocking_low : a < 2 ^ (q - p - 1)
    blocking_low =
        let above : x.last < q = lt_of_mul-lt-mul_right step (omega (arith, whole, (between_head here).0)) in
        omega (arith, x.low, pow_mono {i = x.last - p} {j = q - p - 1} (omega (arith, x.reached)))

    -- and is put
    pub blocking_hit : {new : List ℕ} {p₁ a₁ ahead a₂ : ℕ} → 0 < w → w ≤ 7 → Placed w p a q now new p₁ a₁ ahead → a₂ ≡ a₁ + 2 ^ ahead → Blocking w m step base list (i + 1) old new p₁ a₂
    unfolding positions block_from
    blocking_hit {p₁ = p₁} some few y s =
        let n = q - p - 1 in
        let split = mod-add-div' n w in
        let less = mod-lt n some in
        let later : q ≡ p₁ + (n % w + 1) = omega (arith, y.above, blocking_next) in
        let bit = (placed_bit some few blocking_low y).above in
        record {
          puts = putting_turn _ (rw (drop_next list i h, eq-eqb _ _ k, ← y.above, ← y.octet, ← y.ahead_is, ← s) at x.puts) y.puts;
          last = q;
          reached = omega arith;
          near = omega arith;
          low = let e : q - p₁ ≡ n % w + 1 = omega arith in rw (e, s, ← y.ahead_is) bit;
          rest = between_wider (omega (arith, whole, blocking_base)) (omega arith) (between_rest here);
        }

    -- or passes the end
    pub blocking_over : most_octets < length (now ++ skipped (passed w p q) a) → most_octets < length (old ++ block_octets w m (positions step base list))
    unfolding positions block_from
    blocking_over y = putting_over _ _ (rw (drop_next list i h, eq-eqb _ _ k) at x.puts) y

-- the last octet is left to put
pub blocking_end : {w m step base : ℕ} {list : List ℕ} {i : ℕ} {old now : List ℕ} {p a : ℕ} → Blocking w m step base list i old now p a
    → length list ≤ i → Putting (block_octets w m (positions step base list)) ((a + m) ∷ []) old now
unfolding positions block_from
blocking_end {list = list} {i} x h = rw (drop_of_length-le list {i = i} h) at x.puts

-- ---- the blocks of a list head by head

-- all but what the codes todo give was put
pub record Parting (list todo old now : List ℕ) : Type 0 where
  pub puts : Putting (heads_from 0 list) (heads_from 0 todo) old now
  pub rest : Between 0 (field_base 3) todo

-- the next head, with the codes under it and those behind them
module _ {list todo old now : List ℕ} {h : ℕ} {l : List ℕ} (x : Parting list todo old now) (e : todo ≡ h ∷ l) where
  opened : Parting list (h ∷ l) old now
  opened = rw e at x

  pub parting_head : h < field_base 3
  parting_head = (between_head opened.rest).1

  module _ {under behind : List ℕ} (cut : (under ≡ run (h + 512) l) × (behind ≡ from (h + 512) l)) where
    pub parting_under : Between h (h + 512) under
    parting_under = rw cut.0 (between_run _ l (between_rest opened.rest))

    pub parting_behind : Between h (field_base 3) behind
    parting_behind = rw cut.1 (between_from _ l (omega arith) (between_rest opened.rest))

    pub parting_fewer : length behind < length todo
    parting_fewer = omega (arith, ap length cut.1, ap length e, ap length (run_from (h + 512) l), length-append (run (h + 512) l) (from (h + 512) l))

    -- its blocks
    abbrev block : List ℕ
    block = block_octets 6 64 (positions 1 h under)

    abbrev lower : List ℕ
    lower = lower_block h behind

    left : Putting (heads_from 0 list) (head_put h under behind ++ heads_from 0 behind) old now
    left = rw (cut.0, cut.1) (rw (heads_next h l) at opened.puts)

    size : length (head_put h under behind) ≡ length block + length lower
    size = go (ends_par behind) ∙ length-append block lower
      where
        go : (t : Bool) → length (pick t (marked (block ++ lower)) (block ++ lower)) ≡ length (block ++ lower)
        go true = marked_size (block ++ lower)
        go false = refl

    -- one of them passes the end
    pub parting_over : most_octets < length (now ++ block) → most_octets < length (old ++ heads_from 0 list)
    parting_over y = putting_long (head_put h under behind) (heads_from 0 behind) left (omega (arith, size, length-append now block))

    module _ {now₁ : List ℕ} (y : now₁ ≡ now ++ block) where
      pub parting_lower_over : most_octets < length (now₁ ++ lower) → most_octets < length (old ++ heads_from 0 list)
      parting_lower_over z = putting_long (head_put h under behind) (heads_from 0 behind) left (omega (arith, size, ap length y, length-append now block, length-append now₁ lower))

      -- they are put, and an SPar(2) follows, or bit 8 is set
      module _ {now₂ : List ℕ} (z : now₂ ≡ now₁ ++ lower) where
        both_put : now₂ ≡ now ++ (block ++ lower)
        both_put = puts_then now block lower y z

        pub parting_on : ends_par behind ≡ false → Parting list behind old now₂
        parting_on k = record { puts = putting_turn (head_put h under behind) left (rw k both_put); rest = between_wider (omega arith) (omega arith) parting_behind }

        pub parting_closed : {now₃ : List ℕ} → ends_par behind ≡ true → now₃ ≡ marked now₂ → Parting list behind old now₃
        parting_closed k m = record {
          puts = putting_turn (head_put h under behind) left (rw k (m ∙ ap marked both_put ∙ marked_both now (block ++ lower)
              ∙ rw (empty_some (block ++ lower) (λ n. omega (arith, length-append block lower, block_some 6 64 (positions 1 h under))))));
          rest = between_wider (omega arith) (omega arith) parting_behind;
        }

-- all heads' blocks were put
pub parting_end : {list todo old now : List ℕ} → Parting list todo old now → length todo ≡ 0 → now ≡ old ++ heads_from 0 list
unfolding heads_from
parting_end {todo = []} x h = putting_all x.puts
parting_end {todo = c ∷ l} x h = absurd (omega arith)

-- ---- the message

-- behind octet 1 the fields are put, or there are none
pub message_fields : (kind revision : ℕ) (list ns : List ℕ) → has_fields kind ≡ true → all_shaped list ≡ true → ascending list ≡ true → all_parented list list ≡ true
    → message_octets kind revision list ns ≡ (first_octet kind revision ∷ []) ++ fields_put list ns
unfolding message_octets
message_fields kind revision list ns h s u p = let m = meaning_cut list s u p in rw (h, field_written 1 _ m.0, field_written 2 _ m.1)

pub message_short : (kind revision : ℕ) (list ns : List ℕ) → has_fields kind ≡ false → message_octets kind revision list ns ≡ first_octet kind revision ∷ []
unfolding message_octets
message_short kind revision list ns h = rw h
