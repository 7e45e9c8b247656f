-- NS and what announces it: bit 7 of the first NPar(1) octet of I is code 1.0.0.7, and no other bit of a message is. And NS is
-- well-formed where it stands in a message exactly if it is by itself.
-- Assumes nothing.
use Prim.Native.Nat.{ℕ, zero, suc, ◌+◌, ◌-◌, ◌*◌, ◌/◌, ◌%◌, ◌≤◌, ◌<◌}
use mathlib.Core.Bool.{Bool, true, false, not}
use mathlib.Core.List.{List, [], ◌∷◌, ◌++◌}
use mathlib.Core.Path.{◌≡◌, refl, sym, ap, ◌∙◌}
use native.Mathlib.Omega.{arith}
use borrow.Author.Tests.{ltb-true, leb-true, eqb-true, lt-ltb, le-leb, eq-eqb, ne_eqb}
use lib.Dec.{ltb, leb, eqb}
use lib.ListN.{length, get_or, drop, length-drop}
use lib.Seq.{get_or-drop}
use Rattle.octets.specs.Bits.{odd}
use Rattle.octets.specs.Places.{pick}
use Rattle.tree.specs.Block.{keep, set_bits, block_numbers, numbers, behind, ended}
use Rattle.tree.specs.Codes.{code_of, field_base, sub_codes, group_codes, group_behind, par_codes, rest_codes, field_codes, of_s}
use Rattle.tree.specs.Form.{Form, Fine, Left, is_fine}
use Rattle.tree.specs.Fields.{is_in}
use Rattle.tree.proofs.Forms.{is_fine_lem}
use Rattle.tree.proofs.Lowest.{in_bits}
use Rattle.message.specs.Kinds.{has_fields, type_of}
use Rattle.message.specs.Nonstandard.{ns_announced, ns_form, tail_form}
use Rattle.message.specs.Reader.{standard_at, message_codes, has_ns}
use Rattle.meaning.specs.Writing.{is_empty, ns_agrees}

-- ---- codes above a number

-- each number is above x
unfoldable Above : ℕ → List ℕ → Type 0
Above x [] = Unit {0}
Above x (y ∷ l) = (x < y) × Above x l

-- so x is none of them
above_not : (x : ℕ) (l : List ℕ) → Above x l → is_in x l ≡ false
unfolding Above is_in
above_not x [] a = refl
above_not x (y ∷ l) a = rw (ne_eqb y x (λ e. omega (arith, a.0))) (above_not x l a.1)

-- two such lists are one
above_append : (x : ℕ) (a r : List ℕ) → Above x a → Above x r → Above x (a ++ r)
unfolding Above
above_append x [] r h k = k
above_append x (y ∷ a) r h k = (h.0, above_append x a r h.1 k)

-- one of two such lists is one
above_pick : (x : ℕ) (t : Bool) (a r : List ℕ) → Above x a → Above x r → Above x (pick t a r)
above_pick x true a r h k = h
above_pick x false a r h k = k

-- the set bits of an octet are above what they are numbered from
above_bits : (x w p d : ℕ) → x ≤ p → Above x (set_bits w p d)
unfolding set_bits Above
above_bits x zero p d h = tt
above_bits x (suc w) p d h = go (d % 2) (above_bits x w (p + 1) (d / 2) (omega arith))
  where
    go : (b : ℕ) → Above x (set_bits w (p + 1) (d / 2)) → Above x (keep b (p + 1) (set_bits w (p + 1) (d / 2)))
    go zero r = r
    go (suc b) r = (omega arith, r)

-- and so are the numbers of a block
above_numbers : (x w m p : ℕ) (l : List ℕ) → x ≤ p → Above x (block_numbers w m p l)
unfolding block_numbers Above
above_numbers x w m p [] h = tt
above_numbers x w m p (o ∷ l) h =
    above_append x (set_bits w p o) _ (above_bits x w p o h) (above_pick x (ltb o m) (block_numbers w m (p + w) l) [] (above_numbers x w m (p + w) l (omega arith)) tt)

-- the codes below SPar(2) positions are above what these stand under
above_subs : (x c : ℕ) (ts l : List ℕ) (e : ℕ) → x < c → Above x (sub_codes c ts l e)
unfolding sub_codes Above
above_subs x c [] l e h = tt
above_subs x c (t ∷ ts) l e h =
    (omega arith, above_append x (numbers 6 64 (c + t * 512) l e) _ (above_numbers x 6 64 (c + t * 512) (drop e l) (omega arith)) (above_subs x c ts l (behind 64 l e) h))

-- and so are those of a Par(2) block behind its NPar(2)
above_group : (x c : ℕ) (l : List ℕ) (e : ℕ) → x < c → Above x (group_codes c l e)
unfolding group_codes Above
above_group x c l e h = above_pick x (ended l e) [] (sub_codes c (numbers 6 64 0 l e) l (behind 64 l e)) tt (above_subs x c (numbers 6 64 0 l e) l (behind 64 l e) h)

-- the codes below SPar(1) positions, which are above 0, begin at s = 1
above_pars : (x b : ℕ) (ss l : List ℕ) (e : ℕ) → x < b + of_s → Above 0 ss → Above x (par_codes b ss l e)
unfolding par_codes Above
above_pars x b [] l e h k = tt
above_pars x b (s ∷ ss) l e h k =
    let c = b + s * of_s in
    let i = behind 64 l e in
    let N = numbers 6 64 c l e in
    let G = group_codes c l i in
    let less : x < c = omega (arith, k.0) in
    let under = above_append x N G (above_numbers x 6 64 c (drop e l) (omega arith)) (above_group x c l i less) in
    (less, above_append x (N ++ G) (par_codes b ss l (group_behind l i)) under (above_pars x b ss l (group_behind l i) h k.1))

-- so those of SPar(1) and what it announces do
above_rest : (x b : ℕ) (l : List ℕ) (e : ℕ) → x < b + of_s → Above x (rest_codes b l e)
unfolding rest_codes
above_rest x b l e h = above_pars x b (numbers 7 128 0 l e) l (behind 128 l e) h (above_numbers 0 7 128 0 (drop e l) (omega arith))

-- the codes of a field are above what they stand above
above_field : (x b : ℕ) (l : List ℕ) (e : ℕ) → x ≤ b → Above x (field_codes b l e)
unfolding field_codes
above_field x b l e h =
    above_append x (numbers 7 128 b l e) _ (above_numbers x 7 128 b (drop e l) h) (above_rest x b l (behind 128 l e) (omega arith))

-- ---- the code that announces NS

-- a number of two lists that is none of the second is one of the first
in_first_only : (x : ℕ) (a r : List ℕ) → Above x r → is_in x (a ++ r) ≡ is_in x a
unfolding is_in
in_first_only x [] r h = above_not x r h
in_first_only x (y ∷ a) r h = rw (in_first_only x a r h)

-- bit 7 of the octet with which a block of level 1 begins is its seventh parameter, and so is no other, nor what stands behind
first_seven : (b : ℕ) (l r : List ℕ) → Above (b + 7) r → is_in (b + 7) (block_numbers 7 128 b l ++ r) ≡ odd (get_or l 0 0 / 64)
unfolding block_numbers Above
first_seven b [] r h = above_not (b + 7) r h
first_seven b (o ∷ l) r h =
    let x = b + 7 in
    let P = pick (ltb o 128) (block_numbers 7 128 x l) [] in
    let n : b + 6 + 1 ≡ x = omega arith in
    in_first_only x (set_bits 7 b o ++ P) r h
    ∙ in_first_only x (set_bits 7 b o) P (above_pick x (ltb o 128) (block_numbers 7 128 x l) [] (above_numbers x 7 128 x l (omega arith)) tt)
    ∙ rw n at (in_bits 7 b 6 o (omega arith))

-- of the codes of a field above b, b.0.0.7 is that bit of its first octet
pub field_seven : (b : ℕ) (l : List ℕ) (e : ℕ) → is_in (b + 7) (field_codes b l e) ≡ odd (get_or l e 0 / 64)
unfolding field_codes
field_seven b l e =
    let i : e + 0 ≡ e = omega arith in
    let d : get_or (drop e l) 0 0 ≡ get_or l e 0 = rw i at (get_or-drop e l 0 0) in
    rw (← d) (first_seven b (drop e l) (rest_codes b l (behind 128 l e)) (above_rest (b + 7) b l (behind 128 l e) (omega arith)))

-- NS is announced exactly if the codes of the fields have 1.0.0.7, wherever S begins
pub announced_fields : (l : List ℕ) (e : ℕ) → ns_announced l ≡ is_in (code_of 1 0 0 7) (field_codes (field_base 1) l 1 ++ field_codes (field_base 2) l e)
announced_fields l e =
    let x = code_of 1 0 0 7 in
    sym (in_first_only x (field_codes (field_base 1) l 1) (field_codes (field_base 2) l e) (above_field x (field_base 2) l e (omega arith)) ∙ field_seven (field_base 1) l 1)

-- a message has NS exactly if it has the code 1.0.0.7
pub announced_code : (l : List ℕ) → has_ns l ≡ is_in (code_of 1 0 0 7) (message_codes l)
unfolding message_codes is_in
announced_code l = go (has_fields (type_of l))
  where
    go : (t : Bool) → pick t (ns_announced l) false ≡ is_in (code_of 1 0 0 7) (pick t (field_codes (field_base 1) l 1 ++ field_codes (field_base 2) l (standard_at l)) [])
    go true = announced_fields l (standard_at l)
    go false = refl

-- ---- NS wherever it stands

-- two tests that hold together are the same
same_test : (s t : Bool) → (s ≡ true → t ≡ true) → (t ≡ true → s ≡ true) → s ≡ t
same_test true t f g = sym (f refl)
same_test false true f g = g refl
same_test false false f g = refl

-- a form that a test picks is fine as the one that it picks is
fine_pick : (t : Bool) (f g : Form) → is_fine (pick t f g) ≡ pick t (is_fine f) (is_fine g)
fine_pick true f g = refl
fine_pick false f g = refl

-- of n octets e are left off, so that m are left: what is tested of a place there is the same without them
module _ (e n m : ℕ) (h : m ≡ n - e) (x : ℕ) where
  -- it is behind the octets
  past_end : leb n (e + x) ≡ leb m x
  past_end = same_test _ _ (λ t. le-leb m x (omega (arith, leb-true n (e + x) t))) (λ t. le-leb n (e + x) (omega (arith, leb-true m x t)))

  -- something ends behind them
  beyond_end : 0 < x → ltb n (e + x) ≡ ltb m x
  beyond_end p = same_test _ _ (λ t. lt-ltb m x (omega (arith, ltb-true n (e + x) t))) (λ t. lt-ltb n (e + x) (omega (arith, ltb-true m x t)))

  -- it ends with them
  at_end : 0 < x → eqb (e + x) n ≡ eqb x m
  at_end p = same_test _ _ (λ t. eq-eqb x m (omega (arith, eqb-true (e + x) n t))) (λ t. eq-eqb (e + x) n (omega (arith, eqb-true x m t)))

-- blocks from a place of a message on are fine exactly if they are by themselves
ns_moved : (k : ℕ) (l ns : List ℕ) (e a : ℕ) → drop e l ≡ ns → is_fine (ns_form k l (e + a)) ≡ is_fine (ns_form k ns a)
unfolding ns_form
ns_moved zero l ns e a d = refl
ns_moved (suc k) l ns e a d =
    let n = get_or ns a 0 in
    let same : get_or l (e + a) 0 ≡ n = sym (get_or-drop e l a 0) ∙ ap (λ (x : List ℕ). get_or x a 0) d in
    let next : e + a + 1 + n ≡ e + (a + 1 + n) = omega arith in
    let size : length ns ≡ length l - e = ap length (sym d) ∙ length-drop e l in
    let x = a + 1 + n in
    rw (same, next, past_end e (length l) (length ns) size a, beyond_end e (length l) (length ns) size x (omega arith), at_end e (length l) (length ns) size x (omega arith))
    (simp (fine_pick, ns_moved k l ns e x d))

-- as many blocks as there are octets are enough
pub ns_enough : (j k : ℕ) (l : List ℕ) (e : ℕ) → length l ≤ e + j → length l ≤ e + k → ns_form j l e ≡ ns_form k l e
unfolding ns_form
ns_enough zero zero l e h m = refl
ns_enough zero (suc k) l e h m = rw (le-leb (length l) e (omega arith))
ns_enough (suc j) zero l e h m = rw (le-leb (length l) e (omega arith))
ns_enough (suc j) (suc k) l e h m = rw (ns_enough j k l (e + 1 + get_or l e 0) (omega arith) (omega arith))

-- NS is well-formed where it stands exactly if it is by itself
pub ns_anywhere : (l ns : List ℕ) (e : ℕ) → drop e l ≡ ns → is_fine (ns_form (length l) l e) ≡ is_fine (ns_form (length ns) ns 0)
ns_anywhere l ns e d =
    let size : length ns ≡ length l - e = ap length (sym d) ∙ length-drop e l in
    let z : e + 0 ≡ e = omega arith in
    ap is_fine (ns_enough (length l) (length ns) l e (omega arith) (omega arith)) ∙ (rw z at (ns_moved (length ns) l ns e 0 d))

-- if it is by itself, it is there
pub ns_placed : (l ns : List ℕ) (e : ℕ) → drop e l ≡ ns → ns_form (length ns) ns 0 ≡ Fine → ns_form (length l) l e ≡ Fine
ns_placed l ns e d f = is_fine_lem (ns_form (length l) l e) (ns_anywhere l ns e d ∙ ap is_fine f)

-- if it is there, it is by itself
pub ns_taken : (l ns : List ℕ) (e : ℕ) → drop e l ≡ ns → ns_form (length l) l e ≡ Fine → ns_form (length ns) ns 0 ≡ Fine
ns_taken l ns e d f = is_fine_lem (ns_form (length ns) ns 0) (sym (ns_anywhere l ns e d) ∙ ap is_fine f)

-- ---- the writer's rule for NS and the reader's

-- the same on both sides of a test
pick_same : (t u : Bool) → pick t u u ≡ u
pick_same true u = refl
pick_same false u = refl

-- a test picks itself
pick_self : (t : Bool) → pick t true false ≡ t
pick_self true = refl
pick_self false = refl

-- what stands in octets behind S agrees with codes that announce it exactly if it is well-formed there
pub tail_agrees : (l list : List ℕ) (e : ℕ) → e ≤ length l → ns_announced l ≡ is_in (code_of 1 0 0 7) list → ns_agrees list (drop e l) ≡ is_fine (tail_form l e)
unfolding ns_agrees tail_form ns_form
tail_agrees l list e h a = rw (← a) (go (drop e l) (ns_announced l) refl)
  where
    go : (ns : List ℕ) (t : Bool) → drop e l ≡ ns
        → pick (is_empty ns) (not t) (pick (is_fine (ns_form (length ns) ns 0)) t false) ≡ is_fine (pick t (ns_form (length l) l e) (pick (eqb e (length l)) Fine (Left e)))
    go [] true d = sym (ns_anywhere l [] e d)
    go [] false d = rw (eq-eqb e (length l) (omega (arith, ap length (sym d) ∙ length-drop e l)))
    go (x ∷ ns) true d = pick_self (is_fine (ns_form (length (x ∷ ns)) (x ∷ ns) 0)) ∙ sym (ns_anywhere l (x ∷ ns) e d)
    go (x ∷ ns) false d =
        rw (ne_eqb e (length l) (λ z. omega (arith, ap length (sym d) ∙ length-drop e l)))
        (pick_same (is_fine (ns_form (length (x ∷ ns)) (x ∷ ns) 0)) false)
