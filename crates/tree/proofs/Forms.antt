-- Laws of a field's form and extent: a block octet by octet, the blocks that an SPar block announces as a count of ones, and the blocks
-- below it one after the other.
-- Assumes nothing.
use mathlib.Core.Path.{◌≡◌, refl, sym, ap, ◌∙◌}
use mathlib.Core.List.{List, [], ◌∷◌}
use Rattle.std.specs.Prelude.{Some, None, Result, Ok, Err}
use Rattle.std.specs.Result.{IsErrAnd}
use Rattle.std.proofs.lemmas.Result.{err_from_is_err_and}
use mathlib.Core.Bool.{Bool, true, false}
use Prim.Native.Nat.{ℕ, zero, suc, ◌+◌, ◌*◌, ◌-◌, ◌/◌, ◌%◌, ◌^◌, ◌≤◌, ◌<◌}
use native.Mathlib.Numerals.{add-one}
use native.Mathlib.Omega.{arith}
use native.Mathlib.Nat.{mod-lt, mod-one, pow-suc}
use borrow.Author.Tests.{ltb-false, lt-ltb, le-ltb}
use lib.Arith.{mod-mul}
use lib.Count.{ones, ones_in, ones_cat, ones-le}
use lib.Dec.{ltb, lit<}
use lib.ListN.{length, take, drop, get_or, length-append, length-drop, drop_of_length-le}
use lib.Pow.{pow_pos}
use lib.Seq.{drop-cons}
use Rattle.octets.specs.Bits.{odd}
use Rattle.octets.specs.Places.{pick}
use Rattle.tree.specs.Block.{keep, set_bits, block_numbers, block_end, behind, announced, ended}
use Rattle.tree.specs.Codes.{subs_behind, group_behind, pars_behind, rest_behind, field_behind}
use Rattle.tree.specs.Form.{Form, Fine, Early, Wrong, Left, BadLength, told, form_of, told_end, and_then, is_fine, block_form, form_at, last_form, subs_form, group_form, pars_form, rest_form, field_form}
use Rattle.tree.specs.Fields.{form_in}
use Rattle.tree.specs.declared.Fault.{Fault}

-- ---- the form of two parts

-- a form is Fine where the test says so
pub is_fine_lem : (f : Form) → is_fine f ≡ true → f ≡ Fine
is_fine_lem Fine h = refl
is_fine_lem (Early i) h = cc
is_fine_lem (Wrong i) h = cc
is_fine_lem (Left i) h = cc
is_fine_lem (BadLength i) h = cc

-- a part that is not fine decides
pub and_bad : (f x : Form) → is_fine f ≡ false → and_then f x ≡ f
and_bad Fine x h = cc
and_bad (Early i) x h = refl
and_bad (Wrong i) x h = refl
and_bad (Left i) x h = refl
and_bad (BadLength i) x h = refl

-- where both together are fine, each is
pub and_parts : (f x : Form) → and_then f x ≡ Fine → (f ≡ Fine) × (x ≡ Fine)
and_parts Fine x h = (refl, h)
and_parts (Early i) x h = (h, cc)
and_parts (Wrong i) x h = (h, cc)
and_parts (Left i) x h = (h, cc)
and_parts (BadLength i) x h = (h, cc)

-- ---- what is told of a form

-- it tells the form
pub form_told : {A : Type 0} (f : Form) (x : A) → form_of (told f x) ≡ f
form_told Fine x = refl
form_told (Early i) x = refl
form_told (Wrong i) x = refl
form_told (Left i) x = refl
form_told (BadLength i) x = refl

-- what `?` returns is the error that it met
pub exit_is : {A E : Type 0} (r : Result A E) {z : E} {x : Result A E} → IsErrAnd r (λ (y : E). y ≡ z) → Err z ≡ x → r ≡ x
exit_is r h e = let p = err_from_is_err_and r h in rw (p.1, p.2) e

-- a value tells that no rule is broken
pub told_ok : {A : Type 0} (f : Form) {x y : A} → Ok y ≡ told f x → (f ≡ Fine) × (y ≡ x)
told_ok Fine h = (refl, cc)
told_ok (Early i) h = cc
told_ok (Wrong i) h = cc
told_ok (Left i) h = cc
told_ok (BadLength i) h = cc

-- a fault of the first part is that of both
pub told_err : {A B : Type 0} (f g : Form) (x : A) (y : B) {z : Fault} → Err z ≡ told f x → Err z ≡ told (and_then f g) y
told_err Fine g x y h = cc
told_err (Early i) g x y h = let e : ◌≡◌ {A = Fault} _ _ = cc in ap Err e
told_err (Wrong i) g x y h = let e : ◌≡◌ {A = Fault} _ _ = cc in ap Err e
told_err (Left i) g x y h = let e : ◌≡◌ {A = Fault} _ _ = cc in ap Err e
told_err (BadLength i) g x y h = let e : ◌≡◌ {A = Fault} _ _ = cc in ap Err e

-- ---- a block, octet by octet

-- the form of a block by its first octet
form_at_lem : (m i : ℕ) (l : List ℕ) → i < length l
    → form_at m l i ≡ pick (ltb (get_or l i 0) m) (form_at m l (i + 1)) (pick (odd (get_or l i 0 / m)) Fine (Wrong i))
unfolding block_form
form_at_lem m i l h = rw (drop-cons l i 0, add-one)

-- the form of a block whose last octet is at hand
pub form_stop : (m i : ℕ) (l : List ℕ) → i < length l → m ≤ get_or l i 0 → form_at m l i ≡ pick (odd (get_or l i 0 / m)) Fine (Wrong i)
form_stop m i l h k = rw (form_at_lem m i l h, le-ltb _ _ k)

-- an octet that is not the last of its block is passed
pub form_go : (m i : ℕ) (l : List ℕ) → i < length l → get_or l i 0 < m → form_at m l i ≡ form_at m l (i + 1)
form_go m i l h k = rw (form_at_lem m i l h, lt-ltb _ _ k)

-- a block behind the octets ends early
pub form_out : (m i : ℕ) (l : List ℕ) → length l ≤ i → form_at m l i ≡ Early i
unfolding block_form
form_out m i l h = rw (drop_of_length-le l h)

-- the end of a block by its first octet
pub behind_at : (m i : ℕ) (l : List ℕ) → i < length l → behind m l i ≡ pick (ltb (get_or l i 0) m) (behind m l (i + 1)) (i + 1)
unfolding block_end
behind_at m i l h = rw (drop-cons l i 0, add-one)

-- a block ends behind its last octet
pub behind_stop : (m i : ℕ) (l : List ℕ) → i < length l → m ≤ get_or l i 0 → behind m l i ≡ i + 1
behind_stop m i l h k = rw (behind_at m i l h, le-ltb _ _ k)

-- an octet that is not the last of its block is passed
pub behind_go : (m i : ℕ) (l : List ℕ) → i < length l → get_or l i 0 < m → behind m l i ≡ behind m l (i + 1)
behind_go m i l h k = rw (behind_at m i l h, lt-ltb _ _ k)

-- a block behind the octets is empty
pub behind_out : (m i : ℕ) (l : List ℕ) → length l ≤ i → behind m l i ≡ i
unfolding block_end
behind_out m i l h = rw (drop_of_length-le l h)

-- a block ends no earlier than it begins
pub end_above : (m i : ℕ) (l : List ℕ) → i ≤ block_end m i l
unfolding block_end
end_above m i [] = omega arith
end_above m i (o ∷ l) = go (ltb o m) (end_above m (i + 1) l)
  where
    go : (t : Bool) → i + 1 ≤ block_end m (i + 1) l → i ≤ pick t (block_end m (i + 1) l) (i + 1)
    go true e = omega arith
    go false e = omega arith

-- a well-formed block is not empty and ends with the octets at the latest
end_fits : (m i : ℕ) (l : List ℕ) → block_form m i l ≡ Fine → (i < block_end m i l) × (block_end m i l ≤ i + length l)
unfolding block_form block_end
end_fits m i [] h = let z : ◌≡◌ {A = ℕ} 0 1 = cc in omega arith
end_fits m i (o ∷ l) h = go (ltb o m) (end_fits m (i + 1) l) h
  where
    go : (t : Bool) → (block_form m (i + 1) l ≡ Fine → (i + 1 < block_end m (i + 1) l) × (block_end m (i + 1) l ≤ i + 1 + length l))
        → pick t (block_form m (i + 1) l) (pick (odd (o / m)) Fine (Wrong i)) ≡ Fine
        → (i < pick t (block_end m (i + 1) l) (i + 1)) × (pick t (block_end m (i + 1) l) (i + 1) ≤ i + suc (length l))
    go true ih g = omega (arith, ih g)
    go false ih g = omega arith

-- the same of the block at a place
pub fine_behind : (m : ℕ) (l : List ℕ) (e : ℕ) → form_at m l e ≡ Fine → (e < behind m l e) × (behind m l e ≤ length l)
fine_behind m l e h = omega (arith, end_fits m e (drop e l) h, length-drop e l)

-- ---- the blocks that an SPar block announces

-- one bit has as many ones as it says
one_bit : (b : ℕ) → b < 2 → ones b ≡ b
unfolding ones ones_in
one_bit zero h = refl
one_bit (suc zero) h = refl
one_bit (suc (suc b)) h = absurd (omega arith)

-- a set bit is listed, a clear one is not
length_keep : (b x : ℕ) (l : List ℕ) → b < 2 → length (keep b x l) ≡ b + length l
length_keep zero x l h = omega arith
length_keep (suc zero) x l h = omega arith
length_keep (suc (suc b)) x l h = absurd (omega arith)

-- the set bits among the w lowest of an octet are as many as the ones that are counted there
pub announced_ones : (w p d : ℕ) → length (set_bits w p d) ≡ ones (d % 2 ^ w)
unfolding set_bits
announced_ones zero p d = sym (ap ones (mod-one d) ∙ one_bit 0 (lit< tt))
announced_ones (suc w) p d =
    let b : d % 2 < 2 = omega arith in
    omega (
      arith,
      length_keep (d % 2) (p + 1) (set_bits w (p + 1) (d / 2)) b,
      announced_ones w (p + 1) (d / 2),
      ap (λ (x : ℕ). ones (d % x)) (pow-suc 2 w),
      ap ones (mod-mul d {m = 2 ^ w} {c = 2} (pow_pos w) (lit< tt)),
      ones_cat 1 (d / 2 % 2 ^ w) (d % 2) b,
      one_bit (d % 2) b,
    )

-- the ones among the w lowest bits of octets
unfoldable pub ones_of : ℕ → List ℕ → ℕ
ones_of w [] = 0
ones_of w (o ∷ l) = ones (o % 2 ^ w) + ones_of w l

-- the set parameters of a block are as many as the ones among the parameter bits of its octets
pub block_ones : (w m p i : ℕ) (l : List ℕ) → length (block_numbers w m p l) ≡ ones_of w (take (block_end m i l - i) l)
unfolding block_numbers block_end ones_of
block_ones w m p i [] = let z : i - i ≡ zero = omega arith in rw z
block_ones w m p i (o ∷ l) =
    length-append (set_bits w p o) _ ∙ go (ltb o m) (block_ones w m (p + w) (i + 1) l)
  where
    go : (t : Bool) → length (block_numbers w m (p + w) l) ≡ ones_of w (take (block_end m (i + 1) l - (i + 1)) l)
        → length (set_bits w p o) + length (pick t (block_numbers w m (p + w) l) []) ≡ ones_of w (take (pick t (block_end m (i + 1) l) (i + 1) - i) (o ∷ l))
    go true e =
        let z : block_end m (i + 1) l - i ≡ suc (block_end m (i + 1) l - (i + 1)) = omega (arith, end_above m (i + 1) l) in
        rw z (omega (arith, announced_ones w p o))
    go false e = let z : i + 1 - i ≡ suc zero = omega arith in rw z (omega (arith, announced_ones w p o))

-- a block at a place announces the ones of its octets
pub announced_sum : (w m : ℕ) (l : List ℕ) (e : ℕ) → announced w m l e ≡ ones_of w (take (behind m l e - e) (drop e l))
announced_sum w m l e = block_ones w m 0 e (drop e l)

-- an octet announces its ones, and where it is not the last of its block what the next ones announce
announced_at : (w m i : ℕ) (l : List ℕ) → m ≡ 2 ^ w → i < length l
    → announced w m l i ≡ ones (get_or l i 0 % m) + pick (ltb (get_or l i 0) m) (announced w m l (i + 1)) 0
unfolding block_numbers
announced_at w m i l e h =
    rw (drop-cons l i 0, add-one, length-append, announced_ones, ← e) (ap (λ (n : ℕ). ones (get_or l i 0 % m) + n) (go (ltb (get_or l i 0) m) (drop (suc i) l)))
  where
    go : (t : Bool) (r : List ℕ) → length (pick t (block_numbers w m (0 + w) r) []) ≡ pick t (length (block_numbers w m 0 r)) 0
    go true r = block_ones w m (0 + w) 0 r ∙ sym (block_ones w m 0 0 r)
    go false r = refl

-- the last octet of a block announces its own ones
pub announced_stop : (w m i : ℕ) (l : List ℕ) → m ≡ 2 ^ w → i < length l → m ≤ get_or l i 0
    → announced w m l i ≡ ones (get_or l i 0 % m)
announced_stop w m i l e h k = rw (announced_at w m i l e h, le-ltb _ _ k) (omega arith)

-- any other octet adds its ones
pub announced_go : (w m i : ℕ) (l : List ℕ) → m ≡ 2 ^ w → i < length l → get_or l i 0 < m
    → announced w m l i ≡ ones (get_or l i 0 % m) + announced w m l (i + 1)
announced_go w m i l e h k = rw (announced_at w m i l e h, lt-ltb _ _ k)

-- so a block announces at least the ones of its first octet
pub announced_part : (w m i : ℕ) (l : List ℕ) → m ≡ 2 ^ w → i < length l → ones (get_or l i 0 % m) ≤ announced w m l i
announced_part w m i l e h = omega (arith, announced_at w m i l e h)

-- behind the octets nothing is announced
pub announced_out : (w m i : ℕ) (l : List ℕ) → length l ≤ i → announced w m l i ≡ 0
unfolding block_numbers
announced_out w m i l h = rw (drop_of_length-le l h)

-- at most w bits of an octet are set
pub bits_most : (w p d : ℕ) → length (set_bits w p d) ≤ w
bits_most w p d = rw announced_ones (ones-le w (d % 2 ^ w) (mod-lt d (pow_pos w)))

-- at most 7 parameters are set for each octet
pub block_most : (w m p : ℕ) (l : List ℕ) → w ≤ 7 → length (block_numbers w m p l) ≤ 7 * length l
unfolding block_numbers
block_most w m p [] h = omega arith
block_most w m p (o ∷ l) h = rw length-append (go (ltb o m) (block_most w m (p + w) l h))
  where
    go : (t : Bool) → length (block_numbers w m (p + w) l) ≤ 7 * length l
        → length (set_bits w p o) + length (pick t (block_numbers w m (p + w) l) []) ≤ 7 * suc (length l)
    go true k = omega (arith, bits_most w p o)
    go false k = omega (arith, bits_most w p o)

-- so a message's block announces at most 448 blocks
pub announced_most : (w m : ℕ) (l : List ℕ) (e : ℕ) → w ≤ 7 → length l ≤ 64 → announced w m l e ≤ 448
announced_most w m l e h k = omega (arith, block_most w m 0 (drop e l) h, length-drop e l)

-- ---- NPar(3) blocks, one after the other

-- bit 8 stands though a block follows
pub subs_wrong : (k : ℕ) (l : List ℕ) (e : ℕ) → ended l e ≡ true → subs_form (suc k) l e ≡ Wrong (e - 1)
unfolding subs_form
subs_wrong k l e b = rw b

-- the next block is not well-formed
pub subs_bad : (k : ℕ) (l : List ℕ) (e x : ℕ) {z : Fault} → ended l e ≡ false → Err z ≡ told (form_at 64 l e) x
    → Err z ≡ told (subs_form (suc k) l e) (subs_behind (suc k) l e)
unfolding subs_form
subs_bad k l e x b p = rw b (told_err (form_at 64 l e) _ x _ p)

-- one run of them behind another
pub subs_add : (k n : ℕ) (l : List ℕ) (e : ℕ) → subs_behind (k + n) l e ≡ subs_behind n l (subs_behind k l e)
unfolding subs_behind
subs_add zero n l e = let z : 0 + n ≡ n = omega arith in rw z
subs_add (suc k) n l e = let z : suc k + n ≡ suc (k + n) = omega arith in rw z (subs_add k n l (behind 64 l e))

-- behind a well-formed block follow the others
pub subs_go : (k : ℕ) (l : List ℕ) (e n : ℕ) → ended l e ≡ false → form_at 64 l e ≡ Fine → n ≡ behind 64 l e
    → (0 < n) × (n ≤ length l) × (told (subs_form k l n) (subs_behind k l n) ≡ told (subs_form (suc k) l e) (subs_behind (suc k) l e))
unfolding subs_form subs_behind
subs_go k l e n b f p = let x = fine_behind 64 l e f in (omega (arith, x), omega (arith, x), rw (p, b, f))

-- bit 8 stands behind the last block
pub subs_done : (l : List ℕ) (e : ℕ) → ended l e ≡ true → Ok e ≡ told (subs_form 0 l e) (subs_behind 0 l e)
unfolding subs_form subs_behind
subs_done l e b = rw b

-- bit 8 is missing behind the last block
pub subs_open : (l : List ℕ) (e : ℕ) → ended l e ≡ false → subs_form 0 l e ≡ Wrong (e - 1)
unfolding subs_form
subs_open l e b = rw b

-- ---- a Par(2) block behind its NPar(2)

-- bit 8 ends the Par(2) block there
pub group_done : (l : List ℕ) (e : ℕ) → ended l e ≡ true → Ok e ≡ told (group_form l e) (group_behind l e)
unfolding group_form group_behind
group_done l e b = rw b

-- the SPar(2) block is not well-formed
pub group_bad : (l : List ℕ) (e : ℕ) (x : ℕ) {z : Fault} → ended l e ≡ false → Err z ≡ told (form_at 64 l e) x
    → Err z ≡ told (group_form l e) (group_behind l e)
unfolding group_form
group_bad l e x b p = rw b (told_err (form_at 64 l e) _ x _ p)

-- behind a well-formed SPar(2) block follow the NPar(3) blocks that it announces
pub group_go : (l : List ℕ) (e k n : ℕ) → ended l e ≡ false → form_at 64 l e ≡ Fine → k ≡ announced 6 64 l e → n ≡ behind 64 l e
    → told (subs_form k l n) (subs_behind k l n) ≡ told (group_form l e) (group_behind l e)
unfolding group_form group_behind
group_go l e k n b f p q = rw (b, f, p, q)

-- ---- Par(2) blocks, one after the other

-- the next NPar(2) block is not well-formed
pub pars_bad : (k : ℕ) (l : List ℕ) (e x : ℕ) {z : Fault} → Err z ≡ told (form_at 64 l e) x
    → Err z ≡ told (pars_form (suc k) l e) (pars_behind (suc k) l e)
unfolding pars_form
pars_bad k l e x p = told_err (form_at 64 l e) _ x _ p

-- what stands behind the next NPar(2) block is not well-formed
pub pars_stop : (k : ℕ) (l : List ℕ) (e n x : ℕ) {z : Fault} → form_at 64 l e ≡ Fine → n ≡ behind 64 l e
    → Err z ≡ told (group_form l n) x → Err z ≡ told (pars_form (suc k) l e) (pars_behind (suc k) l e)
unfolding pars_form
pars_stop k l e n x f q p = rw (f, ← q) (told_err (group_form l n) _ x _ p)

-- behind a well-formed Par(2) block follow the others
pub pars_go : (k : ℕ) (l : List ℕ) (e n a : ℕ) → form_at 64 l e ≡ Fine → n ≡ behind 64 l e → group_form l n ≡ Fine → a ≡ group_behind l n
    → told (pars_form k l a) (pars_behind k l a) ≡ told (pars_form (suc k) l e) (pars_behind (suc k) l e)
unfolding pars_form pars_behind
pars_go k l e n a f q g p = rw (f, ← q, g, p)

-- no block is left
pub pars_done : (l : List ℕ) (e : ℕ) → Ok e ≡ told (pars_form 0 l e) (pars_behind 0 l e)
unfolding pars_form pars_behind
pars_done l e = refl

-- ---- a field

-- behind a well-formed SPar(1) block follow the Par(2) blocks that it announces
pub rest_go : (l : List ℕ) (e k n : ℕ) → form_at 128 l e ≡ Fine → k ≡ announced 7 128 l e → n ≡ behind 128 l e
    → told (pars_form k l n) (pars_behind k l n) ≡ told (rest_form l e) (rest_behind l e)
unfolding rest_form rest_behind
rest_go l e k n f p q = rw (f, p, q)

-- behind a well-formed NPar(1) block follows SPar(1)
pub field_go : (l : List ℕ) (e n : ℕ) → form_at 128 l e ≡ Fine → n ≡ behind 128 l e
    → told (rest_form l n) (rest_behind l n) ≡ told (field_form l e) (field_behind l e)
unfolding field_form field_behind
field_go l e n f q = rw (f, q)

-- in a message's octets the form is the field's
pub form_in_lem : (l : List ℕ) (at : ℕ) → length l ≤ 64 → form_in l at ≡ field_form l at
unfolding form_in
form_in_lem l at h = rw (le-ltb 64 (length l) h)

-- of more octets the 65th is left over
pub form_over : (l : List ℕ) (at : ℕ) → 64 < length l → form_in l at ≡ Left 64
unfolding form_in
form_over l at h = rw (lt-ltb 64 (length l) h)

-- ---- a well-formed field lies within the octets

-- well-formed NPar(3) blocks end no earlier than they begin, and within the octets
subs_fits : (k : ℕ) (l : List ℕ) (e : ℕ) → e ≤ length l → subs_form k l e ≡ Fine
    → (e ≤ subs_behind k l e) × (subs_behind k l e ≤ length l)
unfolding subs_form subs_behind
subs_fits zero l e h f = omega arith
subs_fits (suc k) l e h f =
    let p = and_parts (form_at 64 l e) (subs_form k l (behind 64 l e)) (and_parts (last_form true (ended l e) e) _ f).1 in
    let b = fine_behind 64 l e p.0 in
    omega (arith, subs_fits k l (behind 64 l e) b.1 p.1)

-- so does what stands behind an NPar(2) block
group_fits : (l : List ℕ) (e : ℕ) → e ≤ length l → group_form l e ≡ Fine → (e ≤ group_behind l e) × (group_behind l e ≤ length l)
unfolding group_form group_behind
group_fits l e h f = go (ended l e) f
  where
    go : (t : Bool) → pick t Fine (and_then (form_at 64 l e) (subs_form (announced 6 64 l e) l (behind 64 l e))) ≡ Fine
        → (e ≤ pick t e (subs_behind (announced 6 64 l e) l (behind 64 l e))) × (pick t e (subs_behind (announced 6 64 l e) l (behind 64 l e)) ≤ length l)
    go true g = omega arith
    go false g =
        let p = and_parts (form_at 64 l e) (subs_form (announced 6 64 l e) l (behind 64 l e)) g in
        let b = fine_behind 64 l e p.0 in
        omega (arith, subs_fits (announced 6 64 l e) l (behind 64 l e) b.1 p.1)

-- and so do Par(2) blocks
pars_fits : (k : ℕ) (l : List ℕ) (e : ℕ) → e ≤ length l → pars_form k l e ≡ Fine
    → (e ≤ pars_behind k l e) × (pars_behind k l e ≤ length l)
unfolding pars_form pars_behind
pars_fits zero l e h f = omega arith
pars_fits (suc k) l e h f =
    let n = behind 64 l e in
    let p = and_parts (form_at 64 l e) (and_then (group_form l n) (pars_form k l (group_behind l n))) f in
    let q = and_parts (group_form l n) (pars_form k l (group_behind l n)) p.1 in
    let b = fine_behind 64 l e p.0 in
    let g = group_fits l n b.1 q.0 in
    omega (arith, pars_fits k l (group_behind l n) g.1 q.1)

-- a well-formed field has an octet for NPar(1) and one for SPar(1) at least, and ends within the octets
pub field_two : (l : List ℕ) (at : ℕ) → field_form l at ≡ Fine → (at + 2 ≤ field_behind l at) × (field_behind l at ≤ length l)
unfolding field_form rest_form field_behind rest_behind
field_two l at f =
    let n = behind 128 l at in
    let p = and_parts (form_at 128 l at) (rest_form l n) f in
    let q = and_parts (form_at 128 l n) (pars_form (announced 7 128 l n) l (behind 128 l n)) p.1 in
    let b = fine_behind 128 l n q.0 in
    omega (arith, fine_behind 128 l at p.0, pars_fits (announced 7 128 l n) l (behind 128 l n) b.1 q.1)

-- so it is not empty
pub field_fits : (l : List ℕ) (at : ℕ) → field_form l at ≡ Fine → (at < field_behind l at) × (field_behind l at ≤ length l)
field_fits l at f = omega (arith, field_two l at f)

-- a field that is found fine stands in octets of a message
pub fine_in : (l : List ℕ) (at : ℕ) → is_fine (form_in l at) ≡ true → (length l ≤ 64) × (field_form l at ≡ Fine)
unfolding form_in
fine_in l at h = go (ltb 64 (length l)) refl h
  where
    go : (t : Bool) → ltb 64 (length l) ≡ t → is_fine (pick t (Left 64) (field_form l at)) ≡ true → (length l ≤ 64) × (field_form l at ≡ Fine)
    go true e f = let z : ◌≡◌ {A = ℕ} 0 1 = cc in absurd (omega arith)
    go false e f = (ltb-false 64 (length l) e, is_fine_lem (field_form l at) f)

-- a field's end tells that it is fine, and no end that it is not
module _ (l : List ℕ) (at : ℕ) where
  pub end_none : None ≡ told_end (form_in l at) (field_behind l at) → is_fine (form_in l at) ≡ false
  end_none t = go (form_in l at) t
    where
      go : (f : Form) → None ≡ told_end f (field_behind l at) → is_fine f ≡ false
      go Fine e = cc
      go (Early i) e = refl
      go (Wrong i) e = refl
      go (Left i) e = refl
      go (BadLength i) e = refl

  pub end_some : {r : ℕ} → Some r ≡ told_end (form_in l at) (field_behind l at)
      → (is_fine (form_in l at) ≡ true) × (r ≡ field_behind l at)
  end_some {r} t = go (form_in l at) t
    where
      go : (f : Form) → Some r ≡ told_end f (field_behind l at) → (is_fine f ≡ true) × (r ≡ field_behind l at)
      go Fine e = (refl, cc)
      go (Early i) e = cc
      go (Wrong i) e = cc
      go (Left i) e = cc
      go (BadLength i) e = cc
