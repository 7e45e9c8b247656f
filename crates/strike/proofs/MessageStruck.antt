-- What `put_struck` puts, part by part, and what `strike_message` answers.
-- Assumes nothing.
use Prim.Native.Nat.{ℕ, ◌+◌, ◌≤◌, ◌<◌}
use mathlib.Core.Bool.{true, false}
use mathlib.Core.List.{List, [], ◌∷◌, ◌++◌}
use mathlib.Core.Path.{◌≡◌, refl, sym, ap, ◌∙◌}
use native.Mathlib.Omega.{arith}
use borrow.Author.Tests.{lt-ltb, le-ltb}
use Rattle.octets.specs.Places.{pick}
use Rattle.std.specs.Prelude.{Bool, Option, Some, None, MatchOption, IsErrAnd}
use Rattle.message.specs.Kinds.{type_number}
use Rattle.message.specs.Promises.{Checks}
use Rattle.message.specs.Check.{check_told}
use Rattle.message.specs.declared.MessageFault.{MessageFault}
use Rattle.message.specs.declared.Parts.{Parts}
use Rattle.message.proofs.Checked.{fault_refused, parted_accepted, kind_told, standard_told, tail_told}
use Rattle.strike.specs.Promises.{TellsRefusal}
use lib.ListN.{length, get_or, set, drop, length-append, length-drop, length-set}
use lib.Seq.{sets, length-sets}
use Rattle.octets.specs.Bits.{AreOctets}
use Rattle.octets.specs.Lay.{put}
use Rattle.octets.proofs.Laying.{length_put}
use Rattle.tree.proofs.Filling.{sets_append}
use Rattle.tree.specs.Codes.{field_base}
use Rattle.tree.specs.Form.{field_form}
use Rattle.tree.specs.Form.{Fine}
use Rattle.message.specs.Kinds.{has_fields, type_of}
use Rattle.message.specs.Nonstandard.{tail_form}
use Rattle.tree.specs.Fields.{most_octets}
use Rattle.message.specs.Reader.{list_room, standard_at, tail_at, refused, accepted, read_message}
use Rattle.message.proofs.Accepted.{Passed, accepted_passed}
use Rattle.names.specs.declared.Keep.{Keep}
use Rattle.names.specs.declared.Keep.TheVariants.{Named}
use Rattle.strike.specs.Inner.{field_kept, standard_keep, Puts}
use Rattle.strike.specs.Striking.{struck_form, strike_message, struck_told, Strikes}
use Rattle.strike.specs.declared.Spot.{Spot}
use Rattle.strike.specs.declared.StrikeRefusal.{StrikeRefusal}
use Rattle.strike.specs.declared.StrikeRefusal.TheVariants.{BadLent}
use Rattle.std.specs.Prelude.{Result, Ok, Err}
use Rattle.strike.proofs.Storing.{sets_front}
use Rattle.strike.proofs.StruckForms.{struck-fields, struck_one, parts_well, parts_fit_struck, struck_is_no_longer}

-- ---- the struck form, put

-- the parts of the struck form: I, S, and what is behind S
abbrev first_kept : List ℕ → List ℕ
first_kept l = field_kept Named (field_base 1) l 1

abbrev second_kept : List ℕ → List ℕ
second_kept l = field_kept (standard_keep (type_of l)) (field_base 2) l (standard_at l)

abbrev rest_of : List ℕ → List ℕ
rest_of l = drop (tail_at l) l

-- the output has the struck form, of n octets
abbrev pub Done : List ℕ → List ℕ → ℕ → List ℕ → Type 0
Done l out n out₁ = (n ≡ length (struck_form l)) × (out₁ ≡ put (struck_form l) out)

-- a well-formed message and its parts, and an output that is large enough
pub record Known (l : List ℕ) (standard tail : ℕ) (out : List ℕ) : Type 0 where
  pub well : read_message l list_room ≡ accepted
  pub octets : AreOctets l
  pub standard_is : standard ≡ standard_at l
  pub tail_is : tail ≡ tail_at l
  pub room : most_octets ≤ length out

-- what `put_struck` is given says so
pub known_of : (l : List ℕ) (p : Parts) (out : List ℕ) → Checks l (Ok p) × (most_octets ≤ length out) → ((i : ℕ) → get_or l i 0 < 256) → Known l p.standard p.tail out
known_of l p out h o =
    record {
      well = parted_accepted l p h.0;
      octets = λ i k. o i;
      standard_is = standard_told l p h.0;
      tail_is = tail_told l p h.0;
      room = h.1;
    }

-- what is kept of S says whether there are fields
keep_told : (t : Bool) (k : Keep) (r : Option Keep) → r ≡ pick t (Some k) None → MatchOption r (t ≡ false) (λ x. (t ≡ true) × (x ≡ k))
keep_told true k None e = cc
keep_told true k (Some x) e = (refl, cc)
keep_told false k None e = refl
keep_told false k (Some x) e = absurd (cc)

pub no_keep : (l : List ℕ) (p : Parts) → Checks l (Ok p) → None ≡ pick (has_fields (type_number p.kind)) (Some (standard_keep (type_number p.kind))) None → has_fields (type_of l) ≡ false
no_keep l p h e = rw (kind_told l p h) at (keep_told (has_fields (type_number p.kind)) (standard_keep (type_number p.kind)) None e)

pub some_keep : (l : List ℕ) (p : Parts) (x : Keep) → Checks l (Ok p) → Some x ≡ pick (has_fields (type_number p.kind)) (Some (standard_keep (type_number p.kind))) None
    → (has_fields (type_of l) ≡ true) × (x ≡ standard_keep (type_of l))
some_keep l p x h e = rw (kind_told l p h) at (keep_told (has_fields (type_number p.kind)) (standard_keep (type_number p.kind)) (Some x) e)

-- S is put with what is kept of it
second_same : {l : List ℕ} {standard tail : ℕ} {out : List ℕ} {k : Keep} → Known l standard tail out → k ≡ standard_keep (type_of l) → field_kept k (field_base 2) l standard ≡ second_kept l
second_same {l} {standard} {tail} {out} {k} h c = go standard k h.standard_is c
  where
    go : (standard : ℕ) (k : Keep) → standard ≡ standard_at l → k ≡ standard_keep (type_of l) → field_kept k (field_base 2) l standard ≡ second_kept l
    go standard k b c = rw (c, b)

module _ {l : List ℕ} {standard tail : ℕ} {out : List ℕ} (h : Known l standard tail out) where
  passed : Passed l
  passed = accepted_passed l list_room h.well

  pub some_octet : 0 < length l
  some_octet = passed.some

  -- the struck form has room
  form_room : length (struck_form l) ≤ length out
  form_room = omega (arith, struck_is_no_longer l list_room h.octets h.well, passed.few, h.room)

  -- putting it changes no length
  pub done_length : {n : ℕ} {out₁ : List ℕ} → Done l out n out₁ → length out₁ ≡ length out
  done_length d = ap length d.1 ∙ length_put (struck_form l) out form_room

  -- an ACK or a NAK
  pub one_put : has_fields (type_of l) ≡ false → Done l out 1 (set out 0 (get_or l 0 0))
  one_put none =
      let form = struck_one l none in
      (rw form, rw form (sets_front out (get_or l 0 0 ∷ []) (omega (arith, h.room))))

  module _ {k : Keep} (w : (has_fields (type_of l) ≡ true) × (k ≡ standard_keep (type_of l))) where
    fields : has_fields (type_of l) ≡ true
    fields = w.0

    fit : (1 + length (first_kept l) ≤ standard_at l) × (length (second_kept l) + standard_at l ≤ tail_at l) × (tail_at l ≤ length l)
    fit = parts_fit_struck l fields list_room h.well h.octets

    whole : struck_form l ≡ get_or l 0 0 ∷ (first_kept l ++ (second_kept l ++ rest_of l))
    whole = struck-fields l fields list_room h.well

    well : (field_form l 1 ≡ Fine) × (field_form l (standard_at l) ≡ Fine) × (tail_form l (tail_at l) ≡ Fine)
    well = parts_well l fields list_room h.well

    -- I has room behind octet 1
    pub first_room : (length l ≤ 64) × (field_form l 1 ≡ Fine) × (1 + length (field_kept Named (field_base 1) l 1) ≤ length (set out 0 (get_or l 0 0)))
    first_room = (passed.few, well.0, rw (length-set out 0 (get_or l 0 0)) (omega (arith, fit, passed.few, h.room)))

    module _ {out₁ : List ℕ} {e : ℕ} {one : Spot} (p : Puts (field_kept Named (field_base 1) l 1) e (set out 0 (get_or l 0 0)) 1 out₁ one) where
      same_out : length out₁ ≡ length out
      same_out = ap length p.out ∙ length-sets (set out 0 (get_or l 0 0)) 1 (first_kept l) ∙ length-set out 0 (get_or l 0 0)

      -- S has room behind I
      pub second_room : (length l ≤ 64) × (field_form l standard ≡ Fine) × (one.to + length (field_kept k (field_base 2) l standard) ≤ length out₁)
      second_room =
          (passed.few, rw h.standard_is well.1, rw (second_same h w.1) (omega (arith, fit, same_out, p.at, passed.few, h.room)))

      module _ {out₂ : List ℕ} {e₂ : ℕ} {two : Spot} (q : Puts (field_kept k (field_base 2) l standard) e₂ out₁ one.to out₂ two) where
        length_two : two.to ≡ 1 + length (first_kept l) + length (second_kept l)
        length_two = omega (arith, p.at, q.at, ap length (second_same h w.1))

        same_out_2 : length out₂ ≡ length out
        same_out_2 = ap length q.out ∙ length-sets out₁ one.to (field_kept k (field_base 2) l standard) ∙ same_out

        second_put : out₂ ≡ sets (sets (set out 0 (get_or l 0 0)) 1 (first_kept l)) (1 + length (first_kept l)) (second_kept l)
        second_put = q.out ∙ rw (p.out, p.at, second_same h w.1)

        -- what is behind S has room
        pub rest_room : (tail ≤ length l) × (two.to + length (drop tail l) ≤ length out₂)
        rest_room = (omega (arith, fit, h.tail_is), omega (arith, fit, length_two, same_out_2, length-drop tail l, h.tail_is, passed.few, h.room))

        -- and then all is put
        pub all_put : {n : ℕ} {out₃ : List ℕ} → n ≡ two.to + length (drop tail l) → out₃ ≡ sets out₂ two.to (drop tail l) → Done l out n out₃
        all_put {n} {out₃} count last =
            let A = first_kept l in
            let R = second_kept l in
            let N = rest_of l in
            let first = get_or l 0 0 in
            let rest : drop tail l ≡ N = ap (λ (x : ℕ). drop x l) h.tail_is in
            let stored : out₃ ≡ sets (sets (sets (set out 0 first) 1 A) (1 + length A) R) (1 + length A + length R) N = last ∙ rw (second_put, length_two, rest) in
            let joined : sets (set out 0 first) 1 (A ++ (R ++ N)) ≡ sets (sets (sets (set out 0 first) 1 A) (1 + length A) R) (1 + length A + length R) N =
            sets_append (set out 0 first) 1 A (R ++ N) ∙ sets_append (sets (set out 0 first) 1 A) (1 + length A) R N in (
              rw (whole, length-append A (R ++ N), length-append R N) (omega (arith, length_two, ap length rest)),
              rw whole (stored ∙ sym joined ∙ sets_front out (first ∷ (A ++ (R ++ N))) (rw whole at form_room)),
            )

-- ---- the answers

-- the output is too small
pub strikes_small : (l out : List ℕ) → length out < 64 → Strikes l out (Err BadLent) out
unfolding strike_message
strikes_small l out h = let t = lt-ltb (length out) 64 h in record { reply = rw t; output = rw t }

-- the message is refused
strikes_refused : (l out : List ℕ) (k : ℕ) (r : Result ℕ StrikeRefusal) → 64 ≤ length out → read_message l list_room ≡ refused k → struck_told r ≡ record { no = k; count = 0 } → Strikes l out r out
unfolding strike_message
strikes_refused l out k r h e t = let u = le-ltb (length out) 64 h in record { reply = rw (u, e) t; output = rw (u, e) }

-- it is struck
pub strikes_all : (l out : List ℕ) (n : ℕ) (out₁ : List ℕ) → 64 ≤ length out → read_message l list_room ≡ accepted → Done l out n out₁ → Strikes l out (Ok n) out₁
unfolding strike_message
strikes_all l out n out₁ h e d = let u = le-ltb (length out) 64 h in record { reply = rw (u, e, d.0); output = rw (u, e) d.1 }

-- a message in which a fault is found is refused with its number
pub fault_struck : (l out : List ℕ) (f : MessageFault) (r : Result ℕ StrikeRefusal) → 64 ≤ length out → Checks l (Err f) → IsErrAnd r (TellsRefusal f) → Strikes l out r out
fault_struck l out f (Ok n) h t e = absurd e
fault_struck l out f (Err x) h t e = strikes_refused l out (check_told (Err f)).no (Err x) h (fault_refused l f t) e
