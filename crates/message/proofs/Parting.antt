-- A message whose parts are known, read: its codes are laid into both lists, and there is room for all of them in the one that is wanted.
-- Assumes nothing.
use Prim.Native.Nat.{ℕ, zero, suc, ◌+◌, ◌-◌, ◌<◌, ◌≤◌}
use mathlib.Core.Path.{◌≡◌, refl, sym, ap, ◌∙◌}
use mathlib.Core.Bool.{Bool, true, false}
use mathlib.Core.List.{List}
use native.Mathlib.Omega.{arith}
use borrow.Author.Tests.{eqb-true, lt-ltb, le-ltb, leb-false}
use lib.Dec.{eqb, ltb, leb}
use lib.ListN.{length, get_or}
use Rattle.octets.specs.Lay.{over}
use Rattle.octets.specs.Places.{pick}
use Rattle.octets.proofs.Laying.{over_fits}
use Rattle.tree.specs.Fields.{fours}
use Rattle.tree.specs.declared.Field.TheVariants.{Identification, Standard}
use Rattle.fill.specs.Promises.{codes_of_both, FillsFields}
use Rattle.fill.proofs.Stored.{fours-length}
use Rattle.message.specs.Check.{check_told, check_message}
use Rattle.message.specs.Kinds.{has_fields, type_of, revision_of}
use Rattle.message.specs.Nonstandard.{ns_announced, ns_form, tail_form}
use Rattle.message.proofs.Fields.{parts_fine, nothing_behind}
use Rattle.message.specs.Reader.{list_room, standard_at, tail_at, message_form, message_codes, has_ns, ns_size, codes_read, read_message, Reads, room_of, ReadsOctets}
use Rattle.message.specs.Inner.{ReadsBoth}
use Rattle.std.specs.Prelude.{Result, Ok, Err, IsErrAnd}
use Rattle.message.specs.declared.Message.{Message}
use Rattle.message.specs.declared.MessageReadRefusal.{MessageReadRefusal}
use Rattle.message.specs.declared.MessageFault.{MessageFault}
use Rattle.message.specs.Promises.{TellsRefusal}
use Rattle.message.specs.declared.Parts.{Parts}
use Rattle.message.specs.declared.Span.{Span}
use Rattle.message.proofs.Accepted.{codes_stored}
use Rattle.message.proofs.Checked.{fault_refused, parted_accepted, form_fine, standard_told, tail_told, few_octets, tail_within}
use Rattle.message.proofs.Checking.{parts_of_one}
use Rattle.tree.proofs.Few.{codes_none as none_behind}
use Rattle.tree.specs.Codes.{field_base}
use Rattle.tree.specs.Fields.{most_octets}
use Rattle.tree.specs.Form.{Fine, Early, Left, BadLength}
use Rattle.message.proofs.Reading.{refuses, accepts, room_enough, form_fields, codes_fields, codes_none}
use Rattle.message.proofs.Room.{codes_in_lem}

-- a message without fields is one octet
one_octet : (l : List ℕ) → has_fields (type_of l) ≡ false → message_form l ≡ Fine → length l ≡ 1
unfolding message_form
one_octet l h f = go (eqb (length l) 1) refl (rw h at f)
  where
    go : (t : Bool) → eqb (length l) 1 ≡ t → pick t Fine (Left 1) ≡ Fine → length l ≡ 1
    go true e g = eqb-true (length l) 1 e
    go false e g = absurd (let z : ◌≡◌ {A = ℕ} 0 1 = cc in omega arith)

-- where NS is announced and well-formed, something is there
ns_some : (k : ℕ) (l : List ℕ) (e : ℕ) → ns_form k l e ≡ Fine → e < length l
unfolding ns_form
ns_some zero l e h = absurd (let z : ◌≡◌ {A = ℕ} 0 1 = cc in omega arith)
ns_some (suc k) l e h = go (leb (length l) e) refl h
  where
    go : (t : Bool) → leb (length l) e ≡ t → pick t (Early (length l)) (pick (ltb (get_or l e 0) 2) (BadLength e)
        (pick (ltb 63 (get_or l e 0)) (BadLength e)
        (pick (ltb (length l) (e + 1 + get_or l e 0)) (Early (length l))
        (pick (eqb (e + 1 + get_or l e 0) (length l)) Fine
        (ns_form k l (e + 1 + get_or l e 0)))))) ≡ Fine → e < length l
    go true q f = absurd (let z : ◌≡◌ {A = ℕ} 0 1 = cc in omega arith)
    go false q f = leb-false (length l) e q

-- of a well-formed message with fields, what is behind S is fine
tail_fine_lem : (l : List ℕ) → has_fields (type_of l) ≡ true → message_form l ≡ Fine → tail_form l (tail_at l) ≡ Fine
tail_fine_lem l h f = (parts_fine l (sym (form_fields l h) ∙ f)).2

tail_fine : (l : List ℕ) → has_fields (type_of l) ≡ true → message_form l ≡ Fine → pick (ns_announced l) (ns_form (length l) l (tail_at l)) (pick (eqb (tail_at l) (length l)) Fine (Left (tail_at l))) ≡ Fine
unfolding tail_form
tail_fine l h f = tail_fine_lem l h f

module _ (l : List ℕ) (p : Parts) (due : check_told (Ok p) ≡ check_message l) where
  few : length l ≤ most_octets
  few = few_octets l p due

  -- its codes are those of both fields: where it has none, there are none behind its octet
  codes_both : message_codes l ≡ codes_of_both l 1 p.standard
  codes_both = go (has_fields (type_of l)) refl
    where
      go : (t : Bool) → has_fields (type_of l) ≡ t → message_codes l ≡ codes_of_both l 1 p.standard
      go true h = rw (standard_told l p due, codes_in_lem Identification l 1 few, codes_in_lem Standard l (standard_at l) few) (codes_fields l h)
      go false h =
          let one = one_octet l h (form_fine l p due) in
          let here : p.standard ≡ 1 = standard_told l p due ∙ sym (parts_of_one l one).0 in
          let first = codes_in_lem Identification l 1 few ∙ none_behind (field_base 1) l 1 (omega (arith, one)) in
          let second = codes_in_lem Standard l 1 few ∙ none_behind (field_base 2) l 1 (omega (arith, one)) in
          codes_none l h ∙ rw (here, first, second)

  -- what is behind S begins within its octets
  pub tail_fits : p.tail ≤ length l
  tail_fits = go (has_fields (type_of l)) refl
    where
      go : (t : Bool) → has_fields (type_of l) ≡ t → p.tail ≤ length l
      go true h = omega (arith, tail_told l p due, tail_within l p due h)
      go false h = let one = one_octet l h (form_fine l p due) in omega (arith, tail_told l p due, (parts_of_one l one).1, one)

  -- it has NS where something is behind S
  told_ns : (has_ns l ≡ ltb p.tail (length l)) × (ns_size l ≡ length l - p.tail)
  told_ns = go (has_fields (type_of l)) refl
    where
      behind : (t : Bool) → ns_announced l ≡ t → has_fields (type_of l) ≡ true → (t ≡ ltb (tail_at l) (length l)) × (pick t (length l - tail_at l) 0 ≡ length l - tail_at l)
      behind true a h =
          let some = ns_some (length l) l (tail_at l) (rw a at (tail_fine l h (form_fine l p due))) in
          (sym (lt-ltb _ _ some), refl)
      behind false a h =
          let none = nothing_behind l (tail_at l) a (tail_fine_lem l h (form_fine l p due)) in
          (sym (le-ltb (tail_at l) (length l) (omega (arith, none))), omega (arith, none))

      go : (t : Bool) → has_fields (type_of l) ≡ t → (pick (has_fields (type_of l)) (ns_announced l) false ≡ ltb p.tail (length l)) × (pick (pick (has_fields (type_of l)) (ns_announced l) false) (length l - tail_at l) 0 ≡ length l - p.tail)
      go true h = rw (h, tail_told l p due) (behind (ns_announced l) refl h)
      go false h =
          let one = one_octet l h (form_fine l p due) in
          let here : p.tail ≡ 1 = tail_told l p due ∙ sym (parts_of_one l one).1 in
          rw h (sym (le-ltb p.tail (length l) (omega (arith, here, one))), omega (arith, here, one))

  pub read_both : (list octets : List ℕ) (ns : Span) (n : ℕ) (list₁ octets₁ : List ℕ) → FillsFields l 1 p.standard list octets n list₁ octets₁
      → (ns.at ≡ pick (ltb p.tail (length l)) p.tail 0) × (ns.length ≡ length l - p.tail)
      → ReadsBoth l list_room list octets (Ok (record { kind = type_of l; revision = revision_of l; count = n; ns = ns })) list₁ octets₁
  read_both list octets ns n list₁ octets₁ f w =
      accepts l list_room list octets list₁ octets₁ (type_of l) n ns (parted_accepted l p due) refl (rw codes_both f.count)
      (w.0 ∙ rw (told_ns.0, ← (tail_told l p due))) (w.1 ∙ sym told_ns.1) (rw codes_both f.list) (rw codes_both f.octets)

-- a message without fields has no codes and no NS
pub read_one : (l : List ℕ) (p : Parts) → check_told (Ok p) ≡ check_message l → (list octets : List ℕ) → has_fields (type_of l) ≡ false
    → ReadsBoth l list_room list octets (Ok (record { kind = type_of l; revision = revision_of l; count = 0; ns = record { at = 0; length = 0 } })) list octets
unfolding over fours
read_one l p due list octets h =
    let c = codes_none l h in
    accepts l list_room list octets list octets (type_of l) 0 _ (parted_accepted l p due) refl (ap length (sym c)) (rw h) (rw h) (rw c) (rw c)

-- a larger room is as good as the smallest
pub room_read : (l : List ℕ) (room : ℕ) → list_room ≤ room → {list₀ octets₀ : List ℕ} {r : Result Message MessageReadRefusal} {list₁ octets₁ : List ℕ}
    → ReadsBoth l list_room list₀ octets₀ r list₁ octets₁ → ReadsBoth l room list₀ octets₀ r list₁ octets₁
room_read l room h b = let e = room_enough l room h in record { reply = rw e b.reply; list = rw e b.list; octets = rw e b.octets }

-- in the list that is wanted all codes are put
pub numbers_read : {l list₀ octets₀ : List ℕ} {r : Result Message MessageReadRefusal} {list₁ octets₁ : List ℕ} → ReadsBoth l (length list₀) list₀ octets₀ r list₁ octets₁ → Reads l list₀ r list₁
numbers_read {l} {list₀} b = record { reply = b.reply; list = b.list ∙ over_fits _ list₀ (codes_stored l (length list₀)) }

pub octets_read : {l list₀ octets₀ : List ℕ} {r : Result Message MessageReadRefusal} {list₁ octets₁ : List ℕ} → ReadsBoth l (room_of octets₀) list₀ octets₀ r list₁ octets₁ → ReadsOctets l octets₀ r octets₁
octets_read {l} {list₀} {octets₀} b =
    let cs = codes_read (read_message l (room_of octets₀)) l in
    record { reply = b.reply; list = b.octets ∙ over_fits (fours cs) octets₀ (omega (arith, fours-length cs, codes_stored l (room_of octets₀))) }

-- a message in which a fault is found is refused with its number
pub fault_read : (l : List ℕ) (room : ℕ) (list octets : List ℕ) (f : MessageFault) (r : Result Message MessageReadRefusal) → list_room ≤ room → check_told (Err f) ≡ check_message l
    → IsErrAnd r (TellsRefusal f) → ReadsBoth l room list octets r list octets
fault_read l room list octets f (Ok m) h t e = absurd e
fault_read l room list octets f (Err x) h t e = refuses l room list octets (check_told (Err f)).no (Err x) (room_enough l room h ∙ fault_refused l f t) e
