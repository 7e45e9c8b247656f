-- What success tells: the message is well-formed, the list has its codes and nothing else new, and the NS told of is the NS of the message.
-- Assumes nothing.
use Prim.Native.Nat.{ℕ, suc, ◌-◌, ◌<◌, ◌≤◌}
use mathlib.Core.Path.{◌≡◌, refl, sym, ap, ◌∙◌}
use mathlib.Core.Bool.{Bool, true, false, not}
use mathlib.Core.List.{List, [], ◌++◌}
use native.Mathlib.Omega.{arith}
use borrow.Author.Tests.{le-ltb, ltb-false, eqb-false, not-false}
use lib.Dec.{ltb, eqb}
use lib.ListN.{length, drop, length-append, length-drop}
use lib.Seq.{take_all}
use Rattle.tree.specs.Form.{Form, Fine, Early, Wrong, Left, BadLength}
use Rattle.octets.specs.Lay.{put}
use Rattle.octets.specs.Places.{pick}
use Rattle.tree.specs.Codes.{field_base, field_codes}
use Rattle.message.specs.Kinds.{known, has_fields, type_of}
use Rattle.message.specs.Nonstandard.{ns_announced}
use Rattle.tree.specs.Fields.{most_octets}
use Rattle.message.specs.Reader.{list_room, standard_at, tail_at, message_form, message_codes, has_ns, Reading, refused, accepted, refused_if, judged, read_message, Reply, read_told, read_reply, codes_read, Reads, span_told, ns_told}
use Rattle.std.specs.Prelude.{Result, Ok, Err}
use Rattle.message.specs.declared.Message.{Message}
use Rattle.message.specs.declared.MessageReadRefusal.{MessageReadRefusal}
use Rattle.message.specs.declared.MessageReadRefusal.TheVariants.{BadLent, BadSize, UnknownType, Malformed}
use Rattle.message.proofs.Fields.{parts_fit}
use Rattle.message.proofs.Reading.{form_fields}
use Rattle.message.proofs.Room.{codes_fit}
use Rattle.message.proofs.Unique.{ns_none}

-- success tells that P holds, and no refusal has the number 0
Passes : Reading → Type 0 → Type 0
Passes x P = (x ≡ accepted → P) × (x ≡ refused 0 → ⊥)

-- a test whose number is not 0 keeps that, and success tells that it was passed too
passes_if : (t : Bool) (k : ℕ) (x : Reading) (P : Type 0) → Passes x P → Passes (refused_if t (suc k) x) ((t ≡ false) × P)
unfolding Passes
passes_if true k x P h = (λ e. absurd (let z : ◌≡◌ {A = ℕ} 0 1 = cc in omega arith), λ e. let z : suc k ≡ 0 = cc in omega arith)
passes_if false k x P h = (λ e. (refl, h.0 e), h.1)

passes_form : (f : Form) → Passes (judged f) (f ≡ Fine)
unfolding Passes
passes_form Fine = (λ e. refl, λ e. let z : ◌≡◌ {A = ℕ} 0 1 = cc in omega arith)
passes_form (Early i) = (λ e. cc, λ e. let z : ◌≡◌ {A = ℕ} 4 0 = cc in omega arith)
passes_form (Wrong i) = (λ e. cc, λ e. let z : ◌≡◌ {A = ℕ} 4 0 = cc in omega arith)
passes_form (Left i) = (λ e. cc, λ e. let z : ◌≡◌ {A = ℕ} 4 0 = cc in omega arith)
passes_form (BadLength i) = (λ e. cc, λ e. let z : ◌≡◌ {A = ℕ} 4 0 = cc in omega arith)

passes : (l : List ℕ) (room : ℕ)
    → Passes (read_message l room)
    ((ltb room list_room ≡ false) × ((eqb (length l) 0 ≡ false) × ((ltb most_octets (length l) ≡ false) × ((not (known (type_of l)) ≡ false) × (message_form l ≡ Fine)))))
unfolding read_message
passes l room =
    passes_if (ltb room list_room) 0 _ _
    (passes_if (eqb (length l) 0) 1 _ _
    (passes_if (ltb most_octets (length l)) 1 _ _
    (passes_if (not (known (type_of l))) 2 _ _ (passes_form (message_form l)))))

-- a message that is accepted has passed each check
pub record Passed (l : List ℕ) : Type 0 where
  pub some : 0 < length l
  pub few : length l ≤ most_octets
  pub kind : known (type_of l) ≡ true
  pub form : message_form l ≡ Fine

pub accepted_passed : (l : List ℕ) (room : ℕ) → read_message l room ≡ accepted → Passed l
unfolding Passes
accepted_passed l room e =
    let p = ((passes l room).0 e).1 in
    let q = p.1 in
    record {
      some = omega (arith, eqb-false (length l) 0 p.0);
      few = ltb-false most_octets (length l) q.0;
      kind = not-false (known (type_of l)) q.1.0;
      form = q.1.1;
    }

-- it is well-formed
pub accepted_fine : (l : List ℕ) (room : ℕ) → read_message l room ≡ accepted → message_form l ≡ Fine
accepted_fine l room e = (accepted_passed l room e).form

-- it has at most 448 codes
pub at_most_448 : (l : List ℕ) (room : ℕ) → read_message l room ≡ accepted → length (message_codes l) ≤ list_room
unfolding message_codes
at_most_448 l room e = go (has_fields (type_of l)) (accepted_passed l room e)
  where
    go : (t : Bool) → Passed l → length (pick t (field_codes (field_base 1) l 1 ++ field_codes (field_base 2) l (standard_at l)) []) ≤ list_room
    go true p = simp length-append (codes_fit (field_base 1) (field_base 2) l p.some p.few)
    go false p = omega arith

-- what is stored has room in the list
pub codes_stored : (l : List ℕ) (room : ℕ) → length (codes_read (read_message l room) l) ≤ room
unfolding Passes
codes_stored l room = go (read_message l room) refl
  where
    go : (x : Reading) → read_message l room ≡ x → length (codes_read x l) ≤ room
    go (refused k) e = omega arith
    go accepted e = omega (arith, at_most_448 l room e, ltb-false room list_room ((passes l room).0 e).0)

-- no refusal has the number of success
pub never_zero : (l : List ℕ) (room : ℕ) → read_message l room ≡ refused 0 → ⊥
unfolding Passes
never_zero l room = (passes l room).1

-- an answer that is success is that of an accepted message
pub success_accepted : (l list₀ : List ℕ) (r : Result Message MessageReadRefusal) (list₁ : List ℕ) → Reads l list₀ r list₁ → (read_told r).no ≡ 0 → read_message l (length list₀) ≡ accepted
success_accepted l list₀ r list₁ a h = go (read_message l (length list₀)) (never_zero l (length list₀)) a.reply
  where
    go : (x : Reading) → (x ≡ refused 0 → ⊥) → read_told r ≡ read_reply x l → x ≡ accepted
    go (refused k) n p = absurd (n (ap refused (sym (ap (λ (y : Reply). y.no) p) ∙ h)))
    go accepted n p = refl

-- it leaves the codes at the front of the list and the rest as it was
pub success_writes : (l list₀ : List ℕ) (r : Result Message MessageReadRefusal) (list₁ : List ℕ) → Reads l list₀ r list₁ → (read_told r).no ≡ 0 → list₁ ≡ put (message_codes l) list₀
success_writes l list₀ r list₁ a h = rw (success_accepted l list₀ r list₁ a h) at a.list

-- an answer tells in its reply where its NS lies
told_span : (r : Result Message MessageReadRefusal) → ((span_told r).at ≡ (read_told r).ns_at) × ((span_told r).length ≡ (read_told r).ns_length)
told_span (Ok m) = (refl, refl)
told_span (Err BadLent) = (refl, refl)
told_span (Err BadSize) = (refl, refl)
told_span (Err UnknownType) = (refl, refl)
told_span (Err Malformed) = (refl, refl)

-- a well-formed message has its NS within the octets
ns_fits : (l : List ℕ) → message_form l ≡ Fine → has_ns l ≡ true → tail_at l ≤ length l
ns_fits l f h = go (has_fields (type_of l)) refl h
  where
    go : (t : Bool) → has_fields (type_of l) ≡ t → pick t (ns_announced l) false ≡ true → tail_at l ≤ length l
    go true e i = (parts_fit l (sym (form_fields l e) ∙ f)).1
    go false e i = let z : ◌≡◌ {A = ℕ} 0 1 = cc in omega arith

-- so each number that is told is small
pub told_small : (l : List ℕ) (room : ℕ) → let p = read_reply (read_message l room) l in (p.count ≤ list_room) × (p.ns_at ≤ most_octets) × (p.ns_length ≤ most_octets)
told_small l room = go (read_message l room) refl
  where
    ns : (t : Bool) → length l ≤ most_octets → (t ≡ true → tail_at l ≤ length l) → (pick t (tail_at l) 0 ≤ most_octets) × (pick t (length l - tail_at l) 0 ≤ most_octets)
    ns true few h = omega (arith, h refl)
    ns false few h = omega arith

    go : (x : Reading) → read_message l room ≡ x → let p = read_reply x l in (p.count ≤ list_room) × (p.ns_at ≤ most_octets) × (p.ns_length ≤ most_octets)
    go (refused k) e = omega arith
    go accepted e =
        let p = accepted_passed l room e in
        let q = ns (has_ns l) p.few (ns_fits l p.form) in
        (at_most_448 l room e, q.0, q.1)

-- the NS that it tells of is all that stands behind S
pub success_ns : (l list₀ : List ℕ) (r : Result Message MessageReadRefusal) (list₁ : List ℕ) → Reads l list₀ r list₁ → (read_told r).no ≡ 0 → ns_told r l ≡ pick (has_ns l) (drop (tail_at l) l) []
unfolding ns_told
success_ns l list₀ r list₁ a h =
    let e = success_accepted l list₀ r list₁ a h in
    let p : read_told r ≡ read_reply accepted l = rw e at a.reply in
    go (has_ns l) (ns_fits l (accepted_fine l (length list₀) e)) ((told_span r).0 ∙ ap (λ (y : Reply). y.ns_at) p) ((told_span r).1 ∙ ap (λ (y : Reply). y.ns_length) p)
  where
    go : (t : Bool) → (t ≡ true → tail_at l ≤ length l) → (span_told r).at ≡ pick t (tail_at l) 0 → (span_told r).length ≡ pick t (length l - tail_at l) 0 → ns_told r l ≡ pick t (drop (tail_at l) l) []
    go true f p q =
        rw (p, q, le-ltb (length l) (tail_at l) (f refl), le-ltb (length l - tail_at l) (length l - tail_at l) (omega arith))
        (take_all (length l - tail_at l) (drop (tail_at l) l) (omega (arith, length-drop (tail_at l) l)))
    go false f p q = ns_none r l q
