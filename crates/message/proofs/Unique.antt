-- What the contracts fix: by the `ensures` alone no second reply and no second list fits. A refusal leaves the list as it was and tells of no NS.
-- Assumes nothing.
use Prim.Native.Nat.{ℕ, ◌-◌}
use mathlib.Core.Path.{◌≡◌, refl, sym, ap, ◌∙◌}
use mathlib.Core.Bool.{Bool, true, false}
use mathlib.Core.List.{List, []}
use lib.Dec.{ltb, eqb}
use lib.ListN.{length}
use Rattle.octets.specs.Lay.{put}
use Rattle.octets.specs.Places.{pick}
use Rattle.octets.proofs.Laying.{put-nil}
use Rattle.octets.proofs.Unique.{one_reply}
use Rattle.message.specs.Check.{Finding, check_told}
use Rattle.message.specs.Kinds.{type_number, type_told}
use Rattle.message.specs.Reader.{Reading, refused, accepted, read_message, Reply, read_told, read_reply, codes_read, Reads, ReadsOctets, span_told, ns_told}
use Rattle.message.specs.Promises.{TellsType, TellsRefusal, Checks, TellsNs}
use Rattle.std.specs.Prelude.{Result, Ok, Err}
use Rattle.message.specs.declared.Message.{Message}
use Rattle.message.specs.declared.MessageFault.{MessageFault}
use Rattle.message.specs.declared.MessageFault.TheVariants as fault
use Rattle.message.specs.declared.MessageReadRefusal.{MessageReadRefusal}
use Rattle.message.specs.declared.MessageReadRefusal.TheVariants.{BadLent, BadSize, UnknownType, Malformed}
use Rattle.message.specs.declared.MessageType.{MessageType}
use Rattle.message.specs.declared.MessageType.TheVariants.{Ms, Cl, Clr, Ack1, Ack2, Nak1, Nak2, Nak3, Nak4}
use Rattle.message.specs.declared.Parts.{Parts}
use Rattle.message.specs.declared.UnknownKind.{UnknownKind}

-- the answer that a reply tells
abbrev back : Reply → Result Message MessageReadRefusal
back p =
    pick (eqb p.no 0) (Ok (record { kind = p.kind; revision = p.revision; count = p.count; ns = record { at = p.ns_at; length = p.ns_length } }))
    (pick (eqb p.no 1) (Err BadLent)
    (pick (eqb p.no 2) (Err BadSize)
    (pick (eqb p.no 3) (Err UnknownType) (Err Malformed))))

-- each answer is told by its reply
back_told : (r : Result Message MessageReadRefusal) → back (read_told r) ≡ r
back_told (Ok m) = refl
back_told (Err BadLent) = refl
back_told (Err BadSize) = refl
back_told (Err UnknownType) = refl
back_told (Err Malformed) = refl

-- two answers with one reply are the same
answers_same : {x : Reply} {r r' : Result Message MessageReadRefusal} → read_told r ≡ x → read_told r' ≡ x → r ≡ r'
answers_same {r = r} {r'} e e' = sym (back_told r) ∙ ap back (one_reply e e') ∙ back_told r'

-- `read_message` and `read_octets`: two answers and lists that fit one message are the same
pub read_unique : (l list₀ : List ℕ) (r r' : Result Message MessageReadRefusal) (list₁ list₁' : List ℕ) → Reads l list₀ r list₁ → Reads l list₀ r' list₁' → (r ≡ r') × (list₁ ≡ list₁')
read_unique l list₀ r r' list₁ list₁' a b = (answers_same a.reply b.reply, one_reply a.list b.list)

pub octets_unique : (l list₀ : List ℕ) (r r' : Result Message MessageReadRefusal) (list₁ list₁' : List ℕ) → ReadsOctets l list₀ r list₁ → ReadsOctets l list₀ r' list₁' → (r ≡ r') × (list₁ ≡ list₁')
octets_unique l list₀ r r' list₁ list₁' a b = (answers_same a.reply b.reply, one_reply a.list b.list)

-- the type of a number, 0 where none
abbrev type_back : ℕ → Result MessageType UnknownKind
type_back k =
    pick (eqb k 1) (Ok Ms)
    (pick (eqb k 2) (Ok Cl)
    (pick (eqb k 3) (Ok Clr)
    (pick (eqb k 4) (Ok Ack1)
    (pick (eqb k 5) (Ok Ack2)
    (pick (eqb k 8) (Ok Nak1)
    (pick (eqb k 9) (Ok Nak2)
    (pick (eqb k 10) (Ok Nak3)
    (pick (eqb k 11) (Ok Nak4)
    (Err record {})))))))))

type_back_told : (r : Result MessageType UnknownKind) → type_back (type_told r) ≡ r
type_back_told (Ok Ms) = refl
type_back_told (Ok Cl) = refl
type_back_told (Ok Clr) = refl
type_back_told (Ok Ack1) = refl
type_back_told (Ok Ack2) = refl
type_back_told (Ok Nak1) = refl
type_back_told (Ok Nak2) = refl
type_back_told (Ok Nak3) = refl
type_back_told (Ok Nak4) = refl
type_back_told (Err e) = refl

-- `MessageType::try_from`: two answers that fit one number are the same
pub type_unique : (kind : ℕ) (r r' : Result MessageType UnknownKind) → TellsType kind r → TellsType kind r' → r ≡ r'
type_unique kind r r' e e' = sym (type_back_told r) ∙ ap type_back (one_reply e e') ∙ type_back_told r'

-- `MessageReadRefusal::from`: two refusals with one number are the same
pub refusal_unique : (f : MessageFault) (r r' : MessageReadRefusal) → TellsRefusal f r → TellsRefusal f r' → r ≡ r'
refusal_unique f r r' e e' = sym (refusal_back_told r) ∙ ap refusal_back (one_reply e e') ∙ refusal_back_told r'
  where
    refusal_back : Reply → MessageReadRefusal
    refusal_back p = pick (eqb p.no 1) BadLent (pick (eqb p.no 2) BadSize (pick (eqb p.no 3) UnknownType Malformed))

    refusal_back_told : (r : MessageReadRefusal) → refusal_back (read_told (Err r)) ≡ r
    refusal_back_told BadLent = refl
    refusal_back_told BadSize = refl
    refusal_back_told UnknownType = refl
    refusal_back_told Malformed = refl

-- the answer that a finding tells
abbrev parts_back : Result MessageType UnknownKind → Finding → Result Parts MessageFault
parts_back (Ok kind) f = Ok (record { kind = kind; standard = f.standard; tail = f.tail })
parts_back (Err e) f = Err fault.Malformed

abbrev answer : Finding → Result Parts MessageFault
answer f =
    pick (eqb f.no 0) (parts_back (type_back f.kind) f)
    (pick (eqb f.no 2) (Err fault.BadSize)
    (pick (eqb f.no 3) (Err fault.UnknownType) (Err fault.Malformed)))

answer_told : (r : Result Parts MessageFault) → answer (check_told r) ≡ r
answer_told (Ok p) = ap (λ k. parts_back k (record { no = 0; kind = type_number p.kind; standard = p.standard; tail = p.tail })) (type_back_told (Ok p.kind))
answer_told (Err fault.BadSize) = refl
answer_told (Err fault.UnknownType) = refl
answer_told (Err fault.Malformed) = refl

-- `check_message`: two answers that fit one message are the same
pub check_unique : (l : List ℕ) (r r' : Result Parts MessageFault) → Checks l r → Checks l r' → r ≡ r'
check_unique l r r' e e' = sym (answer_told r) ∙ ap answer (one_reply e e') ∙ answer_told r'

-- an answer that is not success leaves the list as it was
pub refusal_writes_nothing : (l list₀ : List ℕ) (r : Result Message MessageReadRefusal) (list₁ : List ℕ) → Reads l list₀ r list₁ → ((read_told r).no ≡ 0 → ⊥) → list₁ ≡ list₀
refusal_writes_nothing l list₀ r list₁ a h = go (read_message l (length list₀)) a.reply a.list
  where
    go : (x : Reading) → read_told r ≡ read_reply x l → list₁ ≡ put (codes_read x l) list₀ → list₁ ≡ list₀
    go (refused k) p q = q ∙ put-nil list₀
    go accepted p q = absurd (h (ap (λ (y : Reply). y.no) p))

-- where an answer tells of no octet, there is no NS
pub ns_none : (r : Result Message MessageReadRefusal) (l : List ℕ) → (span_told r).length ≡ 0 → ns_told r l ≡ []
unfolding ns_told
ns_none r l h = rw h (go (ltb (length l) (span_told r).at) (ltb (length l - (span_told r).at) 0))
  where
    go : (t u : Bool) → pick {A = List ℕ} t [] (pick u [] []) ≡ []
    go true u = refl
    go false true = refl
    go false false = refl

-- and a refusal tells of none
pub refusal_ns_empty : (r : Result Message MessageReadRefusal) (l : List ℕ) → ((read_told r).no ≡ 0 → ⊥) → ns_told r l ≡ []
refusal_ns_empty r l h = ns_none r l (go r h)
  where
    go : (r : Result Message MessageReadRefusal) → ((read_told r).no ≡ 0 → ⊥) → (span_told r).length ≡ 0
    go (Ok m) h = absurd (h refl)
    go (Err e) h = refl

-- `ns_part`: its octets are one value
pub ns_part_unique : (l : List ℕ) (answer : Result Message MessageReadRefusal) (r r' : List ℕ) → TellsNs l answer r → TellsNs l answer r' → r ≡ r'
ns_part_unique l answer r r' = one_reply
