-- Two messages in which the station sees the same lead to the same step, and a message and its struck form are such. What striking
-- leaves, and what the operation that strikes tells.
-- Assumes nothing.
use Prim.Native.Nat.{ℕ, zero, suc, ◌≤◌}
use mathlib.Core.Bool.{Bool, true, false}
use mathlib.Core.List.{List, [], ◌∷◌, ◌++◌}
use mathlib.Core.Path.{◌≡◌, refl, sym, ap, ◌∙◌}
use native.Mathlib.Omega.{arith}
use borrow.Author.Tests.{eqb-true, eqb-false}
use lib.Dec.{ltb, eqb}
use lib.ListN.{length, get_or}
use Rattle.octets.specs.Bits.{AreOctets}
use Rattle.octets.specs.Lay.{put}
use Rattle.octets.specs.Places.{pick}
use Rattle.tree.specs.Form.{Fine, Left}
use Rattle.tree.specs.Codes.{code_of, field_base, field_codes}
use Rattle.tree.specs.Fields.{is_in, codes_in, most_octets}
use Rattle.tree.specs.declared.Field.TheVariants.{Identification, Standard}
use Rattle.message.specs.Kinds.{has_fields, type_of}
use Rattle.message.specs.Reader.{list_room, standard_at, message_form, message_codes, Reading, refused, accepted, read_message}
use Rattle.message.proofs.Accepted.{accepted_passed, never_zero}
use Rattle.message.proofs.Room.{codes_in_lem}
use Rattle.meaning.specs.Written.{run, from}
use Rattle.meaning.specs.Writing.{refused_if, Reply, write_reply, write_leaves}
use Rattle.meaning.proofs.Meanings.{meaning_join}
use Rattle.names.specs.Named.{printed_under, printed_at, printed_of, named_code, keeps}
use Rattle.names.specs.Masks.{only}
use Rattle.names.specs.declared.Keep.{Keep}
use Rattle.names.specs.declared.Keep.TheVariants.{All, Named}
use Rattle.names.proofs.Sieving.{only_append, only_only, only_true, in_only}
use Rattle.strike.specs.Rewriting.{kept}
use Rattle.strike.specs.Striking.{struck_codes, struck_form, strike_message, unless_refused, struck_told, Strikes}
use Rattle.std.specs.Prelude.{Result}
use Rattle.strike.specs.declared.StrikeRefusal.{StrikeRefusal}
use Rattle.strike.proofs.Crossing.{kept_means}
use Rattle.strike.proofs.StruckForms.{struck_one}
use Rattle.strike.proofs.StrikingForm.{struck_is_well_formed, struck_type, struck_is_read}
use Rattle.strike.proofs.StrikingMeaning.{named_stay, standard_of_ms}
use Rattle.choice.specs.Wishes.{wishes_of}
use Rattle.choice.specs.Judging.{verdict}
use Rattle.table.specs.declared.Phase.{Phase}
use Rattle.table.specs.declared.Kind.{Kind}
use Rattle.table.specs.declared.Heard.TheVariants as heard
use Rattle.table.specs.declared.Act.{Act}
use Rattle.table.specs.declared.Act.TheVariants.{NoRow, Take, Judge}
use Rattle.table.specs.declared.After.{After}
use Rattle.table.specs.declared.After.TheVariants.{ThenMs, ThenClMs, ThenCl, ThenHalf}
use Rattle.table.specs.declared.Settings.{Settings}
use Rattle.table.specs.Phases.{kind_of, ack_of}
use Rattle.table.specs.Rows.{act_of}
use Rattle.table.proofs.Lines.{each}
use Rattle.station.specs.Sorting.{sort_of, type_heard}
use Rattle.station.specs.Acting.{far_list, far_offer, asks_ack, stored_list, stored_mode, takes, judges, does}
use Rattle.station.specs.Stepping.{sorted, timed, checked, step_of}
use Rattle.station.specs.declared.Event.TheVariants.{Field}
use Rattle.demands.proofs.StepLines.{heard_blind}

-- ---- the fields of a message, from its codes

module _ (m : List ℕ) (few : length m ≤ most_octets) (h : has_fields (type_of m) ≡ true) (k : Keep) where
  -- what is kept of all codes is what is kept of I and of S
  kept_codes : only (keeps k) (message_codes m) ≡ only (keeps k) (field_codes (field_base 1) m 1) ++ only (keeps k) (field_codes (field_base 2) m (standard_at m))
  unfolding message_codes
  kept_codes = rw h (only_append (keeps k) (field_codes (field_base 1) m 1) (field_codes (field_base 2) m (standard_at m)))

  -- and is cut into the two again
  kept-cut :
      (run (field_base 2) (only (keeps k) (message_codes m)) ≡ only (keeps k) (field_codes (field_base 1) m 1))
      × (from (field_base 2) (only (keeps k) (message_codes m)) ≡ only (keeps k) (field_codes (field_base 2) m (standard_at m)))
  kept-cut =
      let j = meaning_join _ _ (kept_means k m few Identification 1) (kept_means k m few Standard (standard_at m)) in
      rw kept_codes (j.3, j.4)

-- so messages with the same codes have them in the same fields
module _ (m m' : List ℕ) (few : length m ≤ most_octets) (few' : length m' ≤ most_octets) (h : has_fields (type_of m) ≡ true) (h' : has_fields (type_of m') ≡ true) where
  pub same_fields : message_codes m ≡ message_codes m'
      → (field_codes (field_base 1) m 1 ≡ field_codes (field_base 1) m' 1) × (field_codes (field_base 2) m (standard_at m) ≡ field_codes (field_base 2) m' (standard_at m'))
  same_fields e =
      let a = kept-cut m few h All in
      let b = kept-cut m' few' h' All in
      let c : only (keeps All) (message_codes m) ≡ only (keeps All) (message_codes m') = ap (only (keeps All)) e in (
        sym (only_true (field_codes (field_base 1) m 1)) ∙ sym a.0 ∙ ap (run (field_base 2)) c ∙ b.0 ∙ only_true (field_codes (field_base 1) m' 1),
        sym (only_true (field_codes (field_base 2) m (standard_at m))) ∙ sym a.1 ∙ ap (from (field_base 2)) c ∙ b.1 ∙ only_true (field_codes (field_base 2) m' (standard_at m')),
      )

-- ---- what the table does with a message that has fields

-- an MS is judged or not acted on; a CL and a CLR are taken or not acted on
module _ (P : Act → Type 0) (set : Settings) (asked : Bool) (none : P NoRow) where
  of_ms : P Judge → (k : Kind) → P (act_of k set asked heard.Ms)
  of_ms judge = each (λ (k : Kind). P (act_of k set asked heard.Ms)) judge judge judge none none judge judge none none judge none none

  module _ (take : (after : After) → P (Take after)) where
    of_cl : (k : Kind) → P (act_of k set asked heard.Cl)
    of_cl =
        each (λ (k : Kind). P (act_of k set asked heard.Cl))
        (take ThenMs) none none (take ThenMs) (take ThenMs) none none (take ThenMs) (take ThenHalf) none none none

    of_clr : (k : Kind) → P (act_of k set asked heard.Clr)
    of_clr = each (λ (k : Kind). P (act_of k set asked heard.Clr)) (take ThenCl) none none (take ThenClMs) (take ThenClMs) none none none none none none none

-- ---- two messages in which the station sees the same

-- both are well-formed, of one type and with the same named codes; and as an MS they ask for the same mode
pub record Alike (m m' : List ℕ) : Type 0 where
  pub fine : read_message m list_room ≡ accepted
  pub fine' : read_message m' list_room ≡ accepted
  pub kind : type_of m ≡ type_of m'
  pub named : only named_code (message_codes m) ≡ only named_code (message_codes m')
  pub mode : type_of m ≡ 1 → field_codes (field_base 2) m (standard_at m) ≡ field_codes (field_base 2) m' (standard_at m')

-- a named code is said exactly if it is among the named codes
named_said : (x : ℕ) (l : List ℕ) → named_code x ≡ true → is_in x (only named_code l) ≡ is_in x l
named_said x l n = in_only named_code x l ∙ rw n

-- what the station asks an identification field for is named
offers_named : (named_code (code_of 1 0 0 1) ≡ true) × (named_code (code_of 1 0 0 2) ≡ true) × (named_code (code_of 1 0 0 4) ≡ true)
unfolding printed_under printed_at printed_of
offers_named = (refl, refl, refl)

module _ {m m' : List ℕ} (a : Alike m m') where
  few : length m ≤ most_octets
  few = (accepted_passed m list_room a.fine).few

  few' : length m' ≤ most_octets
  few' = (accepted_passed m' list_room a.fine').few

  said_alike : (x : ℕ) → named_code x ≡ true → is_in x (message_codes m) ≡ is_in x (message_codes m')
  said_alike x n = sym (named_said x (message_codes m) n) ∙ ap (is_in x) a.named ∙ named_said x (message_codes m') n

  offer_alike : far_offer m ≡ far_offer m'
  unfolding far_offer
  offer_alike = rw (said_alike (code_of 1 0 0 1) offers_named.0, said_alike (code_of 1 0 0 2) offers_named.1)

  asks_alike : asks_ack m ≡ asks_ack m'
  unfolding asks_ack
  asks_alike = said_alike (code_of 1 0 0 4) offers_named.2

  -- a list: its struck codes, and what is stored of it
  module _ (h : has_fields (type_of m) ≡ true) where
    list_alike : far_list m ≡ far_list m'
    unfolding far_list
    list_alike =
        rw (codes_in_lem Standard m (standard_at m) few, codes_in_lem Standard m' (standard_at m') few')
        (sym (kept-cut m few h Named).1 ∙ ap (from (field_base 2)) a.named ∙ (kept-cut m' few' (ap has_fields (sym a.kind) ∙ h) Named).1)

    stored_alike : stored_list m ≡ stored_list m'
    unfolding stored_list kept far_list
    stored_alike = rw list_alike

    take_alike : (after : After) (set : Settings) (own run : List ℕ) (time : ℕ) → takes after set own run m time ≡ takes after set own run m' time
    take_alike ThenMs set own run time = rw (list_alike, offer_alike, stored_alike)
    take_alike ThenClMs set own run time = rw (list_alike, offer_alike, stored_alike)
    take_alike ThenCl set own run time = rw stored_alike
    take_alike ThenHalf set own run time = rw stored_alike

  -- an MS: the mode asked for, the verdict, and what is stored
  module _ (ms : type_of m ≡ 1) where
    mode_alike : codes_in Standard m (standard_at m) ≡ codes_in Standard m' (standard_at m')
    mode_alike = codes_in_lem Standard m (standard_at m) few ∙ a.mode ms ∙ sym (codes_in_lem Standard m' (standard_at m') few')

    kept_alike : stored_mode m ≡ stored_mode m'
    unfolding stored_mode kept
    kept_alike = rw mode_alike

    judge_alike : (v time : ℕ) → judges v m time ≡ judges v m' time
    judge_alike zero time = rw (asks_alike, kept_alike)
    judge_alike (suc k) time = refl

  -- ---- the step

  module _ (p : Phase) (set : Settings) (own run : List ℕ) (time : ℕ) where
    -- an act does the same with both
    abbrev Same : Act → Type 0
    Same act = does act p set own run m time ≡ does act p set own run m' time

    judge_same : type_of m ≡ 1 → Same Judge
    judge_same ms = rw (mode_alike ms) (judge_alike ms (verdict (codes_in Standard m' (standard_at m')) (wishes_of run)) time)

    -- so does the table's act on what they are; in an ACK or a NAK nothing is looked at
    heard_same : Same (act_of (kind_of p) set (ack_of p) (type_heard (type_of m)))
    heard_same = go (eqb (type_of m) 1) (eqb (type_of m) 2) (eqb (type_of m) 3) (eqb (type_of m) 4) (eqb (type_of m) 5) refl refl refl
      where
        go : (b c d e f : Bool) → eqb (type_of m) 1 ≡ b → eqb (type_of m) 2 ≡ c → eqb (type_of m) 3 ≡ d
            → Same (act_of (kind_of p) set (ack_of p) (pick b heard.Ms (pick c heard.Cl (pick d heard.Clr (pick e heard.Ack1 (pick f heard.Ack2 heard.Nak))))))
        go true c d e f x y z = of_ms Same set (ack_of p) refl (judge_same (eqb-true (type_of m) 1 x)) (kind_of p)
        go false true d e f x y z = of_cl Same set (ack_of p) refl (λ after. take_alike (rw (eqb-true (type_of m) 2 y)) after set own run time) (kind_of p)
        go false false true e f x y z = of_clr Same set (ack_of p) refl (λ after. take_alike (rw (eqb-true (type_of m) 3 z)) after set own run time) (kind_of p)
        go false false false true f x y z = heard_blind p set own run m m' time heard.Ack1 refl
        go false false false false true x y z = heard_blind p set own run m m' time heard.Ack2 refl
        go false false false false false x y z = heard_blind p set own run m m' time heard.Nak refl

    sorted_alike : sorted (sort_of Field m) p set own run m time ≡ sorted (sort_of Field m') p set own run m' time
    sorted_alike = rw (a.fine, a.fine', sym a.kind) heard_same

  -- they lead to the same step
  pub alike_steps : (p : Phase) (set : Settings) (own run : List ℕ) (time out_size store_size : ℕ)
      → step_of p set own run Field m time out_size store_size ≡ step_of p set own run Field m' time out_size store_size
  unfolding step_of checked timed
  alike_steps p set own run time out_size store_size = rw (sorted_alike p set own run time)

-- ---- a message and its struck form

-- what is named stays the same where some of it was picked out before
pub named_once : (i s : List ℕ) → only named_code (only named_code i ++ s) ≡ only named_code (i ++ s)
named_once i s = only_append named_code (only named_code i) s ∙ rw (only_only named_code i) (sym (only_append named_code i s))

module _ (m : List ℕ) (o : AreOctets m) (e : read_message m list_room ≡ accepted) where
  -- the named codes of an MS are those of what stays of it
  ms_named : type_of m ≡ 1 → only named_code (struck_codes m) ≡ only named_code (message_codes m)
  unfolding struck_codes message_codes
  ms_named ms = rw ms (named_once (field_codes (field_base 1) m 1) (field_codes (field_base 2) m (standard_at m)))

  same_named : only named_code (message_codes (struck_form m)) ≡ only named_code (message_codes m)
  same_named = rw (struck_is_read m list_room o e) (go (eqb (type_of m) 1) refl)
    where
      go : (t : Bool) → eqb (type_of m) 1 ≡ t → only named_code (struck_codes m) ≡ only named_code (message_codes m)
      go true t = ms_named (eqb-true (type_of m) 1 t)
      go false t = rw (named_stay m (λ ms. eqb-false (type_of m) 1 t ms)) (only_only named_code (message_codes m))

  pub struck_alike : Alike (struck_form m) m
  struck_alike =
      record {
        fine = struck_is_well_formed m list_room o e list_room (omega arith);
        fine' = e;
        kind = struck_type m list_room o e;
        named = same_named;
        mode = λ ms. standard_of_ms m list_room e (sym (struck_type m list_room o e) ∙ ms);
      }

-- an ACK or a NAK is its own struck form
pub bare_struck : (m : List ℕ) → read_message m list_room ≡ accepted → has_fields (type_of m) ≡ false → struck_form m ≡ m
unfolding message_form
bare_struck m e h = struck_one m h ∙ whole m (one (eqb (length m) 1) refl (rw h at (accepted_passed m list_room e).form))
  where
    one : (t : Bool) → eqb (length m) 1 ≡ t → pick t Fine (Left 1) ≡ Fine → length m ≡ 1
    one true t f = eqb-true (length m) 1 t
    one false t f = absurd (let z : ◌≡◌ {A = ℕ} 0 1 = cc in omega arith)

    whole : (l : List ℕ) → length l ≡ 1 → get_or l 0 0 ∷ [] ≡ l
    whole [] n = absurd (omega arith)
    whole (x ∷ []) n = refl
    whole (x ∷ y ∷ l) n = absurd (omega arith)

-- ---- the operation

-- success tells that the message is well-formed, and leaves the struck form at the front of the output
pub strikes_told : (m out₀ : List ℕ) (r : Result ℕ StrikeRefusal) (out₁ : List ℕ) → Strikes m out₀ r out₁ → (struck_told r).no ≡ 0
    → (read_message m list_room ≡ accepted) × ((struck_told r).count ≡ length (struck_form m)) × (out₁ ≡ put (struck_form m) out₀)
unfolding strike_message
strikes_told m out₀ r out₁ s z = go (ltb (length out₀) most_octets) (read_message m list_room) (never_zero m list_room) s.reply s.output
  where
    go : (t : Bool) (x : Reading) → (x ≡ refused 0 → ⊥) → struck_told r ≡ write_reply (refused_if t 1 (unless_refused x (struck_form m)))
        → out₁ ≡ write_leaves (refused_if t 1 (unless_refused x (struck_form m))) out₀
        → (x ≡ accepted) × ((struck_told r).count ≡ length (struck_form m)) × (out₁ ≡ put (struck_form m) out₀)
    go true x n p q = absurd (omega (arith, ap (λ (y : Reply). y.no) p))
    go false (refused k) n p q = absurd (n (ap refused (sym (ap (λ (y : Reply). y.no) p) ∙ z)))
    go false accepted n p q = (refl, ap (λ (y : Reply). y.count) p, q)
