-- Writing and reading a message: what is written is read back as it was meant, whatever is read can be written, in no more octets,
-- and in the same octets exactly if these are minimal. And what is read is a meaning.
-- Assumes nothing.
use Prim.Native.Nat.{ℕ, zero, suc, ◌+◌, ◌-◌, ◌*◌, ◌^◌, ◌≤◌, ◌<◌}
use mathlib.Core.Bool.{Bool, true, false, not}
use mathlib.Core.List.{List, [], ◌∷◌, ◌++◌}
use mathlib.Core.Logic.{◌↔◌}
use mathlib.Core.Path.{◌≡◌, refl, sym, ap, ◌∙◌}
use native.Mathlib.Omega.{arith}
use borrow.Author.Tests.{ltb-false, eqb-true, eqb-false, not-false, le-ltb}
use lib.Dec.{ltb, eqb}
use lib.ListN.{length, get_or, take, drop, length-append, length-take, length-drop, drop_of_length-le}
use lib.Seq.{drop-cons, drop-drop, drop-append_seam, get_or-take, get_or-drop, take_all}
use Rattle.octets.specs.Bits.{AreOctets}
use Rattle.octets.specs.Places.{pick}
use Rattle.tree.specs.Codes.{code_of, field_base, field_codes, field_behind}
use Rattle.tree.specs.Form.{Fine, Left, is_fine, field_form}
use Rattle.tree.specs.Fields.{is_in, most_octets}
use Rattle.tree.proofs.Forms.{is_fine_lem, and_parts, field_fits}
use Rattle.message.specs.Kinds.{known, has_fields, type_of, revision_of, first_octet}
use Rattle.message.specs.Nonstandard.{ns_announced, ns_form, tail_form}
use Rattle.message.specs.Reader.{list_room, standard_at, tail_at, message_form, message_codes, ns_of, Reading, accepted, judged, read_message}
use Rattle.message.specs.Reader as reader
use Rattle.message.proofs.Reading.{by_form, form_fields, codes_fields, form_one, codes_none}
use Rattle.message.proofs.Accepted.{accepted_fine}
use Rattle.message.proofs.Room.{codes_fit}
use Rattle.meaning.specs.Meaning.{all_shaped, ascending, all_parented}
use Rattle.meaning.specs.Written.{block_octets, marked, run, from, written}
use Rattle.meaning.specs.Minimal.{field_minimal, message_minimal}
use Rattle.meaning.specs.Writing.{Writing, sent, refused_if, is_empty, ends_there, ns_agrees, message_octets, checked_writing, list_writing, write_message, Writable}
use Rattle.meaning.proofs.Trees.{Sub, sub, Par, par, Tree, tree, sub_places, par_places, subs_octets, lower_octets, par_octets, pars_octets, tree_octets, Rising, GoodSubs, GoodPars, GoodTree, ascends}
use Rattle.meaning.proofs.Blocks.{Ends, last, more, block_made}
use Rattle.meaning.proofs.Growing.{Within, within_at, tree_of, written_tree}
use Rattle.meaning.proofs.Meanings.{Meant, tree_means, grown, written_grown, meaning_cut, meaning_join}
use Rattle.meaning.proofs.Reading.{tree_read, tree_at, tree_codes_lem, tree_good}
use Rattle.octets.proofs.Laws.{both_true}
use Rattle.meaning.proofs.Minimals.{minimal_stands, never_longer}
use Rattle.meaning.proofs.Announcing.{announced_fields, tail_agrees}

-- ---- what success tells

-- what is sent passed a test that did not hold
sent_past : (t : Bool) (k : ℕ) (w : Writing) (os : List ℕ) → refused_if t k w ≡ sent os → (t ≡ false) × (w ≡ sent os)
sent_past true k w os h = (cc, cc)
sent_past false k w os h = (refl, h)

-- nor did one that refuses
past_refused : (t : Bool) (k : ℕ) (r : Reading) → reader.refused_if t k r ≡ accepted → (t ≡ false) × (r ≡ accepted)
past_refused true k r h = (cc, cc)
past_refused false k r h = (refl, h)

-- what is written met all of it
pub sent_writable : (kind revision : ℕ) (list ns : List ℕ) (room : ℕ) (os : List ℕ) → write_message kind revision list ns room ≡ sent os → Writable kind revision list ns room os
unfolding write_message list_writing checked_writing
sent_writable kind revision list ns room os h =
    let a = sent_past (ltb room most_octets) 1 _ os h in
    let b = sent_past (not (known kind)) 3 _ os a.1 in
    let c = sent_past (ltb 15 revision) 3 _ os b.1 in
    let d = sent_past (not (all_shaped list)) 5 _ os c.1 in
    let e = sent_past (not (ascending list)) 6 _ os d.1 in
    let f = sent_past (not (all_parented list list)) 7 _ os e.1 in
    let g = sent_past (not (ends_there kind list ns)) 8 _ os f.1 in
    let i = sent_past (not (ns_agrees list ns)) 9 _ os g.1 in
    let j = sent_past (ltb most_octets (length (message_octets kind revision list ns))) 10 _ os i.1 in
    let same : message_octets kind revision list ns ≡ os = cc in
    record {
      space = ltb-false room 64 a.0;
      known_kind = not-false (known kind) b.0;
      low = ltb-false 15 revision c.0;
      shapes = not-false (all_shaped list) d.0;
      up = not-false (ascending list) e.0;
      parents = not-false (all_parented list list) f.0;
      ends = not-false (ends_there kind list ns) g.0;
      agrees = not-false (ns_agrees list ns) i.0;
      few = rw same at (ltb-false 64 (length (message_octets kind revision list ns)) j.0);
      octets = same;
    }

-- what meets it is written
pub writable_sent : (kind revision : ℕ) (list ns : List ℕ) (room : ℕ) (os : List ℕ) → Writable kind revision list ns room os → write_message kind revision list ns room ≡ sent os
unfolding write_message list_writing checked_writing
writable_sent kind revision list ns room os s =
    rw (le-ltb room 64 s.space, s.known_kind, le-ltb 15 revision s.low, s.shapes, s.up, s.parents, s.ends, s.agrees, s.octets, le-ltb 64 (length os) s.few)

-- all that the reader asks for
pub record Readable (l : List ℕ) : Type 0 where
  pub some : 0 < length l
  pub few : length l ≤ 64
  pub known_kind : known (type_of l) ≡ true
  pub form : message_form l ≡ Fine

-- what is accepted met it
pub accepted_readable : (l : List ℕ) (room : ℕ) → read_message l room ≡ accepted → Readable l
unfolding read_message
accepted_readable l room h =
    let a = past_refused (ltb room list_room) 1 _ h in
    let b = past_refused (eqb (length l) 0) 2 _ a.1 in
    let c = past_refused (ltb most_octets (length l)) 2 _ b.1 in
    let d = past_refused (not (known (type_of l))) 3 _ c.1 in
    record {
      some = omega (arith, eqb-false (length l) 0 b.0);
      few = ltb-false 64 (length l) c.0;
      known_kind = not-false (known (type_of l)) d.0;
      form = accepted_fine l room h;
    }

-- what meets it is accepted
pub readable_accepted : (l : List ℕ) (room : ℕ) → list_room ≤ room → Readable l → read_message l room ≡ accepted
readable_accepted l room h a = by_form l room h (λ e. omega (arith, a.some)) a.few a.known_kind ∙ ap judged a.form

-- ---- what is written is read back

-- a known type has four bits
known_low : (k : ℕ) → known k ≡ true → k < 16
unfolding Within
known_low k h = omega (arith, within_at k 1 12 (1 ∷ 2 ∷ 3 ∷ 4 ∷ 5 ∷ 8 ∷ 9 ∷ 10 ∷ 11 ∷ []) (omega arith) h)

-- what is written of a field's codes, at any place of any octets, is read as those codes, and is well-formed and minimal
pub field_back : (f : ℕ) (c : List ℕ) → Meant (field_base f) c → (l : List ℕ) (e : ℕ) (r : List ℕ) → drop e l ≡ written (field_base f) c ++ r
    → (field_codes (field_base f) l e ≡ c) × (drop (field_behind l e) l ≡ r) × (field_form l e ≡ Fine) × (field_minimal l e ≡ true)
field_back f c h l e r d =
    let T = tree_of (field_base f) c in
    let g = grown f c h in
    let s : drop e l ≡ tree_octets T ++ r = rw (written_grown f c h) at d in
    let x = tree_read (field_base f) T l e r g.0 s in
    (x.told ∙ g.1, rw (x.next, ← (drop-drop (length (tree_octets T)) e l), s) (drop-append_seam (tree_octets T) r), x.fine, x.tight)

-- the NS of a well-formed message with fields is all that stands behind S
ns_rest : (l : List ℕ) → has_fields (type_of l) ≡ true → tail_form l (tail_at l) ≡ Fine → ns_of l ≡ drop (tail_at l) l
unfolding tail_form
ns_rest l h f = rw h (go (ns_announced l) f)
  where
    e : ℕ
    e = tail_at l

    none : (u : Bool) → eqb e (length l) ≡ u → pick u Fine (Left e) ≡ Fine → [] ≡ drop e l
    none true z f = sym (drop_of_length-le l {i = e} (omega (arith, eqb-true e (length l) z)))
    none false z f = cc

    go : (t : Bool) → pick t (ns_form (length l) l e) (pick (eqb e (length l)) Fine (Left e)) ≡ Fine → take (pick t (length l - e) 0) (drop (pick t e 0) l) ≡ drop e l
    go true f = take_all (length l - e) (drop e l) (omega (arith, length-drop e l))
    go false f = none (eqb e (length l)) refl f

-- a message is well-formed and minimal, and has these codes and this NS
record Back (os list ns : List ℕ) : Type 0 where
  form : message_form os ≡ Fine
  codes : message_codes os ≡ list
  rest : ns_of os ≡ ns
  tight : message_minimal os ≡ true

-- octet 1 and what is written of two fields' codes, with the NS that they announce
fields_back : (os a r ns : List ℕ) → has_fields (type_of os) ≡ true → Meant (field_base 1) a → Meant (field_base 2) r
    → drop 1 os ≡ written (field_base 1) a ++ (written (field_base 2) r ++ ns) → ns_agrees (a ++ r) ns ≡ true → Back os (a ++ r) ns
unfolding message_minimal
fields_back os a r ns t h k d g =
    let one = field_back 1 a h os 1 (written (field_base 2) r ++ ns) d in
    let two = field_back 2 r k os (standard_at os) ns one.1 in
    let codes : field_codes (field_base 1) os 1 ++ field_codes (field_base 2) os (standard_at os) ≡ a ++ r = rw (one.0, two.0) in
    let agrees = tail_agrees os (a ++ r) (tail_at os) (field_fits os (standard_at os) two.2).1 (announced_fields os (standard_at os) ∙ ap (is_in (code_of 1 0 0 7)) codes) in
    let tail : tail_form os (tail_at os) ≡ Fine = is_fine_lem _ (sym agrees ∙ ap (ns_agrees (a ++ r)) two.1 ∙ g) in
    record {
      form = form_fields os t ∙ rw (one.2, two.2) tail;
      codes = codes_fields os t ∙ codes;
      rest = ns_rest os t tail ∙ two.1;
      tight = rw (t, one.3, two.3);
    }

-- octet 1 alone
one_back : (os : List ℕ) → has_fields (type_of os) ≡ false → length os ≡ 1 → Back os [] []
unfolding message_minimal
one_back os t h = record { form = form_one os t h; codes = codes_none os t; rest = rw t; tight = rw t }

-- an ACK or a NAK has neither list nor NS
ends_empty : (kind : ℕ) (list ns : List ℕ) → has_fields kind ≡ false → ends_there kind list ns ≡ true → (list ≡ []) × (ns ≡ [])
ends_empty kind list ns t h = go list ns (rw t at h)
  where
    go : (a r : List ℕ) → pick (is_empty a) (is_empty r) false ≡ true → (a ≡ []) × (r ≡ [])
    go [] [] e = (refl, refl)
    go [] (x ∷ r) e = (refl, cc)
    go (x ∷ a) r e = (cc, cc)

module _ (kind revision : ℕ) (list ns : List ℕ) (room : ℕ) (os : List ℕ) (s : Writable kind revision list ns room os) where
  -- octet 1 tells the type and the revision
  first_back : (type_of os ≡ kind) × (revision_of os ≡ revision)
  unfolding message_octets
  first_back =
      let first : get_or os 0 0 ≡ first_octet kind revision = ap (λ (l : List ℕ). get_or l 0 0) (sym s.octets) in
      let low = known_low kind s.known_kind in
      (omega arith, omega arith)

  -- and the others the list and NS
  all_back : Back os list ns
  unfolding message_octets
  all_back = go (has_fields kind) refl
    where
      go : (t : Bool) → has_fields kind ≡ t → Back os list ns
      go true t =
          let cut = meaning_cut list s.shapes s.up s.parents in
          let d : drop 1 os ≡ written (field_base 1) (run (field_base 2) list) ++ (written (field_base 2) (from (field_base 2) list) ++ ns) = ap (drop 1) (sym s.octets) ∙ rw t in
          rw cut.2 at (fields_back os (run (field_base 2) list) (from (field_base 2) list) ns (ap has_fields first_back.0 ∙ t) cut.0 cut.1 d (rw cut.2 s.agrees))
      go false t =
          let none = ends_empty kind list ns t s.ends in
          rw (none.0, none.1) (one_back os (ap has_fields first_back.0 ∙ t) (ap length (sym s.octets) ∙ rw t))

-- what is written is accepted, and gives back the type, the revision, the list and NS
pub written_is_read : (kind revision : ℕ) (list ns : List ℕ) (room room' : ℕ) (os : List ℕ) → write_message kind revision list ns room ≡ sent os → list_room ≤ room'
    → (read_message os room' ≡ accepted) × (type_of os ≡ kind) × (revision_of os ≡ revision) × (message_codes os ≡ list) × (ns_of os ≡ ns)
unfolding message_octets
written_is_read kind revision list ns room room' os h k =
    let s = sent_writable kind revision list ns room os h in
    let f = first_back kind revision list ns room os s in
    let b = all_back kind revision list ns room os s in
    let some : 0 < length os = rw (← s.octets) (omega arith) in
    (readable_accepted os room' k (record { some = some; few = s.few; known_kind = ap known f.0 ∙ s.known_kind; form = b.form }), f.0, f.1, b.codes, b.rest)

-- and is minimal
pub written_is_minimal : (kind revision : ℕ) (list ns : List ℕ) (room : ℕ) (os : List ℕ) → write_message kind revision list ns room ≡ sent os → message_minimal os ≡ true
written_is_minimal kind revision list ns room os h = (all_back kind revision list ns room os (sent_writable kind revision list ns room os h)).tight

-- ---- what is written is octets

-- a part of octets is octets
pub part_octets : (n e : ℕ) (l : List ℕ) → AreOctets l → AreOctets (take n (drop e l))
part_octets n e l o i h =
    let size = length-take n (drop e l) in
    let within : i < n = omega arith in
    rw (get_or-take n (drop e l) i 0, get_or-drop e l i 0) (o (e + i) (omega (arith, length-drop e l)))

-- each number has eight bits
unfoldable Eight : List ℕ → Type 0
Eight [] = Unit {0}
Eight (o ∷ l) = (o < 256) × Eight l

-- octets are such
octets_eight : (l : List ℕ) → AreOctets l → Eight l
unfolding Eight
octets_eight [] h = tt
octets_eight (o ∷ l) h = (h 0 (omega arith), octets_eight l (λ i k. h (suc i) (omega arith)))

-- and such are octets
eight_octets : (l : List ℕ) → Eight l → AreOctets l
unfolding Eight
eight_octets [] h i k = absurd (omega arith)
eight_octets (o ∷ l) h zero k = h.0
eight_octets (o ∷ l) h (suc i) k = eight_octets l h.1 i (omega arith)

-- two such lists are one
eight_append : (a r : List ℕ) → Eight a → Eight r → Eight (a ++ r)
unfolding Eight
eight_append [] r h k = k
eight_append (o ∷ a) r h k = (h.0, eight_append a r h.1 k)

-- a block whose last octet has the delimiter k * m
eight_ends : (m k : ℕ) (B : List ℕ) → m + k * m ≤ 256 → Ends m k B → Eight B
unfolding Eight
eight_ends m k B h (last a e) = (omega arith, tt)
eight_ends m k B h (more a C e r) = (omega arith, eight_ends m k C h r)

-- a block that is written
eight_block : (w : ℕ) (qs : List ℕ) → 0 < w → 2 ^ w + 1 * 2 ^ w ≤ 256 → Rising 0 qs → Eight (block_octets w (1 * 2 ^ w) qs)
eight_block w qs p h r = eight_ends (2 ^ w) 1 (block_octets w (1 * 2 ^ w) qs) h (block_made w 1 p (omega arith) qs (ascends 0 qs r)).ends

-- octets of which the last is marked by bit 8
eight_marked : (l : List ℕ) → Eight l → Eight (marked l)
unfolding Eight marked
eight_marked [] h = tt
eight_marked (d ∷ []) h = (omega arith, tt)
eight_marked (d ∷ (e ∷ l)) h = (h.0, eight_marked (e ∷ l) h.1)

-- the octets of NPar(3) blocks
eight_subs : (gs : List Sub) → GoodSubs gs → Eight (subs_octets gs)
unfolding Eight GoodSubs subs_octets
eight_subs [] g = tt
eight_subs ((sub t ks) ∷ gs) g = eight_append (block_octets 6 64 ks) (subs_octets gs) (eight_block 6 ks (omega arith) (omega arith) g.0) (eight_subs gs g.1)

-- those with SPar(2) before them
eight_lower : (gs : List Sub) → Rising 0 (sub_places gs) → GoodSubs gs → Eight (lower_octets gs)
unfolding Eight lower_octets
eight_lower [] r g = tt
eight_lower (s ∷ gs) r g = eight_append (block_octets 6 64 (sub_places (s ∷ gs))) (subs_octets (s ∷ gs)) (eight_block 6 (sub_places (s ∷ gs)) (omega arith) (omega arith) r) (eight_subs (s ∷ gs) g)

-- those of Par(2) blocks
eight_pars : (ps : List Par) → GoodPars ps → Eight (pars_octets ps)
unfolding Eight GoodPars par_octets pars_octets
eight_pars [] g = tt
eight_pars ((par s ns gs) ∷ ps) g =
    let B = block_octets 6 64 ns in
    let G = lower_octets gs in
    eight_append (marked (B ++ G)) (pars_octets ps) (eight_marked (B ++ G) (eight_append B G (eight_block 6 ns (omega arith) (omega arith) g.0) (eight_lower gs g.1 g.2))) (eight_pars ps g.3)

-- those of a field
eight_tree : (T : Tree) → GoodTree T → Eight (tree_octets T)
unfolding GoodTree tree_octets
eight_tree (tree ns ps) g =
    let N = block_octets 7 128 ns in
    let S = block_octets 7 128 (par_places ps) in
    let P = pars_octets ps in
    eight_append N (S ++ P) (eight_block 7 ns (omega arith) (omega arith) g.0) (eight_append S P (eight_block 7 (par_places ps) (omega arith) (omega arith) g.1) (eight_pars ps g.2))

pub tree_octets_lem : (T : Tree) → GoodTree T → AreOctets (tree_octets T)
tree_octets_lem T g = eight_octets (tree_octets T) (eight_tree T g)

-- what is written of a field's codes
eight_written : (f : ℕ) (c : List ℕ) → Meant (field_base f) c → Eight (written (field_base f) c)
eight_written f c h = rw (written_grown f c h) (eight_tree (tree_of (field_base f) c) (grown f c h).0)

-- if NS is octets, so is all that is written
pub written_is_octets : (kind revision : ℕ) (list ns : List ℕ) (room : ℕ) (os : List ℕ) → AreOctets ns → write_message kind revision list ns room ≡ sent os → AreOctets os
unfolding message_octets Eight
written_is_octets kind revision list ns room os o h = eight_octets os (rw (← s.octets) (omega (arith, known_low kind s.known_kind, s.low), go (has_fields kind)))
  where
    s : Writable kind revision list ns room os
    s = sent_writable kind revision list ns room os h

    a : List ℕ
    a = run (field_base 2) list

    r : List ℕ
    r = from (field_base 2) list

    A : List ℕ
    A = written (field_base 1) a

    R : List ℕ
    R = written (field_base 2) r

    go : (t : Bool) → Eight (pick t (A ++ (R ++ ns)) [])
    go true =
        let c = meaning_cut list s.shapes s.up s.parents in
        eight_append A (R ++ ns) (eight_written 1 a c.0) (eight_append R ns (eight_written 2 r c.1) (octets_eight ns o))
    go false = tt

-- ---- what is read is a meaning

-- the codes of a field of a message are a meaning's
meant_at : (f : ℕ) (l : List ℕ) (e : ℕ) → 0 < f → f ≤ 2 → length l ≤ 64 → Meant (field_base f) (field_codes (field_base f) l e)
meant_at f l e lo hi short = rw (tree_codes_lem (field_base f) l e) at (tree_means f (tree_at l e) lo hi (tree_good l short e))

-- what is written of them is the octets of their tree
written_at : (b : ℕ) (l : List ℕ) (e : ℕ) → length l ≤ 64 → written b (field_codes b l e) ≡ tree_octets (tree_at l e)
written_at b l e short = rw (tree_codes_lem b l e) at (written_tree b (tree_at l e) (tree_good l short e))

-- the codes of a message, well-formed or not, are a meaning: of possible shapes, strictly ascending, each with its parents
pub read_is_meaning : (l : List ℕ) → length l ≤ 64 → (all_shaped (message_codes l) ≡ true) × (ascending (message_codes l) ≡ true) × (all_parented (message_codes l) (message_codes l) ≡ true)
unfolding message_codes all_shaped all_parented
read_is_meaning l short = go (has_fields (type_of l))
  where
    a : List ℕ
    a = field_codes (field_base 1) l 1

    r : List ℕ
    r = field_codes (field_base 2) l (standard_at l)

    go : (t : Bool) → (all_shaped (pick t (a ++ r) []) ≡ true) × (ascending (pick t (a ++ r) []) ≡ true) × (all_parented (pick t (a ++ r) []) (pick t (a ++ r) []) ≡ true)
    go true = let j = meaning_join a r (meant_at 1 l 1 (omega arith) (omega arith) short) (meant_at 2 l (standard_at l) (omega arith) (omega arith) short) in (j.0, j.1, j.2)
    go false = (refl, refl, refl)

-- a message has at most 448 codes
pub at_most_448 : (l : List ℕ) (room : ℕ) → read_message l room ≡ accepted → length (message_codes l) ≤ 448
unfolding message_codes
at_most_448 l room h = go (has_fields (type_of l))
  where
    a : List ℕ
    a = field_codes (field_base 1) l 1

    r : List ℕ
    r = field_codes (field_base 2) l (standard_at l)

    go : (t : Bool) → length (pick t (a ++ r) []) ≤ 448
    go true = let m = accepted_readable l room h in omega (arith, codes_fit (field_base 1) (field_base 2) l m.some m.few, length-append a r)
    go false = omega arith

-- ---- what is read can be written

-- what is written of a message that was read: it is written, it is no longer, and it is the same if the message is minimal
record Again (l os : List ℕ) : Type 0 where
  again : (room : ℕ) → 64 ≤ room → Writable (type_of l) (revision_of l) (message_codes l) (ns_of l) room os
  less : length os ≤ length l
  same : message_minimal l ≡ true → os ≡ l

module _ (l : List ℕ) (octets : AreOctets l) (m : Readable l) where
  -- octet 1 comes back from its type and revision
  first_again : (first_octet (type_of l) (revision_of l) ≡ get_or l 0 0) × (revision_of l ≤ 15)
  first_again = let h = octets 0 m.some in (omega arith, omega arith)

  -- a message with fields
  fields_again : has_fields (type_of l) ≡ true → Again l (get_or l 0 0 ∷ (tree_octets (tree_at l 1) ++ (tree_octets (tree_at l (standard_at l)) ++ drop (tail_at l) l)))
  unfolding message_octets message_minimal
  fields_again t =
      let a = field_codes (field_base 1) l 1 in
      let r = field_codes (field_base 2) l (standard_at l) in
      let A = tree_octets (tree_at l 1) in
      let R = tree_octets (tree_at l (standard_at l)) in
      let N = drop (tail_at l) l in
      let p = and_parts (field_form l 1) _ (sym (form_fields l t) ∙ m.form) in
      let q = and_parts (field_form l (standard_at l)) (tail_form l (tail_at l)) p.1 in
      let j = meaning_join a r (meant_at 1 l 1 (omega arith) (omega arith) m.few) (meant_at 2 l (standard_at l) (omega arith) (omega arith) m.few) in
      let one = field_fits l 1 p.0 in
      let two = field_fits l (standard_at l) q.0 in
      let first = never_longer l octets 1 p.0 in
      let second = never_longer l octets (standard_at l) q.0 in
      let agrees : ns_agrees (a ++ r) N ≡ true = tail_agrees l (a ++ r) (tail_at l) two.1 (announced_fields l (standard_at l)) ∙ ap is_fine q.1 in
      let less : length (get_or l 0 0 ∷ (A ++ (R ++ N))) ≤ length l = simp length-append (omega (arith, length-drop (tail_at l) l)) in
      record {
        again = λ room h. rw (codes_fields l t, ns_rest l t q.1) (record {
          space = h;
          known_kind = m.known_kind;
          low = first_again.1;
          shapes = j.0;
          up = j.1;
          parents = j.2;
          ends = rw t;
          agrees = agrees;
          few = omega (arith, m.few);
          octets = rw (t, first_again.0, j.3, j.4, written_at (field_base 1) l 1 m.few, written_at (field_base 2) l (standard_at l) m.few);
        });
        less = less;
        same = λ k.
            let b = both_true (field_minimal l 1) (field_minimal l (standard_at l)) (rw t at k) in
            let one = minimal_stands l octets 1 p.0 b.0 in
            let two = minimal_stands l octets (standard_at l) q.0 b.1 in
            rw (← two, ← one) (sym (drop-cons l 0 0 m.some));
      }

  -- a message without
  one_again : has_fields (type_of l) ≡ false → Again l l
  unfolding message_form message_octets ns_agrees is_in all_shaped all_parented
  one_again t = go (eqb (length l) 1) refl (rw t at m.form)
    where
      go : (u : Bool) → eqb (length l) 1 ≡ u → pick u Fine (Left 1) ≡ Fine → Again l l
      go true e f =
          let none : drop 1 l ≡ [] = drop_of_length-le l {i = 1} (omega (arith, eqb-true (length l) 1 e)) in
          record {
            again = λ room h. rw (codes_none l t, t) (record {
              space = h;
              known_kind = m.known_kind;
              low = first_again.1;
              shapes = refl;
              up = refl;
              parents = refl;
              ends = rw t;
              agrees = refl;
              few = m.few;
              octets = rw (t, first_again.0) (ap (λ (x : List ℕ). get_or l 0 0 ∷ x) (sym none) ∙ sym (drop-cons l 0 0 m.some));
            });
            less = omega arith;
            same = λ k. refl;
          }
      go false e f = absurd (let z : ◌≡◌ {A = ℕ} 0 1 = cc in omega arith)

  -- any message
  read_again : (os : List ℕ) × Again l os
  read_again = go (has_fields (type_of l)) refl
    where
      go : (t : Bool) → has_fields (type_of l) ≡ t → (os : List ℕ) × Again l os
      go true t = (_, fields_again t)
      go false t = (l, one_again t)

-- whatever is read can be written, and what is written is never longer
pub read_can_be_written : (l : List ℕ) (room room' : ℕ) → AreOctets l → read_message l room ≡ accepted → 64 ≤ room'
    → (os : List ℕ) × (write_message (type_of l) (revision_of l) (message_codes l) (ns_of l) room' ≡ sent os) × (length os ≤ length l)
read_can_be_written l room room' o h k =
    let x = read_again l o (accepted_readable l room h) in
    (x.0, writable_sent (type_of l) (revision_of l) (message_codes l) (ns_of l) room' x.0 (x.1.again room' k), x.1.less)

-- a minimal message that is read is written in the same octets
pub minimal_is_written : (l : List ℕ) (room room' : ℕ) → AreOctets l → read_message l room ≡ accepted → message_minimal l ≡ true → 64 ≤ room'
    → write_message (type_of l) (revision_of l) (message_codes l) (ns_of l) room' ≡ sent l
minimal_is_written l room room' o h m k =
    let x = read_again l o (accepted_readable l room h) in
    writable_sent (type_of l) (revision_of l) (message_codes l) (ns_of l) room' x.0 (x.1.again room' k) ∙ ap sent (x.1.same m)

-- a message is minimal, block by block, exactly if it is what the writer makes of it
pub minimal_said_twice : (l : List ℕ) (room room' : ℕ) → AreOctets l → read_message l room ≡ accepted → 64 ≤ room'
    → (message_minimal l ≡ true) ↔ (write_message (type_of l) (revision_of l) (message_codes l) (ns_of l) room' ≡ sent l)
minimal_said_twice l room room' o h k =
    (λ m. minimal_is_written l room room' o h m k, written_is_minimal (type_of l) (revision_of l) (message_codes l) (ns_of l) room' l)
