-- The reader accepts exactly the runs that are a frame of some information, and gives that information: so it gives back what the
-- writer was given, and refuses flags alone and a frame with bits behind it.
-- Assumes nothing.
use Prim.Native.Nat.{ℕ, zero, suc, ◌+◌, ◌-◌, ◌*◌, ◌/◌, ◌%◌, ◌≤◌, ◌<◌}
use mathlib.Core.Path.{◌≡◌, refl, sym, ap, ◌∙◌}
use mathlib.Core.Bool.{Bool, true, false, not}
use mathlib.Core.List.{List, [], ◌∷◌, ◌++◌, append_assoc, append-nil}
use mathlib.Core.Logic.{◌⊎◌, ⊎_elim}
use native.Mathlib.Decide.{dec_lt}
use native.Mathlib.Omega.{arith}
use borrow.Author.Tests.{ltb-false, leb-true, not-false, le-ltb, le-leb, lt-leb}
use lib.Dec.{ltb, leb}
use lib.ListN.{length, take, drop, length-append, take-append-drop, drop_of_length-le}
use lib.Seq.{take_at, drop_at, length-take-le, take-append-le}
use Rattle.octets.specs.Bits.{bits, pack, packed, AreOctets}
use Rattle.octets.specs.Lay.{put}
use Rattle.octets.specs.Places.{pick, both}
use Rattle.octets.proofs.Laws.{length_bits, bits_append}
use Rattle.octets.proofs.Packing.{pack_octets, packed_bits, take_bits_pack, bits_pack, length_packed}
use Rattle.fcs.specs.Division.{fcs}
use Rattle.frame.specs.Limits.{most_information, most_bits, information_room, frame_room, fewest_opening, most_opening, fewest_closing, most_closing, fewest_content, most_content}
use Rattle.frame.specs.Stuffing.{flag, starts, stuffed, Cutting, uncut, cut_into, cut_here, content_from}
use Rattle.frame.specs.Frame.{flags, content, frame, flags_at, closed, opened, framed}
use Rattle.frame.specs.Reader.{Reading, refused, information, refused_if, same, ahead, check, checked, alone, read_frame}
use Rattle.frame.specs.Writer.{Writing, sent, write_frame}
use Rattle.frame.specs.Writer as writer
use Rattle.frame.specs.Exact.{IsFrame}
use Rattle.frame.proofs.Sights.{length_run}
use Rattle.frame.proofs.Checking.{same_refl, same_eq}
use Rattle.frame.proofs.Zeros.{length_content, frame-length}
use Rattle.frame.proofs.Transparency.{no_flag_zero, content_stuffed, content_is}
use Rattle.frame.proofs.Flags.{length_flags, flags_are, flags_counted, flags_capped, flags_most, flags_some}

-- information stands behind tests that did not refuse
not_refused : (t : Bool) (k : ℕ) (x : Reading) (os : List ℕ) → refused_if t k x ≡ information os → (t ≡ false) × (x ≡ information os)
not_refused true k x os e = absurd (let z : ◌≡◌ {A = ℕ} 0 1 = cc in omega arith)
not_refused false k x os e = (refl, e)

-- the content of an information passes the checks
checked_content : (info : List ℕ) → AreOctets info → 1 ≤ length info → length info ≤ most_information → checked (content info) ≡ information info
unfolding checked content
checked_content info h l u =
    let n : length (bits info ++ fcs (bits info)) ≡ length info * 8 + 16 = length_content info in
    let k : length info * 8 + 16 - 16 ≡ length info * 8 = omega arith in
    rw (
      n,
      le-ltb 0 ((length info * 8 + 16) % 8) (omega arith),
      le-ltb ((length info * 8 + 16) / 8) fewest_content (omega arith),
      le-ltb most_content ((length info * 8 + 16) / 8) (omega arith),
      k,
      take_at (bits info) (fcs (bits info)) (length info * 8) (length_bits info),
      drop_at (bits info) (fcs (bits info)) (length info * 8) (length_bits info),
      same_refl (fcs (bits info)),
      packed_bits info h,
    )

-- a content that passes the checks is that of the information given, 1 to 64 octets
checked_is : (cs : List Bool) (os : List ℕ) → checked cs ≡ information os → (cs ≡ content os) × AreOctets os × (1 ≤ length os) × (length os ≤ most_information)
unfolding checked content packed
checked_is cs os e =
    let a = not_refused (ltb 0 (length cs % 8)) 3 _ os e in
    let b = not_refused (ltb (length cs / 8) fewest_content) 4 _ os a.1 in
    let c = not_refused (ltb most_content (length cs / 8)) 5 _ os b.1 in
    let d = not_refused (not (same (check cs) (fcs (ahead cs)))) 6 _ os c.1 in
    let whole : length cs % 8 ≡ 0 = omega (arith, ltb-false 0 (length cs % 8) a.0) in
    let least : fewest_content ≤ length cs / 8 = ltb-false (length cs / 8) fewest_content b.0 in
    let most : length cs / 8 ≤ most_content = ltb-false most_content (length cs / 8) c.0 in
    let fits : check cs ≡ fcs (ahead cs) = same_eq (check cs) (fcs (ahead cs)) (not-false (same (check cs) (fcs (ahead cs))) d.0) in
    let n : length (ahead cs) ≡ length cs - 16 = length-take-le (length cs - 16) cs (omega arith) in
    let k = (length (ahead cs) + 7) / 8 in
    let is : os ≡ pack k (ahead cs) = cc in
    let front : bits os ≡ ahead cs = rw is (bits_pack k (ahead cs) (omega arith)) in
    let size : length os * 8 ≡ length cs - 16 = sym (length_bits os) ∙ ap length front ∙ n in (
      sym (rw (front, ← fits) (take-append-drop (length cs - 16) cs)),
      rw is (pack_octets k (ahead cs)),
      omega arith,
      omega arith,
    )

-- the bits bs begin with a frame of the content cs, and r follows
record Begins (bs cs r : List Bool) : Type 0 where
  pub opening : ℕ
  pub enough_opening : fewest_opening ≤ opening
  pub few_opening : opening ≤ most_opening
  pub closing : ℕ
  pub enough_closing : fewest_closing ≤ closing
  pub few_closing : closing ≤ most_closing
  pub bits : bs ≡ flags opening ++ (stuffed 4 cs ++ (flags closing ++ r))

-- a frame that is found stands there
framed_is : (bs cs r : List Bool) → framed bs ≡ cut_into cs r → Begins bs cs r
unfolding framed
framed_is bs cs r e = go (leb fewest_opening o) (leb o most_opening) (content_from 5 (drop (o * 8) bs)) refl refl refl e
  where
    o : ℕ
    o = flags_at (suc most_opening) bs

    go : (f g : Bool) (x : Cutting) → leb fewest_opening o ≡ f → leb o most_opening ≡ g → content_from 5 (drop (o * 8) bs) ≡ x → pick (both f g) (closed x) uncut ≡ cut_into cs r → Begins bs cs r
    go false g x hf hg hx h = absurd (let z : ◌≡◌ {A = ℕ} 0 1 = cc in omega arith)
    go true false x hf hg hx h = absurd (let z : ◌≡◌ {A = ℕ} 0 1 = cc in omega arith)
    go true true uncut hf hg hx h = absurd (let z : ◌≡◌ {A = ℕ} 0 1 = cc in omega arith)
    go true true (cut_into ds q) hf hg hx h =
        let c = flags_at most_closing q in
        let d : ds ≡ cs = cc in
        let t : drop (c * 8) q ≡ r = cc in
        let i = content_is (drop (o * 8) bs) ds q hx in
        record {
          opening = o;
          enough_opening = leb-true fewest_opening o hf;
          few_opening = leb-true o most_opening hg;
          closing = c;
          enough_closing = flags_some most_closing q i.1 (omega arith);
          few_closing = flags_most most_closing q;
          bits = flags_are (suc most_opening) bs ∙ rw (i.0, d) (ap (λ (l : List Bool). flags o ++ (stuffed 4 cs ++ l)) (rw t at (flags_are most_closing q)));
        }

-- no flag begins a content
no_flag : (cs t : List Bool) → 0 < length cs → starts flag (stuffed 4 cs ++ (false ∷ t)) ≡ false
unfolding starts stuffed
no_flag [] t h = absurd (omega arith)
no_flag (true ∷ cs) t h = refl
no_flag (false ∷ cs) t h = no_flag_zero cs t

-- a frame that stands there is found, where the flags behind its content are its closing flags
framed_frame : (info : List ℕ) (opening closing : ℕ) (r : List Bool) → fewest_opening ≤ opening → opening ≤ most_opening → fewest_closing ≤ closing
    → flags_at most_closing (flags closing ++ r) ≡ closing → framed (frame info opening closing ++ r) ≡ cut_into (content info) r
unfolding framed frame flags
framed_frame info opening zero r l u m h = absurd (omega arith)
framed_frame info opening (suc c) r l u m h =
    let cs = content info in
    let q = flags (suc c) ++ r in
    let x = stuffed 4 cs ++ q in
    let e : (flags opening ++ (stuffed 4 cs ++ flags (suc c))) ++ r ≡ flags opening ++ x = simp append_assoc in
    let f : flags_at (suc most_opening) (flags opening ++ x) ≡ opening =
    flags_counted opening (suc most_opening) x (omega arith) (no_flag cs (drop 1 q) (omega (arith, length_content info))) in
    ap framed e
    ∙ rw (f, le-leb fewest_opening opening l, le-leb opening most_opening u, drop_at (flags opening) x (opening * 8) (length_flags opening), content_stuffed cs (flags c ++ r))
    (ap (cut_into cs) (ap (λ (n : ℕ). drop (n * 8) q) h ∙ drop_at (flags (suc c)) r (suc c * 8) (length_flags (suc c))))

-- no flag begins nothing
no_bits : starts flag [] ≡ false
unfolding starts
no_bits = refl

-- information is given only of a frame
read_is_frame : (bs : List Bool) (os : List ℕ) → alone (framed bs) ≡ information os → IsFrame bs os
unfolding alone frame
read_is_frame bs os e = go (framed bs) refl e
  where
    go : (x : Cutting) → framed bs ≡ x → alone x ≡ information os → IsFrame bs os
    go uncut f h = absurd (let z : ◌≡◌ {A = ℕ} 0 1 = cc in omega arith)
    go (cut_into cs (b ∷ r)) f h = absurd (let z : ◌≡◌ {A = ℕ} 0 1 = cc in omega arith)
    go (cut_into cs []) f h =
        let y = checked_is cs os h in
        let x = framed_is bs (content os) [] (f ∙ ap (λ (l : List Bool). cut_into l []) y.0) in
        record {
          octets = y.1;
          some = y.2;
          few = y.3;
          opening = x.opening;
          enough_opening = x.enough_opening;
          few_opening = x.few_opening;
          closing = x.closing;
          enough_closing = x.enough_closing;
          few_closing = x.few_closing;
          bits = x.bits ∙ rw (append-nil (flags x.closing));
        }

-- a frame's information is given
frame_is_read : (bs : List Bool) (os : List ℕ) → IsFrame bs os → alone (framed bs) ≡ information os
unfolding alone
frame_is_read bs os x =
    let f = frame os x.opening x.closing in
    let e : bs ≡ f ++ [] = x.bits ∙ sym (append-nil f) in
    rw (e, framed_frame os x.opening x.closing [] x.enough_opening x.few_opening x.enough_closing (flags_counted x.closing most_closing [] x.few_closing no_bits))
    (checked_content os x.octets x.some x.few)

-- where the count, the run and the room are right, the bits decide
read_fits : (run : List ℕ) (count room : ℕ) → count ≤ most_bits → count ≤ length run * 8 → information_room ≤ room → read_frame run count room ≡ alone (framed (take count (bits run)))
unfolding read_frame
read_fits run count room m l r = rw (le-ltb most_bits count m, le-ltb (length run * 8) count l, le-ltb room information_room r)

-- a run that is accepted is a frame of the information given
pub accepted_is_frame : (run : List ℕ) (count room : ℕ) (os : List ℕ) → read_frame run count room ≡ information os → IsFrame (take count (bits run)) os
unfolding read_frame
accepted_is_frame run count room os e =
    let a = not_refused (ltb most_bits count) 1 _ os e in
    let b = not_refused (ltb (length run * 8) count) 1 _ os a.1 in
    let c = not_refused (ltb room information_room) 1 _ os b.1 in
    read_is_frame (take count (bits run)) os c.1

-- a run that is a frame is accepted, and its information given
pub frame_is_accepted : (run : List ℕ) (count room : ℕ) (os : List ℕ) → count ≤ length run * 8 → information_room ≤ room → IsFrame (take count (bits run)) os → read_frame run count room ≡ information os
frame_is_accepted run count room os l r x =
    let n : length (take count (bits run)) ≡ count = length_run run count l in
    let m : count ≤ most_bits = omega (arith, ap length x.bits, frame-length os x.opening x.closing x.few x.few_opening x.few_closing) in
    read_fits run count room m l r ∙ frame_is_read (take count (bits run)) os x

-- bits are a frame of one information only
pub one_information : (bs : List Bool) (a b : List ℕ) → IsFrame bs a → IsFrame bs b → a ≡ b
one_information bs a b x y = let p = frame_is_read bs a x in let q = frame_is_read bs b y in cc

-- packed bits are the first bits of their octets, whatever stands behind
take_packed : (bs : List Bool) (tail : List ℕ) → take (length bs) (bits (packed bs ++ tail)) ≡ bs
unfolding packed
take_packed bs tail =
    let os = packed bs in
    rw (bits_append os tail, take-append-le (length bs) (bits os) (bits tail) (omega (arith, length_bits os, length_packed bs)))
    (take_bits_pack ((length bs + 7) / 8) bs (omega arith))

-- the reader gives back the information of any frame that the writer leaves, whatever stands behind its octets
pub writer_then_reader : (info : List ℕ) (opening closing room : ℕ) → AreOctets info → 1 ≤ length info → length info ≤ most_information
    → fewest_opening ≤ opening → opening ≤ most_opening → fewest_closing ≤ closing → closing ≤ most_closing → information_room ≤ room → (tail : List ℕ)
    → read_frame (packed (frame info opening closing) ++ tail) (length (frame info opening closing)) room ≡ information info
writer_then_reader info opening closing room h l u o₁ o₂ c₁ c₂ r tail =
    let f = frame info opening closing in
    let os = packed f in
    frame_is_accepted (os ++ tail) (length f) room info (omega (arith, length-append os tail, length_packed f)) r
    (record {
      octets = h;
      some = l;
      few = u;
      opening = opening;
      enough_opening = o₁;
      few_opening = o₂;
      closing = closing;
      enough_closing = c₁;
      few_closing = c₂;
      bits = take_packed f tail;
    })

-- bits stand behind tests that did not refuse
sent_past : (t : Bool) (k : ℕ) (x : Writing) (bs : List Bool) → writer.refused_if t k x ≡ sent bs → (t ≡ false) × (x ≡ sent bs)
sent_past true k x bs e = absurd (let z : ◌≡◌ {A = ℕ} 0 1 = cc in omega arith)
sent_past false k x bs e = (refl, e)

-- the reader gives back what the writer was given, from the output that the writer leaves
pub written_is_read : (info : List ℕ) (opening closing : ℕ) (out : List ℕ) (bs : List Bool) (room : ℕ) → AreOctets info → write_frame info opening closing (length out) ≡ sent bs
    → information_room ≤ room → read_frame (put (packed bs) out) (length bs) room ≡ information info
unfolding write_frame put
written_is_read info opening closing out bs room h e r =
    let a = sent_past (ltb (length out) frame_room) 1 _ bs e in
    let b = sent_past (ltb (length info) 1) 7 _ bs a.1 in
    let c = sent_past (ltb most_information (length info)) 7 _ bs b.1 in
    let d = sent_past (ltb opening fewest_opening) 8 _ bs c.1 in
    let f = sent_past (ltb most_opening opening) 8 _ bs d.1 in
    let g = sent_past (ltb closing fewest_closing) 8 _ bs f.1 in
    let i = sent_past (ltb most_closing closing) 8 _ bs g.1 in
    let j : bs ≡ frame info opening closing = cc in
    rw j
    (writer_then_reader info opening closing room h
    (ltb-false (length info) 1 b.0)
    (ltb-false most_information (length info) c.0)
    (ltb-false opening fewest_opening d.0)
    (ltb-false most_opening opening f.0)
    (ltb-false closing fewest_closing g.0)
    (ltb-false most_closing closing i.0)
    r
    (drop (length (packed (frame info opening closing))) out))

-- behind all flags nothing stands, so no content
no_content : (k : ℕ) → opened k (flags k) ≡ uncut
unfolding content_from cut_here
no_content k =
    let e : drop (k * 8) (flags k) ≡ [] = drop_of_length-le (flags k) {i = k * 8} (omega (arith, length_flags k)) in
    rw e (go (both (leb fewest_opening k) (leb k most_opening)))
  where
    go : (t : Bool) → pick t uncut uncut ≡ uncut
    go true = refl
    go false = refl

-- flags alone are no frame
flags_unframed : (k : ℕ) → framed (flags k) ≡ uncut
unfolding framed
flags_unframed k = go (dec_lt most_opening k)
  where
    e : flags k ++ [] ≡ flags k
    e = append-nil (flags k)

    go : Dec (most_opening < k) → opened (flags_at (suc most_opening) (flags k)) (flags k) ≡ uncut
    go (yes y) = rw (rw e at (flags_capped k (suc most_opening) [] (omega arith)))
    go (no y) = rw (rw e at (flags_counted k (suc most_opening) [] (omega arith) no_bits)) (no_content k)

-- flags alone are refused
pub flags_only_refused : (run : List ℕ) (count room k : ℕ) → take count (bits run) ≡ flags k → count ≤ most_bits → count ≤ length run * 8 → information_room ≤ room → read_frame run count room ≡ refused 2
unfolding alone
flags_only_refused run count room k e m l r = read_fits run count room m l r ∙ rw (e, flags_unframed k)

-- more than five opening flags are refused with 2, whatever follows
pub many_flags_refused : (run : List ℕ) (count room k : ℕ) (x : List Bool) → most_opening < k → take count (bits run) ≡ flags k ++ x → count ≤ most_bits → count ≤ length run * 8
    → information_room ≤ room → read_frame run count room ≡ refused 2
unfolding alone framed
many_flags_refused run count room k x h e m l r = read_fits run count room m l r ∙ rw (e, flags_capped k 6 x h)

-- and so are fewer than two, where no flag follows
pub few_flags_refused : (run : List ℕ) (count room k : ℕ) (x : List Bool) → k < fewest_opening → starts flag x ≡ false → take count (bits run) ≡ flags k ++ x → count ≤ most_bits
    → count ≤ length run * 8 → information_room ≤ room → read_frame run count room ≡ refused 2
unfolding alone framed
few_flags_refused run count room k x h s e m l r =
    read_fits run count room m l r ∙ rw (e, flags_counted k 6 x (omega arith) s, lt-leb fewest_opening k h)

-- a frame is refused with bits behind it that are not one more closing flag
pub leftover_refused : (run : List ℕ) (count room : ℕ) (info : List ℕ) (opening closing : ℕ) (b : Bool) (extra : List Bool) → take count (bits run) ≡ frame info opening closing ++ (b ∷ extra)
    → fewest_opening ≤ opening → opening ≤ most_opening → fewest_closing ≤ closing → closing ≤ most_closing → (starts flag (b ∷ extra) ≡ false) ⊎ (closing ≡ most_closing)
    → count ≤ most_bits → count ≤ length run * 8 → information_room ≤ room → read_frame run count room ≡ refused 2
unfolding alone
leftover_refused run count room info opening closing b extra e o₁ o₂ c₁ c₂ w m l r =
    let c : flags_at most_closing (flags closing ++ (b ∷ extra)) ≡ closing =
    ⊎_elim (λ s. flags_counted closing most_closing (b ∷ extra) c₂ s) (λ s. flags_capped closing most_closing (b ∷ extra) (omega arith) ∙ sym s) w in
    read_fits run count room m l r ∙ rw (e, framed_frame info opening closing (b ∷ extra) o₁ o₂ c₁ c)
