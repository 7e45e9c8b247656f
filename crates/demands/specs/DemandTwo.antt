-- To be believed: demand 2. Frames, messages and capability trees mean exactly what V.8 bis says; lists come back; the station moves as
-- the table says; the mode proposed is the first ready wish that both sides can do, and it refuses to propose exactly when there is none.
-- Assumes nothing.
use Rattle.tree.specs.Form.{Fine}
use Rattle.std.specs.Prelude.{ℕ, ◌*◌, ◌<◌, ◌≤◌, Bool, true, false, ◌↔◌, ◌≡◌, length, take}
use mathlib.Core.List.{List, [], ◌∷◌, Memᴰ}
use Rattle.octets.specs.Bits.{bits, packed, AreOctets}
use Rattle.octets.specs.Lay.{put}
use Rattle.frame.specs.Frame.{frame}
use Rattle.frame.specs.Exact.{IsFrame}
use Rattle.frame.specs.Reader.{information, read_frame}
use Rattle.frame.specs.Writer.{write_frame}
use Rattle.frame.specs.Writer as frameWriter
use Rattle.tree.specs.Codes.{code_of, field_base, field_codes}
use Rattle.tree.specs.Fields.{is_in, all_in}
use Rattle.message.specs.Kinds.{known, type_of, revision_of}
use Rattle.message.specs.Reader.{standard_at, message_form, message_codes, ns_of, accepted, read_message}
use Rattle.meaning.specs.Meaning.{all_shaped, ascending, all_parented}
use Rattle.meaning.specs.Minimal.{message_minimal}
use Rattle.meaning.specs.Writing.{sent, write_message, Writable}
use Rattle.names.specs.Masks.{only}
use Rattle.names.specs.Named.{named_code}
use Rattle.good.specs.Good.{good_field}
use Rattle.strike.specs.Striking.{struck_form}
use Rattle.choice.specs.Wishes.{Wish, wishes_of, standard_codes, wish_codes, good_wishes}
use Rattle.choice.specs.Choosing.{Far, unheard, heard, chosen, refused, suits, choice, First}
use Rattle.choice.specs.Judging.{verdict, Fitting}
use Rattle.choice.specs.Tables.{all_inside}
use Rattle.choice.specs.declared.Pick.{Pick}
use Rattle.table.specs.declared.Phase.{Phase}
use Rattle.table.specs.declared.Phase.TheVariants.{Initial, Mode}
use Rattle.table.specs.declared.Kind.TheVariants.{AtProposed}
use Rattle.table.specs.declared.Heard.{Heard}
use Rattle.table.specs.declared.Act.TheVariants.{NoRow, Judge, Agree}
use Rattle.table.specs.declared.State.{State}
use Rattle.table.specs.Phases.{kind_of, entry_of, wish_of, ack_of, is_over}
use Rattle.station.specs.Sorting.{strange, sort_of}
use Rattle.station.specs.Acting.{quiet}
use Rattle.station.specs.Stepping.{is_late, is_reset}
use Rattle.table.specs.Phases.{is_mode}
use Rattle.station.specs.Promises.{TellsBegun}
use Rattle.demands.specs.Holding.{MayHold, MayWish}
use Rattle.demands.specs.Returning.{Tells, FourCalls, ComesBack}
use Rattle.demands.specs.Given.{Given, steps, InOctets, Sound, Due, Passes, act_on, doing, is_kept, is_acted_on, Lasts, acted_on, after}
use Rattle.demands.specs.Sent.{IsMs, far_says, both_short}
use Rattle.demands.specs.Proposals.{Proposal, proposed_by, SendsMode, NoneSuits, Proposes, FieldSent, Judged, Reaches}
use Rattle.demands.specs.Cells.{Cells}
use Rattle.demands.specs.Calls.{Call, OverBuffers}

pub record DemandTwo : Type 0 where
  -- Frames: a run that the frame reader accepts is a frame of the information given: flags, inserted zeros and FCS as 7.2 says
  pub accepted_is_frame : (run : List ℕ) (count room : ℕ) (os : List ℕ) → read_frame run count room ≡ information os → IsFrame (take count (bits run)) os
  -- and a run that is a frame is accepted, and its information given
  pub frame_is_accepted : (run : List ℕ) (count room : ℕ) (os : List ℕ) → count ≤ length run * 8 → 64 ≤ room → IsFrame (take count (bits run)) os
      → read_frame run count room ≡ information os
  -- no bits are a frame of two informations
  pub one_information : (bs : List Bool) (a b : List ℕ) → IsFrame bs a → IsFrame bs b → a ≡ b
  -- the frame reader gives back what the frame writer was given, from the output as the writer left it
  pub frame_comes_back : (info : List ℕ) (opening closing : ℕ) (out : List ℕ) (bs : List Bool) (room : ℕ) → AreOctets info
      → write_frame info opening closing (length out) ≡ frameWriter.sent bs → 64 ≤ room → read_frame (put (packed bs) out) (length bs) room ≡ information info
  -- Messages and trees: the message reader accepts exactly 1 to 64 octets of a known type that are well-formed
  pub accepts_exactly : (l : List ℕ) (room : ℕ) → 448 ≤ room
      → (read_message l room ≡ accepted) ↔ ((0 < length l) × (length l ≤ 64) × (known (type_of l) ≡ true) × (message_form l ≡ Fine))
  -- positions count by sevens at level 1 and by sixes below: 22 81 80 80 A1 02 D0 C0 has 1.0.0.1, 2.1.0.0, 2.1.0.2, 2.1.0.11 and 2.6.0.0
  pub positions_read : message_codes (0x22 ∷ 0x81 ∷ 0x80 ∷ 0x80 ∷ 0xa1 ∷ 0x02 ∷ 0xd0 ∷ 0xc0 ∷ [])
      ≡ code_of 1 0 0 1 ∷ code_of 2 1 0 0 ∷ code_of 2 1 0 2 ∷ code_of 2 1 0 11 ∷ code_of 2 6 0 0 ∷ []
  -- what is read is a meaning: codes of possible shape, strictly ascending, each with its parents
  pub read_is_meaning : (l : List ℕ) → length l ≤ 64
      → (all_shaped (message_codes l) ≡ true) × (ascending (message_codes l) ≡ true) × (all_parented (message_codes l) (message_codes l) ≡ true)
  -- and has at most 448 codes, so the list buffer is large enough
  pub at_most_448 : (l : List ℕ) (room : ℕ) → read_message l room ≡ accepted → length (message_codes l) ≤ 448
  -- the message writer writes exactly the meanings: known type, revision up to 15, codes of possible shape, strictly ascending, each with
  -- its parents, none with an ACK or a NAK, NS well-formed and announced by code 1.0.0.7, at most 64 octets
  pub writes_exactly : (kind revision : ℕ) (list ns : List ℕ) (room : ℕ) (os : List ℕ) → (write_message kind revision list ns room ≡ sent os) ↔ Writable kind revision list ns room os
  -- what is written is accepted, and has the type, the revision, the list and the NS that the writer was given
  pub message_comes_back : (kind revision : ℕ) (list ns : List ℕ) (room : ℕ) (os : List ℕ) → write_message kind revision list ns room ≡ sent os
      → (room' : ℕ) → 448 ≤ room' → Tells os room' kind revision list ns
  -- whatever is read can be written again, in no more octets
  pub read_can_be_written : (l : List ℕ) (room room' : ℕ) → AreOctets l → read_message l room ≡ accepted → 64 ≤ room'
      → (os : List ℕ) × (write_message (type_of l) (revision_of l) (message_codes l) (ns_of l) room' ≡ sent os) × (length os ≤ length l)
  -- and in the same octets exactly if it is minimal
  pub minimal_returns : (l : List ℕ) (room room' : ℕ) → AreOctets l → read_message l room ≡ accepted → 64 ≤ room'
      → (message_minimal l ≡ true) ↔ (write_message (type_of l) (revision_of l) (message_codes l) (ns_of l) room' ≡ sent l)
  -- whatever is written is minimal
  pub written_is_minimal : (kind revision : ℕ) (list ns : List ℕ) (room : ℕ) (os : List ℕ) → write_message kind revision list ns room ≡ sent os → message_minimal os ≡ true
  -- Lists come back: a list that is written as a message, framed, and read from the frame comes back with its type, revision and NS
  pub list_comes_back : (kind revision : ℕ) (list ns : List ℕ) (room : ℕ) (os : List ℕ) → write_message kind revision list ns room ≡ sent os → AreOctets ns
      → (opening closing : ℕ) (out : List ℕ) (bs : List Bool) → write_frame os opening closing (length out) ≡ frameWriter.sent bs
      → (room₂ room₃ : ℕ) → 64 ≤ room₂ → 448 ≤ room₃
      → (read_frame (put (packed bs) out) (length bs) room₂ ≡ information os) × Tells os room₃ kind revision list ns
  -- every message that is written fits a frame, with every flag count that 7.2.5 allows
  pub message_fits_frame : (kind revision : ℕ) (list ns : List ℕ) (room : ℕ) (os : List ℕ) → write_message kind revision list ns room ≡ sent os
      → (opening closing out_size : ℕ) → 2 ≤ opening → opening ≤ 5 → 1 ≤ closing → closing ≤ 3 → 88 ≤ out_size
      → write_frame os opening closing out_size ≡ frameWriter.sent (frame os opening closing)
  -- the same from the contracts alone: four calls of which both writers told success bring the list back
  pub calls_return : (kind revision : ℕ) (list ns : List ℕ) (opening closing : ℕ) (c : FourCalls kind revision list ns opening closing) → ComesBack c
  -- Striking: a struck message is accepted, minimal, and keeps its type, revision and NS
  pub struck_stands : (l : List ℕ) (room : ℕ) → AreOctets l → read_message l room ≡ accepted → let s = struck_form l in
      (read_message s 448 ≡ accepted) × (message_minimal s ≡ true) × (type_of s ≡ type_of l) × (revision_of s ≡ revision_of l) × (ns_of s ≡ ns_of l)
  -- its codes are the named ones of those read before, of any message but an MS
  pub struck_named : (l : List ℕ) (room : ℕ) → AreOctets l → read_message l room ≡ accepted → (type_of l ≡ 1 → ⊥) → message_codes (struck_form l) ≡ only named_code (message_codes l)
  -- an MS keeps all its standard codes
  pub struck_ms : (l : List ℕ) (room : ℕ) → read_message l room ≡ accepted → type_of l ≡ 1
      → field_codes (field_base 2) (struck_form l) (standard_at (struck_form l)) ≡ field_codes (field_base 2) l (standard_at l)
  -- Own table and wishes: a field is good exactly if it holds what the rules allow (Holding.antt)
  pub own_holds : (t : List ℕ) → (good_field t ≡ true) ↔ MayHold t
  -- and so are wishes
  pub wishes_hold : (run : List ℕ) → (good_wishes run ≡ true) ↔ MayWish run
  -- all wishes lie in the own table exactly if the parameters of each do
  pub wishes_inside : (own : List ℕ) (ws : List Wish) → (all_inside own ws ≡ true) ↔ ((w : Wish) → Memᴰ w ws → all_in (wish_codes w) (standard_codes own) ≡ true)
  -- Choice and verdict: what is chosen is the first wish that suits: ready, and common where a far list was heard
  pub chosen_first : (own : List ℕ) (far : Far) (run : List ℕ) (p : Pick) → choice own far run ≡ chosen p → First own far run p
  -- there is no choice, 11, exactly if no wish suits
  pub no_choice : (own : List ℕ) (far : Far) (run : List ℕ)
      → (choice own far run ≡ refused 11) ↔ ((w : Wish) → Memᴰ w (wishes_of run) → suits own far w ≡ false)
  -- a mode is accepted exactly if it has an SPar(1) and lies in a ready wish
  pub accepted_ready : (mode : List ℕ) (ws : List Wish) → (verdict mode ws ≡ 0) ↔ ((f : Fitting mode ws) × (f.wish.ready ≡ true))
  -- NAK(2) exactly if it lies in a wish, and in none that is ready
  pub refused_unready : (mode : List ℕ) (ws : List Wish) → (verdict mode ws ≡ 2) ↔ (Fitting mode ws × ((f : Fitting mode ws) → f.wish.ready ≡ false))
  -- NAK(3) exactly if it lies in no wish
  pub refused_unfit : (mode : List ℕ) (ws : List Wish) → (verdict mode ws ≡ 3) ↔ (Fitting mode ws → ⊥)
  -- The station begins in Initial
  pub begins : (time : ℕ) (state : State) → TellsBegun time state → state.phase ≡ Initial time
  -- Refusals first, in their order: a reset gives Initial from any state, with no check at all
  pub reset : (p : Phase) (g : Given) → is_reset g.event ≡ true → steps p g ≡ quiet 0 (Initial g.time)
  -- 1: an output under 128 octets
  pub refuses_1_output : (p : Phase) (g : Given) → is_reset g.event ≡ false → g.out_size < 128 → steps p g ≡ quiet 1 p
  -- 1: a store under 64 octets
  pub refuses_1_store : (p : Phase) (g : Given) → is_reset g.event ≡ false → 128 ≤ g.out_size → g.store_size < 64 → steps p g ≡ quiet 1 p
  -- 2: a bad own table
  pub refuses_2 : (p : Phase) (g : Given) → is_reset g.event ≡ false → 128 ≤ g.out_size → 64 ≤ g.store_size → good_field g.own ≡ false → steps p g ≡ quiet 2 p
  -- 3: bad wishes, where the own table is good
  pub refuses_3 : (p : Phase) (g : Given) → is_reset g.event ≡ false → 128 ≤ g.out_size → 64 ≤ g.store_size → good_field g.own ≡ true → good_wishes g.wishes ≡ false → steps p g ≡ quiet 3 p
  -- 4: a wish outside the own table, where both are good
  pub refuses_4 : (p : Phase) (g : Given) → is_reset g.event ≡ false → 128 ≤ g.out_size → 64 ≤ g.store_size → good_field g.own ≡ true → good_wishes g.wishes ≡ true
      → all_inside g.own (wishes_of g.wishes) ≡ false → steps p g ≡ quiet 4 p
  -- 5: a time below the phase's entry time
  pub refuses_5 : (p : Phase) (g : Given) → Sound g → g.time < entry_of p → steps p g ≡ quiet 5 p
  -- 6: timed out, and the phase is Initial then
  pub refuses_6 : (p : Phase) (g : Given) → Sound g → entry_of p ≤ g.time → is_late (kind_of p) (entry_of p) g.time ≡ true → steps p g ≡ quiet 6 (Initial g.time)
  -- which never comes in Initial
  pub initial_lasts : (t : ℕ) (g : Given) → Sound g → t ≤ g.time → Due (Initial t) g
  -- 10: any event in Mode
  pub refuses_10_mode : (p : Phase) (g : Given) → Sound g → entry_of p ≤ g.time → is_mode (kind_of p) ≡ true → steps p g ≡ quiet 10 p
  -- 9: a message of unknown type
  pub refuses_9 : (p : Phase) (g : Given) → Due p g → sort_of g.event g.field ≡ strange → steps p g ≡ quiet 9 p
  -- 10: an event that is not in the table
  pub refuses_10 : (p : Phase) (g : Given) (h : Heard) → Passes p g h → act_on p g h ≡ NoRow → steps p g ≡ quiet 10 p
  -- the table: from every phase, an event that is not refused before does what the table says
  pub follows : (p : Phase) (g : Given) (h : Heard) → Passes p g h → steps p g ≡ doing (act_on p g h) p g
  -- an acted-on event, a reset, 6 and 11 make the given time the entry time
  pub entered_now : (p : Phase) (g : Given) → is_kept (steps p g).told ≡ false → entry_of (steps p g).next ≡ g.time
  -- every other refusal leaves the phase as it was
  pub phase_kept : (p : Phase) (g : Given) → is_kept (steps p g).told ≡ true → (steps p g).next ≡ p
  -- a transaction is over by its fourth acted-on event, its first included
  pub over_by_fourth : (t : ℕ) (gs : List Given) (g : Given) → Lasts (Initial t) gs → acted_on (Initial t) gs ≡ 3
      → is_acted_on (steps (after (Initial t) gs) g).told ≡ true → is_over (kind_of (steps (after (Initial t) gs) g).next) ≡ true
  -- the table by its cells, one line for each (Cells.antt)
  pub cells : (g : Given) → InOctets g → Cells g
  -- What is sent: each field that a step sends is none, ACK(1) or a NAK by its octet, or a message that the reader accepts as an MS, a CL or
  -- a CLR of revision 2 with exactly the parameters that are due
  pub sent_is_read : (p : Phase) (g : Given) → InOctets g → FieldSent g (steps p g).first × FieldSent g (steps p g).second
  -- after a far list an MS says Short V.8 exactly if both sides offer it
  pub short_if_both : (list : List ℕ) (g : Given) (w : Wish) (ms : List ℕ) → IsMs (heard list) g w ms
      → (is_in (code_of 1 0 0 2) (message_codes ms) ≡ true) ↔ ((g.settings.short_v8 ≡ true) × (far_says 2 g ≡ true))
  -- and V.8 exactly if both sides offer that, and not both Short V.8
  pub eight_if_both : (list : List ℕ) (g : Given) (w : Wish) (ms : List ℕ) → IsMs (heard list) g w ms
      → (is_in (code_of 1 0 0 1) (message_codes ms) ≡ true) ↔ ((g.settings.v8 ≡ true) × (far_says 1 g ≡ true) × (both_short g ≡ false))
  -- with no far list it says neither
  pub neither_unheard : (g : Given) (w : Wish) (ms : List ℕ) → IsMs unheard g w ms
      → (is_in (code_of 1 0 0 1) (message_codes ms) ≡ false) × (is_in (code_of 1 0 0 2) (message_codes ms) ≡ false)
  -- The buffers: from the contract of `step` alone (Calls.antt)
  pub over_buffers : (c : Call) → OverBuffers c
  -- The mode proposed: a step that proposes takes the first ready wish, common to both sides where a list was heard, and sends its MS
  pub proposed_first : (p : Phase) (g : Given) → InOctets g → (x : Proposes p g) → (steps p g).told ≡ 0
      → (y : Proposal x.far g) × SendsMode g y.ms (steps p g) × ((steps p g).next ≡ proposed_by y)
  -- it refuses to propose, with 11, exactly when there is none
  pub none_suits : (p : Phase) (g : Given) (x : Proposes p g) → ((steps p g).told ≡ 11) ↔ NoneSuits x.far g
  -- no other step refuses with 11
  pub eleven_proposes : (p : Phase) (g : Given) → (steps p g).told ≡ 11 → Proposes p g
  -- and no other leads to Proposed
  pub proposed_proposes : (p : Phase) (g : Given) → (steps p g).told ≡ 0 → kind_of (steps p g).next ≡ AtProposed → Proposes p g
  -- what is proposed lies in the own table, and in the far list where one was heard
  pub proposed_own : (far : Far) (g : Given) → Sound g → (x : Proposal far g) → all_in (wish_codes x.chosen.wish) (standard_codes g.own) ≡ true
  pub proposed_common : (list : List ℕ) (g : Given) (x : Proposal (heard list) g) → all_in (wish_codes x.chosen.wish) list ≡ true
  -- The mode reached: Mode comes only of an MS that was judged, or of a proposal that was agreed
  pub mode_reached : (p : Phase) (g : Given) → is_mode (kind_of p) ≡ false → is_mode (kind_of (steps p g).next) ≡ true → Reaches p g
  -- an MS that is due is judged: accepted exactly if it fits a ready wish, with ACK(1) exactly if it asks for that; NAK(2); NAK(3)
  pub judged : (p : Phase) (g : Given) (h : Heard) → Passes p g h → act_on p g h ≡ Judge → Judged g (steps p g)
  -- what is agreed is the wish that was proposed
  pub agreed_wish : (p : Phase) (g : Given) (h : Heard) → Passes p g h → act_on p g h ≡ Agree → steps p g ≡ quiet 0 (Mode g.time (wish_of p) (ack_of p))
