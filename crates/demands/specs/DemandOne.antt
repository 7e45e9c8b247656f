-- To be believed: demand 1. Every bit run, octet run, table, list, time and event gets a defined reply: from the `ensures` of each public
-- function alone, no second reply and no second content of a lent buffer fit, and a refusal writes nothing. No public function has a
-- `requires`, so this is so of every input.
-- Assumes nothing.
use Rattle.std.specs.Prelude.{ℕ, Bool, Option, None, Result, List, [], ◌≡◌}
use Rattle.std.specs.Borrow.{Bor}
use Rattle.octets.specs.Promises.{TellsBit, TellsOne, TellsPlaceAfter, IsReader, TellsNextBit, IsMovedOn, TellsBitAfter, TellsOctetOrZero, TellsOctet, CopiesFront}
use Rattle.octets.specs.declared.BitReader.{BitReader}
use Rattle.fcs.specs.Promises.{TellsFcs}
use Rattle.frame.specs.Promises.{FrameReads, FrameWrites}
use Rattle.frame.specs.Reader as frameReader
use Rattle.frame.specs.Writer as frameWriter
use Rattle.frame.specs.declared.FrameReadRefusal.{FrameReadRefusal}
use Rattle.frame.specs.declared.FrameWriteRefusal.{FrameWriteRefusal}
use Rattle.tree.specs.Promises.{TellsWidth, TellsMark, TellsPositions, GivesPositions, TellsBit8, MarksLast, TellsFine, TellsForm, TellsEnd, TellsBase, TellsSpar, TellsTopBehind, TellsBlockBehind, TellsGroupBehind, TellsFits}
use Rattle.tree.specs.declared.Field.{Field}
use Rattle.tree.specs.declared.Fault.{Fault}
use Rattle.tree.specs.declared.Level.{Level}
use Rattle.fill.specs.Promises.{FillsFields}
use Rattle.within.specs.Promises.{TellsFirst, TellsWithin, TellsWithinFar}
use Rattle.message.specs.Promises.{TellsType, TellsRefusal, TellsKnown, TellsFields, TellsNsForm, Checks, TellsNs}
use Rattle.message.specs.Reader.{ns_told}
use Rattle.message.specs.Reader as messageReader
use Rattle.message.specs.declared.Message.{Message}
use Rattle.message.specs.declared.MessageFault.{MessageFault}
use Rattle.message.specs.declared.MessageReadRefusal.{MessageReadRefusal}
use Rattle.writer.specs.Promises.{MessageWrites}
use Rattle.writer.specs.Writer as messageWriter
use Rattle.writer.specs.declared.MessageWriteRefusal.{MessageWriteRefusal}
use Rattle.names.specs.Promises.{TellsNparPlaces, TellsSparPlaces}
use Rattle.names.specs.declared.Keep.{Keep}
use Rattle.strike.specs.Promises as striking
use Rattle.strike.specs.Rewriting.{Rewrites}
use Rattle.strike.specs.Striking.{struck_told, Strikes}
use Rattle.strike.specs.declared.StrikeRefusal.{StrikeRefusal}
use Rattle.choice.specs.Promises.{TellsGood, ChecksTables, ChoosesReady, ChoosesCommon, JudgesMode}
use Rattle.choice.specs.declared.TablesRefusal.{TablesRefusal}
use Rattle.table.specs.Promises.{TellsCarried, TellsNumber, TellsMode, TellsOver, TellsAct}
use Rattle.table.specs.declared.Phase.{Phase}
use Rattle.table.specs.declared.Kind.{Kind}
use Rattle.table.specs.declared.Heard.{Heard}
use Rattle.table.specs.declared.Settings.{Settings}
use Rattle.table.specs.declared.State.{State}
use Rattle.station.specs.Promises.{TellsBegun, RefusesTables, Steps}
use Rattle.station.specs.Stepping.{told_no}
use Rattle.station.specs.declared.Event.{Event}
use Rattle.station.specs.declared.Stepped.{Stepped}
use Rattle.chip.specs.Answers.{ReadsFrame, WritesFrame, ReadsMessage}
use Rattle.demands.specs.Returning.{ReturnsList}
use Rattle.demands.specs.declared.Flags.{Flags}

-- no two replies fit a statement
abbrev pub OneReply : {A : Type 0} → (A → Type 0) → Type 0
OneReply {A} Fits = (r r' : A) → Fits r → Fits r' → r ≡ r'

-- no two replies fit it, and no two contents of the buffer that is lent to be written
abbrev pub OneContent : {A : Type 0} → (A → List ℕ → Type 0) → Type 0
OneContent {A} Fits = (r r' : A) (buffer buffer' : List ℕ) → Fits r buffer → Fits r' buffer' → (r ≡ r') × (buffer ≡ buffer')

-- each line is named for the public function or method whose `ensures` it speaks of; where it has a name of its own, that stands above it
pub record DemandOne : Type 0 where
  -- Bits and octets
  pub bit_at : (run : List ℕ) (at : ℕ) → OneReply (TellsBit run at)
  pub is_one : (b : Option Bool) → OneReply (TellsOne b)
  pub place_after : (run : List ℕ) (at : ℕ) → OneReply (TellsPlaceAfter run at)
  -- BitReader::new
  pub reader_at : (run : Bor (List ℕ)) (at : ℕ) → OneReply (IsReader run at)
  pub next_bit : (r : BitReader) → OneReply (TellsNextBit r)
  pub moved_on : (r : BitReader) → OneReply (IsMovedOn r)
  pub bit_after : (run : List ℕ) (at : ℕ) → OneReply (TellsBitAfter run at)
  pub octet_or_zero : (run : List ℕ) (i : ℕ) → OneReply (TellsOctetOrZero run i)
  pub octet_at : (run : List ℕ) (at : ℕ) → OneReply (TellsOctet run at)
  -- it replies nothing, and leaves one content
  pub copy_front : (from : List ℕ) (count : ℕ) (to : List ℕ) → OneReply (CopiesFront from count to)
  pub fcs_of : (run : List ℕ) → OneReply (TellsFcs run)
  -- Frames
  pub read_frame : (run : List ℕ) (count : ℕ) (out : List ℕ) → OneContent (FrameReads run count out)
  pub write_frame : (info : List ℕ) (opening closing : ℕ) (out : List ℕ) → OneContent (FrameWrites info opening closing out)
  -- One field
  pub width : (level : Level) → OneReply (TellsWidth level)
  pub mark : (level : Level) → OneReply (TellsMark level)
  -- the positions set in a block, by the list that is left to give
  pub positions : (s : List ℕ) (at : ℕ) (level : Level) → OneReply (TellsPositions s at level)
  -- SetPositions::next: one position, and one list of those left then
  pub next_position : (s : List ℕ) → OneContent (GivesPositions s)
  pub bit8 : (s : List ℕ) (e : ℕ) → OneReply (TellsBit8 s e)
  -- it replies nothing, and leaves one content
  pub mark_last : (out : List ℕ) (e : ℕ) → OneReply (MarksLast out e)
  pub is_fine : (form : Result (Unit {0}) Fault) → OneReply (TellsFine form)
  pub field_form : (s : List ℕ) (at : ℕ) → OneReply (TellsForm s at)
  pub field_end : (s : List ℕ) (at : ℕ) → OneReply (TellsEnd s at)
  pub base_of : (field : Field) → OneReply (TellsBase field)
  pub has_spar : (s : List ℕ) (at : ℕ) → OneReply (TellsSpar s at)
  pub top_behind : (s : List ℕ) (e : ℕ) → OneReply (TellsTopBehind s e)
  pub block_behind : (s : List ℕ) (e : ℕ) → OneReply (TellsBlockBehind s e)
  pub group_behind : (s : List ℕ) (e : ℕ) → OneReply (TellsGroupBehind s e)
  pub field_fits : (s : List ℕ) (at : ℕ) → OneReply (TellsFits s at)
  -- one reply, and one content of either list
  pub fill_fields : (s : List ℕ) (i j : ℕ) (list octets : List ℕ) (r r' : ℕ) (list₁ list₁' octets₁ octets₁' : List ℕ)
      → FillsFields s i j list octets r list₁ octets₁ → FillsFields s i j list octets r' list₁' octets₁'
      → (r ≡ r') × (list₁ ≡ list₁') × (octets₁ ≡ octets₁')
  pub has_first : (s : List ℕ) (at : ℕ) (field : Field) (q : ℕ) → OneReply (TellsFirst s at field q)
  pub lies_within : (s : List ℕ) (i : ℕ) (t : List ℕ) (j : ℕ) (field : Field) → OneReply (TellsWithin s i t j field)
  pub lies_within_far : (s : List ℕ) (i : ℕ) (t : List ℕ) (j : ℕ) (field : Field) → OneReply (TellsWithinFar s i t j field)
  -- Messages
  -- MessageType::try_from
  pub message_type_of : (kind : ℕ) → OneReply (TellsType kind)
  -- MessageReadRefusal::from
  pub read_refusal_of : (fault : MessageFault) → OneReply (TellsRefusal fault)
  pub is_known : (kind : ℕ) → OneReply (TellsKnown kind)
  pub has_fields : (kind : ℕ) → OneReply (TellsFields kind)
  pub ns_form : (s : List ℕ) (start : ℕ) → OneReply (TellsNsForm s start)
  pub check_message : (message : List ℕ) → OneReply (Checks message)
  pub read_message : (message list : List ℕ) → OneContent (messageReader.Reads message list)
  pub read_octets : (message list : List ℕ) → OneContent (messageReader.ReadsOctets message list)
  -- one NS, by its octets
  pub ns_part : (message : List ℕ) (answer : Result Message MessageReadRefusal) → OneReply (TellsNs message answer)
  pub write_message : (kind revision : ℕ) (list ns out : List ℕ) → OneContent (MessageWrites kind revision list ns out)
  -- Names, good fields, striking
  pub npar_places : (keep : Keep) (under : ℕ) → OneReply (TellsNparPlaces keep under)
  pub spar_places : (keep : Keep) (under : ℕ) → OneReply (TellsSparPlaces keep under)
  pub is_good : (t : List ℕ) → OneReply (TellsGood t)
  pub rewrite_field : (s : List ℕ) (at : ℕ) (field : Field) (keep : Keep) (out : List ℕ) → OneContent (Rewrites keep field s at out)
  -- StrikeRefusal::from
  pub strike_refusal_of : (fault : MessageFault) → OneReply (striking.TellsRefusal fault)
  pub strike_message : (message out : List ℕ) → OneContent (Strikes message out)
  -- Own table, wishes, choice, verdict
  pub check_tables : (own run : List ℕ) → OneReply (ChecksTables own run)
  pub first_ready : (run : List ℕ) → OneReply (ChoosesReady run)
  pub first_common : (own run far : List ℕ) (place : ℕ) → OneReply (ChoosesCommon own run far place)
  pub judge_mode : (run s : List ℕ) (place : ℕ) → OneReply (JudgesMode run s place)
  -- The station
  -- Phase::carried
  pub carried_by : (phase : Phase) → OneReply (TellsCarried phase)
  -- Kind::number
  pub number_of : (kind : Kind) → OneReply (TellsNumber kind)
  pub is_mode : (kind : Kind) → OneReply (TellsMode kind)
  pub is_over : (kind : Kind) → OneReply (TellsOver kind)
  pub act_of : (kind : Kind) (set : Settings) (asked : Bool) (heard : Heard) → OneReply (TellsAct kind set asked heard)
  pub begin : (time : ℕ) → OneReply (TellsBegun time)
  -- StepRefusal::from
  pub step_refusal_of : (refusal : TablesRefusal) → OneReply (RefusesTables refusal)
  -- one reply, one content of the output and one of the store. The reset is the step on the event Reset
  pub step : (state : State) (set : Settings) (own run : List ℕ) (event : Event) (m : List ℕ) (time : ℕ) (out store : List ℕ) (r r' : Stepped) (out₁ out₁' store₁ store₁' : List ℕ)
      → Steps state set own run event m time out store r out₁ store₁ → Steps state set own run event m time out store r' out₁' store₁'
      → (r ≡ r') × (out₁ ≡ out₁') × (store₁ ≡ store₁')
  -- The exported functions
  pub exported_read_frame : (run : List ℕ) (bits : ℕ) (out : List ℕ) → OneContent (ReadsFrame run bits out)
  pub exported_write_frame : (information : List ℕ) (opening closing : ℕ) (out : List ℕ) → OneContent (WritesFrame information opening closing out)
  pub exported_read_message : (message list : List ℕ) → OneContent (ReadsMessage message list)
  -- The four calls of demand 2
  pub there_and_back : (kind revision : ℕ) (list ns : List ℕ) (flags : Flags) (back : List ℕ) → OneContent (ReturnsList kind revision list ns flags back)
  -- Refusals: a reply of read_frame whose number is not 0 leaves its output as it was
  pub read_frame_refusal : (run : List ℕ) (count : ℕ) (out : List ℕ) (r : Result ℕ FrameReadRefusal) (out₁ : List ℕ) → FrameReads run count out r out₁
      → ((frameReader.read_told r).no ≡ 0 → ⊥) → out₁ ≡ out
  -- so does one of write_frame
  pub write_frame_refusal : (info : List ℕ) (opening closing : ℕ) (out : List ℕ) (r : Result ℕ FrameWriteRefusal) (out₁ : List ℕ) → FrameWrites info opening closing out r out₁
      → ((frameWriter.write_told r).no ≡ 0 → ⊥) → out₁ ≡ out
  -- one of read_message leaves its list
  pub read_message_refusal : (message list : List ℕ) (r : Result Message MessageReadRefusal) (list₁ : List ℕ) → messageReader.Reads message list r list₁
      → ((messageReader.read_told r).no ≡ 0 → ⊥) → list₁ ≡ list
  -- and tells of no NS
  pub read_message_refusal_ns : (message : List ℕ) (r : Result Message MessageReadRefusal) → ((messageReader.read_told r).no ≡ 0 → ⊥) → ns_told r message ≡ []
  -- one of write_message leaves its output
  pub write_message_refusal : (kind revision : ℕ) (list ns out : List ℕ) (r : Result ℕ MessageWriteRefusal) (out₁ : List ℕ) → MessageWrites kind revision list ns out r out₁
      → ((messageWriter.write_told r).no ≡ 0 → ⊥) → out₁ ≡ out
  -- and so does one of strike_message
  pub strike_message_refusal : (message out : List ℕ) (r : Result ℕ StrikeRefusal) (out₁ : List ℕ) → Strikes message out r out₁ → ((struck_told r).no ≡ 0 → ⊥) → out₁ ≡ out
  -- where rewrite_field tells no octets, it wrote none
  pub rewrite_field_refusal : (s : List ℕ) (at : ℕ) (field : Field) (keep : Keep) (out : List ℕ) (n : Option ℕ) (out₁ : List ℕ) → Rewrites keep field s at out n out₁
      → n ≡ None → out₁ ≡ out
  -- a refused step leaves the output as it was
  pub step_refusal_output : (state : State) (set : Settings) (own run : List ℕ) (event : Event) (m : List ℕ) (time : ℕ) (out store : List ℕ) (r : Stepped) (out₁ store₁ : List ℕ)
      → Steps state set own run event m time out store r out₁ store₁ → (told_no r.told ≡ 0 → ⊥) → out₁ ≡ out
  -- and, but for 11, the store
  pub step_refusal_store : (state : State) (set : Settings) (own run : List ℕ) (event : Event) (m : List ℕ) (time : ℕ) (out store : List ℕ) (r : Stepped) (out₁ store₁ : List ℕ)
      → Steps state set own run event m time out store r out₁ store₁ → (told_no r.told ≡ 0 → ⊥) → (told_no r.told ≡ 11 → ⊥) → store₁ ≡ store
