-- Demand 1, proved: most contracts are equations, the others have laws of their own.
-- Assumes nothing.
use Prim.Native.Nat.{ℕ}
use mathlib.Core.List.{List, []}
use mathlib.Core.Path.{◌≡◌, refl, sym, ap, ◌∙◌}
use native.Mathlib.Omega.{arith}
use Rattle.std.specs.Prelude.{Some, None}
use lib.ListN.{length}
use Rattle.octets.proofs.Unique as unique
use Rattle.frame.specs.Reader.{read_frame}
use Rattle.frame.specs.Writer.{write_frame}
use Rattle.exact.proofs.ReaderUnique as frameReading
use Rattle.exact.proofs.WriterUnique as frameWriting
use Rattle.message.proofs.Unique as messageReading
use Rattle.meaning.specs.Writing.{write_message}
use Rattle.writer.proofs.WriterUnique as messageWriting
use Rattle.strike.proofs.StrikingUnique.{strike_unique, strike_from_unique, rewrite_unique, strike_refusal_writes_nothing, rewrite_refusal_writes_nothing}
use Rattle.tree.specs.Fields.{codes_in}
use Rattle.tree.specs.declared.Field.TheVariants.{Standard}
use Rattle.choice.specs.Wishes.{wishes_of, standard_codes}
use Rattle.choice.specs.Choosing.{unheard, far_codes}
use Rattle.choice.proofs.ChoiceUnique.{tables_unique, choice_unique, verdict_unique}
use Rattle.table.specs.declared.Settings.{Settings}
use Rattle.station.specs.Stepping.{step_of}
use Rattle.station.specs.declared.Event.{Event}
use Rattle.station.proofs.StepUnique.{refusal_unique, step_unique}
use Rattle.chip.proofs.ChipUnique.{frame_read_unique, frame_write_unique, message_read_unique}
use Rattle.demands.specs.Given.{Given}
use Rattle.tree.specs.Promises.{GivesPositions}
use Rattle.demands.specs.DemandOne.{OneReply, OneContent, DemandOne}
use Rattle.demands.proofs.StepLines.{refusal_keeps_output, refusal_keeps_store}
use Rattle.demands.proofs.Trips.{returns_unique}

-- a reply that is fixed by an equation
by_equation : {A : Type 0} {x : A} → OneReply (λ r. r ≡ x)
by_equation r r' e e' = unique.one_reply e e'

-- the first position that is left, and those behind it
first_only : (s : List ℕ) → OneContent (GivesPositions s)
first_only s None None t t' a b = (refl, a.1 ∙ sym b.1)
first_only s None (Some y) t t' a b = let n = a.0 in let z : ◌≡◌ {A = ℕ} 0 1 = cc in absurd (omega arith)
first_only s (Some x) None t t' a b = let n = b.0 in let z : ◌≡◌ {A = ℕ} 0 1 = cc in absurd (omega arith)
first_only s (Some x) (Some y) t t' a b = let first : x ≡ y = cc in let rest : t ≡ t' = cc in (ap Some first, rest)

-- what a call of `step` is given
abbrev called : Settings → List ℕ → List ℕ → Event → List ℕ → ℕ → List ℕ → List ℕ → Given
called set own run event m time out store =
    record { settings = set; own = own; wishes = run; event = event; field = m; time = time; out_size = length out; store_size = length store }

pub demand_one : DemandOne
demand_one =
    record {
      bit_at = λ run at. by_equation;
      is_one = λ b. by_equation;
      place_after = λ run at. by_equation;
      reader_at = λ run at r r'. unique.one_reader;
      next_bit = λ r. by_equation;
      moved_on = λ r q q'. unique.one_reader;
      bit_after = λ run at. by_equation;
      octet_or_zero = λ run i. by_equation;
      octet_at = λ run at. by_equation;
      copy_front = λ from count to. by_equation;
      fcs_of = λ run. by_equation;
      read_frame = λ run count out. frameReading.read_unique (read_frame run count (length out)) out;
      write_frame = λ info opening closing out. frameWriting.write_unique (write_frame info opening closing (length out)) out;
      width = λ level. by_equation;
      mark = λ level. by_equation;
      positions = λ s at level. by_equation;
      next_position = first_only;
      bit8 = λ s e. by_equation;
      mark_last = λ out e. by_equation;
      is_fine = λ form. by_equation;
      field_form = λ s at. by_equation;
      field_end = λ s at. by_equation;
      base_of = λ field. by_equation;
      has_spar = λ s at. by_equation;
      top_behind = λ s e. by_equation;
      block_behind = λ s e. by_equation;
      group_behind = λ s e. by_equation;
      field_fits = λ s at. by_equation;
      fill_fields = λ s i j list octets r r' list₁ list₁' octets₁ octets₁' a b.
          (unique.one_reply a.count b.count, unique.one_reply a.list b.list, unique.one_reply a.octets b.octets);
      has_first = λ s at field q. by_equation;
      lies_within = λ s i t j field. by_equation;
      lies_within_far = λ s i t j field. by_equation;
      message_type_of = messageReading.type_unique;
      read_refusal_of = messageReading.refusal_unique;
      is_known = λ kind. by_equation;
      has_fields = λ kind. by_equation;
      ns_form = λ s start. by_equation;
      check_message = messageReading.check_unique;
      read_message = messageReading.read_unique;
      read_octets = messageReading.octets_unique;
      ns_part = messageReading.ns_part_unique;
      write_message = λ kind revision list ns out. messageWriting.write_unique (write_message kind revision list ns (length out)) out;
      npar_places = λ keep under. by_equation;
      spar_places = λ keep under. by_equation;
      is_good = λ t. by_equation;
      rewrite_field = λ s at field keep out. rewrite_unique keep field s at out;
      strike_refusal_of = strike_from_unique;
      strike_message = strike_unique;
      check_tables = tables_unique;
      first_ready = λ run. choice_unique [] unheard run;
      first_common = λ own run far place. choice_unique (standard_codes own) (far_codes far place) run;
      judge_mode = λ run s place. verdict_unique (codes_in Standard s place) (wishes_of run);
      carried_by = λ phase. by_equation;
      number_of = λ kind. by_equation;
      is_mode = λ kind. by_equation;
      is_over = λ kind. by_equation;
      act_of = λ kind set asked heard. by_equation;
      begin = λ time. by_equation;
      step_refusal_of = refusal_unique;
      step = λ state set own run event m time out store. step_unique (step_of state.phase set own run event m time (length out) (length store)) out store;
      exported_read_frame = λ run bits out. frame_read_unique run bits out;
      exported_write_frame = λ information opening closing out. frame_write_unique information opening closing out;
      exported_read_message = λ message list. message_read_unique message list;
      there_and_back = returns_unique;
      read_frame_refusal = λ run count out. frameReading.read_refusal_writes_nothing (read_frame run count (length out)) out;
      write_frame_refusal = λ info opening closing out. frameWriting.write_refusal_writes_nothing (write_frame info opening closing (length out)) out;
      read_message_refusal = messageReading.refusal_writes_nothing;
      read_message_refusal_ns = λ message r. messageReading.refusal_ns_empty r message;
      write_message_refusal = λ kind revision list ns out. messageWriting.write_refusal_writes_nothing (write_message kind revision list ns (length out)) out;
      strike_message_refusal = strike_refusal_writes_nothing;
      rewrite_field_refusal = λ s at field keep out. rewrite_refusal_writes_nothing keep field s at out;
      step_refusal_output = λ state set own run event m time out store r out₁ store₁ d n.
          refusal_keeps_output state.phase (called set own run event m time out store) d n;
      step_refusal_store = λ state set own run event m time out store r out₁ store₁ d n e.
          refusal_keeps_store state.phase (called set own run event m time out store) d n e;
    }
