-- Demand 2, proved.
-- Assumes nothing.
use mathlib.Core.Path.{refl, ap}
use native.Mathlib.Omega.{arith}
use Rattle.message.proofs.Accepted.{accepted_passed}
use Rattle.message.proofs.Bench.{positions}
use Rattle.meaning.proofs.RoundTrip as again
use Rattle.exact.proofs.Exact as exact
use Rattle.strike.proofs.StrikingForm as struck
use Rattle.strike.proofs.StrikingMeaning as striking
use Rattle.choice.proofs.Chosen as chosen
use Rattle.choice.proofs.Judged as judged
use Rattle.table.specs.declared.State.{State}
use Rattle.demands.specs.DemandTwo.{DemandTwo}
use Rattle.demands.proofs.Held.{own_holds, wishes_hold, wishes_inside}
use Rattle.demands.proofs.Following as following
use Rattle.demands.proofs.FieldsSent.{sent_is_read}
use Rattle.demands.proofs.Proposing as proposing
use Rattle.demands.proofs.Accepting as accepting
use Rattle.demands.proofs.CellsProved.{cells}
use Rattle.demands.proofs.CallsProved.{over_buffers}
use Rattle.demands.proofs.ListsReturn as returning

pub demand_two : DemandTwo
demand_two =
    record {
      accepted_is_frame = exact.accepted_is_frame;
      frame_is_accepted = exact.frame_is_accepted;
      one_information = exact.one_information;
      frame_comes_back = exact.written_is_read;
      accepts_exactly = λ l room h. (
        λ e. let p = accepted_passed l room e in (p.some, p.few, p.kind, p.form),
        λ p. again.readable_accepted l room h (record { some = p.0; few = p.1; known_kind = p.2; form = p.3 }),
      );
      positions_read = positions.listed.3;
      read_is_meaning = again.read_is_meaning;
      at_most_448 = again.at_most_448;
      writes_exactly = λ kind revision list ns room os. (again.sent_writable kind revision list ns room os, again.writable_sent kind revision list ns room os);
      message_comes_back = λ kind revision list ns room os w room'. again.written_is_read kind revision list ns room room' os w;
      read_can_be_written = again.read_can_be_written;
      minimal_returns = again.minimal_said_twice;
      written_is_minimal = again.written_is_minimal;
      list_comes_back = returning.list_returns;
      message_fits_frame = returning.fits-frame;
      calls_return = λ kind revision list ns opening closing c. returning.calls_return c;
      struck_stands = λ l room o e. (
        struck.struck_is_well_formed l room o e 448 (omega arith),
        struck.struck_is_minimal l room o e,
        struck.struck_type l room o e,
        struck.struck_revision l room o e,
        struck.struck_ns l room o e,
      );
      struck_named = striking.striking_filters;
      struck_ms = striking.standard_of_ms;
      own_holds = own_holds;
      wishes_hold = wishes_hold;
      wishes_inside = wishes_inside;
      chosen_first = chosen.chosen_first;
      no_choice = chosen.no_choice;
      accepted_ready = λ mode ws. (judged.accepted mode ws, λ x. judged.accepts mode ws x.0 x.1);
      refused_unready = λ mode ws. (judged.not_ready mode ws, λ x. judged.not_readies mode ws x.0 x.1);
      refused_unfit = λ mode ws. (judged.no_fit mode ws, judged.no_fits mode ws);
      begins = λ time state e. ap (λ (s : State). s.phase) e;
      reset = following.reset_first;
      refuses_1_output = following.refuses_1_output;
      refuses_1_store = following.refuses_1_store;
      refuses_2 = following.refuses_2;
      refuses_3 = following.refuses_3;
      refuses_4 = following.refuses_4;
      refuses_5 = following.refuses_5;
      refuses_6 = following.refuses_6;
      initial_lasts = λ t g s h. record { sound = s; after = h; prompt = refl; awake = refl };
      refuses_10_mode = following.refuses_10_mode;
      refuses_9 = following.refuses_9;
      refuses_10 = λ p g h. following.refuses_10 p g;
      follows = λ p g h. following.follows p g;
      entered_now = following.entered_now;
      phase_kept = following.phase_kept;
      over_by_fourth = following.over_by_fourth;
      cells = cells;
      sent_is_read = sent_is_read;
      short_if_both = proposing.short_if_both;
      eight_if_both = proposing.eight_if_both;
      neither_unheard = proposing.neither_unheard;
      over_buffers = over_buffers;
      proposed_first = λ p g octets x. proposing.proposed_first p g x octets;
      none_suits = proposing.none_suits;
      eleven_proposes = proposing.eleven_proposes;
      proposed_proposes = proposing.proposed_proposes;
      proposed_own = proposing.proposed_own;
      proposed_common = proposing.proposed_common;
      mode_reached = accepting.mode_reached;
      judged = λ p g h. accepting.judged p g;
      agreed_wish = λ p g h. accepting.agreed_wish p g;
    }
