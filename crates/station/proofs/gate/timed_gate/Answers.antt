-- `station::gate::timed_gate` meets its contract: one law for each refusal, and one for the event that goes on.
-- Assumes nothing.
use mathlib.Core.Path.{sym, ◌∙◌}
use Rattle.station.proofs.Gating.{time_before, timed_out, in_mode, in_time}
use Rattle.station.proofs.gate.timed_gate.Goals as goal

pub returns-then-time-carried : goal.returns-then-time-carried
returns-then-time-carried c = λ set own run event m.
    let e = c.carried-carried.ensures in
    time_before _ set own run event m _ (rw e at c.if-time-carried.true)

pub returns-then-is_late : goal.returns-then-is_late
returns-then-is_late c = λ set own run event m.
    let e = c.carried-carried.ensures in
    timed_out _ set own run event m _ (rw e at c.if-time-carried.false) (sym (rw e at c.is_late.ensures) ∙ c.if-is_late.true)

pub returns-then-is_mode : goal.returns-then-is_mode
returns-then-is_mode c = λ set own run event m.
    let e = c.carried-carried.ensures in
    in_mode _ set own run event m _ (rw e at c.if-time-carried.false) (sym (rw e at c.is_late.ensures) ∙ c.if-is_late.false) (sym (rw e at c.is_mode.ensures) ∙ c.if-is_mode.true)

pub returns : goal.returns
returns c = λ set own run event m.
    let e = c.carried-carried.ensures in
    in_time _ set own run event m _ (rw e at c.if-time-carried.false) (sym (rw e at c.is_late.ensures) ∙ c.if-is_late.false) (sym (rw e at c.is_mode.ensures) ∙ c.if-is_mode.false)
