-- `station::gate::checked_gate` meets its contract: one law for each refusal; tables that are not refused are good.
-- Assumes nothing.
use mathlib.Core.Path.{sym, ◌∙◌}
use Rattle.std.specs.Prelude.{Ok, Err}
use Rattle.std.proofs.lemmas.Result.{err_from_is_err_and}
use Rattle.choice.proofs.Tabled.{tables_good}
use Rattle.station.proofs.Gating.{small_output, small_store, tables_checked, tables_shut}
use Rattle.station.proofs.gate.checked_gate.Goals as goal

pub returns-then-out_size-lt-OUTPUT_ROOM : goal.returns-then-out_size-lt-OUTPUT_ROOM
returns-then-out_size-lt-OUTPUT_ROOM c = λ event m. small_output _ _ _ _ event m _ _ _ c.if-out_size-lt-OUTPUT_ROOM.true

pub returns-then-store_size-lt-STORE_ROOM : goal.returns-then-store_size-lt-STORE_ROOM
returns-then-store_size-lt-STORE_ROOM c = λ event m.
    small_store _ _ _ _ event m _ _ _ c.if-out_size-lt-OUTPUT_ROOM.false c.if-store_size-lt-STORE_ROOM.true

pub returns-in_err-check_tables : goal.returns-in_err-check_tables
returns-in_err-check_tables c =
    let p = err_from_is_err_and c.from_residual.result c.from_residual.ensures.1 in
    rw p.1 (λ event m. tables_checked _ _ _ _ event m _ _ _ c.if-out_size-lt-OUTPUT_ROOM.false c.if-store_size-lt-STORE_ROOM.false (Err _) c.in_err-check_tables.ensures
    ∙ tables_shut _ p.0 _ _ p.2)

pub returns-in_err-timed_gate : goal.returns-in_err-timed_gate
returns-in_err-timed_gate c =
    let p = err_from_is_err_and c.from_residual-in_err-timed_gate.result c.from_residual-in_err-timed_gate.ensures.1 in
    rw (p.1, p.2) (λ event m. tables_checked _ _ _ _ event m _ _ _ c.if-out_size-lt-OUTPUT_ROOM.false c.if-store_size-lt-STORE_ROOM.false (Ok tt) c.in_ok-check_tables.ensures
    ∙ c.in_err-timed_gate.ensures _ _ _ event m)

pub invariant_of-result : goal.invariant_of-result
invariant_of-result c =
    let g = tables_good _ _ (sym c.in_ok-check_tables.ensures) in
    record { good_own = g.table; good_wishes = g.wishes }

pub returns : goal.returns
returns c = (
  λ event m. tables_checked _ _ _ _ event m _ _ _ c.if-out_size-lt-OUTPUT_ROOM.false c.if-store_size-lt-STORE_ROOM.false (Ok tt) c.in_ok-check_tables.ensures
      ∙ c.in_ok-timed_gate.ensures _ _ _ event m,
  c.if-out_size-lt-OUTPUT_ROOM.false,
  c.if-store_size-lt-STORE_ROOM.false,
)
