-- `MessageType::try_from` meets its contract, number by number.
-- Assumes nothing.
use native.Mathlib.Omega.{arith}
use Rattle.tree.specs.Fields.{is_in}
use Rattle.message.proofs.Types.{none_known}
use Rattle.message.proofs.MessageTypeTryFromU8.try_from.Goals as goal

pub returns-in-1 : goal.returns-in-1
unfolding is_in
returns-in-1 c = rw c.in-1.is

pub returns-in-2 : goal.returns-in-2
unfolding is_in
returns-in-2 c = rw c.in-2.is

pub returns-in-3 : goal.returns-in-3
unfolding is_in
returns-in-3 c = rw c.in-3.is

pub returns-in-4 : goal.returns-in-4
unfolding is_in
returns-in-4 c = rw c.in-4.is

pub returns-in-5 : goal.returns-in-5
unfolding is_in
returns-in-5 c = rw c.in-5.is

pub returns-in-8 : goal.returns-in-8
unfolding is_in
returns-in-8 c = rw c.in-8.is

pub returns-in-9 : goal.returns-in-9
unfolding is_in
returns-in-9 c = rw c.in-9.is

pub returns-in-10 : goal.returns-in-10
unfolding is_in
returns-in-10 c = rw c.in-10.is

pub returns-in-11 : goal.returns-in-11
unfolding is_in
returns-in-11 c = rw c.in-11.is

pub returns-in_default : goal.returns-in_default
returns-in_default c =
    rw (none_known c.args.kind (λ e. omega arith) (λ e. omega arith) (λ e. omega arith) (λ e. omega arith) (λ e. omega arith) (λ e. omega arith) (λ e. omega arith) (λ e. omega arith) (λ e. omega arith))
