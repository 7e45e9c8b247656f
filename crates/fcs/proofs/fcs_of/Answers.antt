-- `fcs::fcs_of` meets its contract. The loop's invariant: the rest of the run takes the register to where the whole run takes 65535.
-- Assumes nothing.
use mathlib.Core.Path.{◌≡◌, sym, ap, ◌∙◌}
use mathlib.Core.List.{[]}
use lib.ListN.{drop, drop_of_length-le}
use Rattle.fcs.specs.Register.{register}
use Rattle.fcs.proofs.Registers.{register_next, fcs-register}
use Rattle.fcs.proofs.fcs_of.Goals as goal

pub loop-octet-preserved : goal.loop-octet-preserved
loop-octet-preserved c =
    rw c.octet_into-register.ensures (register_next _ c.loop-octet.octet-index c.loop-octet.register c.loop-octet-test.true ∙ c.loop-octet.invariant)

pub returns : goal.returns
unfolding register
returns c =
    let run = c.args.run.now in
    let e : drop c.loop-octet.octet-index run ≡ [] = drop_of_length-le run {i = c.loop-octet.octet-index} c.loop-octet-test.false in
    rw (sym (ap (register c.loop-octet.register) e) ∙ c.loop-octet.invariant) (fcs-register run)
