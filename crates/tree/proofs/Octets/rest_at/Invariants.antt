-- `tree::Octets::rest_at` meets its contract. The loop's invariant: the Par(2) blocks that are left, from `at` on, are told as the whole.
-- Assumes nothing.
use Prim.Native.Nat.{◌-◌}
use mathlib.Core.Path.{◌≡◌}
use Rattle.tree.specs.Codes.{pars_behind, rest_behind}
use Rattle.tree.specs.Form.{told, pars_form, rest_form}
use Rattle.tree.proofs.Octets.rest_at.Given as goal

abbrev pub invariant-loop-done : goal.invariant-loop-done
invariant-loop-done l =
    let left = l.pars - l._done in
    let s = l.self.run.now in
    told (pars_form left s l.at) (pars_behind left s l.at) ≡ told (rest_form s l.e) (rest_behind s l.e)
