-- `tree::Octets::group_at` meets its contract. The loop's invariant: the NPar(3) blocks that are left, from `at` on, are told as the whole.
-- Assumes nothing.
use Prim.Native.Nat.{◌-◌, ◌≤◌, ◌<◌}
use mathlib.Core.Path.{◌≡◌}
use lib.ListN.{length}
use Rattle.tree.specs.Codes.{subs_behind, group_behind}
use Rattle.tree.specs.Form.{told, subs_form, group_form}
use Rattle.tree.proofs.Octets.group_at.Given as goal

abbrev pub invariant-loop-done : goal.invariant-loop-done
invariant-loop-done l =
    let left = l.subs - l._done in
    (0 < l.at) × (l.at ≤ length l.s)
    × (told (subs_form left l.s l.at) (subs_behind left l.s l.at) ≡ told (group_form l.s l.e) (group_behind l.s l.e))
