-- `message::check_fields` meets its contract: I, then S, then what is behind S decides.
-- Assumes nothing.
use Prim.Native.Nat.{ℕ, ◌<◌, ◌≤◌}
use mathlib.Core.Path.{◌≡◌, sym, ◌∙◌}
use mathlib.Core.Bool.{true}
use mathlib.Core.List.{List}
use lib.ListN.{length}
use Rattle.tree.specs.Fields.{most_octets}
use Rattle.message.specs.Kinds.{known, has_fields, type_of}
use Rattle.message.proofs.Checking.{Due, first_broken, first_fits, second_broken, tail_broken, all_fine}
use Rattle.message.proofs.check_fields.Goals as goal

due : (l : List ℕ) (k : ℕ) → (0 < length l) × (length l ≤ most_octets) × (known (type_of l) ≡ true) × (has_fields (type_of l) ≡ true) × (k ≡ type_of l) → Due l
due l k r = (r.0, r.1, r.2, r.3)

pub returns-in_default : goal.returns-in_default
returns-in_default c = first_broken c.args.s.now (due _ _ c.requires) c.in_default.ensures

pub returns-in_default-field_end : goal.returns-in_default-field_end
returns-in_default-field_end c = second_broken c.args.s.now (due _ _ c.requires) c.in-Some.ensures c.in_default-field_end.ensures

pub tail_form-requires : goal.tail_form-requires
tail_form-requires c = first_fits c.args.s.now (due _ _ c.requires) c.in-Some.ensures

pub returns-then-is_err : goal.returns-then-is_err
returns-then-is_err c =
    tail_broken c.args.s.now (due _ _ c.requires) c.in-Some.ensures c.in-Some-field_end.ensures c.tail_form.ensures (sym c.is_err.ensures.value ∙ c.if-is_err.true)

pub returns : goal.returns
returns c =
    all_fine c.args.s.now (due _ _ c.requires) c.in-Some.ensures c.in-Some-field_end.ensures c.args.kind c.requires.4 c.tail_form.ensures
    (sym c.is_err.ensures.value ∙ c.if-is_err.false)
