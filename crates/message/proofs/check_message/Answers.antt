-- `message::check_message` meets its contract, check by check; a message of a type without fields has one octet.
-- Assumes nothing.
use mathlib.Core.Path.{◌≡◌, refl, sym, ap, ◌∙◌}
use mathlib.Core.List.{List}
use Prim.Native.Nat.{◌≤◌, ℕ}
use lib.ListN.{length}
use Rattle.tree.specs.Fields.{most_octets}
use Rattle.message.specs.declared.MessageType.{MessageType}
use native.Mathlib.Omega.{arith}
use Rattle.message.specs.Kinds.{type_of}
use Rattle.message.specs.Reader.{list_room, message_form, judged, read_message}
use Rattle.std.specs.Prelude.{Ok, Err}
use Rattle.message.specs.declared.MessageFault.TheVariants.{BadSize, UnknownType, Malformed}
use Rattle.message.specs.Promises.{TellsType}
use Rattle.message.proofs.Types.{told_known, told_number}
use Rattle.message.proofs.Checking.{refusal_found, parts_found, parts_of_one}
use Rattle.message.proofs.Reading.{no_octet, too_long, not_known, by_form, form_one, form_more}
use Rattle.message.proofs.check_message.Goals as goal

pub returns-then-s-eq0 : goal.returns-then-s-eq0
returns-then-s-eq0 c = refusal_found _ 2 (Err BadSize) (no_octet _ list_room (omega arith) c.if-s-eq0.true) refl

pub returns-then-s-gt-MOST_OCTETS : goal.returns-then-s-gt-MOST_OCTETS
returns-then-s-gt-MOST_OCTETS c = refusal_found _ 2 (Err BadSize) (too_long _ list_room (omega arith) c.if-s-eq0.false c.if-s-gt-MOST_OCTETS.true) refl

pub returns-in_default : goal.returns-in_default
returns-in_default c =
    let told : TellsType (type_of c.args.s.now) (Err c.in_default.field-0) = rw c.in_default.is at c.try_from.ensures in
    refusal_found _ 3 (Err UnknownType) (not_known _ list_room (omega arith) c.if-s-eq0.false c.if-s-gt-MOST_OCTETS.false (sym (told_known _ (Err c.in_default.field-0) told))) refl

pub check_fields-requires : goal.check_fields-requires
check_fields-requires c =
    let told : TellsType (type_of c.args.s.now) (Ok c.in-Ok.kind) = rw c.in-Ok.is at c.try_from.ensures in
    let number = told_number _ _ told in
    (omega arith, omega arith, sym (told_known _ (Ok c.in-Ok.kind) told), sym c.has_fields.ensures ∙ c.if-has_fields.true, number)

-- a message of a known type is judged by its form
judged_known : (l : List ℕ) → (length l ≡ 0 → ⊥) → length l ≤ most_octets → (kind : MessageType) → TellsType (type_of l) (Ok kind) → read_message l list_room ≡ judged (message_form l)
judged_known l some few kind told = by_form l list_room (omega arith) some few (sym (told_known _ (Ok kind) told))

pub returns-then-s-ne1 : goal.returns-then-s-ne1
returns-then-s-ne1 c =
    let e = judged_known c.args.s.now c.if-s-eq0.false c.if-s-gt-MOST_OCTETS.false c.in-Ok.kind c.in-Ok.ensures in
    refusal_found _ 4 (Err Malformed) (e ∙ ap judged (form_more _ (sym c.has_fields.ensures ∙ c.if-has_fields.false) c.if-s-ne1.true)) refl

pub returns : goal.returns
returns c =
    let e = judged_known c.args.s.now c.if-s-eq0.false c.if-s-gt-MOST_OCTETS.false c.in-Ok.kind c.in-Ok.ensures in
    let p = parts_of_one _ c.if-s-ne1.false in
    parts_found _ _ (e ∙ ap judged (form_one _ (sym c.has_fields.ensures ∙ c.if-has_fields.false) c.if-s-ne1.false)) (told_number _ c.in-Ok.kind c.in-Ok.ensures) p.0 p.1
