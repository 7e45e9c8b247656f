-- `station::hearing::hear_field` meets its contract: what the message is found to be decides, and where it is well-formed its parts are known.
-- Assumes nothing.
use mathlib.Core.Path.{refl}
use Rattle.message.proofs.Checked.{fault_refused}
use Rattle.message.specs.declared.MessageFault.TheVariants.{BadSize, UnknownType, Malformed}
use Rattle.station.proofs.Needing.{hears_message, hears_spoilt}
use Rattle.station.proofs.hearing.hear_field.Goals as goal

pub returns-in-Ok : goal.returns-in-Ok
returns-in-Ok c = hears_message _ c.in-Ok.parts _ c.in-Ok.ensures c.type_heard.ensures

pub returns-in-Err-BadSize : goal.returns-in-Err-BadSize
returns-in-Err-BadSize c = hears_spoilt _ BadSize (rw c.in-Err-BadSize.field-0-is at c.in-Err-BadSize.ensures) refl

pub returns-in-Err-UnknownType : goal.returns-in-Err-UnknownType
returns-in-Err-UnknownType c = rw (fault_refused _ UnknownType (rw c.in-Err-UnknownType.field-0-is at c.in-Err-UnknownType.ensures))

pub returns-in-Err-Malformed : goal.returns-in-Err-Malformed
returns-in-Err-Malformed c = hears_spoilt _ Malformed (rw c.in-Err-Malformed.field-0-is at c.in-Err-Malformed.ensures) refl
