-- `station::sending::put_one` meets its contract: an ACK or a NAK is one octet.
-- Assumes nothing.
use mathlib.Core.Path.{refl}
use native.Mathlib.Omega.{arith}
use Rattle.station.proofs.Sendings.{laid_octet}
use Rattle.station.proofs.sending.put_one.Goals as goal

pub returns-in-Bare : goal.returns-in-Bare
returns-in-Bare c = rw (c.in-Bare.is, c.first_octet.ensures) (refl, laid_octet _ _ (omega (arith, c.requires)), omega arith)
