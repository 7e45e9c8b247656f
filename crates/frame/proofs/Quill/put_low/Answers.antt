-- `frame::Quill::put_low` meets its contract: the word and the value behind it either stay in the quill (`puts_stay`) or fill an octet, which is stored
-- (`puts_store`). Assumes nothing.
use Prim.Native.Nat.{◌+◌, ◌-◌}
use mathlib.Core.Path.{refl}
use native.Mathlib.Omega.{arith}
use Rattle.frame.proofs.Quills.{joined_fits, joined_rest, puts_stay, puts_store}
use Rattle.frame.proofs.Quill.put_low.Goals as goal

pub invariant_of-self : goal.invariant_of-self
invariant_of-self c =
    let quill = c.args.self.now in
    record { few = c.if-full-lt8.true; low = joined_fits quill c.requires (quill.held + c.args.width) (omega arith) }

pub returns-then-full-lt8 : goal.returns-then-full-lt8
returns-then-full-lt8 c = record { same = refl; adds = puts_stay c.args.self.now c.requires c.if-full-lt8.true }

pub invariant_of-self-else-full-lt8 : goal.invariant_of-self-else-full-lt8
invariant_of-self-else-full-lt8 c =
    let quill = c.args.self.now in
    record { few = omega (arith, c.requires.1, quill.few); low = joined_rest quill c.requires (quill.held + c.args.width - 8) (omega (arith, c.if-full-lt8.false)) }

pub returns-else-full-lt8 : goal.returns-else-full-lt8
returns-else-full-lt8 c = record { same = refl; adds = puts_store c.args.self.now c.requires c.if-full-lt8.false }
