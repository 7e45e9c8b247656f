-- `frame::Quill::put_last` meets its contract: where the last bits did not fill an octet, the quill's octet is the last (`quill_stored`), else all are
-- stored (`quill_full`). Assumes nothing.
use Rattle.frame.proofs.Quills.{quill_stored, quill_full}
use Rattle.frame.proofs.Quill.put_last.Goals as goal

pub returns-then-self-ne0-clause-whole : goal.returns-then-self-ne0-clause-whole
returns-then-self-ne0-clause-whole c = λ o bs l h. quill_stored c.args.self.now c.requires o bs l h c.if-self-ne0.true

pub returns-else-self-ne0-clause-whole : goal.returns-else-self-ne0-clause-whole
returns-else-self-ne0-clause-whole c = λ o bs l h. quill_full c.args.self.now c.requires o bs l h c.if-self-ne0.false
