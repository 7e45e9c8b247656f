-- To be believed: what the conversion between refusals promises. What `rewrite_field` and `strike_message` promise is `Rewrites`, of
-- Rewriting, and `Strikes`, of Striking.
-- Assumes nothing.
use Rattle.std.specs.Prelude.{◌≡◌, Err}
use Rattle.message.specs.Check.{check_told}
use Rattle.message.specs.declared.MessageFault.{MessageFault}
use Rattle.meaning.specs.Writing.{refused, write_reply}
use Rattle.strike.specs.Striking.{struck_told}
use Rattle.strike.specs.declared.StrikeRefusal.{StrikeRefusal}

-- StrikeRefusal::from: the number stays
abbrev pub TellsRefusal : MessageFault → StrikeRefusal → Type 0
TellsRefusal fault r = struck_told (Err r) ≡ write_reply (refused (check_told (Err fault)).no)
