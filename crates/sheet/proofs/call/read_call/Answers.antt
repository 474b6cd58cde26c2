use Rattle.std.proofs.Common.{rules}
use Rattle.sheet.proofs.Spelling.{spelled_line}
use Rattle.sheet.proofs.call.read_call.Goals as goal

pub returns-in-Verb-len1-default-default : goal.returns-in-Verb-len1-default-default
returns-in-Verb-len1-default-default c = spelled_line _ _ _ _ _ c.read_field.ensures (search rules) (search rules) c.call_by.ensures
