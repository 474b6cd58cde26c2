use Rattle.std.proofs.Common.{refl}
use Rattle.sheet.proofs.OneLine.{spells_line, line_spells}
use Rattle.sheet.proofs.Uniqueness.{spells_unique, spelled_unique}
use Rattle.sheet.proofs.laws.spelling_laws.Goals as goal

pub returns : goal.returns
returns c = record { value = refl; laws = record { one_call = spells_unique; one_answer = spelled_unique; one_line = spells_line; has_line = line_spells } }
