use Rattle.sheet.proofs.Numerals.{Valued}
use Rattle.sheet.proofs.field.number.Given as goal

abbrev pub invariant-loop-b : goal.invariant-loop-b
invariant-loop-b l = Valued l.text l.b-index l.value
