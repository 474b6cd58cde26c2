use Rattle.std.proofs.Common.{◌≡◌, length, ap, ◌∙◌, rules}
use Rattle.label.specs.declared.lexicographic.MarkSet.{MarkSet}
use Rattle.label.specs.Sets.{marked}
use Rattle.label.specs.LexLaws.{marked-with_mark}
use Rattle.label.proofs.lexicographic.LexicographicKind.raise.Goals as goal

pub returns-then-is_mark : goal.returns-then-is_mark
returns-then-is_mark c =
    let eight : length c.args.label.words ≡ 8 = search rules in
    record { value = search rules; marks = λ m. ap (λ (r : MarkSet). marked r m) (search rules) ∙ marked-with_mark c.args.label c.args.mark.0 m eight }
