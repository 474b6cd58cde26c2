use Rattle.std.proofs.Common.{◌≡◌, ℕ, List, ◌∷◌, rules, sym, ◌∙◌, ap₂}
use Rattle.sheet.specs.Lines.{lines}
use Rattle.sheet.proofs.FirstLines.{first_line}
use Rattle.sheet.proofs.line.LinesIterator.next.Goals as goal

pub returns : goal.returns
returns c =
    let cut : lines c.args.self.now.rest.now ≡ c.next_line.result.0.now ∷ lines c.next_line.result.1.now =
    first_line c.args.self.now.rest.now c.if-is_empty.ensures ∙ ap₂ (λ (x y : List ℕ). x ∷ lines y) (sym c.next_line.ensures.line) (sym c.next_line.ensures.rest) in
    search rules
