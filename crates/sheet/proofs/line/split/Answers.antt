use Rattle.std.proofs.Common.{length, eqb, ap, ◌∙◌, rules, tests}
use Rattle.std.proofs.lemmas.Iterator.{YieldsList-from_slice}
use Rattle.std.proofs.lemmas.Iterator.Search.{position_from_yields_List}
use Rattle.std.specs.Option.{unwrap_or}
use Rattle.sheet.proofs.Cutting.{cut_at_position}
use Rattle.sheet.proofs.line.split.Goals as goal

pub returns : goal.returns
returns c =
    let bytes = c.args.bytes.now in
    let found = position_from_yields_List (λ b. eqb b c.args.stop) _ _ c.position.result c.position.ensures.ran (YieldsList-from_slice bytes cc) (λ x b q k. search (rules, tests)) in
    let cut = cut_at_position c.args.stop bytes _ (c.unwrap_or-n.ensures ∙ ap (λ p. unwrap_or p (length bytes)) found) in
    record { front = c.split_at.ensures.front ∙ cut.0; back = c.split_at.ensures.back ∙ cut.1 }
