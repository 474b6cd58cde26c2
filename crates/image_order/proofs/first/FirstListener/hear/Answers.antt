use Rattle.std.proofs.Common.{sym, ap, ◌∙◌, Result}
use Rattle.calls.specs.declared.answer.Outcome.{Outcome}
use Rattle.plan.specs.declared.refusal.Refusal.{Refusal}
use Rattle.image_order.specs.Firsts.{or_told}
use Rattle.image_order.proofs.FirstTold.{first_told-append}
use Rattle.image_order.proofs.first.FirstListener.hear.Goals as goal

pub returns : goal.returns
returns c = λ hs e. c.or-self.ensures ∙ ap (λ (x : Result Outcome Refusal). or_told x c.args.answer) e ∙ sym (first_told-append hs _)
