use Rattle.std.proofs.Common.{◌-◌, not, ◌||◌, ap, ◌∙◌}
use mathlib.Core.Bool.{or-true}
use Rattle.plan.specs.Plans.{within}
use Rattle.isolation.specs.States.{is_open}
use Rattle.isolation.proofs.Tables.{replicate_open}
use Rattle.isolation.proofs.state.States.new.Goals as goal

pub returns : goal.returns
returns c v = ap (λ s. not (within 512 v) || is_open s) (replicate_open 512 (v - 1)) ∙ or-true (not (within 512 v))
