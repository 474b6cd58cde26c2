use Rattle.std.proofs.Common.{refl}
use Rattle.elimination.proofs.Laws.{worked_plans_lem}
use Rattle.elimination.proofs.theorems.worked_plans.Goals as goal

pub returns : goal.returns
returns c = record { plans = worked_plans_lem; three = refl }
