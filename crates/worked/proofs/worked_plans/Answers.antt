use Rattle.std.proofs.Common.{refl}
use Rattle.worked.proofs.Computed.{worked_plans_lem}
use Rattle.worked.proofs.worked_plans.Goals as goal

pub returns : goal.returns
returns c = record { value = refl; worked = worked_plans_lem }
