use Rattle.std.proofs.Common.{refl}
use Rattle.search.proofs.Computed.{worked_orders_lem}
use Rattle.search.proofs.examples.worked_orders.Goals as goal

pub returns : goal.returns
returns c = record { value = refl; worked = worked_orders_lem }
