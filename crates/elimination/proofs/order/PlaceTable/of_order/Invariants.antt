use Rattle.plan.specs.Orders.{numbers}
use Rattle.elimination.proofs.Placing.{Located}
use Rattle.elimination.proofs.order.PlaceTable.of_order.Given as goal

abbrev pub invariant-loop-i : goal.invariant-loop-i
invariant-loop-i l = Located l.n (numbers l.order) l.i l.places
