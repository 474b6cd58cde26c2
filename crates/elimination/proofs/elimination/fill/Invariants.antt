use Rattle.plan.specs.Orders.{numbers}
use Rattle.elimination.proofs.Filling.{Filling}
use Rattle.elimination.proofs.elimination.fill.Given as goal

abbrev pub invariant-loop-v : goal.invariant-loop-v
invariant-loop-v g l = Filling (g.P.ReadablePlan.meaning l.plan) (numbers l.order) l.initial.rows l.v-index l.rows l.count
