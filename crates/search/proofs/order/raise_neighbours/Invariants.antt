use Rattle.plan.proofs.Walks.{Along}
use Rattle.search.proofs.Raising.{RaisedUpto}
use Rattle.search.proofs.order.raise_neighbours.Given as goal

abbrev pub invariant-loop-v : goal.invariant-loop-v
invariant-loop-v g l =
    Along l.v-iterator.plan.now l.plan l.v-iterator.of l.fn.u × RaisedUpto (g.K.Kind.raised l.kind) (g.P.ReadablePlan.meaning l.plan) l.fn.u.0 l.place.0 l.scratch l.initial.labels l.labels l.v-iterator.last.0
