use Rattle.plan.specs.Memory.{KeptFrom}
use Rattle.search.proofs.Going.{Going}
use Rattle.search.proofs.order.search.Given as goal

abbrev pub invariant-loop-p : goal.invariant-loop-p
invariant-loop-p g l =
    Going (g.K.Kind.blank l.kind) (g.K.Kind.raised l.kind) (g.K.Kind.compared l.kind) (g.P.ReadablePlan.meaning l.plan) l.places l.labels l.scratch l.p
    × KeptFrom (g.P.ReadablePlan.meaning l.plan).size l.initial.places l.places
    × KeptFrom (g.P.ReadablePlan.meaning l.plan).size l.initial.labels l.labels
    × KeptFrom (g.P.ReadablePlan.meaning l.plan).size l.initial.scratch l.scratch
