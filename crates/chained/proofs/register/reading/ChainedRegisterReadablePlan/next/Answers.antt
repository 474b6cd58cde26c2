use Rattle.std.proofs.Common.{◌≡◌, ℕ, ◌+◌, ◌-◌, subst, arith}
use Rattle.plan.specs.Plans.{NextNeighbour}
use Rattle.chained.specs.Making.{plan_of}
use Rattle.chained.proofs.register.reading.ChainedRegisterReadablePlan.next.Goals as goal

pub returns : goal.returns
returns c =
    let same : c.args.w.0 + 1 - 1 ≡ c.args.w.0 = omega arith in
    subst (λ (x : ℕ). NextNeighbour (plan_of c.args.self.now) c.args.v.0 x c.find.result.neighbour) same c.find.ensures.neighbour
