use Rattle.std.proofs.Common.{◌<◌, ◌≤◌, rules, arith}
use Rattle.plan.proofs.Walks.{goes_along, meets_next}
use Rattle.plan.proofs.Below.{below_more, below_all, below_few}
use Rattle.plan.proofs.counting.neighbours_below.Goals as goal

pub overflow_add-found : goal.overflow_add-found
overflow_add-found g c =
    record { fits = omega (arith, below_few (g.met.P.ReadablePlan.sound c.args.plan.now) c.loop-v.invariant.1, c.requires) }

pub loop-v-preserved : goal.loop-v-preserved
loop-v-preserved g c =
    let s = c.in-Some.ensures.steps in
    let m = meets_next g.P.ReadablePlan.meaning c.loop-v.invariant.0 s in
    let l : c.in-Some.v.0 ≤ c.args.w.0 = search rules in
    (goes_along g.P.ReadablePlan.meaning c.loop-v.invariant.0 s, rw s.0.stands (below_more (g.met.P.ReadablePlan.sound c.args.plan.now) c.loop-v.invariant.1 c.in-Some.v m l))

pub returns-then-gt : goal.returns-then-gt
returns-then-gt g c =
    let m = meets_next g.P.ReadablePlan.meaning c.loop-v.invariant.0 c.in-Some.ensures.steps in
    let l : c.args.w.0 < c.in-Some.v.0 = search rules in
    below_all (g.met.P.ReadablePlan.sound c.args.plan.now) c.loop-v.invariant.1 (λ x i j. m.2 x i (omega (arith, j)))

pub returns-in-None : goal.returns-in-None
returns-in-None g c =
    below_all (g.met.P.ReadablePlan.sound c.args.plan.now) c.loop-v.invariant.1 (λ x i j. meets_next g.P.ReadablePlan.meaning c.loop-v.invariant.0 c.in-None.ensures.steps x i)
