use Rattle.std.proofs.Common.{Some, None}
use Rattle.plan.specs.Plans.{NextNeighbour}
use Rattle.elimination.specs.Steps.{known}
use Rattle.pairs.specs.Rows.{marked}
use Rattle.elimination.proofs.Neighbours.{known_is, next_left, next_lower_lem, next_rest}
use Rattle.elimination.proofs.step.OrderedPlan.next_known.Goals as goal

pub returns-in-Some-Some : goal.returns-in-Some-Some
returns-in-Some-Some g c =
    let q = g.P.ReadablePlan.meaning c.args.self.now.plan.now in
    let pipe : NextNeighbour q c.args.v.0 c.args.w.0 (Some c.in-Some-Some.a) = rw c.in-Some-Some.is-0 at c.requires.pipe in
    rw c.min.ensures (next_lower_lem (q.joins c.args.v.0) (marked c.args.rows.now c.args.v.0) (known q c.args.rows.now c.args.v.0) (known_is q c.args.rows.now c.args.v.0 c.requires.inside) c.args.w.0 c.in-Some-Some.a c.in-Some-Some.b pipe c.in-Some-Some.ensures)

pub returns-in-Some-None : goal.returns-in-Some-None
returns-in-Some-None g c =
    let q = g.P.ReadablePlan.meaning c.args.self.now.plan.now in
    let pipe : NextNeighbour q c.args.v.0 c.args.w.0 (Some c.in-Some-None.a) = rw c.in-Some-None.is-0 at c.requires.pipe in
    next_left (q.joins c.args.v.0) (marked c.args.rows.now c.args.v.0) (known q c.args.rows.now c.args.v.0) (known_is q c.args.rows.now c.args.v.0 c.requires.inside) c.args.w.0
    c.in-Some-None.a pipe (λ x l m. c.in-Some-None.ensures x l)

pub returns-in-None-default : goal.returns-in-None-default
returns-in-None-default g c =
    let q = g.P.ReadablePlan.meaning c.args.self.now.plan.now in
    let none : NextNeighbour q c.args.v.0 c.args.w.0 None = rw c.in-None-default.is-0 at c.requires.pipe in
    next_rest (q.joins c.args.v.0) (marked c.args.rows.now c.args.v.0) (known q c.args.rows.now c.args.v.0) (known_is q c.args.rows.now c.args.v.0 c.requires.inside) c.args.w.0
    c.next_marked.result none c.next_marked.ensures
