use Rattle.std.proofs.Common.{sym, ◌∙◌}
use Rattle.elimination.proofs.Neighbours.{known_by_pipe, known_by_mark, not_known, joins_already, joins_marked}
use Rattle.elimination.proofs.step.OrderedPlan.join.Goals as goal
use Rattle.elimination.proofs.step.OrderedPlan.join.Goals.{then-joined-via-then-joined, then-joined-via-else-joined+then-is_marked}

pub returns-then-joined : goal.returns-then-joined
returns-then-joined g c =
    joins_already (g.P.ReadablePlan.meaning c.args.self.now.plan.now) c.args.rows.now c.args.p.0 c.args.u.0
    (elim c.then-joined.branch [
      | then-joined-via-then-joined w ↦ known_by_pipe (g.P.ReadablePlan.meaning c.args.self.now.plan.now) c.args.rows.now c.args.p.0 c.args.u.0 (sym c.joined.ensures ∙ w.if-joined.true)
      | then-joined-via-else-joined+then-is_marked w ↦ known_by_mark (g.P.ReadablePlan.meaning c.args.self.now.plan.now) c.args.rows.now c.args.p.0 c.args.u.0 c.requires.first.1 (sym w.is_marked.ensures ∙ w.if-is_marked.true)
    ])

pub returns : goal.returns
returns g c =
    joins_marked (g.P.ReadablePlan.meaning c.args.self.now.plan.now) c.args.rows.now c.mark.new.words c.args.p.0 c.args.u.0 c.requires.first.1 c.requires.second.1 c.requires.first.0 c.requires.second.0
    (g.met.P.ReadablePlan.sound c.args.self.now.plan.now).few c.requires.room
    (not_known (g.P.ReadablePlan.meaning c.args.self.now.plan.now) c.args.rows.now c.args.p.0 c.args.u.0 c.requires.first.1 (sym c.joined.ensures ∙ c.if-joined.false) (sym c.is_marked.ensures ∙ c.if-is_marked.false))
    c.mark.ensures
