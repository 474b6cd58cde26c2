use Rattle.std.proofs.Common.{sym, refl}
use Rattle.plan.proofs.Verdicts.{joined_plan}
use Rattle.isolation.specs.States.{opens}
use Rattle.isolation.specs.Seen.{joins_through}
use Rattle.isolation.proofs.layer.IsolationRegister.join.Goals as goal

pub returns : goal.returns
returns g c =
    let p = g.R.ReadablePlan.meaning c.args.self.now.below in
    let o = opens c.args.self.now.states.table in
    record { joins = joins_through p o (g.met.R.ReadablePlan.sound c.args.self.now.below) c.args.v.0 c.args.w.0 (sym c.if-isolates.ensures) c.join.ensures; below = joined_plan p c.args.v.0 c.args.w.0 c.join.ensures; states = refl }
