use Rattle.std.proofs.Common.{sym, refl}
use Rattle.plan.proofs.Verdicts.{cut_plan}
use Rattle.isolation.specs.States.{opens}
use Rattle.isolation.specs.Seen.{cuts_through}
use Rattle.isolation.proofs.layer.IsolationRegister.cut.Goals as goal

pub returns : goal.returns
returns g c =
    let p = g.R.ReadablePlan.meaning c.args.self.now.below in
    let o = opens c.args.self.now.states.table in
    record { cuts = cuts_through p o (g.met.R.ReadablePlan.sound c.args.self.now.below) c.args.v.0 c.args.w.0 (sym c.if-isolates.ensures) c.cut.ensures; below = cut_plan p c.args.v.0 c.args.w.0 c.cut.ensures; states = refl }
