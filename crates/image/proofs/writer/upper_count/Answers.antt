use Rattle.std.proofs.Common.{◌∙◌}
use Rattle.image.proofs.UpperWalks.{past_starts, walk_counted}
use Rattle.image.proofs.writer.upper_count.Goals as goal

pub returns : goal.returns
returns g c =
    let ran = c.count.ensures.ran in
    let made = c.neighbours_above.ensures in
    ran.2 ∙ walk_counted g.P.ReadablePlan.meaning c.args.plan.now c.args.v (g.met.P.ReadablePlan.sound c.args.plan.now) c.neighbours_above.result ran.0 (past_starts g.P.ReadablePlan.meaning c.args.plan.now c.args.v c.neighbours_above.result made.plan made.of made.last c.requires) ran.1
