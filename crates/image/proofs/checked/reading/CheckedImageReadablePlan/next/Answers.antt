use Rattle.std.proofs.Common.{◌≡◌, ◌<◌, Some, MatchOption, arith}
use Rattle.plan.specs.Plans.{NextNeighbour}
use Rattle.image.specs.Checked.{plan_in}
use Rattle.image.specs.CheckedPlans.{checked_sound}
use Rattle.image.proofs.CheckedReadings.{outside, first_below_or_above}
use Rattle.image.proofs.checked.reading.CheckedImageReadablePlan.next.Goals as goal

pub returns-then-not-is_within : goal.returns-then-not-is_within
returns-then-not-is_within c u l = outside c.args.self.now c.args.v.0 u c.is_within.result c.is_within.ensures c.if-not-is_within.true

pub returns : goal.returns
returns c =
    let l : c.args.w.0 < c.args.v.0 = grind arith in
    let m : MatchOption c.next_lower.result (NextNeighbour (plan_in c.args.self.now) c.args.v.0 c.args.v.0 c.or_else.result) (λ u. c.or_else.result ≡ Some u) = grind arith in
    first_below_or_above (plan_in c.args.self.now) (checked_sound c.args.self.now) c.args.v.0 c.args.w.0 c.next_lower.result c.or_else.result l c.next_lower.ensures m
