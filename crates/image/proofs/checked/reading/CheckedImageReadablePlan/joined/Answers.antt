use Rattle.std.proofs.Common.{◌≡◌, sym, ap, ◌∙◌, arith}
use Rattle.image.specs.Checked.{plan_in}
use Rattle.image.specs.CheckedPlans.{checked_sound}
use Rattle.image.proofs.CheckedReadings.{outside}
use Rattle.image.proofs.checked.reading.CheckedImageReadablePlan.joined.Goals as goal

pub returns-else-is_within : goal.returns-else-is_within
returns-else-is_within c = c.if-is_within.false ∙ sym (outside c.args.self.now c.args.v.0 c.args.w.0 c.is_within.result c.is_within.ensures c.if-is_within.false)

pub returns-else-is_within-2 : goal.returns-else-is_within-2
returns-else-is_within-2 c =
    c.if-is_within-2.false
    ∙ sym ((checked_sound c.args.self.now).alike c.args.v.0 c.args.w.0 ∙ outside c.args.self.now c.args.w.0 c.args.v.0 c.is_within-in-Greater.result c.is_within-in-Greater.ensures c.if-is_within-2.false)

pub returns-in-Equal : goal.returns-in-Equal
returns-in-Equal c =
    let e : c.args.v.0 ≡ c.args.w.0 = grind arith in
    sym (ap (λ x. (plan_in c.args.self.now).joins x c.args.w.0) e ∙ (checked_sound c.args.self.now).apart c.args.w.0)
