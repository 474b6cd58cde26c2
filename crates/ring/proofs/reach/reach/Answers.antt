use Rattle.std.proofs.Common.{◌≡◌, ◌∙◌, refl, arith}
use Rattle.plan.specs.Plans.{Plan, Sound}
use Rattle.ring.proofs.Queues.{queue_alone}
use Rattle.ring.proofs.reach.reach.Goals as goal

pub loop-head-init : goal.loop-head-init
loop-head-init g c =
    let p : Plan = g.P.ReadablePlan.meaning c.args.plan.now in
    let s : Sound p = g.met.P.ReadablePlan.sound c.args.plan.now in
    let i = s.inside c.args.a.0 (s.ends c.args.v.0 c.args.a.0 c.requires.above.1).1 in
    let e : c.from-n.result ≡ p.size = c.from-n.ensures ∙ c.size.ensures.value in
    let begun = c.start.ensures in (
      omega arith,
      queue_alone p c.args.v.0 c.args.a.0 _ _ _ i.0 i.1 begun.first begun.first (rw e at begun.marked) (rw e at begun.others),
      λ k w l. absurd (omega arith),
      λ k d l. refl,
    )
