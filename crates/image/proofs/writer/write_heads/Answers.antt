use Rattle.std.proofs.Common.{◌≡◌, ◌+◌, ◌-◌, ◌*◌, ◌≤◌, ◌⊎◌, inl, inr, arith}
use Rattle.image.specs.Writing.{link}
use Rattle.image.proofs.Stretches.{heads_start, head_is, heads_go_on}
use Rattle.image.proofs.Uppers.{pipes_part}
use Rattle.image.proofs.writer.write_heads.Given.{Over}
use Rattle.image.proofs.writer.write_heads.Goals as goal
use Rattle.image.proofs.writer.write_heads.Goals.{After-upper_count-found, then-found-eq0, else-found-eq0}

pub loop-v-init : goal.loop-v-init
loop-v-init g c = heads_start (g.P.ReadablePlan.meaning c.args.plan.now) c.args.part.now

-- the records of v's chain and of those before it are few
fits : (g : Over) (c : After-upper_count-found g) → c.loop-v.before + c.upper_count-found.result ≤ 8000
fits g c =
    omega (arith, c.loop-v.invariant.before_is, c.upper_count-found.ensures, c.requires.few, pipes_part (g.P.ReadablePlan.meaning c.args.plan.now) c.loop-v.v c.loop-v.auto.v (omega (arith, c.size-v-end.ensures.value, c.loop-v-test.true)))

pub overflow_cast-head : goal.overflow_cast-head
overflow_cast-head g c = omega (arith, fits g (goal.at.overflow_cast-head g c).After-upper_count-found)

pub overflow_add-head : goal.overflow_add-head
overflow_add-head g c = omega (arith, fits g (goal.at.overflow_add-head g c).After-upper_count-found)

pub overflow_add-before : goal.overflow_add-before
overflow_add-before g c = omega (arith, fits g (goal.at.overflow_add-before g c).After-upper_count-found)

pub loop-v-preserved : goal.loop-v-preserved
loop-v-preserved g c =
    let p = g.P.ReadablePlan.meaning c.args.plan.now in
    let ways : ((c.upper_count-found.result ≡ 0) × (c.if-found-eq0.head ≡ 0)) ⊎ ((c.upper_count-found.result ≡ 0 → ⊥) × (c.if-found-eq0.head ≡ c.loop-v.before + 1)) = elim c.if-found-eq0.branch [ then-found-eq0 w ↦ inl (w.if-found-eq0.true, w.head-is) | else-found-eq0 w ↦ inr (w.if-found-eq0.false, w.head-is) ] in
    let headed : c.if-found-eq0.head ≡ link p c.loop-v.v c.loop-v.v = head_is p c.loop-v.v c.loop-v.before c.upper_count-found.result c.if-found-eq0.head c.loop-v.invariant.before_is c.upper_count-found.ensures ways in
    rw c.index-at.ensures
    (heads_go_on p c.loop-v.v c.loop-v.before ((2 * (c.loop-v.v - 1) + 2) - 2 * (c.loop-v.v - 1)) c.upper_count-found.result c.if-found-eq0.head c.loop-v.part c.put.new.part c.loop-v.auto.v c.loop-v.invariant c.upper_count-found.ensures headed c.put.ensures
    (omega (arith, c.requires.long, c.loop-v.auto.part, c.size-v-end.ensures.value, c.loop-v-test.true)))
