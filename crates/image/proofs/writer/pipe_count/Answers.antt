use Rattle.std.proofs.Common.{◌≡◌, ◌+◌, ◌-◌, refl, arith}
use Rattle.image.specs.Writing.{pipes_to}
use Rattle.image.proofs.Uppers.{pipes_to_step, pipes_to_few}
use Rattle.image.proofs.writer.pipe_count.Goals as goal

pub loop-v-init : goal.loop-v-init
unfolding pipes_to
loop-v-init g c = refl

pub overflow_add-found : goal.overflow_add-found
overflow_add-found g c =
    record {
      fits = omega (arith, c.loop-v.invariant, c.upper_count-found.ensures, c.size-v-end.ensures.value, c.size-v-end.ensures.few, c.loop-v-test.true, pipes_to_step (g.P.ReadablePlan.meaning c.args.plan.now) c.loop-v.v c.loop-v.auto.v, pipes_to_few (g.P.ReadablePlan.meaning c.args.plan.now) c.loop-v.v (omega (arith, c.size-v-end.ensures.value, c.size-v-end.ensures.few)) (omega (arith, c.size-v-end.ensures.value, c.loop-v-test.true)));
    }

pub loop-v-preserved : goal.loop-v-preserved
loop-v-preserved g c =
    let e : c.loop-v.v + 1 - 1 ≡ c.loop-v.v = omega arith in
    rw e (omega (arith, c.loop-v.invariant, c.upper_count-found.ensures, pipes_to_step (g.P.ReadablePlan.meaning c.args.plan.now) c.loop-v.v c.loop-v.auto.v))
