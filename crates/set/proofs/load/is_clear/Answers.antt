use Rattle.std.proofs.Common.{sym, arith}
use Rattle.set.proofs.Clears.{clear_all, clear-unserved, next-clear-joined}
use Rattle.set.proofs.load.is_clear.Goals as goal
use Rattle.set.proofs.load.is_clear.Goals.{then-not-serves-via-then-not-serves, then-not-serves-via-else-not-serves+then-is_some}

pub returns-then-not-serves : goal.returns-then-not-serves
returns-then-not-serves g c =
    elim c.then-not-serves.branch [
      | then-not-serves-via-then-not-serves w ↦ sym (clear-unserved (g.P.ReadablePlan.meaning c.args.plan.now) c.loop-v.v c.loop-v.auto.v (omega (arith, c.size-v-end.ensures.value, c.loop-v-test.true)) (sym w.if-not-serves.ensures))
      | then-not-serves-via-else-not-serves+then-is_some w ↦ sym (next-clear-joined (g.P.ReadablePlan.meaning c.args.plan.now) (g.met.P.ReadablePlan.sound c.args.plan.now) c.loop-v.v w.next.result (sym w.if-is_some.ensures) w.next.ensures)
    ]

pub returns : goal.returns
returns g c = sym (clear_all (g.P.ReadablePlan.meaning c.args.plan.now) c.loop-v.v (omega (arith, c.size-v-end.ensures.value, c.loop-v-test.false)) c.loop-v.invariant)
