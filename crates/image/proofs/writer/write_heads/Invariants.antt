use Rattle.std.proofs.Common.{◌-◌}
use Rattle.image.proofs.Stretches.{HeadsFront}
use Rattle.image.proofs.writer.write_heads.Given as goal

abbrev pub invariant-loop-v : goal.invariant-loop-v
invariant-loop-v g l = HeadsFront (g.P.ReadablePlan.meaning l.plan) (l.v - 1) l.before l.part
