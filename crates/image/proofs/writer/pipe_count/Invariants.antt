use Rattle.std.proofs.Common.{◌≡◌, ◌-◌}
use Rattle.image.specs.Writing.{pipes_to}
use Rattle.image.proofs.writer.pipe_count.Given as goal

abbrev pub invariant-loop-v : goal.invariant-loop-v
invariant-loop-v g l = l.found ≡ pipes_to (g.P.ReadablePlan.meaning l.plan) (l.v - 1)
