use Rattle.ring.specs.Reach.{queue, mark}
use Rattle.ring.proofs.Writing.{ReadBack}
use Rattle.ring.proofs.reached.Reached.list.Given as goal

abbrev pub invariant-loop-entry : goal.invariant-loop-entry
invariant-loop-entry g l = ReadBack (queue l.self.scratch.now) (mark (g.P.ReadablePlan.meaning l.self.plan.now).size l.self.scratch.now) l.top l.entry-index l.at l.path
