use Rattle.std.proofs.Common.{◌-◌, vec_items}
use Rattle.chained.specs.Nodes.{far}
use Rattle.chained.specs.Walks.{Walk}
use Rattle.chained.proofs.register.ChainedRegister.seat.Given as goal

abbrev pub invariant-loop-next : goal.invariant-loop-next
invariant-loop-next l = Walk l.self l.initial.node l.w l.node l.next

abbrev pub decreases-loop-next : goal.decreases-loop-next
decreases-loop-next l = l.w - far l.self.n l.self.c (vec_items l.self.cells) l.node
