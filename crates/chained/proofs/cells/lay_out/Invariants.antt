use Rattle.chained.proofs.Layouts.{LaidOutTo}
use Rattle.chained.proofs.cells.lay_out.Given as goal

abbrev pub invariant-loop-p : goal.invariant-loop-p
invariant-loop-p l = LaidOutTo l.n l.c l.p l.initial.cells l.cells
