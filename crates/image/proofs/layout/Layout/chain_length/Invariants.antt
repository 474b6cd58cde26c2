use Rattle.image.proofs.ChainWalks.{Along}
use Rattle.image.proofs.layout.Layout.chain_length.Given as goal

abbrev pub invariant-loop-far : goal.invariant-loop-far
invariant-loop-far l =
    (goal.iterator-loop-far).can_next l.far-iterator ×
    (goal.iterator-loop-far).is_finite l.far-iterator ×
    Along l.self.bytes.now l.fn.v l.far-iterator l.passed
