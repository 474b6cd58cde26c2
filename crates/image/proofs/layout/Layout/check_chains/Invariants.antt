use Rattle.std.proofs.Common.{◌-◌}
use Rattle.image.specs.Images.{image_of}
use Rattle.image.specs.Tallies.{Tallied}
use Rattle.image.proofs.layout.Layout.check_chains.Given as goal

abbrev pub invariant-loop-v : goal.invariant-loop-v
invariant-loop-v l = Tallied (image_of l.self.bytes.now) (l.v - 1) l.reached
