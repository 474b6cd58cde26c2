use Rattle.std.proofs.Common.{◌≡◌, ◌-◌}
use Rattle.image.specs.Images.{image_of}
use Rattle.set.specs.Kept.{ledger}
use Rattle.set.specs.Ledgers.{with_records}
use Rattle.set.proofs.set.Set.load.Given as goal

abbrev pub invariant-loop-i : goal.invariant-loop-i
invariant-loop-i g l =
    ledger g.R.ReadablePlan.meaning g.R.Register.left l.self ≡ with_records (ledger g.R.ReadablePlan.meaning g.R.Register.left l.initial.self) (image_of l.image) (l.i - 1)
