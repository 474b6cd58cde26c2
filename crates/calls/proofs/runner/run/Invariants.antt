use Rattle.std.proofs.Common.{◌≡◌, ◌*◌, true, map}
use Rattle.plan.specs.Memory.{KeptFrom}
use Rattle.order.specs.Reports.{short}
use Rattle.set.specs.Kept.{ledger}
use Rattle.calls.specs.Deeds.{deed, all_idle}
use Rattle.calls.specs.Heard.{lists_of}
use Rattle.calls.proofs.Runs.{Running}
use Rattle.calls.proofs.runner.run.Given as goal

abbrev pub invariant-loop-call : goal.invariant-loop-call
invariant-loop-call g l =
    Running g.K.Kind.blank g.K.Kind.raised g.K.Kind.compared (ledger g.R.ReadablePlan.meaning g.R.Register.left l.initial.set) (lists_of l.initial.places l.initial.ring l.initial.rows) (map (deed (short (g.R.ReadablePlan.meaning l.initial.set.layer.below).size l.initial.places l.initial.ring l.initial.rows l.initial.labels l.initial.scratch)) l.calls) l.call-index (ledger g.R.ReadablePlan.meaning g.R.Register.left l.set) (lists_of l.places l.ring l.rows) (g.L.Listener.log l.initial.listener) (g.L.Listener.log l.listener)
    × KeptFrom (g.R.ReadablePlan.meaning l.initial.set.layer.below).size l.initial.labels l.labels
    × KeptFrom (2 * (g.R.ReadablePlan.meaning l.initial.set.layer.below).size) l.initial.scratch l.scratch
    × (all_idle (map (deed (short (g.R.ReadablePlan.meaning l.initial.set.layer.below).size l.initial.places l.initial.ring l.initial.rows l.initial.labels l.initial.scratch)) l.calls) ≡ true → (l.labels ≡ l.initial.labels) × (l.scratch ≡ l.initial.scratch))
