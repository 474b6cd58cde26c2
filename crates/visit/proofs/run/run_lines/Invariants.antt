use Rattle.std.proofs.Common.{◌≡◌, ℕ, ◌*◌, Bool}
use Rattle.plan.specs.Memory.{KeptFrom}
use Rattle.order.specs.Reports.{short}
use Rattle.set.specs.Kept.{ledger}
use Rattle.calls.specs.Heard.{lists_of}
use Rattle.visit.specs.Visits.{with_set}
use Rattle.visit.proofs.Visiting.{Gone}
use Rattle.visit.proofs.run.run_lines.Given as goal

abbrev pub invariant-loop-line : goal.invariant-loop-line
invariant-loop-line g l =
    ((spare : ℕ → ℕ) (full : ℕ → Bool) → Gone (λ n. short n l.initial.places l.initial.ring l.initial.rows l.initial.labels l.initial.scratch) spare full (with_set (ledger g.R.ReadablePlan.meaning g.R.Register.left l.initial.set)) (lists_of l.initial.places l.initial.ring l.initial.rows) l.lines.rest.now l.line-iterator.rest.now (with_set (ledger g.R.ReadablePlan.meaning g.R.Register.left l.set)) (lists_of l.places l.ring l.rows) (g.L.Listener.log l.initial.listener) (g.L.Listener.log l.listener))
    × ((g.R.ReadablePlan.meaning l.set.layer.below).size ≡ (g.R.ReadablePlan.meaning l.initial.set.layer.below).size)
    × KeptFrom (g.R.ReadablePlan.meaning l.initial.set.layer.below).size l.initial.labels l.labels
    × KeptFrom (2 * (g.R.ReadablePlan.meaning l.initial.set.layer.below).size) l.initial.scratch l.scratch
