use Rattle.std.proofs.Common.{◌≡◌, ℕ, ◌+◌, ◌<◌, get_or}
use Rattle.plan.specs.Memory.{KeptFrom}
use Rattle.search.specs.Working.{at}
use Rattle.search.proofs.order.start.Given as goal

abbrev pub invariant-loop-i : goal.invariant-loop-i
invariant-loop-i g l =
    ((k : ℕ) → k < l.i → at l.places k ≡ k + 1) × ((k : ℕ) → k < l.i → get_or l.scratch k 0 ≡ k + 1)
    × ((k : ℕ) (d : g.row.K-Label.Denot) → k < l.i → get_or l.labels k d ≡ g.K.Kind.blank l.kind)
    × KeptFrom l.i l.initial.places l.places × KeptFrom l.i l.initial.labels l.labels × KeptFrom l.i l.initial.scratch l.scratch
