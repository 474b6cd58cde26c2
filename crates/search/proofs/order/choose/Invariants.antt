use Rattle.std.proofs.Common.{◌≡◌, ℕ, ◌-◌, ◌<◌, true, get_or}
use Rattle.search.specs.Rule.{outranks}
use Rattle.search.specs.Working.{at}
use Rattle.search.proofs.order.choose.Given as goal

abbrev pub invariant-loop-i : goal.invariant-loop-i
invariant-loop-i g l =
    (l.best < l.i)
    × ((k : ℕ) (d : g.row.K-Label.Denot) → k < l.i → (k ≡ l.best → ⊥) → outranks (g.K.Kind.compared l.kind (get_or l.labels (at l.places k - 1) d) (get_or l.labels (at l.places l.best - 1) d)) (at l.places l.best) (at l.places k) ≡ true)
