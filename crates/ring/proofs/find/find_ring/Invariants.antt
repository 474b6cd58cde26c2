use Rattle.std.proofs.Common.{◌≡◌, ℕ, ◌*◌, ◌≤◌, None}
use Rattle.plan.specs.Memory.{KeptFrom}
use Rattle.plan.proofs.Walks.{Along}
use Rattle.ring.proofs.Missing.{NoneAt, Visited}
use Rattle.ring.proofs.find.find_ring.Given as goal

abbrev pub invariant-search : goal.invariant-search
invariant-search g l =
    let p = g.P.ReadablePlan.meaning l.plan in
    (l.found ≡ None)
    × (l.ring ≡ l.initial.ring)
    × KeptFrom (2 * p.size) l.initial.scratch l.scratch
    × ((v a c : ℕ) → 1 ≤ v → v ≤ l.i → NoneAt p v a c)

abbrev pub invariant-loop-a : goal.invariant-loop-a
invariant-loop-a g l =
    let p = g.P.ReadablePlan.meaning l.plan in
    Along l.a-iterator.plan.now l.plan l.a-iterator.of l.v
    × (l.found ≡ None)
    × (l.ring ≡ l.initial.ring)
    × KeptFrom (2 * p.size) l.initial.scratch l.scratch
    × Visited l.v.0 l.a-iterator.last.0 (λ a. (c : ℕ) → NoneAt p l.v.0 a c)

abbrev pub invariant-loop-c : goal.invariant-loop-c
invariant-loop-c g l =
    let p = g.P.ReadablePlan.meaning l.plan in
    Along l.c-iterator.plan.now l.plan l.c-iterator.of l.v
    × (l.found ≡ None)
    × (l.ring ≡ l.initial.ring)
    × Visited l.a.0 l.c-iterator.last.0 (NoneAt p l.v.0 l.a.0)
