use Rattle.std.proofs.Common.{◌≡◌, ◌∙◌, ◌≤◌, ◌-◌, Some, sym, arith}
use Rattle.std.proofs.lemmas.List.{length-set}
use Rattle.plan.specs.Plans.{Plan, NextNeighbour}
use Rattle.plan.proofs.Walks.{goes_along, meets_next}
use Rattle.ring.specs.Reach.{queue}
use Rattle.ring.proofs.Queues.{neighbour_inside, walk_adds}
use Rattle.ring.proofs.reach.spread.Given as given
use Rattle.ring.proofs.reach.spread.Goals as goal
use Rattle.ring.proofs.reach.spread.Goals.{In-Some}

-- the neighbour at hand, which is a junction
next : (g : given.Over) (c : In-Some g) → NextNeighbour (g.P.ReadablePlan.meaning c.args.plan.now) (queue c.args.scratch.now c.args.head) c.loop-w.w-iterator.last.0 (Some c.in-Some.w)
next g c = meets_next g.P.ReadablePlan.meaning {v = record { 0 = queue c.args.scratch.now c.args.head }} c.loop-w.invariant.0 c.in-Some.ensures.steps

inside : (g : given.Over) (c : In-Some g) → (1 ≤ c.in-Some.w.0) × (c.in-Some.w.0 ≤ (g.P.ReadablePlan.meaning c.args.plan.now).size)
inside g c = neighbour_inside _ (g.met.P.ReadablePlan.sound c.args.plan.now) _ _ c.in-Some.w (next g c)

pub bounds-scratch-seat : goal.bounds-scratch-seat
bounds-scratch-seat g c = let i = inside g (goal.at.bounds-scratch-seat g c).In-Some in omega (arith, i.0, i.1)

pub bounds-scratch-seat-then-not-joined : goal.bounds-scratch-seat-then-not-joined
bounds-scratch-seat-then-not-joined g c =
    let i = inside g (goal.at.bounds-scratch-seat-then-not-joined g c).In-Some in simp length-set (omega (arith, i.0, i.1))

pub loop-w-preserved-then-not-joined : goal.loop-w-preserved-then-not-joined
loop-w-preserved-then-not-joined g c =
    let p : Plan = g.P.ReadablePlan.meaning c.args.plan.now in
    let e : c.from-n.result ≡ p.size = c.from-n.ensures ∙ c.size.ensures.value in
    let i : c.index.result ≡ c.in-Some.w.0 - 1 = c.index.ensures in
    let s = c.in-Some.ensures.steps in
    let m = next g (goal.at.loop-w-preserved-then-not-joined g c).In-Some in (
      goes_along g.P.ReadablePlan.meaning {v = record { 0 = queue c.args.scratch.now c.args.head }} c.loop-w.invariant.0 s,
      rw (s.0.stands, e, i)
          (walk_adds p (g.met.P.ReadablePlan.sound c.args.plan.now) _ _ _ _ _ _ _ _ _ c.loop-w.invariant.1 c.in-Some.w m
          (rw (e, i) at c.if-scratch-seat-eq0.true) (sym c.if-not-joined.ensures) c.requires.inside c.requires.room),
    )
