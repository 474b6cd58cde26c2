use Rattle.std.proofs.Common.{◌≡◌, ◌<◌, ◌≤◌, rules, arith}
use Rattle.plan.proofs.Counts.{pairs_few}
use Rattle.elimination.specs.Steps.{found, at}
use Rattle.elimination.proofs.Parents.{taking_none, own_inside, taking_early, taking_same, taking_kept, taking_joined, takes_over}
use Rattle.elimination.proofs.step.OrderedPlan.take_over.Goals as goal
use Rattle.elimination.proofs.step.OrderedPlan.take_over.Goals.{then-lt+then-ne+then-join, else-lt, else-lt-via-then-lt+then-ne+else-join, else-lt-via-then-lt+else-ne, else-lt-via-else-lt}

pub loop-u-init : goal.loop-u-init
loop-u-init g c =
    (taking_none (g.met.P.ReadablePlan.sound c.args.self.now.plan.now) c.requires.table c.requires.later, c.next-pipe.ensures)

pub join-requires : goal.join-requires
join-requires g c =
    record {
      first = c.requires.second;
      second = own_inside (g.met.P.ReadablePlan.sound c.args.self.now.plan.now) c.requires.table c.requires.later c.loop-u.invariant.0 c.in-Some.u.0 c.in-Some.ensures.1;
      room = omega (arith, c.loop-u.auto.rows, c.requires.table.room);
    }

pub overflow_add-added : goal.overflow_add-added
overflow_add-added g c =
    record { fits = omega (arith, c.loop-u.invariant.0.count, pairs_few (found (g.P.ReadablePlan.meaning c.args.self.now.plan.now).size c.loop-u.rows) (g.P.ReadablePlan.meaning c.args.self.now.plan.now).size (g.met.P.ReadablePlan.sound c.args.self.now.plan.now).few) }

pub loop-u-smaller : goal.loop-u-smaller
loop-u-smaller g c =
    omega (arith, c.in-Some.ensures.0, (g.met.P.ReadablePlan.sound c.args.self.now.plan.now).few, (own_inside (g.met.P.ReadablePlan.sound c.args.self.now.plan.now) c.requires.table c.requires.later c.loop-u.invariant.0 c.in-Some.u.0 c.in-Some.ensures.1).1)

pub loop-u-preserved : goal.loop-u-preserved
loop-u-preserved g c = (
  elim c.if-lt.branch [
    | then-lt+then-ne+then-join w ↦
        let late : at c.args.self.now.places.places c.args.v.0 < at c.args.self.now.places.places c.in-Some.u.0 = search rules in
        let other : c.in-Some.u.0 ≡ c.args.p.0 → ⊥ = search rules in
        rw (w.rows-is, w.added-is) (taking_joined (g.met.P.ReadablePlan.sound c.args.self.now.plan.now) c.requires.table c.requires.later c.loop-u.invariant.0 c.in-Some.u c.in-Some.ensures c.requires.second.0 c.requires.second.1
        late other w.join.new.rows (rw w.if-join.true at w.join.ensures))
    | else-lt w ↦
        rw w.added-is (elim w.else-lt.branch [
          | else-lt-via-then-lt+then-ne+else-join w' ↦
              let late : at c.args.self.now.places.places c.args.v.0 < at c.args.self.now.places.places c.in-Some.u.0 = search rules in
              let other : c.in-Some.u.0 ≡ c.args.p.0 → ⊥ = search rules in
              rw (w.rows-is, w'.rows-is) (taking_kept (g.met.P.ReadablePlan.sound c.args.self.now.plan.now) c.requires.table c.requires.later c.loop-u.invariant.0 c.in-Some.u c.in-Some.ensures c.requires.second.0 c.requires.second.1 late other w'.join.new.rows w'.if-join.ensures)
          | else-lt-via-then-lt+else-ne w' ↦
              let same : c.in-Some.u.0 ≡ c.args.p.0 = search rules in
              rw (w.rows-is, w'.rows-is) (taking_same (g.met.P.ReadablePlan.sound c.args.self.now.plan.now) c.requires.table c.requires.later c.loop-u.invariant.0 c.in-Some.u c.in-Some.ensures same)
          | else-lt-via-else-lt w' ↦
              let early : at c.args.self.now.places.places c.in-Some.u.0 ≤ at c.args.self.now.places.places c.args.v.0 = search rules in
              rw (w.rows-is, w'.rows-is) (taking_early (g.met.P.ReadablePlan.sound c.args.self.now.plan.now) c.requires.table c.requires.later c.loop-u.invariant.0 c.in-Some.u c.in-Some.ensures early)
        ])
  ],
  c.pipe_above-pipe.ensures,
)

pub returns : goal.returns
returns g c =
    record {
      rows = takes_over (g.met.P.ReadablePlan.sound c.args.self.now.plan.now) c.requires.table c.requires.later c.loop-u.invariant.0 c.in_default.ensures;
      count = c.loop-u.invariant.0.count;
    }
