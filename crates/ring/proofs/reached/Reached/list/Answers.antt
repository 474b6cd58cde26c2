use Rattle.std.proofs.Common.{◌≡◌, ◌+◌, ◌-◌, ◌<◌, ◌≤◌, length, take, drop, set, refl, arith}
use Rattle.std.proofs.lemmas.List.{length-set, length-take, length-drop}
use Rattle.ring.specs.Reach.{queue, mark}
use Rattle.ring.proofs.Closing.{Closes, below, ring_fits}
use Rattle.ring.proofs.Writing.{read_more, length_put, lists_ring}
use Rattle.ring.proofs.reached.Reached.list.Given as given
use Rattle.ring.proofs.reached.Reached.list.Goals as goal
use Rattle.ring.proofs.reached.Reached.list.Goals.{After-path_length-depth, In-loop-entry}

closes : (g : given.Over) (c : After-path_length-depth g) → Closes (g.P.ReadablePlan.meaning c.args.self.now.plan.now) c.args.c.0 (queue c.args.self.now.scratch.now) (mark (g.P.ReadablePlan.meaning c.args.self.now.plan.now).size c.args.self.now.scratch.now) c.args.self.now.size c.args.top c.path_length-depth.result
closes g c = record {
  inside = c.requires.meets.0;
  joined = c.requires.meets.1;
  first = c.requires.meets.2;
  front = c.path_length-depth.ensures.front;
  before = c.path_length-depth.ensures.before;
}

-- the ring fits into its list
fits : (g : given.Over) (c : After-path_length-depth g) → c.path_length-depth.result + 3 ≤ (g.P.ReadablePlan.meaning c.args.self.now.plan.now).size
fits g c =
    ring_fits _ (g.met.P.ReadablePlan.sound c.args.self.now.plan.now) _ _ _ _ _ _ c.requires.corner c.args.self.now.queue _ _ (closes g c)

pub slice_bounds-path-end : goal.slice_bounds-path-end
slice_bounds-path-end g c = omega (arith, length-set c.args.ring.now 0 c.args.self.now.v, c.requires.room, fits g (goal.at.slice_bounds-path-end g c).After-path_length-depth)

-- the part that takes the path has its length
part_long : (g : given.Over) (c : After-path_length-depth g) → length (take (c.path_length-depth.result + 2 - 1) (drop 1 (set c.args.ring.now 0 c.args.self.now.v))) ≡ c.path_length-depth.result + 1
part_long g c = let f = fits g c in simp (length-take, length-drop, length-set) (omega (arith, f, c.requires.room))

-- the index at hand is one of the queue
inside : (g : given.Over) (c : In-loop-entry g) → c.loop-entry.at < c.args.self.now.size
inside g c =
    let a = (goal.at.In-loop-entry g c).After-path_length-depth in
    rw c.loop-entry.invariant.index (below _ (g.met.P.ReadablePlan.sound c.args.self.now.plan.now) _ _ _ _ _ _ c.requires.corner c.args.self.now.queue _ _ (closes g a) c.loop-entry.entry-index (omega (arith, part_long g a)))

pub offset_bounds-self-at : goal.offset_bounds-self-at
offset_bounds-self-at g c = record { fits = omega (arith, inside g (goal.at.offset_bounds-self-at g c).In-loop-entry, c.args.self.now.queue.few, (g.met.P.ReadablePlan.sound c.args.self.now.plan.now).few) }

pub bounds-self-at : goal.bounds-self-at
bounds-self-at g c = omega (arith, inside g (goal.at.bounds-self-at g c).In-loop-entry)

pub forerunner-at-requires : goal.forerunner-at-requires
forerunner-at-requires g c = inside g (goal.at.forerunner-at-requires g c).In-loop-entry

pub loop-entry-preserved : goal.loop-entry-preserved
loop-entry-preserved g c = read_more _ _ _ _ _ _ _ _ c.loop-entry.invariant (omega arith) refl c.forerunner-at.ensures

pub bounds-ring-depth : goal.bounds-ring-depth
bounds-ring-depth g c =
    let a = (goal.at.bounds-ring-depth g c).After-path_length-depth in
    omega (arith, length_put (set c.args.ring.now 0 c.args.self.now.v) c.reverse.new.self (c.path_length-depth.result + 2 - 1) (omega (arith, part_long g a)) (omega (arith, length-set c.args.ring.now 0 c.args.self.now.v, fits g a)), length-set c.args.ring.now 0 c.args.self.now.v, fits g a)

pub returns : goal.returns
returns g c =
    let a = (goal.at.returns g c).After-path_length-depth in
    let part = part_long g a in
    rw c.reverse.ensures.after (lists_ring _ (g.met.P.ReadablePlan.sound c.args.self.now.plan.now) c.args.self.now.v c.args.c _ _ _ _ c.requires.corner c.args.self.now.queue _ _ (closes g a) c.args.ring.now c.loop-entry.path c.requires.room (omega (arith, part)) (λ i l. c.loop-entry.invariant.reads i (omega (arith, part))))
