use Rattle.std.proofs.Common.{◌≡◌, ◌+◌, ◌-◌, ◌*◌, ◌<◌, ◌≤◌, ◌⊎◌, length, inl, inr, arith, rules}
use Rattle.image.specs.Writing.{link}
use Rattle.image.proofs.Stretches.{More, chain_starts, link_of, chain_goes_on, chain_ends}
use Rattle.image.proofs.UpperWalks.{past_starts, past_meets, past_goes_on, past_ends}
use Rattle.image.proofs.Uppers.{uppers_most}
use Rattle.plan.proofs.Walks.{meets_next}
use Rattle.image.proofs.writer.write_chain.Given.{Over}
use Rattle.image.proofs.writer.write_chain.Goals as goal
use Rattle.image.proofs.writer.write_chain.Goals.{In-Some, then-end-part, else-end-part}

-- the next neighbour, whose record fits into the stretch
met : (g : Over) (c : In-Some g) → More (g.P.ReadablePlan.meaning c.args.plan.now) c.args.v.0 c.loop-k.k-iterator.iter.last.0 c.in-Some.w.0
met g c =
    past_meets g.P.ReadablePlan.meaning c.args.plan.now c.args.v c.loop-k.k-iterator.iter c.next.new.self.iter c.loop-k.k-iterator.count (g.met.P.ReadablePlan.sound c.args.plan.now) c.in-Some.w c.loop-k.invariant.past c.in-Some.ensures.steps.0

room : (g : Over) (c : In-Some g) → (6 * c.in-Some.k + 6 ≤ length c.loop-k.part) × (c.in-Some.k ≤ 513)
room g c =
    let m = met g c in
    let k = c.loop-k.invariant.past.counted in (
      omega (arith, c.in-Some.ensures.steps.1, m.one, m.room, c.requires.long, c.loop-k.auto.part),
      omega (arith, c.in-Some.ensures.steps.1, c.loop-k.invariant.past.few, (g.met.P.ReadablePlan.sound c.args.plan.now).few, uppers_most (g.P.ReadablePlan.meaning c.args.plan.now) c.args.v.0 c.loop-k.k-iterator.iter.last.0),
    )

pub loop-k-init : goal.loop-k-init
loop-k-init g c =
    let made = c.neighbours_above.ensures in
    rw (c.into_iter-k-iterator.ensures.into_iter_gives, c.enumerate-k-items.ensures.source, c.enumerate-k-items.ensures.count)
    (record {
      can_next = (tt, tt, inl (omega arith));
      is_finite = tt;
      past = past_starts g.P.ReadablePlan.meaning c.args.plan.now c.args.v c.neighbours_above.result made.plan made.of made.last c.requires.inside.1;
      front = rw made.last (chain_starts (g.P.ReadablePlan.meaning c.args.plan.now) (g.met.P.ReadablePlan.sound c.args.plan.now) c.args.v.0 c.args.part.now);
    })

pub overflow_mul-at : goal.overflow_mul-at
overflow_mul-at g c = omega (arith, (room g (goal.at.overflow_mul-at g c).In-Some).1)

pub overflow_add-end : goal.overflow_add-end
overflow_add-end g c = omega (arith, (room g (goal.at.overflow_add-end g c).In-Some).1)

pub overflow_cast-next : goal.overflow_cast-next
overflow_cast-next g c = omega (arith, c.requires.few, (room g (goal.at.overflow_cast-next g c).In-Some).1)

pub overflow_add-next-then-end-part : goal.overflow_add-next-then-end-part
overflow_add-next-then-end-part g c = omega (arith, c.requires.few, (room g (goal.at.overflow_add-next-then-end-part g c).In-Some).1)

pub slice_bounds-put_all-end : goal.slice_bounds-put_all-end
slice_bounds-put_all-end g c = let r = (room g (goal.at.slice_bounds-put_all-end g c).In-Some).0 in search rules

pub loop-k-preserved : goal.loop-k-preserved
loop-k-preserved g c =
    let p = g.P.ReadablePlan.meaning c.args.plan.now in
    let sound = g.met.P.ReadablePlan.sound c.args.plan.now in
    let s = c.loop-k.k-iterator in
    let t = c.next.new.self in
    let h = c.loop-k.invariant in
    let w = c.in-Some.ensures.steps in
    let m = met g (goal.at.loop-k-preserved g c).In-Some in
    let r = room g (goal.at.loop-k-preserved g c).In-Some in
    let ways : ((6 * s.count + 6 < length c.loop-k.part) × (c.if-end-part.next ≡ (c.args.before + s.count) + 2)) ⊎ ((length c.loop-k.part ≤ 6 * s.count + 6) × (c.if-end-part.next ≡ 0)) = elim c.if-end-part.branch [ then-end-part b ↦ inl (omega (arith, b.if-end-part.true, w.1), omega (arith, b.next-is, w.1)) | else-end-part b ↦ inr (omega (arith, b.if-end-part.false, w.1), b.next-is) ] in
    let linked : c.if-end-part.next ≡ link p c.args.v.0 c.in-Some.w.0 = link_of p sound c.args.v.0 c.args.before s.iter.last.0 s.count c.in-Some.w.0 c.if-end-part.next (length c.loop-k.part) h.past.counted m c.requires.before (omega (arith, c.requires.long, c.loop-k.auto.part)) ways in
    record {
      can_next = (tt, tt, inl (omega (arith, w.1, w.2, r.1)));
      is_finite = tt;
      past = rw w.2 (past_goes_on g.P.ReadablePlan.meaning c.args.plan.now c.args.v s.iter t.iter s.count sound c.in-Some.w h.past w.0);
      front = rw (w.2, w.0.0.stands, w.1) (chain_goes_on p sound c.args.v.0 s.iter.last.0 s.count ((6 * s.count + 6) - 6 * s.count) c.if-end-part.next c.in-Some.w c.loop-k.part c.put_all.new.part h.past.start h.front (meets_next g.P.ReadablePlan.meaning h.past.along w.0) c.put_all.ensures linked (omega (arith, r.0, w.1)));
    }

pub returns : goal.returns
returns g c =
    let p = c.loop-k.invariant.past in
    chain_ends (g.P.ReadablePlan.meaning c.args.plan.now) (g.met.P.ReadablePlan.sound c.args.plan.now) c.args.v.0 c.loop-k.k-iterator.iter.last.0 c.loop-k.k-iterator.count c.loop-k.part p.few
    (past_ends g.P.ReadablePlan.meaning c.args.plan.now c.args.v c.loop-k.k-iterator.iter c.next.new.self.iter c.loop-k.k-iterator.count p c.in-None.ensures.steps.0) c.loop-k.invariant.front (meets_next g.P.ReadablePlan.meaning p.along c.in-None.ensures.steps.0) (omega (arith, c.requires.long, c.loop-k.auto.part))
