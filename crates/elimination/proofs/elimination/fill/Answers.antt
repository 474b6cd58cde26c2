use Rattle.std.proofs.Common.{◌≡◌, ◌<◌, length, get_or, refl, arith}
use Rattle.plan.specs.Orders.{numbers}
use Rattle.plan.proofs.Counts.{pairs_few}
use Rattle.plan.proofs.Numbers.{length-numbers, getD_numbers}
use Rattle.elimination.specs.Steps.{found}
use Rattle.elimination.proofs.Filling.{Placed, placed, filling_none, filling_table, filling_more, filling_all, fills_since, carried_out}
use Rattle.elimination.proofs.elimination.fill.Goals as goal

pub loop-v-init : goal.loop-v-init
loop-v-init g c =
    let p : Placed (g.P.ReadablePlan.meaning c.args.plan.now).size (numbers c.args.order.now) c.in_ok-places.places = placed c.size-n.ensures.value c.in_ok-places.ensures.ok_part c.of_order.ensures in
    filling_none (g.P.ReadablePlan.meaning c.args.plan.now) (g.met.P.ReadablePlan.sound c.args.plan.now) (numbers c.args.order.now) p.order c.clear.new.words c.clear.new.words
    (λ k l. c.clear.ensures.cleared k (omega (arith, l, c.size-n.ensures.value)))
    (λ k l. refl)

pub eliminate-count-requires : goal.eliminate-count-requires
eliminate-count-requires g c =
    let p : Placed (g.P.ReadablePlan.meaning c.args.plan.now).size (numbers c.args.order.now) c.in_ok-places.places = placed c.size-n.ensures.value c.in_ok-places.ensures.ok_part c.of_order.ensures in
    let l : c.loop-v.v-index < (g.P.ReadablePlan.meaning c.args.plan.now).size = omega (arith, p.order.long, length-numbers c.args.order.now, c.loop-v-test.true) in
    record {
      table = filling_table (g.P.ReadablePlan.meaning c.args.plan.now) (g.met.P.ReadablePlan.sound c.args.plan.now) (numbers c.args.order.now) p.order c.loop-v.invariant (omega (arith, c.size-n.ensures.value, c.if-rows-from.false, c.from.ensures, c.clear.auto.words, c.loop-v.auto.rows));
      junction = rw (getD_numbers c.args.order.now c.loop-v.v-index) at (p.order.each c.loop-v.v-index l);
    }

pub overflow_add-count : goal.overflow_add-count
overflow_add-count g c =
    record { fits = omega (arith, c.loop-v.invariant.counted, c.eliminate-count.ensures.count, pairs_few (found (g.P.ReadablePlan.meaning c.args.plan.now).size c.eliminate-count.new.rows) (g.P.ReadablePlan.meaning c.args.plan.now).size (g.met.P.ReadablePlan.sound c.args.plan.now).few) }

pub loop-v-preserved : goal.loop-v-preserved
loop-v-preserved g c =
    let p : Placed (g.P.ReadablePlan.meaning c.args.plan.now).size (numbers c.args.order.now) c.in_ok-places.places = placed c.size-n.ensures.value c.in_ok-places.ensures.ok_part c.of_order.ensures in
    let l : c.loop-v.v-index < (g.P.ReadablePlan.meaning c.args.plan.now).size = omega (arith, p.order.long, length-numbers c.args.order.now, c.loop-v-test.true) in
    let e : get_or (numbers c.args.order.now) c.loop-v.v-index 0 ≡ (get_or c.args.order.now c.loop-v.v-index (record { 0 = 0 })).0 = getD_numbers c.args.order.now c.loop-v.v-index in
    filling_more (g.P.ReadablePlan.meaning c.args.plan.now) (g.met.P.ReadablePlan.sound c.args.plan.now) (numbers c.args.order.now) p.order c.loop-v.invariant c.in_ok-places.places.places c.eliminate-count.new.rows c.eliminate-count.result p.places l (rw e c.eliminate-count.ensures.rows) c.eliminate-count.ensures.count

pub returns : goal.returns
returns g c =
    let p : Placed (g.P.ReadablePlan.meaning c.args.plan.now).size (numbers c.args.order.now) c.in_ok-places.places = placed c.size-n.ensures.value c.in_ok-places.ensures.ok_part c.of_order.ensures in
    record {
      answer = carried_out (g.P.ReadablePlan.meaning c.args.plan.now).size (numbers c.args.order.now) (length c.args.rows.now) p.ordered (omega (arith, c.size-n.ensures.value, c.if-rows-from.false, c.from.ensures));
      written = fills_since c.args.rows.now (λ k l. c.clear.ensures.behind k (omega (arith, l, c.size-n.ensures.value))) (filling_all (g.P.ReadablePlan.meaning c.args.plan.now) (g.met.P.ReadablePlan.sound c.args.plan.now) (numbers c.args.order.now) p.order c.loop-v.invariant (omega (arith, p.order.long, length-numbers c.args.order.now, c.loop-v-test.false, c.loop-v.auto.v-index-end)));
    }
