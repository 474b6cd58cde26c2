use Rattle.std.proofs.Common.{◌≡◌, ◌<◌, ◌≤◌, length, get_or, sym, ◌∙◌, arith}
use Rattle.plan.specs.Orders.{numbers}
use Rattle.plan.proofs.Numbers.{length-numbers, getD_numbers}
use Rattle.plan.proofs.PipeLaws.{within_parts}
use Rattle.elimination.proofs.Placing.{located_none, located_more, ordered_all, places_all, not-ordered-outside, not_ordered_twice}
use Rattle.elimination.proofs.order.PlaceTable.of_order.Goals as goal
use Rattle.elimination.proofs.order.PlaceTable.of_order.Goals.{then-not-is_within-via-then-not-is_within, then-not-is_within-via-else-not-is_within+then-places-index-ne0}

pub loop-i-init : goal.loop-i-init
loop-i-init c = located_none c.args.n (numbers c.args.order.now)

pub returns-then-not-is_within : goal.returns-then-not-is_within
returns-then-not-is_within c =
    let l : c.loop-i.i < c.args.n = omega (arith, c.loop-i-test.true, c.if-order-from.false, c.from.ensures) in
    let e : get_or (numbers c.args.order.now) c.loop-i.i 0 ≡ (get_or c.args.order.now c.loop-i.i (record { 0 = 0 })).0 = getD_numbers c.args.order.now c.loop-i.i in
    elim c.then-not-is_within.branch [
      | then-not-is_within-via-then-not-is_within w ↦ not-ordered-outside c.args.n (numbers c.args.order.now) c.loop-i.i l (rw e (sym w.if-not-is_within.ensures))
      | then-not-is_within-via-else-not-is_within+then-places-index-ne0 w ↦
          let i : (1 ≤ (get_or c.args.order.now c.loop-i.i (record { 0 = 0 })).0) × ((get_or c.args.order.now c.loop-i.i (record { 0 = 0 })).0 ≤ c.args.n) = within_parts c.args.n (get_or c.args.order.now c.loop-i.i (record { 0 = 0 })).0 (sym w.if-not-is_within.ensures) in
          not_ordered_twice c.args.n (numbers c.args.order.now) c.loop-i.i c.loop-i.places c.loop-i.invariant l (rw e i.0) (rw (e, ← w.index.ensures) w.if-places-index-ne0.true)
    ]

pub loop-i-preserved : goal.loop-i-preserved
loop-i-preserved c =
    let i : (1 ≤ (get_or c.args.order.now c.loop-i.i (record { 0 = 0 })).0) × ((get_or c.args.order.now c.loop-i.i (record { 0 = 0 })).0 ≤ c.args.n) = within_parts c.args.n (get_or c.args.order.now c.loop-i.i (record { 0 = 0 })).0 (sym c.if-not-is_within.ensures) in
    rw c.index-in-loop-i.ensures
    (located_more c.args.n (numbers c.args.order.now) c.loop-i.i c.loop-i.places c.loop-i.invariant
    (get_or c.args.order.now c.loop-i.i (record { 0 = 0 })).0
    (getD_numbers c.args.order.now c.loop-i.i)
    i.0 i.1 c.requires (rw c.index.ensures at c.if-places-index-ne0.false))

pub returns : goal.returns
returns c =
    let long : length (numbers c.args.order.now) ≡ c.args.n = length-numbers c.args.order.now ∙ c.if-order-from.false ∙ c.from.ensures in
    let end : c.loop-i.i ≡ c.args.n = omega (arith, long, length-numbers c.args.order.now, c.loop-i-test.false, c.loop-i.auto.i-end) in (
      ordered_all c.args.n (numbers c.args.order.now) c.loop-i.i c.loop-i.places c.loop-i.invariant end long,
      places_all c.args.n (numbers c.args.order.now) c.loop-i.i c.loop-i.places c.loop-i.invariant end long,
    )
