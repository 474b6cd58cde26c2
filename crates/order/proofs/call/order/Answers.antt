use Rattle.std.proofs.Common.{◌≡◌, ℕ, ◌+◌, ◌*◌, ◌≤◌, List, length, take, sym, ap, ◌∙◌, subst, ap₂, arith}
use Rattle.std.proofs.lemmas.Bool.{cond-false}
use Rattle.plan.specs.Memory.{KeptFrom}
use Rattle.plan.specs.Orders.{numbers}
use Rattle.plan.specs.Plans.{Plan, Sound}
use Rattle.plan.proofs.Counts.{pairs_few}
use Rattle.plan.proofs.Verdicts.{carried≢refused}
use Rattle.search.specs.Rule.{Searched}
use Rattle.search.proofs.Standing.{late_neighbours_lem}
use Rattle.search.specs.Theorems.{LateNeighbours}
use Rattle.elimination.specs.Elimination.{fill, cells}
use Rattle.elimination.specs.Rows.{Fills, fill_verdict}
use Rattle.order.specs.Reports.{RingShown}
use Rattle.order.proofs.Verdict.{least, free_count, shown_none, shown_some, part_numbers, fill_carried, long_enough}
use Rattle.order.proofs.call.order.Given as given
use Rattle.order.proofs.call.order.Goals as goal
use Rattle.order.proofs.call.order.Goals.{In_ok-search, In_ok-fill, then-fill-gt0+in_ok-length, else-fill-gt0}

-- the search was carried out
found : (g : given.Over) (c : In_ok-search g) → Searched (g.K.Kind.blank c.args.kind.now) (g.K.Kind.raised c.args.kind.now) (g.K.Kind.compared c.args.kind.now) (g.P.ReadablePlan.meaning c.args.plan.now) (take (g.P.ReadablePlan.meaning c.args.plan.now).size (numbers c.search.new.places))
found g c = c.in_ok-search.ensures.left.0

pub returns-in_err-fill : goal.returns-in_err-fill
returns-in_err-fill g c =
    let p : Plan = g.P.ReadablePlan.meaning c.args.plan.now in
    let e : c.from-n.result ≡ p.size = c.from-n.ensures ∙ c.size.ensures.value in
    let us = part_numbers c.search.new.places c.from-n.result p.size e in
    absurd (carried≢refused _ _ (c.in_err-fill.ensures.answer ∙ ap (λ (xs : List ℕ). fill_verdict p.size xs (length c.args.rows.now)) us ∙ fill_carried p.size _ _ (found g (goal.at.returns-in_err-fill g c).In_ok-search).order (omega (arith, c.if-rows-n.false, e))))

-- the fill that was worked out is that of the order found
filled : (g : given.Over) (c : In_ok-fill g) → Fills (g.P.ReadablePlan.meaning c.args.plan.now) (take (g.P.ReadablePlan.meaning c.args.plan.now).size (numbers c.search.new.places)) c.args.rows.now c.in_ok-fill.fill c.fill.new.rows
filled g c =
    let p : Plan = g.P.ReadablePlan.meaning c.args.plan.now in
    subst (λ (xs : List ℕ). Fills p xs c.args.rows.now c.in_ok-fill.fill c.fill.new.rows) (part_numbers c.search.new.places c.from-n.result p.size (c.from-n.ensures ∙ c.size.ensures.value)) c.in_ok-fill.ensures.written

pub overflow_add-cells : goal.overflow_add-cells
overflow_add-cells g c =
    let p : Plan = g.P.ReadablePlan.meaning c.args.plan.now in
    let few : p.size ≤ 512 = (g.met.P.ReadablePlan.sound c.args.plan.now).few in
    let f = filled g (goal.at.overflow_add-cells g c).In_ok-fill in
    record { fits = omega (arith, c.pipes.ensures, f.counted, pairs_few p.joins p.size few, pairs_few (fill p.joins (take p.size (numbers c.search.new.places))) p.size few) }

-- what the laws of the kind give the search
late : (g : given.Over) (c : In_ok-search g) → LateNeighbours (g.K.Kind.blank c.args.kind.now) (g.K.Kind.raised c.args.kind.now) (g.K.Kind.compared c.args.kind.now)
late g c = late_neighbours_lem _ _ _ (g.K.Kind.stands c.args.kind.now) (g.met.K.Kind.lawful c.args.kind.now)

-- the ring beside the order, and the scratch that was used for it
shown : (g : given.Over) (c : goal.After-pipes g) → RingShown (g.P.ReadablePlan.meaning c.args.plan.now) c.in_ok-fill.fill c.args.ring.now c.if-fill-gt0.ring c.if-fill-gt0.length × KeptFrom (2 * (g.P.ReadablePlan.meaning c.args.plan.now).size) c.args.scratch.now c.if-fill-gt0.scratch
shown g c =
    let p : Plan = g.P.ReadablePlan.meaning c.args.plan.now in
    let sound : Sound p = g.met.P.ReadablePlan.sound c.args.plan.now in
    let us : List ℕ = take p.size (numbers c.search.new.places) in
    let s = found g (goal.at.returns g c).In_ok-search in
    let l = late g (goal.at.returns g c).In_ok-search in
    let f = (filled g (goal.at.returns g c).In_ok-fill).counted in
    let kept = c.in_ok-search.ensures.left.3 in
    elim c.if-fill-gt0.branch [
      | then-fill-gt0+in_ok-length w ↦
          (let r = w.in_ok-length.ensures.left in (
            rw (w.ring-is, w.length-is) (shown_some _ _ _ l p sound us s c.in_ok-fill.fill _ _ _ f w.if-fill-gt0.true r.0),
            rw w.scratch-is (λ k d h. r.1 k d h ∙ kept k d h),
          ))
      | else-fill-gt0 w ↦ (
        rw (w.ring-is, w.length-is) (shown_none _ _ _ l p sound us s c.in_ok-fill.fill c.args.ring.now f (omega (arith, w.if-fill-gt0.false))),
        rw w.scratch-is kept,
      )
    ]

pub returns : goal.returns
unfolding cells
returns g c =
    let p : Plan = g.P.ReadablePlan.meaning c.args.plan.now in
    let sound : Sound p = g.met.P.ReadablePlan.sound c.args.plan.now in
    let e : c.from-n.result ≡ p.size = c.from-n.ensures ∙ c.size.ensures.value in
    let s = found g (goal.at.returns g c).In_ok-search in
    let l = late g (goal.at.returns g c).In_ok-search in
    let f = filled g (goal.at.returns g c).In_ok-fill in
    let ring = shown g c in
    let left = c.in_ok-search.ensures.left in
    record {
      verdict = sym (cond-false _ _ _ (long_enough p.size _ _ _ _ _ (omega (arith, c.if-places-n.false, e)) (omega (arith, c.if-ring-n.false, e)) (omega (arith, c.if-rows-n.false, e)) (omega (arith, c.if-labels-n.false, e)) (omega (arith, c.if-scratch-n.false, e))));
      left = (
        record {
          searched = s;
          fill_rows = f.rows;
          count = f.counted;
          cells_are = ap₂ (λ (x y : ℕ). x + y) c.pipes.ensures f.counted;
          free = free_count _ _ _ l p sound _ s c.in_ok-fill.fill f.counted;
          least = least _ _ _ l p sound _ s;
          shown = ring.0;
          places_behind = left.1;
          rows_behind = f.behind;
        },
        left.2,
        ring.1,
      );
    }
