use Rattle.std.proofs.Common.{◌≡◌, ◌∙◌, ℕ, suc, ◌-◌, ◌*◌, ◌≤◌, length, subst, arith, rules}
use Rattle.plan.specs.Plans.{Plan}
use Rattle.plan.specs.Memory.{KeptFrom}
use Rattle.search.proofs.Filling.{kept_trans}
use Rattle.search.proofs.Going.{Going, going_end}
use Rattle.search.proofs.Stepping.{turn}
use Rattle.search.proofs.order.search.Goals as goal

pub loop-p-preserved : goal.loop-p-preserved
loop-p-preserved g c =
    let k = c.args.kind.now in
    let p : Plan = g.P.ReadablePlan.meaning c.args.plan.now in
    let q : ℕ = c.loop-p.p - 1 in
    let one : c.loop-p.p ≡ suc (c.loop-p.p - 1) = omega arith in
    let going : Going (g.K.Kind.blank k) (g.K.Kind.raised k) (g.K.Kind.compared k) p c.loop-p.places c.loop-p.labels c.loop-p.scratch (suc q) = subst (λ (m : ℕ). Going (g.K.Kind.blank k) (g.K.Kind.raised k) (g.K.Kind.compared k) p c.loop-p.places c.loop-p.labels c.loop-p.scratch m) one c.loop-p.invariant.0 in
    let wide : p.size ≤ length c.loop-p.scratch = omega arith in
    let now : Going (g.K.Kind.blank k) (g.K.Kind.raised k) (g.K.Kind.compared k) p c.exchange.new.places c.raise_neighbours.new.labels c.exchange.new.scratch q × KeptFrom p.size c.loop-p.places c.exchange.new.places × KeptFrom p.size c.loop-p.labels c.raise_neighbours.new.labels × KeptFrom p.size c.loop-p.scratch c.exchange.new.scratch
    = turn (g.K.Kind.blank k) (g.K.Kind.raised k) (g.K.Kind.compared k) p c.loop-p.places c.exchange.new.places c.loop-p.labels c.raise_neighbours.new.labels c.loop-p.scratch c.exchange.new.scratch q c.choose-best.result going wide c.choose-best.ensures c.exchange.ensures.places c.exchange.ensures.scratch c.raise_neighbours.ensures in (
      now.0,
      kept_trans p.size p.size c.start.new.places c.loop-p.places c.exchange.new.places (omega arith) c.loop-p.invariant.1 now.1,
      kept_trans p.size p.size c.start.new.labels c.loop-p.labels c.raise_neighbours.new.labels (omega arith) c.loop-p.invariant.2 now.2,
      kept_trans p.size p.size c.start.new.scratch c.loop-p.scratch c.exchange.new.scratch (omega arith) c.loop-p.invariant.3 now.3,
    )

pub returns : goal.returns
returns g c =
    let k = c.args.kind.now in
    let p : Plan = g.P.ReadablePlan.meaning c.args.plan.now in
    let none : c.loop-p.p ≡ 0 = omega arith in
    let size : c.from-n.result ≡ p.size = c.from-n.ensures ∙ c.size.ensures.value in
    let going : Going (g.K.Kind.blank k) (g.K.Kind.raised k) (g.K.Kind.compared k) p c.loop-p.places c.loop-p.labels c.loop-p.scratch 0 = subst (λ (m : ℕ). Going (g.K.Kind.blank k) (g.K.Kind.raised k) (g.K.Kind.compared k) p c.loop-p.places c.loop-p.labels c.loop-p.scratch m) none c.loop-p.invariant.0 in
    record {
      verdict = search rules;
      left = (
        going_end (g.K.Kind.blank k) (g.K.Kind.raised k) (g.K.Kind.compared k) p c.loop-p.places c.loop-p.labels c.loop-p.scratch going,
        kept_trans p.size p.size c.args.places.now c.start.new.places c.loop-p.places (omega arith) (rw size at c.start.ensures.behind.0) c.loop-p.invariant.1,
        kept_trans p.size p.size c.args.labels.now c.start.new.labels c.loop-p.labels (omega arith) (rw size at c.start.ensures.behind.1) c.loop-p.invariant.2,
        kept_trans p.size (2 * p.size) c.args.scratch.now c.start.new.scratch c.loop-p.scratch (omega arith) (rw size at c.start.ensures.behind.2) c.loop-p.invariant.3,
      );
    }
