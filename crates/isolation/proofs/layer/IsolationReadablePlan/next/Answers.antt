use Rattle.std.proofs.Common.{ap, sym, rules, tests}
use Rattle.plan.specs.declared.number.Junction.{Junction}
use Rattle.isolation.specs.States.{opens}
use Rattle.isolation.proofs.Walk.{first_open}
use Rattle.isolation.proofs.layer.IsolationReadablePlan.next.Goals as goal

pub returns : goal.returns
returns g c =
    let b = c.args.self.now.below in
    let o = opens c.args.self.now.states.table in
    let s = c.neighbours_above.result in
    let made = c.neighbours_above.ensures in
    first_open g.R.ReadablePlan.meaning b o c.args.v c.args.w.0 _ _ (g.met.R.ReadablePlan.sound b) (sym c.if-not-is_open.ensures) (λ u q m. search (rules, tests)) (λ u q m. search (rules, tests)) s c.find.new.self c.find.result made.plan made.of (ap (λ (u : Junction). u.0) made.last) c.find.ensures.ran
