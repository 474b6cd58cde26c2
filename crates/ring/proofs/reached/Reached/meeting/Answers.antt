use Rattle.std.proofs.Common.{◌≡◌, ℕ, ◌<◌, ◌≤◌, List, length, take, true, false, Some, None, Option, arith, rules, tests}
use Rattle.std.specs.List.{AllWithin, HoldsAt}
use Rattle.std.specs.Option.{MatchOption}
use Rattle.std.proofs.lemmas.Iterator.{IsFirst-from_position, YieldsList-from_slice}
use Rattle.std.proofs.lemmas.Grind.{common_steps}
use Rattle.plan.specs.Plans.{Plan}
use Rattle.ring.specs.Reach.{queue, Meets}
use Rattle.ring.proofs.reached.Reached.meeting.Goals as goal

module _ (p : Plan) (c size : ℕ) (s : List ℕ) (room : size ≤ length s) where
  met : (r : Option ℕ) → MatchOption r (AllWithin (λ u. p.joins u c ≡ false) (take size s) 0 (length (take size s))) (λ i. (i < length (take size s)) × HoldsAt (λ u. p.joins u c ≡ true) (take size s) i × AllWithin (λ u. p.joins u c ≡ false) (take size s) 0 i) → Meets p c size (queue s) r
  met None h = λ i l. grind (arith, common_steps, h i 0)
  met (Some i) h = (grind (arith, common_steps), grind (arith, common_steps, h.1 0), λ j l. grind (arith, common_steps, h.2 j 0))

pub returns : goal.returns
returns g c =
    let p : Plan = g.P.ReadablePlan.meaning c.args.self.now.plan.now in
    met p c.args.c.0 c.args.self.now.size c.args.self.now.scratch.now (omega arith) _
    (IsFirst-from_position _ _ c.position.result (λ u. p.joins u c.args.c.0 ≡ true) (λ u. p.joins u c.args.c.0 ≡ false) c.position.ensures.ran (YieldsList-from_slice _ c.iter.ensures.rest) (λ x q k. search (rules, tests)) (λ x q k. search (rules, tests)))
