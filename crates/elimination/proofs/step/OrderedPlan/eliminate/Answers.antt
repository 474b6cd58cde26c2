use Rattle.std.proofs.Common.{arith}
use Rattle.elimination.specs.Steps.{at}
use Rattle.elimination.proofs.Parents.{known-size, eliminates_none}
use Rattle.elimination.proofs.step.OrderedPlan.eliminate.Goals as goal

pub take_over-requires : goal.take_over-requires
take_over-requires g c =
    record {
      table = c.requires.table;
      first = c.requires.junction;
      second = known-size (g.met.P.ReadablePlan.sound c.args.self.now.plan.now) c.requires.table c.args.v.0 c.in-Some.p.0 c.in-Some.ensures.0;
      later = c.in-Some.ensures.1;
    }

pub returns-in-None : goal.returns-in-None
returns-in-None g c =
    record {
      rows = eliminates_none (g.P.ReadablePlan.meaning c.args.self.now.plan.now) c.args.rows.now (at c.args.self.now.places.places) c.args.v.0 c.in-None.ensures;
      count = omega arith;
    }
