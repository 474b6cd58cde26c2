use Rattle.std.proofs.Common.{refl}
use Rattle.search.proofs.Choosing.{by_first, by_second}
use Rattle.search.proofs.either_search.either_searches_by_its_choice.Goals as goal

pub returns : goal.returns
returns g c = record {
  value = refl;
  first = by_first g.A.Kind.blank g.B.Kind.blank g.A.Kind.raised g.B.Kind.raised g.A.Kind.compared g.B.Kind.compared c.args.a.now;
  second = by_second g.A.Kind.blank g.B.Kind.blank g.A.Kind.raised g.B.Kind.raised g.A.Kind.compared g.B.Kind.compared c.args.b.now;
}
