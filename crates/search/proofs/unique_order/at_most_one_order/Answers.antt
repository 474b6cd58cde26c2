use Rattle.std.proofs.Common.{refl}
use Rattle.search.proofs.Unique.{at_most_one}
use Rattle.search.proofs.unique_order.at_most_one_order.Goals as goal

pub returns : goal.returns
returns g c =
    let k = c.args.kind.now in
    record { value = refl; unique = at_most_one (g.K.Kind.blank k) (g.K.Kind.raised k) (g.K.Kind.compared k) (g.met.K.Kind.lawful k).turns }
