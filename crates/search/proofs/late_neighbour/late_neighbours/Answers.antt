use Rattle.std.proofs.Common.{refl}
use Rattle.search.proofs.Standing.{late_neighbours_lem}
use Rattle.search.proofs.late_neighbour.late_neighbours.Goals as goal

pub returns : goal.returns
returns g c =
    let k = c.args.kind.now in
    record { value = refl; late = late_neighbours_lem (g.K.Kind.blank k) (g.K.Kind.raised k) (g.K.Kind.compared k) (g.K.Kind.stands k) (g.met.K.Kind.lawful k) }
