-- A walk along the neighbours of a junction.
use Rattle.std.specs.Prelude.{◌≡◌, Option, unwrap_or}
use Rattle.plan.specs.Plans.{Plan, NextNeighbour}
use Rattle.plan.specs.declared.number.Junction.{Junction}

-- one step of a walk along the neighbours of v, from behind last: it meets the next neighbour, if any, and stands there
pub record Steps (p : Plan) (v last : Junction) (met : Option Junction) (v' last' : Junction) : Type 0 where
  pub meets : NextNeighbour p v.0 last.0 met
  pub stays : v' ≡ v
  pub stands : last' ≡ unwrap_or met last
