use Rattle.std.proofs.Common.{refl}
use Rattle.elimination.proofs.Laws.{path_law_lem}
use Rattle.elimination.proofs.theorems.path_law.Goals as goal

pub returns : goal.returns
returns c = record { law = path_law_lem; two = refl }
