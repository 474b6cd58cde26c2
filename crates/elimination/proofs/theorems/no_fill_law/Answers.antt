use Rattle.std.proofs.Common.{refl}
use Rattle.elimination.proofs.Laws.{no_fill_law_lem}
use Rattle.elimination.proofs.theorems.no_fill_law.Goals as goal

pub returns : goal.returns
returns c = record { law = no_fill_law_lem; one = refl }
