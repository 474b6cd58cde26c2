use Rattle.std.proofs.Common.{refl}
use Rattle.worked.proofs.Computed.{not_searched}
use Rattle.worked.proofs.numbers_are_no_search.Goals as goal

pub returns : goal.returns
returns c = record { value = refl; searched = not_searched }
