use Rattle.std.proofs.Common.{refl}
use Rattle.set.proofs.Loads.{load_laws}
use Rattle.set.proofs.laws.load_writes_the_pipes_of_its_image.Goals as goal

pub returns : goal.returns
returns c = record { value = refl; laws = load_laws }
