use Rattle.std.proofs.Common.{refl}
use Rattle.calls.proofs.Telling.{run_laws_lem}
use Rattle.calls.proofs.laws.run_laws.Goals as goal

pub returns : goal.returns
returns g c = record { value = refl; laws = run_laws_lem _ _ _ (λ k. (g.met.K.Kind.lawful k).turns) }
