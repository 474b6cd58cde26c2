-- A table with every entry open.
use Rattle.std.proofs.Common.{◌≡◌, ℕ, zero, suc, get_or, replicate, refl}
use Rattle.isolation.specs.declared.state.State.TheVariants.{Open}

pub replicate_open : (n i : ℕ) → get_or (replicate n Open) i Open ≡ Open
replicate_open zero i = refl
replicate_open (suc n) zero = refl
replicate_open (suc n) (suc i) = replicate_open n i
