-- From a call on the layer to the step of the ledger.
use Rattle.std.proofs.Common.{◌≡◌, ℕ, Bool, not, ap}
use mathlib.Core.Path.{fun_ext}
use mathlib.Core.Bool.{not-not}
use Rattle.plan.specs.Plans.{Plan}
use Rattle.isolation.specs.Layers.{through}
use Rattle.set.specs.Ledgers.{Ledger, seen}

-- the ledger of a plan, a spare and the junctions that are open
abbrev pub over : Plan → ℕ → (ℕ → Bool) → Ledger
over p s o = record { base = p; spare = s; shut = λ v. not (o v) }

pub seen-through : (p : Plan) (s : ℕ) (o : ℕ → Bool) → seen (over p s o) ≡ through p o
seen-through p s o = ap (through p) (fun_ext (λ v. not-not (o v)))
