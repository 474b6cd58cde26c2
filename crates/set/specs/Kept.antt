-- The ledger that a set keeps.
use Rattle.std.specs.Prelude.{ℕ, not}
use Rattle.plan.specs.Plans.{Plan}
use Rattle.isolation.specs.States.{opens}
use Rattle.set.specs.declared.set.Set.{Set}
use Rattle.set.specs.Ledgers.{Ledger}

-- of a set over registers that mean a plan and a spare
abbrev pub ledger : {R : Type 0} → (R → Plan) → (R → ℕ) → Set R → Ledger
ledger meaning left s = record {
  base = meaning s.layer.below;
  spare = left s.layer.below;
  shut = λ v. not (opens s.layer.states.table v);
}
