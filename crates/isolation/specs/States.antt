-- The states of the junctions: entry v - 1 of the table is that of junction v.
use Rattle.std.specs.Prelude.{ℕ, ◌-◌, Bool, true, false, not, ◌||◌, List, slice_index_or}
use Rattle.plan.specs.Plans.{within}
use Rattle.plan.specs.Refusals.{Verdict}
use Rattle.isolation.specs.Layers.{shut_verdict, open_verdict}
use Rattle.isolation.specs.declared.state.State.{State}
use Rattle.isolation.specs.declared.state.State.TheVariants.{Open, Shut}

abbrev pub is_open : State → Bool
is_open Open = true
is_open Shut = false

-- junction v is open; a number from outside 1 to 512 is never shut
abbrev pub opens : List State → ℕ → Bool
opens table v = not (within 512 v) || is_open (slice_index_or table (v - 1) Open)

-- the checks of the call that puts v into a state, on a plan of n junctions
abbrev pub put_verdict : ℕ → (ℕ → Bool) → ℕ → State → Verdict
put_verdict n open' v Open = open_verdict n open' v
put_verdict n open' v Shut = shut_verdict n open' v
