-- The memory that a search is handed: n places, n labels and 2 n entries of scratch.
use Rattle.std.specs.Prelude.{◌≡◌, ℕ, ◌*◌, Bool, ◌||◌, List, length, take, nat_lt}
use Rattle.std.specs.declared.cmp.Ordering.{Ordering}
use Rattle.plan.specs.declared.number.Junction.{Junction}
use Rattle.plan.specs.Memory.{KeptFrom}
use Rattle.plan.specs.Orders.{numbers}
use Rattle.plan.specs.Plans.{Plan}
use Rattle.plan.specs.Refusals.{Verdict, carried, refused}
use Rattle.search.specs.Rule.{Searched}

-- memory is short: fewer than n places, n labels or 2 n entries of scratch
abbrev pub short : {L : Type 0} → ℕ → List Junction → List L → List ℕ → Bool
short n places labels scratch = nat_lt (length places) n || nat_lt (length labels) n || nat_lt (length scratch) (2 * n)

-- what a search leaves in the memory that it was handed
abbrev pub Leaves : {L : Type 0} → L → (L → ℕ → L) → (L → L → Ordering) → Plan → List Junction → List L → List ℕ → Verdict → List Junction → List L → List ℕ → Type 0
Leaves blank raised compared p places labels scratch carried places' labels' scratch' = Searched blank raised compared p (take p.size (numbers places')) × KeptFrom p.size places places' × KeptFrom p.size labels labels' × KeptFrom (2 * p.size) scratch scratch'
Leaves blank raised compared p places labels scratch (refused k vs) places' labels' scratch' = (places' ≡ places) × (labels' ≡ labels) × (scratch' ≡ scratch)
