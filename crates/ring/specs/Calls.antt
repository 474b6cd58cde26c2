-- What the search for a ring answers, and what it leaves in the memory that it was handed.
use Rattle.std.specs.Prelude.{◌≡◌, ℕ, ◌*◌, ◌≤◌, Bool, ◌||◌, List, length, take, Ok, Err, Result, ◌≢◌, nat_lt}
use Rattle.plan.specs.declared.number.Junction.{Junction}
use Rattle.plan.specs.declared.refusal.Refusal.{Refusal}
use Rattle.plan.specs.Memory.{KeptFrom}
use Rattle.plan.specs.Orders.{numbers}
use Rattle.plan.specs.Plans.{Plan}
use Rattle.ring.specs.Rings.{Ring, Listed, NoRing}

-- fewer than n entries for the ring or 2 n of scratch
abbrev pub short : ℕ → List Junction → List ℕ → Bool
short n ring scratch = nat_lt (length ring) n || nat_lt (length scratch) (2 * n)

-- the ring list begins with a ring of k junctions, and stays behind it
pub record Lists (p : Plan) (before : List Junction) (k : ℕ) (after : List Junction) : Type 0 where
  pub long : 4 ≤ k
  pub upto : k ≤ p.size
  pub ring : Ring p (take k (numbers after))
  pub listed : Listed (take k (numbers after))
  pub behind : KeptFrom k before after

-- the answer k: 0 where the plan has no ring, and the ring list stays; else the list begins with a ring of k junctions
pub record Found (p : Plan) (before : List Junction) (k : ℕ) (after : List Junction) : Type 0 where
  pub none : k ≡ 0 → NoRing p × (after ≡ before)
  pub some : (k ≢ 0) → Lists p before k after

abbrev pub FindRing : Plan → Result ℕ Refusal → List Junction → List ℕ → List Junction → List ℕ → Type 0
FindRing p (Ok k) ring scratch ring' scratch' = Found p ring k ring' × KeptFrom (2 * p.size) scratch scratch'
FindRing p (Err e) ring scratch ring' scratch' = (ring' ≡ ring) × (scratch' ≡ scratch)
