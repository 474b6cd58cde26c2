-- The breadth-first search around a junction v, from its neighbour a.
use Rattle.std.specs.Prelude.{◌≡◌, ℕ, zero, suc, ◌+◌, ◌-◌, ◌<◌, ◌≤◌, true, false, not, List, Some, None, Option, ◌==◌, ◌≢◌, slice_index}
use Rattle.std.proofs.Common.{ap, arith}
use Rattle.std.proofs.Props.{props}
use mathlib.Core.HLevel.{Σ_prop_path}
use Rattle.plan.specs.Plans.{Plan, count}

-- scratch holds the queue of reached junctions, and behind it for each of the n junctions 0, or one more than the queue index of its forerunner
abbrev pub queue : List ℕ → ℕ → ℕ
queue s i = slice_index s i

abbrev pub mark : ℕ → List ℕ → ℕ → ℕ
mark n s w = slice_index s (n + (w - 1))

-- the junctions through which the search goes: above v and not joined to it
pub record Open (p : Plan) (v w : ℕ) : Type 0 where
  pub above : v < w
  pub upto : w ≤ p.size
  pub apart : p.joins v w ≡ false

-- v's neighbours a and c, both above it and not joined to each other
pub record Corner (p : Plan) (v a c : ℕ) : Type 0 where
  pub above : v < a
  pub between : a < c
  pub near : p.joins v a ≡ true
  pub far : p.joins v c ≡ true
  pub open' : p.joins a c ≡ false

-- the queue q of so many junctions, a first, with the marks m
pub record Queue (p : Plan) (v a size : ℕ) (q m : ℕ → ℕ) : Type 0 where
  pub some : 1 ≤ size
  pub few : size ≤ p.size
  pub first : q 0 ≡ a
  pub inside : (i : ℕ) → i < size → (1 ≤ q i) × (q i ≤ p.size)
  pub free : (i : ℕ) → 0 < i → i < size → Open p v (q i)
  pub marked : (i : ℕ) → i < size → 1 ≤ m (q i)
  -- the forerunner stands before, is joined, and is the first in the queue that is
  pub before : (i : ℕ) → 0 < i → i < size → m (q i) ≤ i
  pub joined : (i : ℕ) → 0 < i → i < size → p.joins (q (m (q i) - 1)) (q i) ≡ true
  pub earliest : (i k : ℕ) → 0 < i → i < size → k + 1 < m (q i) → p.joins (q k) (q i) ≡ false
  -- no junction comes twice, and just those in the queue are marked
  pub once : (i j : ℕ) → i < j → j < size → q i ≢ q j
  pub listed : (w : ℕ) → 1 ≤ w → w ≤ p.size → (m w ≢ 0) → (i : ℕ) × (i < size) × (q i ≡ w)
  pub counted : count (λ k. not (m (suc k) == 0)) p.size ≡ size

-- what the first `head` of the queue are joined to is reached
abbrev pub Spread : Plan → ℕ → ℕ → (ℕ → ℕ) → (ℕ → ℕ) → Type 0
Spread p v head q m = (k w : ℕ) → k < head → Open p v w → p.joins (q k) w ≡ true → m w ≢ 0

-- the first index of the queue whose junction is joined to c, or nothing where none is
abbrev pub Meets : Plan → ℕ → ℕ → (ℕ → ℕ) → Option ℕ → Type 0
Meets p c size q None = (i : ℕ) → i < size → p.joins (q i) c ≡ false
Meets p c size q (Some i) = (i < size) × (p.joins (q i) c ≡ true) × ((j : ℕ) → j < i → p.joins (q j) c ≡ false)

-- the queue index j forerunners back from index i
abbrev pub back : (ℕ → ℕ) → (ℕ → ℕ) → ℕ → ℕ → ℕ
back q m i zero = i
back q m i (suc j) = m (q (back q m i j)) - 1

-- a junction stands at one index of a queue in which none comes twice, and a queue is one in one way
index_once : {size w : ℕ} {q : ℕ → ℕ} → ((i j : ℕ) → i < j → j < size → q i ≢ q j) → IsProp ((i : ℕ) × (i < size) × (q i ≡ w))
index_once {size} {w} {q} once x y =
    let e : x.0 ≡ y.0 = grind (arith, once) in
    ap (λ (z : (i : ℕ) × ((i < size) × (q i ≡ w))). (z.0, z.1.0, z.1.1)) (Σ_prop_path (λ i. hlevel props) {u = (x.0, (x.1, x.2))} {v = (y.0, (y.1, y.2))} e)

pub Queue-prop : (p : Plan) (v a size : ℕ) (q m : ℕ → ℕ) → IsProp (Queue p v a size q m)
Queue-prop p v a size q m = hlevel (props, index_once)
