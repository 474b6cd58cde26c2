-- The rule by which a search orders the junctions of a plan: places are given from the last down, each to a junction whose label is greatest.
use Rattle.std.specs.Prelude.{◌≡◌, ℕ, suc, ◌<◌, Bool, true, false, cond, List, [], ◌∷◌, ◌++◌, drop, fold, nat_lt, slice_index}
use Rattle.std.specs.declared.cmp.Ordering.TheVariants.{Less, Equal, Greater}
use Rattle.std.specs.declared.cmp.Ordering.{Ordering}
use Rattle.plan.specs.Orders.{ordered}
use Rattle.plan.specs.Plans.{Plan}

-- the places, falling, of the junctions of a list that are joined to v; the first of the list has place q
abbrev pub marks : (ℕ → ℕ → Bool) → ℕ → ℕ → List ℕ → List ℕ
marks joins v q [] = []
marks joins v q (u ∷ us) = marks joins v (suc q) us ++ cond (joins u v) (q ∷ []) []

-- the label of v once the places above p are given: empty, raised by the places of its neighbours among them, from the highest down
abbrev pub label : {L : Type 0} → L → (L → ℕ → L) → (ℕ → ℕ → Bool) → List ℕ → ℕ → ℕ → L
label blank raised joins us p v = fold raised blank (marks joins v (suc p) (drop p us))

-- whether u comes before v, by how v's label ranks against u's: it is less, or equal with u the lower number
abbrev pub outranks : Ordering → ℕ → ℕ → Bool
outranks Less u v = true
outranks Equal u v = nat_lt u v
outranks Greater u v = false

-- us, the junctions of places 1 to n, is an order by the rule: the junction of place k + 1 outranks, by the labels once the places above k + 1 are given, each junction of a lower place i + 1
pub record Searched {L : Type 0} (blank : L) (raised : L → ℕ → L) (compared : L → L → Ordering) (p : Plan) (us : List ℕ) : Type 0 where
  pub order : ordered p.size us ≡ true
  pub greatest : (k i : ℕ) → i < k → k < p.size → outranks (compared (label blank raised p.joins us (suc k) (slice_index us i)) (label blank raised p.joins us (suc k) (slice_index us k))) (slice_index us k) (slice_index us i) ≡ true
