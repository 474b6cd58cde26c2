-- What the fill of an order is, without eliminating: two laws, and small plans worked out.
use Rattle.std.specs.Prelude.{◌≡◌, ℕ, zero, suc, ◌<◌, Bool, true, false, cond, ◌||◌, ◌↔◌, List, [], ◌∷◌, ◌≢◌}
use Rattle.plan.specs.Plans.{Plan, Sound, within, pairs}
use Rattle.plan.specs.Orders.{ordered, place}
use Rattle.plan.specs.Refusals.Verdict.{refused}
use Rattle.plan.specs.Registers.{same_pair}
use Rattle.elimination.specs.Elimination.{fill, filled, cells}
use Rattle.elimination.specs.Rows.{fill_verdict}

-- the pipes of a list of pairs
abbrev pub pipes_of : List (ℕ × ℕ) → ℕ → ℕ → Bool
pipes_of [] v w = false
pipes_of (c ∷ cs) v w = same_pair c.0 c.1 v w || pipes_of cs v w

-- the pairs v, w with v from 1 to k that pass a test, ahead of a list
abbrev pub column : (ℕ → ℕ → Bool) → ℕ → ℕ → List (ℕ × ℕ) → List (ℕ × ℕ)
column t w zero ps = ps
column t w (suc k) ps = column t w k (cond (t (suc k) w) ((suc k, w) ∷ ps) ps)

-- the pairs v, w of 1 to n with v below w that pass a test, ahead of a list
abbrev pub listed : (ℕ → ℕ → Bool) → ℕ → List (ℕ × ℕ) → List (ℕ × ℕ)
listed t zero ps = ps
listed t (suc n) ps = listed t n (column t (suc n) n ps)

-- the fill pairs of an order on n junctions with these pipes
abbrev pub fill_pairs : ℕ → List (ℕ × ℕ) → List ℕ → List (ℕ × ℕ)
fill_pairs n cs us = listed (fill (pipes_of cs) us) n []

-- the plan of n junctions, all in service, with these pipes
abbrev pub plan_of : ℕ → List (ℕ × ℕ) → Plan
plan_of n cs = record { size = n; serves = within n; joins = pipes_of cs }

abbrev pub ring_of_four : List (ℕ × ℕ)
ring_of_four = (1, 2) ∷ (2, 3) ∷ (3, 4) ∷ (4, 1) ∷ []

abbrev pub ring_of_five : List (ℕ × ℕ)
ring_of_five = (1, 2) ∷ (2, 3) ∷ (3, 4) ∷ (4, 5) ∷ (5, 1) ∷ []

-- small plans worked out
pub record WorkedPlans : Type 0 where
  pub ring_of_four_from_3 : fill_pairs 4 ring_of_four (3 ∷ 4 ∷ 2 ∷ 1 ∷ []) ≡ (2, 4) ∷ []
  pub ring_of_four_from_4 : fill_pairs 4 ring_of_four (4 ∷ 3 ∷ 2 ∷ 1 ∷ []) ≡ (1, 3) ∷ []
  -- the pair 2, 5 comes from 3, 5, which is fill itself
  pub ring_of_five_from_4 : fill_pairs 5 ring_of_five (4 ∷ 3 ∷ 5 ∷ 2 ∷ 1 ∷ []) ≡ (2, 5) ∷ (3, 5) ∷ []
  pub path_from_middle : fill_pairs 3 ((1, 2) ∷ (2, 3) ∷ []) (2 ∷ 1 ∷ 3 ∷ []) ≡ (1, 3) ∷ []
  pub one_junction : fill_pairs 1 [] (1 ∷ []) ≡ []
  pub one_junction_cells : cells (plan_of 1 []) (1 ∷ []) ≡ 0
  pub ring_of_five_cells : cells (plan_of 5 ring_of_five) (4 ∷ 3 ∷ 5 ∷ 2 ∷ 1 ∷ []) ≡ 7
  pub not_an_order : fill_verdict 3 (1 ∷ 1 ∷ 3 ∷ []) 24 ≡ refused 9 []

-- a perfect elimination order: for every junction, its neighbours at later places are joined pairwise
abbrev pub Perfect : (ℕ → ℕ → Bool) → List ℕ → Type 0
Perfect g us = (v a b : ℕ) → g v a ≡ true → g v b ≡ true → place us v < place us a → place us v < place us b → (a ≢ b) → g a b ≡ true

-- an order has no fill, and its fill pairs number 0, exactly where it is perfect
abbrev pub NoFillLaw : Type 0
NoFillLaw = (p : Plan) → Sound p → (us : List ℕ) → (((v w : ℕ) → fill p.joins us v w ≡ false) ↔ Perfect p.joins us) × ((pairs (fill p.joins us) p.size ≡ 0) ↔ Perfect p.joins us)

-- a path of pipes from v to w: one pipe, or a pipe to an inner junction x and a path from there
pub data Route (g : ℕ → ℕ → Bool) (inner : ℕ → Type 0) : ℕ → ℕ → Type 0 where
  pipe : {v w : ℕ} → g v w ≡ true → Route g inner v w
  via : {v x w : ℕ} → g v x ≡ true → inner x → Route g inner x w → Route g inner v w

-- two junctions are joined by a pipe or by fill exactly where a path of pipes joins them whose inner junctions all have places below both ends'
abbrev pub PathLaw : Type 0
PathLaw = (p : Plan) → Sound p → (us : List ℕ) → ordered p.size us ≡ true → (v w : ℕ) → (v ≢ w) → (filled p.joins us v w ≡ true) ↔ Route p.joins (λ x. (place us x < place us v) × (place us x < place us w)) v w
