-- The law of no fill and the path law.
use Rattle.std.proofs.Common.{◌≡◌, ℕ, zero, suc, ◌<◌, ◌≤◌, min, Bool, true, false, ◌⊎◌, List, sym, refl, ap, ◌∙◌, inl, inr, arith}
use Rattle.std.proofs.lemmas.Bool.{cases_eq, cases_lt, cases_Bool, both_ways, false_from_ne_true}
use Rattle.plan.specs.Plans.{Plan, Sound, pairs}
use Rattle.plan.specs.Orders.{place}
use Rattle.plan.proofs.Counts.{pairs-none}
use Rattle.plan.proofs.Orders.{IsOrder, order_of, place_apart}
use Rattle.elimination.specs.Elimination.{new, eliminated, fill, filled, cells}
use Rattle.elimination.specs.Laws.{Perfect, NoFillLaw, Route, PathLaw, WorkedPlans}
use Rattle.elimination.specs.Laws.Route.{pipe, via}
use Rattle.elimination.proofs.Counting.{pairs-zero}
use Rattle.elimination.proofs.Filled.{Simple, fill_alike, fill_apart, fill_lone, fill_no_pipe, filled_pipe, filled_fill, filled_cases, filled_closed, filled_least}

pub plan_simple : (p : Plan) → Sound p → Simple p.joins
plan_simple p s = record { apart = s.apart; alike = s.alike }

module _ (g : ℕ → ℕ → Bool) (us : List ℕ) (s : Simple g) where
  pub perfect_from_no_fill : ((v w : ℕ) → fill g us v w ≡ false) → Perfect g us
  perfect_from_no_fill none v a b h k p q ne =
      go (filled_cases g s us a b (filled_closed g us s v a b (filled_pipe g s us v a h) (filled_pipe g s us v b k) p q ne))
    where
      go : (g a b ≡ true) ⊎ (fill g us a b ≡ true) → g a b ≡ true
      go (inl t) = t
      go (inr f) = absurd (both_ways (fill g us a b) (none a b) f)

  pub no_fill_from_perfect : Perfect g us → (v w : ℕ) → fill g us v w ≡ false
  no_fill_from_perfect perfect v w =
      false_from_ne_true (fill g us v w)
      (λ t. both_ways (g v w) (fill_no_pipe g us s v w t)
      (filled_least g us s (λ x y. g x y ≡ true) (λ x y h. h) perfect v w (filled_fill g s us v w t)))

-- fill pairs are pairs of junctions
pub fill_inside : (q : Plan) → Sound q → (us : List ℕ) (v w : ℕ) → fill q.joins us v w ≡ true → (1 ≤ v) × (v ≤ q.size)
fill_inside q s us v w h = go (cases_Bool (q.serves v))
  where
    unjoined : q.serves v ≡ false → (x : ℕ) → q.joins v x ≡ false
    unjoined f x = false_from_ne_true (q.joins v x) (λ t. both_ways (q.serves v) f (s.ends v x t).0)

    go : (q.serves v ≡ true) ⊎ (q.serves v ≡ false) → (1 ≤ v) × (v ≤ q.size)
    go (inl t) = s.inside v t
    go (inr f) = absurd (both_ways (fill q.joins us v w) (fill_lone q.joins us (plan_simple q s) v w (unjoined f)) h)

-- an order whose fill pairs number 0 has none
pub no_fill_from_count : (q : Plan) → Sound q → (us : List ℕ) → pairs (fill q.joins us) q.size ≡ 0 → (v w : ℕ) → fill q.joins us v w ≡ false
no_fill_from_count q s us h v w = go (cases_Bool (fill q.joins us v w))
  where
    simple : Simple q.joins
    simple = plan_simple q s

    swap : fill q.joins us v w ≡ fill q.joins us w v
    swap = fill_alike q.joins us simple v w

    ordered : (t : fill q.joins us v w ≡ true) → (v < w) ⊎ (w ≤ v) → (w < v) ⊎ (v ≤ w) → fill q.joins us v w ≡ false
    ordered t (inl l) k = pairs-zero (fill q.joins us) q.size h v w (fill_inside q s us v w t).0 l (fill_inside q s us w v (sym swap ∙ t)).1
    ordered t (inr l) (inl k) = swap ∙ pairs-zero (fill q.joins us) q.size h w v (fill_inside q s us w v (sym swap ∙ t)).0 k (fill_inside q s us v w t).1
    ordered t (inr l) (inr k) = let e : v ≡ w = omega arith in rw e (fill_apart q.joins us w)

    go : (fill q.joins us v w ≡ true) ⊎ (fill q.joins us v w ≡ false) → fill q.joins us v w ≡ false
    go (inr f) = f
    go (inl t) = ordered t (cases_lt v w) (cases_lt w v)

pub no_fill_law_lem : NoFillLaw
no_fill_law_lem p s us = (
  (perfect_from_no_fill p.joins us (plan_simple p s), no_fill_from_perfect p.joins us (plan_simple p s)),
  (
    λ h. perfect_from_no_fill p.joins us (plan_simple p s) (no_fill_from_count p s us h),
    λ h. pairs-none (fill p.joins us) p.size (λ v w i j k. no_fill_from_perfect p.joins us (plan_simple p s) h v w),
  ),
)

module _ (g : ℕ → ℕ → Bool) (s : Simple g) where
  -- a path with other words for its inner junctions
  pub route_weaker : (P Q : ℕ → Type 0) {v w : ℕ} → ((x : ℕ) → P x → Q x) → Route g P v w → Route g Q v w
  route_weaker P Q f (pipe h) = pipe h
  route_weaker P Q f (via {x = x} h i r) = via h (f x i) (route_weaker P Q f r)

  pub route_join : (P : ℕ → Type 0) {v x w : ℕ} → Route g P v x → P x → Route g P x w → Route g P v w
  route_join P (pipe h) i r = via h i r
  route_join P (via h j q) i r = via h j (route_join P q i r)

  pub route_back : (P : ℕ → Type 0) {v w : ℕ} → Route g P v w → Route g P w v
  route_back P (pipe {v = v} {w = w} h) = pipe (s.alike w v ∙ h)
  route_back P (via {v = v} {x = x} h i r) = route_join P (route_back P r) i (pipe (s.alike x v ∙ h))

-- the inner junctions of a path from v to w: those placed below both
abbrev Under : List ℕ → ℕ → ℕ → ℕ → Type 0
Under us v w x = (place us x < place us v) × (place us x < place us w)

-- those at places below b
abbrev Below : List ℕ → ℕ → ℕ → Type 0
Below us b x = place us x < b

module _ (g : ℕ → ℕ → Bool) (us : List ℕ) (s : Simple g) where
  -- two paths that meet at a junction before both their other ends make one
  route_closed : (v a b : ℕ) → Route g (Under us v a) v a → Route g (Under us v b) v b → place us v < place us a → place us v < place us b → Route g (Under us a b) a b
  route_closed v a b i j p q =
      route_join g s (Under us a b)
      (route_weaker g s (Under us v a) (Under us a b) (λ x u. omega arith) (route_back g s (Under us v a) i))
      (p, q)
      (route_weaker g s (Under us v b) (Under us a b) (λ x u. omega arith) j)

  pub route_from_filled : (v w : ℕ) → filled g us v w ≡ true → Route g (Under us v w) v w
  route_from_filled v w h =
      filled_least g us s (λ x y. Route g (Under us x y) x y) (λ x y e. pipe e)
      (λ x a b i j p q ne. route_closed x a b i j p q)
      v w h

  module _ (n : ℕ) (o : IsOrder n us) (inside : (v w : ℕ) → g v w ≡ true → (1 ≤ w) × (w ≤ n)) where
    -- a path below place b + 1 is one below place b, or goes through the junction at place b
    split : (b v w : ℕ) → Route g (Below us (suc b)) v w → Route g (Below us b) v w ⊎ ((m : ℕ) × (1 ≤ m) × (m ≤ n) × (place us m ≡ b) × Route g (Below us b) v m × Route g (Below us b) m w)
    split b v w (pipe h) = inl (pipe h)
    split b v w (via {x = x} h i r) = go (cases_eq (place us x) b) (split b x w r)
      where
        go : (place us x ≡ b) ⊎ (place us x ≡ b → ⊥) → Route g (Below us b) x w ⊎ ((m : ℕ) × (1 ≤ m) × (m ≤ n) × (place us m ≡ b) × Route g (Below us b) x m × Route g (Below us b) m w) → Route g (Below us b) v w ⊎ ((m : ℕ) × (1 ≤ m) × (m ≤ n) × (place us m ≡ b) × Route g (Below us b) v m × Route g (Below us b) m w)
        go (inl e) (inl q) = inr (x, (inside v x h).0, (inside v x h).1, e, pipe h, q)
        go (inl e) (inr q) =
            let same : q.0 ≡ x = place_apart n us o q.0 x q.1 q.2 (inside v x h).0 (inside v x h).1 (q.3 ∙ sym e) in
            inr (x, (inside v x h).0, (inside v x h).1, e, pipe h, rw same at q.5)
        go (inr ne) (inl q) = inl (via h (omega arith) q)
        go (inr ne) (inr q) = inr (q.0, q.1, q.2, q.3, via h (omega arith) q.4, q.5)

    filled_from_below : (b v w : ℕ) → (v ≡ w → ⊥) → b ≤ place us v → b ≤ place us w → Route g (Below us b) v w → filled g us v w ≡ true
    filled_from_below zero v w ne i j (pipe h) = filled_pipe g s us v w h
    filled_from_below zero v w ne i j (via h k r) = absurd (omega arith)
    filled_from_below (suc b) v w ne i j r = go (split b v w r) (filled_from_below b)
      where
        go : Route g (Below us b) v w ⊎ ((m : ℕ) × (1 ≤ m) × (m ≤ n) × (place us m ≡ b) × Route g (Below us b) v m × Route g (Below us b) m w) → ((x y : ℕ) → (x ≡ y → ⊥) → b ≤ place us x → b ≤ place us y → Route g (Below us b) x y → filled g us x y ≡ true) → filled g us v w ≡ true
        go (inl q) rest = rest v w ne (omega arith) (omega arith) q
        go (inr q) rest =
            let apart : (x : ℕ) → suc b ≤ place us x → q.0 ≡ x → ⊥ = λ x l e. let z : place us q.0 ≡ place us x = ap (place us) e in omega (arith, q.3) in
            filled_closed g us s q.0 v w
            (rest q.0 v (apart v i) (omega (arith, q.3)) (omega arith) (route_back g s (Below us b) q.4))
            (rest q.0 w (apart w j) (omega (arith, q.3)) (omega arith) q.5)
            (omega (arith, q.3)) (omega (arith, q.3)) ne

    pub filled_from_route : (v w : ℕ) → (v ≡ w → ⊥) → Route g (Under us v w) v w → filled g us v w ≡ true
    filled_from_route v w ne r =
        filled_from_below (min (place us v) (place us w)) v w ne (omega arith) (omega arith)
        (route_weaker g s (Under us v w) (Below us (min (place us v) (place us w))) (λ x u. omega arith) r)

pub path_law_lem : PathLaw
path_law_lem p s us o v w ne = (
  route_from_filled p.joins us (plan_simple p s) v w,
  filled_from_route p.joins us (plan_simple p s) p.size (order_of p.size us o)
      (λ x y h. s.inside y (s.ends x y h).1)
      v w ne,
)

pub worked_plans_lem : WorkedPlans
unfolding new eliminated fill cells
worked_plans_lem =
    record {
      ring_of_four_from_3 = refl;
      ring_of_four_from_4 = refl;
      ring_of_five_from_4 = refl;
      path_from_middle = refl;
      one_junction = refl;
      one_junction_cells = refl;
      ring_of_five_cells = refl;
      not_an_order = refl;
    }
