-- The two ends of a pipe. One pipe added to a test of pairs, and one taken away: both keep it symmetric and irreflexive, and change the number of pairs by one. Plans with the same pipes. A join and a cut that are carried out.
use Rattle.std.proofs.Common.{◌≡◌, ℕ, ◌+◌, ◌-◌, ◌<◌, ◌≤◌, Bool, true, false, not, ◌&&◌, ◌||◌, eqb, leb, ◌⊎◌, sym, refl, ap, ◌∙◌, ap₂, inl, inr, arith}
use mathlib.Core.Path.{fun_ext}
use Rattle.std.proofs.lemmas.Bool.{cases_order, and_parts, and_from, or_cases, or_left, or_right, eqb-true, eq-eqb, leb-true}
use Rattle.std.proofs.lemmas.Bool.Decides.{nat_tests}
use Rattle.plan.specs.Plans.{Plan, within, pairs}
use Rattle.plan.specs.Refusals.{carried, after}
use Rattle.plan.specs.Registers.{same_pair, with_pipe, without_pipe, join_verdict, cut_verdict, Joins, Cuts}
use Rattle.plan.proofs.Counts.{pairs_more}

pub within_parts : (n v : ℕ) → within n v ≡ true → (1 ≤ v) × (v ≤ n)
within_parts n v e =
    let p : (leb 1 v ≡ true) × (leb v n ≡ true) = and_parts (leb 1 v) (leb v n) e in
    (leb-true 1 v p.0, leb-true v n p.1)

pub same_pair_ways : (v w a b : ℕ) → same_pair v w a b ≡ true → ((a ≡ v) × (b ≡ w)) ⊎ ((a ≡ w) × (b ≡ v))
same_pair_ways v w a b e = go (or_cases (eqb a v && eqb b w) (eqb a w && eqb b v) e)
  where
    go : ((eqb a v && eqb b w) ≡ true) ⊎ ((eqb a w && eqb b v) ≡ true) → ((a ≡ v) × (b ≡ w)) ⊎ ((a ≡ w) × (b ≡ v))
    go (inl h) =
        let p : (eqb a v ≡ true) × (eqb b w ≡ true) = and_parts (eqb a v) (eqb b w) h in
        inl (eqb-true a v p.0, eqb-true b w p.1)
    go (inr h) =
        let p : (eqb a w ≡ true) × (eqb b v ≡ true) = and_parts (eqb a w) (eqb b v) h in
        inr (eqb-true a w p.0, eqb-true b v p.1)

pub same_pair_of : (v w a b : ℕ) → ((a ≡ v) × (b ≡ w)) ⊎ ((a ≡ w) × (b ≡ v)) → same_pair v w a b ≡ true
same_pair_of v w a b (inl (p, q)) =
    or_left (eqb a v && eqb b w) (eqb a w && eqb b v) (and_from (eqb a v) (eqb b w) (eq-eqb a v p) (eq-eqb b w q))
same_pair_of v w a b (inr (p, q)) =
    or_right (eqb a v && eqb b w) (eqb a w && eqb b v) (and_from (eqb a w) (eqb b v) (eq-eqb a w p) (eq-eqb b v q))

pub same_pair-turned : (v w a b : ℕ) → same_pair v w a b ≡ same_pair v w b a
same_pair-turned v w a b = turned (eqb a v) (eqb b w) (eqb a w) (eqb b v)
  where
    turned : (p q r s : Bool) → ((p && q) || (r && s)) ≡ ((s && r) || (q && p))
    turned true true true true = refl
    turned true true true false = refl
    turned true true false true = refl
    turned true true false false = refl
    turned true false true true = refl
    turned true false true false = refl
    turned true false false true = refl
    turned true false false false = refl
    turned false true true true = refl
    turned false true true false = refl
    turned false true false true = refl
    turned false true false false = refl
    turned false false true true = refl
    turned false false true false = refl
    turned false false false true = refl
    turned false false false false = refl

pub same_pair_swapped : (v w a b : ℕ) → same_pair v w a b ≡ same_pair w v a b
same_pair_swapped v w a b = swapped (eqb a v && eqb b w) (eqb a w && eqb b v)
  where
    swapped : (p q : Bool) → (p || q) ≡ (q || p)
    swapped true true = refl
    swapped true false = refl
    swapped false true = refl
    swapped false false = refl

pub same_pair_itself : (v w : ℕ) → same_pair v w v w ≡ true
same_pair_itself v w = grind (arith, nat_tests)

pub same_pair_apart : (v w a : ℕ) → (v ≡ w → ⊥) → same_pair v w a a ≡ false
same_pair_apart v w a ne = grind (arith, nat_tests)

-- of two pairs in ascending order
pub same_pair_other : (v w a b : ℕ) → v < w → a < b → ((a ≡ v) × (b ≡ w) → ⊥) → same_pair v w a b ≡ false
same_pair_other v w a b l k ne = grind (arith, nat_tests)

module _ (f g : ℕ → ℕ → Bool) (v w : ℕ) (ne : v ≡ w → ⊥) (alike : (a b : ℕ) → f a b ≡ f b a) (apart : (a : ℕ) → f a a ≡ false) where
  module _ (added : (a b : ℕ) → g a b ≡ (same_pair v w a b || f a b)) where
    pub added_alike : (a b : ℕ) → g a b ≡ g b a
    added_alike a b = added a b ∙ (ap₂ (λ (p q : Bool). p || q) (same_pair-turned v w a b) (alike a b) ∙ sym (added b a))

    pub added_apart : (a : ℕ) → g a a ≡ false
    added_apart a = added a a ∙ ap₂ (λ (p q : Bool). p || q) (same_pair_apart v w a ne) (apart a)

  module _ (taken : (a b : ℕ) → g a b ≡ (not (same_pair v w a b) && f a b)) where
    pub taken_alike : (a b : ℕ) → g a b ≡ g b a
    taken_alike a b =
        taken a b ∙ (ap₂ (λ (p q : Bool). not p && q) (same_pair-turned v w a b) (alike a b) ∙ sym (taken b a))

    pub taken_apart : (a : ℕ) → g a a ≡ false
    taken_apart a = taken a a ∙ ap₂ (λ (p q : Bool). not p && q) (same_pair_apart v w a ne) (apart a)

-- v below w
module _ (f g : ℕ → ℕ → Bool) (n v w : ℕ) (some : 1 ≤ v) (few : w ≤ n) (below : v < w) where
  pairs_added_below : f v w ≡ false → ((a b : ℕ) → g a b ≡ (same_pair v w a b || f a b)) → pairs g n ≡ pairs f n + 1
  pairs_added_below e added =
      pairs_more f g n v w some below few e (added v w ∙ ap (λ b. b || f v w) (same_pair_itself v w))
      (λ a b l k. sym (added a b ∙ ap (λ p. p || f a b) (same_pair_other v w a b below l k)))

  pairs_taken_below : f v w ≡ true → ((a b : ℕ) → g a b ≡ (not (same_pair v w a b) && f a b)) → pairs f n ≡ pairs g n + 1
  pairs_taken_below e taken =
      pairs_more g f n v w some below few (taken v w ∙ ap (λ b. not b && f v w) (same_pair_itself v w)) e
      (λ a b l k. taken a b ∙ ap (λ p. not p && f a b) (same_pair_other v w a b below l k))

module _ (f g : ℕ → ℕ → Bool) (n v w : ℕ) (v_some : 1 ≤ v) (v-few : v ≤ n) (w_some : 1 ≤ w) (w-few : w ≤ n) (ne : v ≡ w → ⊥) (alike : f v w ≡ f w v) where
  pub pairs_added : f v w ≡ false → ((a b : ℕ) → g a b ≡ (same_pair v w a b || f a b)) → pairs g n ≡ pairs f n + 1
  pairs_added e added = go (cases_order v w)
    where
      go : (v ≡ w) ⊎ ((v < w) ⊎ (w < v)) → pairs g n ≡ pairs f n + 1
      go (inl h) = absurd (ne h)
      go (inr (inl l)) = pairs_added_below f g n v w v_some w-few l e added
      go (inr (inr l)) =
          pairs_added_below f g n w v w_some v-few l (sym alike ∙ e) (λ a b. added a b ∙ ap (λ p. p || f a b) (same_pair_swapped v w a b))

  pub pairs_taken : f v w ≡ true → ((a b : ℕ) → g a b ≡ (not (same_pair v w a b) && f a b)) → pairs f n ≡ pairs g n + 1
  pairs_taken e taken = go (cases_order v w)
    where
      go : (v ≡ w) ⊎ ((v < w) ⊎ (w < v)) → pairs f n ≡ pairs g n + 1
      go (inl h) = absurd (ne h)
      go (inr (inl l)) = pairs_taken_below f g n v w v_some w-few l e taken
      go (inr (inr l)) =
          pairs_taken_below f g n w v w_some v-few l (sym alike ∙ e)
          (λ a b. taken a b ∙ ap (λ p. not p && f a b) (same_pair_swapped v w a b))

-- plans of n junctions, all in service, with the same pipes
pub plan_same : (n : ℕ) (f g : ℕ → ℕ → Bool) → ((a b : ℕ) → f a b ≡ g a b) → ◌≡◌ {A = Plan} (record { size = n; serves = within n; joins = f }) (record { size = n; serves = within n; joins = g })
plan_same n f g same =
    ap (λ (h : ℕ → ℕ → Bool). record { size = n; serves = within n; joins = h }) (fun_ext (λ a. fun_ext (λ b. same a b)))

pub joins_carried : (p p' : Plan) (s v w : ℕ) → join_verdict p s v w ≡ carried → p' ≡ with_pipe p v w → Joins p s v w carried p' (s - 1)
joins_carried p p' s v w e same =
    record { says = sym e; plan = same ∙ sym (ap (λ t. after t (with_pipe p v w) p) e); spare = sym (ap (λ t. after t (s - 1) s) e) }

pub cuts_carried : (p p' : Plan) (s v w : ℕ) → cut_verdict p v w ≡ carried → p' ≡ without_pipe p v w → Cuts p s v w carried p' (s + 1)
cuts_carried p p' s v w e same =
    record { says = sym e; plan = same ∙ sym (ap (λ t. after t (without_pipe p v w) p) e); spare = sym (ap (λ t. after t (s + 1) s) e) }
