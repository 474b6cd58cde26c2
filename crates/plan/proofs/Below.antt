-- Counting the neighbours of a junction that are below it, in the order of their numbers.
use Rattle.std.proofs.Common.{◌≡◌, ℕ, zero, suc, ◌+◌, ◌-◌, ◌<◌, ◌≤◌, Bool, true, false, Some, sym, ◌∙◌, inl, inr, arith}
use Rattle.std.proofs.lemmas.Bool.{cases_eq, both_ways}
use Rattle.plan.specs.Plans.{Plan, Sound, NextNeighbour, count, pairs}
use Rattle.plan.specs.declared.number.Junction.{Junction}
use Rattle.plan.proofs.Counts.{count-le, count_flat}

-- of the numbers up to k, which are below w, so many are neighbours of w
pub record BelowTo (q : Plan) (w k found : ℕ) : Type 0 where
  pub below : k < w
  pub counted : found ≡ count (λ v. q.joins (suc v) w) k

module _ {q : Plan} {w k found : ℕ} (s : Sound q) (b : BelowTo q w k found) where
  pub below_more : (v : Junction) → NextNeighbour q w k (Some v) → v.0 ≤ w → BelowTo q w v.0 (found + 1)
  below_more v next l = record { below = further; counted = step v.0 next.0 next.1 next.2 }
    where
      further : v.0 < w
      further = elim (cases_eq v.0 w) [ inl e ↦ absurd (both_ways (q.joins w w) (s.apart w) (rw e at next.1)) | inr ne ↦ omega arith ]

      step : (x : ℕ) → k < x → q.joins w x ≡ true → ((y : ℕ) → k < y → y < x → q.joins w y ≡ false) → found + 1 ≡ count (λ y. q.joins (suc y) w) x
      step zero i j none = absurd (omega arith)
      step (suc x) i j none =
          let same : count (λ y. q.joins (suc y) w) x ≡ count (λ y. q.joins (suc y) w) k = count_flat (λ y. q.joins (suc y) w) k x (omega arith) (λ y a c. s.alike (suc y) w ∙ none (suc y) (omega arith) (omega arith)) in
          rw (s.alike (suc x) w ∙ j) (omega (arith, b.counted, same))

  -- no neighbour is left below w
  pub below_all : ((x : ℕ) → k < x → x < w → q.joins w x ≡ false) → found ≡ count (λ y. q.joins (suc y) w) (w - 1)
  below_all none =
      b.counted ∙ sym (count_flat (λ y. q.joins (suc y) w) k (w - 1) (omega (arith, b.below)) (λ y i j. s.alike (suc y) w ∙ none (suc y) (omega arith) (omega arith)))

  pub below_few : found < w
  below_few = omega (arith, b.counted, b.below, count-le (λ y. q.joins (suc y) w) k)

pub pairs_next : (t : ℕ → ℕ → Bool) (w : ℕ) → 1 ≤ w → pairs t (w - 1) + count (λ v. t (suc v) w) (w - 1) ≡ pairs t ((w + 1) - 1)
pairs_next t zero h = absurd (omega arith)
pairs_next t (suc n) h =
    let e : suc n - 1 ≡ n = omega arith in
    let d : (suc n + 1) - 1 ≡ suc n = omega arith in
    rw (e, d) (omega arith)
