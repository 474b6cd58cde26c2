-- A count of 0.
use Rattle.std.proofs.Common.{◌≡◌, ℕ, zero, suc, ◌+◌, ◌<◌, ◌≤◌, Bool, true, false, ◌⊎◌, inl, inr, arith}
use Rattle.std.proofs.lemmas.Bool.{cases_Bool, cases_eq}
use Rattle.plan.specs.Plans.{count, pairs}

-- a count of 0 leaves no number that passes
pub count-zero : (t : ℕ → Bool) (n : ℕ) → count t n ≡ 0 → (v : ℕ) → v < n → t v ≡ false
count-zero t zero h v l = absurd (omega arith)
count-zero t (suc n) h v l = go (cases_Bool (t n)) (cases_eq v n) (λ e. count-zero t n e v)
  where
    go : (t n ≡ true) ⊎ (t n ≡ false) → (v ≡ n) ⊎ (v ≡ n → ⊥) → (count t n ≡ 0 → v < n → t v ≡ false) → t v ≡ false
    go (inl e) d rest = absurd (let z : 1 + count t n ≡ 0 = rw e at h in omega arith)
    go (inr e) (inl d) rest = rw d e
    go (inr e) (inr d) rest = rest (omega arith) (omega arith)

-- a count of 0 leaves no pair that passes
pub pairs-zero : (t : ℕ → ℕ → Bool) (n : ℕ) → pairs t n ≡ 0 → (v w : ℕ) → 1 ≤ v → v < w → w ≤ n → t v w ≡ false
pairs-zero t zero h v w i j k = absurd (omega arith)
pairs-zero t (suc n) h zero w i j k = absurd (omega arith)
pairs-zero t (suc n) h (suc v) w i j k = go (cases_eq w (suc n)) (λ e. pairs-zero t n e (suc v) w i j)
  where
    go : (w ≡ suc n) ⊎ (w ≡ suc n → ⊥) → (pairs t n ≡ 0 → w ≤ n → t (suc v) w ≡ false) → t (suc v) w ≡ false
    go (inl d) rest = rw d (count-zero (λ x. t (suc x) (suc n)) n (omega arith) v (omega arith))
    go (inr d) rest = rest (omega arith) (omega arith)
