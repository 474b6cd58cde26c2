-- Tests over the numbers 1 to n, and how many pass.
use Rattle.std.specs.Prelude.{◌≡◌, ℕ, zero, suc, ◌+◌, ◌<◌, ◌≤◌, Bool, true, false, cond, ◌&&◌, ◌||◌, ◌⊎◌, ◌==◌, ◌≢◌, refl}
use Rattle.std.proofs.Common.{sym, ap, ap₂, ◌∙◌, inl, inr, arith}
use Rattle.std.proofs.lemmas.Bool.{cases_eq, both_ways, and_parts, and_from, or_cases, or_left, or_right, or_from, eq-eqb, ne_eqb}
use Rattle.plan.specs.Plans.{count}
use Rattle.plan.proofs.Counts.{count-le}
use Rattle.image.specs.Ranges.{each, some, lowest}

pub some_at : (t : ℕ → Bool) (n v : ℕ) → 1 ≤ v → v ≤ n → t v ≡ true → some t n ≡ true
some_at t zero v a b h = absurd (omega arith)
some_at t (suc n) v a b h = go (cases_eq v (suc n)) (λ l. some_at t n v a l h)
  where
    go : (v ≡ suc n) ⊎ (v ≢ suc n) → (v ≤ n → some t n ≡ true) → (t (suc n) || some t n) ≡ true
    go (inl e) rest = or_left (t (suc n)) (some t n) (ap t (sym e) ∙ h)
    go (inr ne) rest = or_right (t (suc n)) (some t n) (rest (omega arith))

pub some_one : (t : ℕ → Bool) (n : ℕ) → some t n ≡ true → (v : ℕ) × (1 ≤ v) × (v ≤ n) × (t v ≡ true)
some_one t zero h = absurd (both_ways false refl h)
some_one t (suc n) h = go (or_cases (t (suc n)) (some t n) h) (some_one t n)
  where
    go : (t (suc n) ≡ true) ⊎ (some t n ≡ true) → (some t n ≡ true → (v : ℕ) × (1 ≤ v) × (v ≤ n) × (t v ≡ true)) → (v : ℕ) × (1 ≤ v) × (v ≤ suc n) × (t v ≡ true)
    go (inl e) rest = (suc n, omega arith, omega arith, e)
    go (inr e) rest =
        let r : (v : ℕ) × (1 ≤ v) × (v ≤ n) × (t v ≡ true) = rest e in
        (r.0, r.1, omega (arith, r.2), r.3)

pub some-none : (t : ℕ → Bool) (n : ℕ) → ((v : ℕ) → 1 ≤ v → v ≤ n → t v ≡ false) → some t n ≡ false
some-none t zero h = refl
some-none t (suc n) h = or_from (t (suc n)) (some t n) (h (suc n) (omega arith) (omega arith)) (some-none t n (λ v a b. h v a (omega arith)))

pub some_same : (s t : ℕ → Bool) (n : ℕ) → ((v : ℕ) → 1 ≤ v → v ≤ n → s v ≡ t v) → some s n ≡ some t n
some_same s t zero h = refl
some_same s t (suc n) h = ap₂ (λ (a b : Bool). a || b) (h (suc n) (omega arith) (omega arith)) (some_same s t n (λ v a b. h v a (omega arith)))

pub each_at : (t : ℕ → Bool) (n : ℕ) → each t n ≡ true → (v : ℕ) → 1 ≤ v → v ≤ n → t v ≡ true
each_at t zero h v a b = absurd (omega arith)
each_at t (suc n) h v a b = go (cases_eq v (suc n)) (λ l. each_at t n parts.1 v a l)
  where
    parts : (t (suc n) ≡ true) × (each t n ≡ true)
    parts = and_parts (t (suc n)) (each t n) h

    go : (v ≡ suc n) ⊎ (v ≢ suc n) → (v ≤ n → t v ≡ true) → t v ≡ true
    go (inl e) rest = ap t e ∙ parts.0
    go (inr ne) rest = rest (omega arith)

pub each_all : (t : ℕ → Bool) (n : ℕ) → ((v : ℕ) → 1 ≤ v → v ≤ n → t v ≡ true) → each t n ≡ true
each_all t zero h = refl
each_all t (suc n) h = and_from (t (suc n)) (each t n) (h (suc n) (omega arith) (omega arith)) (each_all t n (λ v a b. h v a (omega arith)))

-- the first that passes is the lowest
pub lowest_first : (t : ℕ → Bool) (n v : ℕ) → 1 ≤ v → v ≤ n → t v ≡ true → ((u : ℕ) → 1 ≤ u → u < v → t u ≡ false) → lowest t n ≡ v
lowest_first t zero v a b h before = absurd (omega arith)
lowest_first t (suc n) v a b h before = go (cases_eq v (suc n)) (λ l. lowest_first t n v a l h before)
  where
    go : (v ≡ suc n) ⊎ (v ≢ suc n) → (v ≤ n → lowest t n ≡ v) → lowest t (suc n) ≡ v
    go (inl e) rest =
        let none : some t n ≡ false = some-none t n (λ u c d. before u c (omega arith)) in
        let here : t (suc n) ≡ true = ap t (sym e) ∙ h in
        rw (none, here) (sym e)
    go (inr ne) rest =
        let one : some t n ≡ true = some_at t n v a (omega arith) h in
        rw one (rest (omega arith))

-- each passes where as many pass as there are
pub each-counted : (t : ℕ → Bool) (n : ℕ) → each t n ≡ (count (λ j. t (suc j)) n == n)
each-counted t zero = refl
each-counted t (suc n) = go (t (suc n)) (each-counted t n)
  where
    go : (b : Bool) → each t n ≡ (count (λ j. t (suc j)) n == n) → (b && each t n) ≡ (cond b 1 0 + count (λ j. t (suc j)) n == suc n)
    go true rest = rest ∙ at (cases_eq (count (λ j. t (suc j)) n) n)
      where
        at : (count (λ j. t (suc j)) n ≡ n) ⊎ (count (λ j. t (suc j)) n ≢ n) → (count (λ j. t (suc j)) n == n) ≡ (1 + count (λ j. t (suc j)) n == suc n)
        at (inl e) = eq-eqb (count (λ j. t (suc j)) n) n e ∙ sym (eq-eqb (1 + count (λ j. t (suc j)) n) (suc n) (omega arith))
        at (inr ne) = ne_eqb (count (λ j. t (suc j)) n) n ne ∙ sym (ne_eqb (1 + count (λ j. t (suc j)) n) (suc n) (λ e. ne (omega arith)))
    go false rest = sym (ne_eqb (0 + count (λ j. t (suc j)) n) (suc n) (λ e. omega (arith, count-le (λ j. t (suc j)) n)))

-- two tests that no number passes together
pub count_either : (s t : ℕ → Bool) (n : ℕ) → ((j : ℕ) → j < n → s j ≡ true → t j ≢ true) → count (λ j. s j || t j) n ≡ count s n + count t n
count_either s t zero h = refl
count_either s t (suc n) h = go (s n) (t n) (h n (omega arith)) (count_either s t n (λ j l. h j (omega arith)))
  where
    go : (a b : Bool) → (a ≡ true → b ≢ true) → count (λ j. s j || t j) n ≡ count s n + count t n → cond (a || b) 1 0 + count (λ j. s j || t j) n ≡ (cond a 1 0 + count s n) + (cond b 1 0 + count t n)
    go true true h rest = absurd (h refl refl)
    go true false h rest = omega arith
    go false true h rest = omega arith
    go false false h rest = omega arith
