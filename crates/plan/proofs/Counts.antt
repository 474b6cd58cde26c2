-- Counting the numbers and the pairs that pass a test.
use Rattle.std.proofs.Common.{◌≡◌, ℕ, zero, suc, ◌+◌, ◌*◌, ◌<◌, ◌≤◌, Bool, true, false, cond, ◌⊎◌, sym, refl, ap, ◌∙◌, ap₂, inl, inr, arith}
use Rattle.std.proofs.lemmas.Nat.{mul-le}
use Rattle.std.proofs.lemmas.Bool.{cases_eq}
use Rattle.plan.specs.Plans.{count, pairs}

pub count_same : (t s : ℕ → Bool) (n : ℕ) → ((v : ℕ) → v < n → t v ≡ s v) → count t n ≡ count s n
count_same t s zero h = refl
count_same t s (suc n) h =
    ap₂ (λ (b : Bool) (k : ℕ). cond b 1 0 + k) (h n (omega arith)) (count_same t s n (λ v l. h v (omega arith)))

pub count-le : (t : ℕ → Bool) (n : ℕ) → count t n ≤ n
count-le t zero = omega arith
count-le t (suc n) =
    let k : count t n ≤ n = count-le t n in
    elim (t n) as (λ b. cond b 1 0 + count t n ≤ suc n) [ true ↦ omega arith | false ↦ omega arith ]

-- no number passes
pub count_none : (t : ℕ → Bool) (n : ℕ) → ((v : ℕ) → v < n → t v ≡ false) → count t n ≡ 0
count_none t zero h = refl
count_none t (suc n) h =
    rw (h n (omega arith)) (let k : count t n ≡ 0 = count_none t n (λ v l. h v (omega arith)) in omega arith)

-- numbers that do not pass leave the count as it is
pub count_flat : (t : ℕ → Bool) (a b : ℕ) → a ≤ b → ((v : ℕ) → a ≤ v → v < b → t v ≡ false) → count t b ≡ count t a
count_flat t a zero l h = let e : 0 ≡ a = omega arith in ap (count t) e
count_flat t a (suc b) l h = go (cases_eq a (suc b)) (λ k. count_flat t a b k (λ v i j. h v i (omega arith)))
  where
    go : (a ≡ suc b) ⊎ (a ≡ suc b → ⊥) → (a ≤ b → count t b ≡ count t a) → count t (suc b) ≡ count t a
    go (inl e) rest = ap (count t) (sym e)
    go (inr ne) rest = rw (h b (omega arith) (omega arith)) (omega (arith, rest (omega arith)))

-- one number more passes
pub count_more : (t s : ℕ → Bool) (n x : ℕ) → x < n → t x ≡ false → s x ≡ true → ((v : ℕ) → v < n → (v ≡ x → ⊥) → t v ≡ s v) → count s n ≡ count t n + 1
count_more t s zero x l a b same = absurd (omega arith)
count_more t s (suc n) x l a b same =
    go (cases_eq n x) (λ k. count_more t s n x k a b (λ v h ne. same v (omega arith) ne))
  where
    go : (n ≡ x) ⊎ (n ≡ x → ⊥) → (x < n → count s n ≡ count t n + 1) → count s (suc n) ≡ count t (suc n) + 1
    go (inl e) rest =
        let k : count t n ≡ count s n = count_same t s n (λ v h. same v (omega arith) (omega arith)) in
        let p : t n ≡ false = ap t e ∙ a in
        let q : s n ≡ true = ap s e ∙ b in
        rw (p, q) (omega arith)
    go (inr ne) rest =
        let k : count s n ≡ count t n + 1 = rest (omega arith) in
        let p : t n ≡ s n = same n (omega arith) ne in
        rw p (omega arith)

pub pairs_same : (t s : ℕ → ℕ → Bool) (n : ℕ) → ((v w : ℕ) → 1 ≤ v → v < w → w ≤ n → t v w ≡ s v w) → pairs t n ≡ pairs s n
pairs_same t s zero h = refl
pairs_same t s (suc n) h =
    ap₂ (λ (a b : ℕ). a + b)
    (count_same (λ v. t (suc v) (suc n)) (λ v. s (suc v) (suc n)) n (λ v l. h (suc v) (suc n) (omega arith) (omega arith) (omega arith)))
    (pairs_same t s n (λ v w a b c. h v w a b (omega arith)))

-- no pair passes
pub pairs-none : (t : ℕ → ℕ → Bool) (n : ℕ) → ((v w : ℕ) → 1 ≤ v → v < w → w ≤ n → t v w ≡ false) → pairs t n ≡ 0
pairs-none t zero h = refl
pairs-none t (suc n) h =
    let k : pairs t n ≡ 0 = pairs-none t n (λ v w a b c. h v w a b (omega arith)) in
    let l : count (λ v. t (suc v) (suc n)) n ≡ 0 = count_none (λ v. t (suc v) (suc n)) n (λ v l. h (suc v) (suc n) (omega arith) (omega arith) (omega arith)) in
    omega arith

-- one pair more passes
pub pairs_more : (t s : ℕ → ℕ → Bool) (n x y : ℕ) → 1 ≤ x → x < y → y ≤ n → t x y ≡ false → s x y ≡ true → ((v w : ℕ) → v < w → ((v ≡ x) × (w ≡ y) → ⊥) → t v w ≡ s v w) → pairs s n ≡ pairs t n + 1
pairs_more t s zero x y i j k a b same = absurd (omega arith)
pairs_more t s (suc n) zero y i j k a b same = absurd (omega arith)
pairs_more t s (suc n) (suc x) y i j k a b same =
    go (cases_eq (suc n) y) (λ h. pairs_more t s n (suc x) y i j h a b same)
  where
    col : (ℕ → ℕ → Bool) → ℕ
    col f = count (λ v. f (suc v) (suc n)) n

    go : (suc n ≡ y) ⊎ (suc n ≡ y → ⊥) → (y ≤ n → pairs s n ≡ pairs t n + 1) → pairs s (suc n) ≡ pairs t (suc n) + 1
    go (inl e) rest =
        let below : pairs t n ≡ pairs s n = pairs_same t s n (λ v w p q r. same v w q (λ both. absurd (omega arith))) in
        let one : col s ≡ col t + 1 = count_more (λ v. t (suc v) (suc n)) (λ v. s (suc v) (suc n)) n x (omega arith) (ap (t (suc x)) e ∙ a) (ap (s (suc x)) e ∙ b) (λ v l ne. same (suc v) (suc n) (omega arith) (λ both. ne (omega arith))) in
        omega arith
    go (inr ne) rest =
        let below : pairs s n ≡ pairs t n + 1 = rest (omega arith) in
        let one : col t ≡ col s = count_same (λ v. t (suc v) (suc n)) (λ v. s (suc v) (suc n)) n (λ v l. same (suc v) (suc n) (omega arith) (λ both. ne (omega arith))) in
        omega arith

-- n junctions have n (n - 1) / 2 pairs
pub pairs-le : (t : ℕ → ℕ → Bool) (n : ℕ) → 2 * pairs t n + n ≤ n * n
pairs-le t zero = omega arith
pairs-le t (suc n) =
    let below : 2 * pairs t n + n ≤ n * n = pairs-le t n in
    let row : count (λ v. t (suc v) (suc n)) n ≤ n = count-le (λ v. t (suc v) (suc n)) n in
    omega arith

-- pairs of at most 512 junctions
pub pairs_few : (t : ℕ → ℕ → Bool) (n : ℕ) → n ≤ 512 → pairs t n ≤ 131072
pairs_few t n h = omega (arith, pairs-le t n, mul-le n n 512 512 h h)
