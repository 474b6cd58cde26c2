-- Orders as lists: an order has each junction at one index, and places undo indices.
use Rattle.std.proofs.Common.{◌≡◌, ℕ, zero, suc, ◌+◌, ◌-◌, ◌<◌, ◌≤◌, true, false, cond, eqb, ◌⊎◌, List, [], ◌∷◌, length, get_or, sym, refl, ap, ◌∙◌, inl, inr, arith}
use Rattle.std.proofs.lemmas.Bool.{cases_eq, cases_lt, and_parts, and_from, eqb-true, eq-eqb, ne_eqb}
use Rattle.plan.specs.Orders.{times, each_once, ordered, place}

-- us has n entries, all of 1 to n, no two alike, and none of 1 to n is missing
pub record IsOrder (n : ℕ) (us : List ℕ) : Type 0 where
  pub long : length us ≡ n
  pub each : (i : ℕ) → i < n → (1 ≤ get_or us i 0) × (get_or us i 0 ≤ n)
  pub once : (i j : ℕ) → i < j → j < n → get_or us i 0 ≡ get_or us j 0 → ⊥
  pub all : (v : ℕ) → 1 ≤ v → v ≤ n → (i : ℕ) × (i < n) × (get_or us i 0 ≡ v)

-- what stands in a list once or more often stands at some index
pub times_index : (v : ℕ) (us : List ℕ) → 0 < times v us → (i : ℕ) × (i < length us) × (get_or us i 0 ≡ v)
times_index v [] h = absurd (omega arith)
times_index v (u ∷ us) h = go (cases_eq u v) (times_index v us)
  where
    go : (u ≡ v) ⊎ (u ≡ v → ⊥) → (0 < times v us → (i : ℕ) × (i < length us) × (get_or us i 0 ≡ v)) → (i : ℕ) × (i < suc (length us)) × (get_or (u ∷ us) i 0 ≡ v)
    go (inl e) rest = (0, omega arith, e)
    go (inr ne) rest =
        let f : eqb u v ≡ false = ne_eqb u v ne in
        let k : 0 < 0 + times v us = rw f at h in
        let r : (i : ℕ) × (i < length us) × (get_or us i 0 ≡ v) = rest (omega arith) in
        (suc r.0, omega (arith, r.1), r.2)

-- what stands at an index stands in the list
pub index_times : (us : List ℕ) (i v : ℕ) → i < length us → get_or us i 0 ≡ v → 0 < times v us
index_times [] i v h e = absurd (omega arith)
index_times (u ∷ us) zero v h e = rw (eq-eqb u v e) (omega arith)
index_times (u ∷ us) (suc i) v h e =
    let k : 0 < times v us = index_times us i v (omega arith) e in
    omega arith

-- what stands at no index stands nowhere in the list
pub no_index_times : (us : List ℕ) (v : ℕ) → ((i : ℕ) → i < length us → get_or us i 0 ≡ v → ⊥) → times v us ≡ 0
no_index_times [] v h = refl
no_index_times (u ∷ us) v h =
    let k : times v us ≡ 0 = no_index_times us v (λ i l. h (suc i) (omega arith)) in
    rw (ne_eqb u v (h 0 (omega arith))) (omega arith)

-- what stands at one index alone stands in the list once
pub one_index_times : (us : List ℕ) (i v : ℕ) → i < length us → get_or us i 0 ≡ v → ((j : ℕ) → j < length us → get_or us j 0 ≡ v → j ≡ i) → times v us ≡ 1
one_index_times [] i v h e only = absurd (omega arith)
one_index_times (u ∷ us) zero v h e only =
    let k : times v us ≡ 0 = no_index_times us v (λ j l d. let z : suc j ≡ 0 = only (suc j) (omega arith) d in omega arith) in
    rw (eq-eqb u v e) (omega arith)
one_index_times (u ∷ us) (suc i) v h e only =
    let k : times v us ≡ 1 = one_index_times us i v (omega arith) e (λ j l d. let z : suc j ≡ suc i = only (suc j) (omega arith) d in omega arith) in
    rw (ne_eqb u v (λ d. let z : 0 ≡ suc i = only 0 (omega arith) d in omega arith)) (omega arith)

-- what stands at two indices stands in the list twice at least
pub two_indices_times : (us : List ℕ) (i j v : ℕ) → i < j → j < length us → get_or us i 0 ≡ v → get_or us j 0 ≡ v → 2 ≤ times v us
two_indices_times [] i j v l h d e = absurd (omega arith)
two_indices_times (u ∷ us) i zero v l h d e = absurd (omega arith)
two_indices_times (u ∷ us) zero (suc j) v l h d e =
    let k : 0 < times v us = index_times us j v (omega arith) e in
    rw (eq-eqb u v d) (omega arith)
two_indices_times (u ∷ us) (suc i) (suc j) v l h d e =
    let k : 2 ≤ times v us = two_indices_times us i j v (omega arith) (omega arith) d e in
    omega arith

pub each_once-times : (n : ℕ) (us : List ℕ) → each_once n us ≡ true → (v : ℕ) → 1 ≤ v → v ≤ n → times v us ≡ 1
each_once-times zero us h v a b = absurd (omega arith)
each_once-times (suc n) us h v a b = go (cases_eq v (suc n)) (each_once-times n us parts.1 v a)
  where
    parts : (eqb (times (suc n) us) 1 ≡ true) × (each_once n us ≡ true)
    parts = and_parts (eqb (times (suc n) us) 1) (each_once n us) h

    go : (v ≡ suc n) ⊎ (v ≡ suc n → ⊥) → (v ≤ n → times v us ≡ 1) → times v us ≡ 1
    go (inl e) rest = rw e (eqb-true (times (suc n) us) 1 parts.0)
    go (inr ne) rest = rest (omega arith)

pub times-each_once : (n : ℕ) (us : List ℕ) → ((v : ℕ) → 1 ≤ v → v ≤ n → times v us ≡ 1) → each_once n us ≡ true
times-each_once zero us h = refl
times-each_once (suc n) us h =
    and_from (eqb (times (suc n) us) 1) (each_once n us)
    (eq-eqb (times (suc n) us) 1 (h (suc n) (omega arith) (omega arith)))
    (times-each_once n us (λ v a b. h v a (omega arith)))

-- how many entries of a list are 1 to n
total : ℕ → List ℕ → ℕ
total zero us = 0
total (suc n) us = times (suc n) us + total n us

total_once : (n : ℕ) (us : List ℕ) → ((v : ℕ) → 1 ≤ v → v ≤ n → times v us ≡ 1) → total n us ≡ n
unfolding total
total_once zero us h = refl
total_once (suc n) us h =
    let k : total n us ≡ n = total_once n us (λ v a b. h v a (omega arith)) in
    let one : times (suc n) us ≡ 1 = h (suc n) (omega arith) (omega arith) in
    omega arith

total-none : (n : ℕ) → total n [] ≡ 0
unfolding total
total-none zero = refl
total-none (suc n) = let k : total n [] ≡ 0 = total-none n in omega arith

-- an entry adds one where it is 1 to n, and nothing elsewhere
total-cons : (n u : ℕ) (us : List ℕ) → ((total n (u ∷ us) ≡ total n us + 1) × (1 ≤ u) × (u ≤ n)) ⊎ ((total n (u ∷ us) ≡ total n us) × ((1 ≤ u) × (u ≤ n) → ⊥))
unfolding total
total-cons zero u us = inr (refl, λ h. omega arith)
total-cons (suc n) u us = go (cases_eq u (suc n)) (total-cons n u us)
  where
    here : u ≡ suc n → times (suc n) (u ∷ us) ≡ times (suc n) us + 1
    here e = rw (eq-eqb u (suc n) e) (omega arith)

    there : (u ≡ suc n → ⊥) → times (suc n) (u ∷ us) ≡ times (suc n) us
    there ne = rw (ne_eqb u (suc n) ne) (omega arith)

    go : (u ≡ suc n) ⊎ (u ≡ suc n → ⊥) → ((total n (u ∷ us) ≡ total n us + 1) × (1 ≤ u) × (u ≤ n)) ⊎ ((total n (u ∷ us) ≡ total n us) × ((1 ≤ u) × (u ≤ n) → ⊥)) → ((total (suc n) (u ∷ us) ≡ total (suc n) us + 1) × (1 ≤ u) × (u ≤ suc n)) ⊎ ((total (suc n) (u ∷ us) ≡ total (suc n) us) × ((1 ≤ u) × (u ≤ suc n) → ⊥))
    go (inl e) (inl r) = absurd (omega arith)
    go (inl e) (inr r) = inl (omega (arith, here e), omega arith, omega arith)
    go (inr ne) (inl r) = inl (omega (arith, there ne), omega arith, omega arith)
    go (inr ne) (inr r) = inr (omega (arith, there ne), λ h. r.1 (omega arith, omega arith))

total-le : (n : ℕ) (us : List ℕ) → total n us ≤ length us
total-le n [] = omega (arith, total-none n)
total-le n (u ∷ us) = let k : total n us ≤ length us = total-le n us in omega (arith, total-cons n u us)

-- an entry that is not 1 to n is missing in the total
total-lt : (n : ℕ) (us : List ℕ) (i : ℕ) → i < length us → ((1 ≤ get_or us i 0) × (get_or us i 0 ≤ n) → ⊥) → total n us < length us
total-lt n [] i h out = absurd (omega arith)
total-lt n (u ∷ us) zero h out = go (total-cons n u us)
  where
    go : ((total n (u ∷ us) ≡ total n us + 1) × (1 ≤ u) × (u ≤ n)) ⊎ ((total n (u ∷ us) ≡ total n us) × ((1 ≤ u) × (u ≤ n) → ⊥)) → total n (u ∷ us) < suc (length us)
    go (inl r) = absurd (out (r.1, r.2))
    go (inr r) = omega (arith, total-le n us, r.0)
total-lt n (u ∷ us) (suc i) h out =
    let k : total n us < length us = total-lt n us i (omega arith) out in
    omega (arith, total-cons n u us)

-- pigeonhole: n entries with each of 1 to n among them once leave no room for any other
each_within : (n : ℕ) (us : List ℕ) → length us ≡ n → ((v : ℕ) → 1 ≤ v → v ≤ n → times v us ≡ 1) → (i : ℕ) → i < n → (1 ≤ get_or us i 0) × (get_or us i 0 ≤ n)
each_within n us long h i l = go (cases_lt 0 (get_or us i 0)) (cases_lt n (get_or us i 0))
  where
    full : ((1 ≤ get_or us i 0) × (get_or us i 0 ≤ n) → ⊥) → ⊥
    full out =
        let less : total n us < length us = total-lt n us i (omega arith) out in
        omega (arith, total_once n us h)

    go : (0 < get_or us i 0) ⊎ (get_or us i 0 ≤ 0) → (n < get_or us i 0) ⊎ (get_or us i 0 ≤ n) → (1 ≤ get_or us i 0) × (get_or us i 0 ≤ n)
    go (inl a) (inr b) = (a, b)
    go (inl a) (inl b) = absurd (full (λ r. omega arith))
    go (inr a) (inl b) = absurd (full (λ r. omega arith))
    go (inr a) (inr b) = absurd (full (λ r. omega arith))

-- the test says what it should
pub order_of : (n : ℕ) (us : List ℕ) → ordered n us ≡ true → IsOrder n us
order_of n us h =
    record {
      long = long;
      each = each;
      once = λ i j l k e. omega (arith, two_indices_times us i j (get_or us j 0) l (omega (arith, long)) e refl, one (get_or us j 0) (each j k).0 (each j k).1);
      all = λ v a b. at v a b (times_index v us (omega (arith, one v a b)));
    }
  where
    parts : (eqb (length us) n ≡ true) × (each_once n us ≡ true)
    parts = and_parts (eqb (length us) n) (each_once n us) h

    long : length us ≡ n
    long = eqb-true (length us) n parts.0

    one : (v : ℕ) → 1 ≤ v → v ≤ n → times v us ≡ 1
    one = each_once-times n us parts.1

    each : (i : ℕ) → i < n → (1 ≤ get_or us i 0) × (get_or us i 0 ≤ n)
    each = each_within n us long one

    at : (v : ℕ) → 1 ≤ v → v ≤ n → (i : ℕ) × (i < length us) × (get_or us i 0 ≡ v) → (i : ℕ) × (i < n) × (get_or us i 0 ≡ v)
    at v a b r = (r.0, omega (arith, r.1, long), r.2)

-- what no two indices share stands in the list once at most
once_times : (us : List ℕ) → ((i j : ℕ) → i < j → j < length us → get_or us i 0 ≡ get_or us j 0 → ⊥) → (v : ℕ) → times v us ≤ 1
once_times us once v = go (cases_lt 0 (times v us))
  where
    same : (i j : ℕ) → i < length us → j < length us → get_or us i 0 ≡ v → get_or us j 0 ≡ v → j ≡ i
    same i j a b d e = at (cases_lt i j) (cases_lt j i)
      where
        at : (i < j) ⊎ (j ≤ i) → (j < i) ⊎ (i ≤ j) → j ≡ i
        at (inl l) s = absurd (once i j l b (d ∙ sym e))
        at (inr l) (inl k) = absurd (once j i k a (e ∙ sym d))
        at (inr l) (inr k) = omega arith

    go : (0 < times v us) ⊎ (times v us ≤ 0) → times v us ≤ 1
    go (inr h) = omega arith
    go (inl h) =
        let r : (i : ℕ) × (i < length us) × (get_or us i 0 ≡ v) = times_index v us h in
        omega (arith, one_index_times us r.0 v r.1 r.2 (λ j l e. same r.0 j r.1 l r.2 e))

total_all : (n : ℕ) (us : List ℕ) → ((i : ℕ) → i < length us → (1 ≤ get_or us i 0) × (get_or us i 0 ≤ n)) → total n us ≡ length us
total_all n [] h = total-none n
total_all n (u ∷ us) h = go (total-cons n u us) (total_all n us (λ i l. h (suc i) (omega arith)))
  where
    go : ((total n (u ∷ us) ≡ total n us + 1) × (1 ≤ u) × (u ≤ n)) ⊎ ((total n (u ∷ us) ≡ total n us) × ((1 ≤ u) × (u ≤ n) → ⊥)) → total n us ≡ length us → total n (u ∷ us) ≡ suc (length us)
    go (inl r) rest = omega arith
    go (inr r) rest = absurd (r.1 (h 0 (omega arith)))

total_at_most : (n : ℕ) (us : List ℕ) → ((v : ℕ) → times v us ≤ 1) → total n us ≤ n
unfolding total
total_at_most zero us h = omega arith
total_at_most (suc n) us h = omega (arith, total_at_most n us h, h (suc n))

total_lack : (n : ℕ) (us : List ℕ) → ((v : ℕ) → times v us ≤ 1) → (v : ℕ) → 1 ≤ v → v ≤ n → times v us ≡ 0 → total n us < n
unfolding total
total_lack zero us h v a b e = absurd (omega arith)
total_lack (suc n) us h v a b e = go (cases_eq v (suc n)) (total_lack n us h v a)
  where
    go : (v ≡ suc n) ⊎ (v ≡ suc n → ⊥) → (v ≤ n → times v us ≡ 0 → total n us < n) → total (suc n) us < suc n
    go (inl d) rest =
        let z : times (suc n) us ≡ 0 = rw d at e in
        omega (arith, total_at_most n us h)
    go (inr ne) rest = omega (arith, h (suc n), rest (omega arith) e)

-- pigeonhole: n entries of 1 to n, no two alike, are all of 1 to n
pub ordered_from_each : (n : ℕ) (us : List ℕ) → length us ≡ n → ((i : ℕ) → i < n → (1 ≤ get_or us i 0) × (get_or us i 0 ≤ n)) → ((i j : ℕ) → i < j → j < n → get_or us i 0 ≡ get_or us j 0 → ⊥) → ordered n us ≡ true
ordered_from_each n us long each once =
    and_from (eqb (length us) n) (each_once n us) (eq-eqb (length us) n long) (times-each_once n us one)
  where
    most : (v : ℕ) → times v us ≤ 1
    most = once_times us (λ i j l k. once i j l (omega (arith, long)))

    full : total n us ≡ length us
    full = total_all n us (λ i l. each i (omega (arith, long)))

    one : (v : ℕ) → 1 ≤ v → v ≤ n → times v us ≡ 1
    one v a b = go (cases_eq (times v us) 0)
      where
        go : (times v us ≡ 0) ⊎ (times v us ≡ 0 → ⊥) → times v us ≡ 1
        go (inl z) = absurd (omega (arith, full, long, total_lack n us most v a b z))
        go (inr ne) = omega (arith, most v)

-- the place is that of the first entry alike
pub place_first : (us : List ℕ) (i v : ℕ) → i < length us → get_or us i 0 ≡ v → ((j : ℕ) → j < i → get_or us j 0 ≡ v → ⊥) → place us v ≡ suc i
place_first [] i v h e before = absurd (omega arith)
place_first (u ∷ us) zero v h e before = rw (eq-eqb u v e)
place_first (u ∷ us) (suc i) v h e before =
    let k : place us v ≡ suc i = place_first us i v (omega arith) e (λ j l. before (suc j) (omega arith)) in
    rw (ne_eqb u v (before 0 (omega arith))) (omega arith)

pub place_pos : (us : List ℕ) (v : ℕ) → 1 ≤ place us v
place_pos [] v = omega arith
place_pos (u ∷ us) v = elim (eqb u v) as (λ b. 1 ≤ cond b 1 (suc (place us v))) [ true ↦ omega arith | false ↦ omega arith ]

module _ (n : ℕ) (us : List ℕ) (o : IsOrder n us) where
  pub place_at : (i : ℕ) → i < n → place us (get_or us i 0) ≡ suc i
  place_at i l = place_first us i (get_or us i 0) (omega (arith, o.long)) refl (λ j k e. o.once j i k l e)

  -- the place of a junction is 1 to n, and the junction stands there
  pub at_place : (v : ℕ) → 1 ≤ v → v ≤ n → (1 ≤ place us v) × (place us v ≤ n) × (get_or us (place us v - 1) 0 ≡ v)
  at_place v a b =
      let r : (i : ℕ) × (i < n) × (get_or us i 0 ≡ v) = o.all v a b in
      let p : place us v ≡ suc r.0 = ap (place us) (sym r.2) ∙ place_at r.0 r.1 in
      let i : place us v - 1 ≡ r.0 = omega arith in
      (omega arith, omega (arith, r.1), ap (λ k. get_or us k 0) i ∙ r.2)

  pub place_apart : (v w : ℕ) → 1 ≤ v → v ≤ n → 1 ≤ w → w ≤ n → place us v ≡ place us w → v ≡ w
  place_apart v w a b c d e = sym (at_place v a b).2 ∙ ap (λ k. get_or us (k - 1) 0) e ∙ (at_place w c d).2

-- a place of the list names what stands there
pub place_reads : (us : List ℕ) (v : ℕ) → place us v ≤ length us → get_or us (place us v - 1) 0 ≡ v
place_reads [] v h = absurd (omega arith)
place_reads (u ∷ us) v h = go (cases_eq u v) (λ l. place_reads us v l)
  where
    step : (k : ℕ) → 1 ≤ k → get_or us (k - 1) 0 ≡ v → get_or (u ∷ us) (suc k - 1) 0 ≡ v
    step zero l r = absurd (omega arith)
    step (suc j) l r =
        let e : suc (suc j) - 1 ≡ suc j = omega arith in
        let f : suc j - 1 ≡ j = omega arith in
        rw e (rw f at r)

    go : (u ≡ v) ⊎ (u ≡ v → ⊥) → (place us v ≤ length us → get_or us (place us v - 1) 0 ≡ v) → get_or (u ∷ us) (place (u ∷ us) v - 1) 0 ≡ v
    go (inl e) rest = let t : eqb u v ≡ true = eq-eqb u v e in rw t e
    go (inr ne) rest =
        let t : eqb u v ≡ false = ne_eqb u v ne in
        let l : suc (place us v) ≤ suc (length us) = rw t at h in
        rw t (step (place us v) (place_pos us v) (rest (omega arith)))
