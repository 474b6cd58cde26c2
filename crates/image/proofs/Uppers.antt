-- The neighbours of a junction above it, and the indices of their records.
use Rattle.std.specs.Prelude.{◌≡◌, ℕ, zero, suc, ◌+◌, ◌-◌, ◌*◌, ◌<◌, ◌≤◌, Bool, true, false, cond, ◌&&◌, ◌⊎◌, nat_lt}
use Rattle.std.proofs.Math.Path.{refl, ap}
use Rattle.std.proofs.Common.{sym, ◌∙◌, inl, inr}
use native.Mathlib.Omega.{arith}
use Rattle.std.proofs.lemmas.Bool.{cases_lt, cases_Bool, and_from, and_left, lt-ltb, le-ltb}
use Rattle.std.proofs.lemmas.Nat.{mul-le}
use Rattle.plan.specs.Plans.{Plan, count, pairs}
use Rattle.plan.proofs.Counts.{count-le, count_none, count_flat}
use Rattle.image.specs.Writing.{upper, uppers, pipes_to, link}

-- ---- counting up to a bound

-- a number that passes adds one, another nothing
pub count_one : (t : ℕ → Bool) (n : ℕ) → t n ≡ true → count t (suc n) ≡ count t n + 1
count_one t n h = rw h (omega arith)

pub count-nil : (t : ℕ → Bool) (n : ℕ) → t n ≡ false → count t (suc n) ≡ count t n
count-nil t n h = rw h (omega arith)

pub count_rises : (t : ℕ → Bool) (a d : ℕ) → count t a ≤ count t (d + a)
count_rises t a zero = let e : 0 + a ≡ a = omega arith in rw e (omega arith)
count_rises t a (suc d) =
    let e : suc d + a ≡ suc (d + a) = omega arith in
    let k : count t a ≤ count t (d + a) = count_rises t a d in
    rw e (elim (t (d + a)) as (λ b. count t a ≤ cond b 1 0 + count t (d + a)) [ true ↦ omega arith | false ↦ omega arith ])

pub count_mono : (t : ℕ → Bool) (a b : ℕ) → a ≤ b → count t a ≤ count t b
count_mono t a b l = let e : (b - a) + a ≡ b = omega arith in rw e at (count_rises t a (b - a))

-- the lowest that passes from a on
pub least_passing : (t : ℕ → Bool) (a d : ℕ) → count t a < count t (d + a) → (w : ℕ) × (a ≤ w) × (w < d + a) × (t w ≡ true) × (count t w ≡ count t a)
least_passing t a zero h = let e : 0 + a ≡ a = omega arith in absurd (let k : count t (0 + a) ≡ count t a = ap (count t) e in omega arith)
least_passing t a (suc d) h = go (cases_lt (count t a) (count t (d + a))) (least_passing t a d)
  where
    go : (count t a < count t (d + a)) ⊎ (count t (d + a) ≤ count t a) → (count t a < count t (d + a) → (w : ℕ) × (a ≤ w) × (w < d + a) × (t w ≡ true) × (count t w ≡ count t a)) → (w : ℕ) × (a ≤ w) × (w < suc d + a) × (t w ≡ true) × (count t w ≡ count t a)
    go (inl l) rest =
        let r : (w : ℕ) × (a ≤ w) × (w < d + a) × (t w ≡ true) × (count t w ≡ count t a) = rest l in
        (r.0, r.1, omega (arith, r.2), r.3, r.4)
    go (inr l) rest = at (cases_Bool (t (d + a)))
      where
        e : suc d + a ≡ suc (d + a)
        e = omega arith

        h' : count t a < count t (suc (d + a))
        h' = rw e at h

        at : (t (d + a) ≡ true) ⊎ (t (d + a) ≡ false) → (w : ℕ) × (a ≤ w) × (w < suc d + a) × (t w ≡ true) × (count t w ≡ count t a)
        at (inl b) = (d + a, omega arith, omega arith, b, omega (arith, count_rises t a d))
        at (inr b) = absurd (omega (arith, h', count-nil t (d + a) b))

-- ---- the neighbours above v

module _ (p : Plan) where
  pub uppers_none : (v : ℕ) → uppers p v v ≡ 0
  unfolding uppers
  uppers_none v = count_none (upper p v) (suc v) (λ x l. and_left (nat_lt v x) (p.joins v x) (le-ltb v x (omega arith)))

  pub uppers_next : (v w x : ℕ) → v ≤ w → w < x → p.joins v x ≡ true → ((y : ℕ) → w < y → y < x → p.joins v y ≡ false) → uppers p v x ≡ uppers p v w + 1
  unfolding uppers
  uppers_next v w x l k h none =
      count_one (upper p v) x (and_from (nat_lt v x) (p.joins v x) (lt-ltb v x (omega arith)) h) ∙ ap (λ c. c + 1) (count_flat (upper p v) (suc w) x k (λ y a b. and_false y (none y a b)))
    where
      and_false : (y : ℕ) → p.joins v y ≡ false → upper p v y ≡ false
      and_false y e = go (nat_lt v y)
        where
          go : (b : Bool) → (b && p.joins v y) ≡ false
          go true = e
          go false = refl

  pub uppers_end : (v w x : ℕ) → w ≤ x → ((y : ℕ) → w < y → p.joins v y ≡ false) → uppers p v x ≡ uppers p v w
  unfolding uppers
  uppers_end v w x l none = count_flat (upper p v) (suc w) (suc x) (omega arith) (λ y a b. and_false y (none y a))
    where
      and_false : (y : ℕ) → p.joins v y ≡ false → upper p v y ≡ false
      and_false y e = go (nat_lt v y)
        where
          go : (b : Bool) → (b && p.joins v y) ≡ false
          go true = e
          go false = refl

  pub uppers_mono : (v w x : ℕ) → w ≤ x → uppers p v w ≤ uppers p v x
  unfolding uppers
  uppers_mono v w x l = count_mono (upper p v) (suc w) (suc x) (omega arith)

  pub uppers_most : (v w : ℕ) → uppers p v w ≤ suc w
  unfolding uppers
  uppers_most v w = count-le (upper p v) (suc w)

  -- the next neighbour above w, where there are more up to n
  pub uppers_least : (v w : ℕ) → w ≤ p.size → uppers p v w < uppers p v p.size → (x : ℕ) × (w < x) × (x ≤ p.size) × (upper p v x ≡ true) × (uppers p v x ≡ uppers p v w + 1)
  unfolding uppers
  uppers_least v w l h = go (least_passing (upper p v) (suc w) (p.size - w) (rw e h))
    where
      e : (p.size - w) + suc w ≡ suc p.size
      e = omega arith

      go : (x : ℕ) × (suc w ≤ x) × (x < (p.size - w) + suc w) × (upper p v x ≡ true) × (count (upper p v) x ≡ count (upper p v) (suc w)) → (x : ℕ) × (w < x) × (x ≤ p.size) × (upper p v x ≡ true) × (count (upper p v) (suc x) ≡ count (upper p v) (suc w) + 1)
      go r = (r.0, r.1, omega (arith, r.2), r.3, count_one (upper p v) r.0 r.3 ∙ ap (λ c. c + 1) r.4)

  -- ---- indices

  pub pipes_to_step : (v : ℕ) → 1 ≤ v → pipes_to p v ≡ pipes_to p (v - 1) + uppers p v p.size
  unfolding pipes_to
  pipes_to_step zero a = absurd (omega arith)
  pipes_to_step (suc v) a = let e : suc v - 1 ≡ v = omega arith in ap (λ k. pipes_to p k + uppers p (suc v) p.size) (sym e)

  pub pipes_to_mono : (a d : ℕ) → pipes_to p a ≤ pipes_to p (d + a)
  pipes_to_mono a zero = let e : 0 + a ≡ a = omega arith in rw e (omega arith)
  pipes_to_mono a (suc d) =
      let e : suc d + a ≡ suc (d + a) = omega arith in
      let f : suc (d + a) - 1 ≡ d + a = omega arith in
      let s : pipes_to p (suc (d + a)) ≡ pipes_to p (d + a) + uppers p (suc (d + a)) p.size = rw f at (pipes_to_step (suc (d + a)) (omega arith)) in
      rw e (omega (arith, pipes_to_mono a d))

  pub pipes_to_le : (a b : ℕ) → a ≤ b → pipes_to p a ≤ pipes_to p b
  pipes_to_le a b l = let e : (b - a) + a ≡ b = omega arith in rw e at (pipes_to_mono a (b - a))

  -- the pipes of one junction behind those of lower junctions
  pub pipes_part : (v : ℕ) → 1 ≤ v → v ≤ p.size → pipes_to p (v - 1) + uppers p v p.size ≤ pipes_to p p.size
  pipes_part v a l = omega (arith, pipes_to_step v a, pipes_to_le v p.size l)

  pub pipes_to_most : (v : ℕ) → pipes_to p v ≤ suc p.size * v
  unfolding pipes_to
  pipes_to_most zero = omega arith
  pipes_to_most (suc v) = omega (arith, pipes_to_most v, uppers_most (suc v) p.size)

  pub pipes_to_few : (v : ℕ) → p.size ≤ 512 → v ≤ p.size → pipes_to p v ≤ 262656
  pipes_to_few v few l = omega (arith, pipes_to_most v, mul-le (suc p.size) v 513 512 (omega arith) (omega arith))

  pub link_some : (v w : ℕ) → uppers p v w < uppers p v p.size → link p v w ≡ suc (pipes_to p (v - 1) + uppers p v w)
  unfolding link
  link_some v w h = rw (lt-ltb (uppers p v w) (uppers p v p.size) h) refl

  pub link_none : (v w : ℕ) → uppers p v p.size ≤ uppers p v w → link p v w ≡ 0
  unfolding link
  link_none v w h = rw (le-ltb (uppers p v w) (uppers p v p.size) h) refl

-- ---- pipes by their lower ends and by their higher

module _ (p : Plan) where
  -- how many pipes have a lower end of at most m and a higher of at most n
  rows : ℕ → ℕ → ℕ
  rows n zero = 0
  rows n (suc m) = rows n m + count (upper p (suc m)) (suc n)

  rows_more : (n m : ℕ) → m ≤ n → rows (suc n) m ≡ rows n m + count (λ v. p.joins (suc v) (suc n)) m
  unfolding rows
  rows_more n zero l = refl
  rows_more n (suc m) l = go (p.joins (suc m) (suc n)) refl (rows_more n m (omega arith))
    where
      go : (b : Bool) → p.joins (suc m) (suc n) ≡ b → rows (suc n) m ≡ rows n m + count (λ v. p.joins (suc v) (suc n)) m → rows (suc n) m + (cond (nat_lt (suc m) (suc n) && p.joins (suc m) (suc n)) 1 0 + count (upper p (suc m)) (suc n)) ≡ (rows n m + count (upper p (suc m)) (suc n)) + (cond (p.joins (suc m) (suc n)) 1 0 + count (λ v. p.joins (suc v) (suc n)) m)
      go b e rest = rw (lt-ltb (suc m) (suc n) (omega arith)) (omega arith)

  rows_pairs : (n : ℕ) → rows n n ≡ pairs p.joins n
  unfolding rows
  rows_pairs zero = refl
  rows_pairs (suc n) =
      let a : rows (suc n) n ≡ rows n n + count (λ v. p.joins (suc v) (suc n)) n = rows_more n n (omega arith) in
      let b : rows n n ≡ pairs p.joins n = rows_pairs n in
      let c : count (upper p (suc n)) (suc (suc n)) ≡ 0 = count_none (upper p (suc n)) (suc (suc n)) (λ x l. and_left (nat_lt (suc n) x) (p.joins (suc n) x) (le-ltb (suc n) x (omega arith))) in
      omega arith

  rows_to : (m : ℕ) → rows p.size m ≡ pipes_to p m
  unfolding rows pipes_to uppers
  rows_to zero = refl
  rows_to (suc m) = ap (λ k. k + count (upper p (suc m)) (suc p.size)) (rows_to m)

  pub pipes_pairs : pipes_to p p.size ≡ pairs p.joins p.size
  pipes_pairs = sym (rows_to p.size) ∙ rows_pairs p.size
