-- The walk along a chain of an image.
use Rattle.std.specs.Prelude.{◌≡◌, ℕ, zero, suc, ◌+◌, ◌-◌, ◌<◌, ◌≤◌, true, false, cond, ◌&&◌, ◌||◌, ◌⊎◌, Some, ◌==◌, ◌≢◌, nat_le, nat_lt}
use Rattle.std.proofs.Math.Path.{refl, sym, ap}
use Rattle.std.proofs.Common.{◌∙◌, inl, inr}
use native.Mathlib.Omega.{arith}
use Rattle.std.proofs.lemmas.Bool.{cases_eq, cases_Bool, both_ways, and_parts, and_from, or_cases, or_left, eq-eqb, ne_eqb, eqb-true, leb-true, ltb-true, le-leb, lt-ltb}
use Rattle.plan.specs.Plans.{count}
use Rattle.plan.proofs.Counts.{count_more, count_none}
use Rattle.image.specs.Images.{Image}
use Rattle.image.specs.Reading.{Walked}
use Rattle.image.specs.Chains.{follows, sound_from, sound_chain, reaches, in_chain}

-- record j stands in the chain of v behind a far end low
pub record Member (m : Image) (v low j : ℕ) : Type 0 where
  pub some : 1 ≤ j
  pub few : j ≤ m.records
  pub near : m.near j ≡ v
  pub above : low < m.far j
  pub below : m.far j ≤ m.size

pub follows_member : (m : Image) (v low i : ℕ) → (i ≢ 0) → follows m v low i ≡ true → Member m v low i
follows_member m v low i ne h =
    let a = and_parts (nat_le i m.records) (m.near i == v && (nat_lt low (m.far i) && nat_le (m.far i) m.size)) h in
    let b = and_parts (m.near i == v) (nat_lt low (m.far i) && nat_le (m.far i) m.size) a.1 in
    let c = and_parts (nat_lt low (m.far i)) (nat_le (m.far i) m.size) b.1 in
    record {
      some = omega arith;
      few = leb-true i m.records a.0;
      near = eqb-true (m.near i) v b.0;
      above = ltb-true low (m.far i) c.0;
      below = leb-true (m.far i) m.size c.1;
    }

pub member_follows : (m : Image) (v low i : ℕ) → Member m v low i → follows m v low i ≡ true
member_follows m v low i b =
    and_from (nat_le i m.records) (m.near i == v && (nat_lt low (m.far i) && nat_le (m.far i) m.size)) (le-leb i m.records b.few) (and_from (m.near i == v) (nat_lt low (m.far i) && nat_le (m.far i) m.size) (eq-eqb (m.near i) v b.near) (and_from (nat_lt low (m.far i)) (nat_le (m.far i) m.size) (lt-ltb low (m.far i) b.above) (le-leb (m.far i) m.size b.below)))

pub no_member : (m : Image) (v low i : ℕ) → (i ≢ 0) → (Member m v low i → ⊥) → follows m v low i ≡ false
no_member m v low i ne out = go (cases_Bool (follows m v low i))
  where
    go : (follows m v low i ≡ true) ⊎ (follows m v low i ≡ false) → follows m v low i ≡ false
    go (inl h) = absurd (out (follows_member m v low i ne h))
    go (inr h) = h

module _ (m : Image) (v : ℕ) where
  pub sound_end : (k low : ℕ) → sound_from m v k low 0 ≡ true
  unfolding sound_from
  sound_end zero low = refl
  sound_end (suc k) low = refl

  pub sound_step : (k low i : ℕ) → (i ≢ 0) → follows m v low i ≡ true → sound_from m v (suc k) low i ≡ sound_from m v k (m.far i) (m.next i)
  unfolding sound_from
  sound_step k low i ne h = rw (ne_eqb i 0 ne, h)

  pub sound_stop : (k low i : ℕ) → (i ≢ 0) → follows m v low i ≡ false → sound_from m v k low i ≡ false
  unfolding sound_from
  sound_stop zero low i ne h = ne_eqb i 0 ne
  sound_stop (suc k) low i ne h = rw (ne_eqb i 0 ne, h)

  -- a sound chain that has not ended goes on soundly
  pub sound_more : (k low i : ℕ) → (i ≢ 0) → sound_from m v (suc k) low i ≡ true → (follows m v low i ≡ true) × (sound_from m v k (m.far i) (m.next i) ≡ true)
  unfolding sound_from
  sound_more k low i ne h = go (or_cases (i == 0) (follows m v low i && sound_from m v k (m.far i) (m.next i)) h)
    where
      go : ((i == 0) ≡ true) ⊎ ((follows m v low i && sound_from m v k (m.far i) (m.next i)) ≡ true) → (follows m v low i ≡ true) × (sound_from m v k (m.far i) (m.next i) ≡ true)
      go (inl e) = absurd (ne (eqb-true i 0 e))
      go (inr e) = and_parts (follows m v low i) (sound_from m v k (m.far i) (m.next i)) e

  pub reaches_end : (k j : ℕ) → reaches m k 0 j ≡ false
  unfolding reaches
  reaches_end zero j = refl
  reaches_end (suc k) j = refl

  pub reaches_step : (k i j : ℕ) → (i ≢ 0) → reaches m (suc k) i j ≡ (i == j || reaches m k (m.next i) j)
  unfolding reaches
  reaches_step k i j ne = rw (ne_eqb i 0 ne)

  -- what a sound chain reaches stands in it
  pub reaches_member : (k low i j : ℕ) → sound_from m v k low i ≡ true → reaches m k i j ≡ true → Member m v low j
  unfolding reaches
  reaches_member zero low i j s h = absurd (both_ways false refl h)
  reaches_member (suc k) low i j s h = go (cases_eq i 0) (reaches_member k (m.far i) (m.next i) j)
    where
      deeper : Member m v low i → Member m v (m.far i) j → Member m v low j
      deeper a b = record { some = b.some; few = b.few; near = b.near; above = omega arith; below = b.below }

      at : (i ≢ 0) → (sound_from m v k (m.far i) (m.next i) ≡ true → reaches m k (m.next i) j ≡ true → Member m v (m.far i) j) → ((i == j) ≡ true) ⊎ (reaches m k (m.next i) j ≡ true) → Member m v low j
      at ne rest (inl e) = rw (eqb-true i j e) at (follows_member m v low i ne (sound_more k low i ne s).0)
      at ne rest (inr e) = deeper (follows_member m v low i ne (sound_more k low i ne s).0) (rest (sound_more k low i ne s).1 e)

      go : (i ≡ 0) ⊎ (i ≢ 0) → (sound_from m v k (m.far i) (m.next i) ≡ true → reaches m k (m.next i) j ≡ true → Member m v (m.far i) j) → Member m v low j
      go (inl e) rest = absurd (both_ways (reaches m (suc k) 0 j) (reaches_end (suc k) j) (ap (λ x. reaches m (suc k) x j) (sym e) ∙ h))
      go (inr ne) rest = at ne rest (or_cases (i == j) (reaches m k (m.next i) j) (sym (reaches_step k i j ne) ∙ h))

-- how many records follow from index i on, at most k
pub steps : Image → ℕ → ℕ → ℕ
steps m zero i = 0
steps m (suc k) i = cond (i == 0) 0 (suc (steps m k (m.next i)))

module _ (m : Image) (v : ℕ) where
  pub steps_end : (k : ℕ) → steps m k 0 ≡ 0
  unfolding steps
  steps_end zero = refl
  steps_end (suc k) = refl

  pub steps_step : (k i : ℕ) → (i ≢ 0) → steps m (suc k) i ≡ suc (steps m k (m.next i))
  unfolding steps
  steps_step k i ne = rw (ne_eqb i 0 ne)

  -- a sound chain reaches no record twice, so it reaches as many as it has steps
  pub steps_counted : (k low i : ℕ) → sound_from m v k low i ≡ true → count (λ j. reaches m k i (suc j)) m.records ≡ steps m k i
  unfolding reaches steps
  steps_counted zero low i s = count_none (λ j. false) m.records (λ j l. refl)
  steps_counted (suc k) low i s = go (cases_eq i 0) (steps_counted k (m.far i) (m.next i))
    where
      more : (i ≢ 0) → sound_from m v k (m.far i) (m.next i) ≡ true → Member m v low i → count (λ j. reaches m (suc k) i (suc j)) m.records ≡ count (λ j. reaches m k (m.next i) (suc j)) m.records + 1
      more ne rest here =
          let e : suc (i - 1) ≡ i = omega arith in
          count_more (λ j. reaches m k (m.next i) (suc j)) (λ j. reaches m (suc k) i (suc j)) m.records (i - 1) (omega arith)
          (absent e (cases_Bool (reaches m k (m.next i) i)))
          (reaches_step m v k i (suc (i - 1)) ne ∙ or_left (i == suc (i - 1)) (reaches m k (m.next i) (suc (i - 1))) (eq-eqb i (suc (i - 1)) (sym e)))
          (λ j l other. sym (reaches_step m v k i (suc j) ne ∙ ap (λ b. b || reaches m k (m.next i) (suc j)) (ne_eqb i (suc j) (λ d. other (omega arith)))))
        where
          absent : suc (i - 1) ≡ i → (reaches m k (m.next i) i ≡ true) ⊎ (reaches m k (m.next i) i ≡ false) → reaches m k (m.next i) (suc (i - 1)) ≡ false
          absent e (inl h) = absurd (let b : Member m v (m.far i) i = reaches_member m v k (m.far i) (m.next i) i rest h in omega (arith, b.above))
          absent e (inr h) = ap (reaches m k (m.next i)) e ∙ h

      go : (i ≡ 0) ⊎ (i ≢ 0) → (sound_from m v k (m.far i) (m.next i) ≡ true → count (λ j. reaches m k (m.next i) (suc j)) m.records ≡ steps m k (m.next i)) → count (λ j. reaches m (suc k) i (suc j)) m.records ≡ steps m (suc k) i
      go (inl e) rest = rw e (count_none (λ j. reaches m (suc k) 0 (suc j)) m.records (λ j l. reaches_end m v (suc k) (suc j)))
      go (inr ne) rest =
          let s' = sound_more m v k low i ne s in
          let a : count (λ j. reaches m (suc k) i (suc j)) m.records ≡ count (λ j. reaches m k (m.next i) (suc j)) m.records + 1 = more ne s'.1 (follows_member m v low i ne s'.0) in
          let b : count (λ j. reaches m k (m.next i) (suc j)) m.records ≡ steps m k (m.next i) = rest s'.1 in
          let c : steps m (suc k) i ≡ suc (steps m k (m.next i)) = steps_step k i ne in
          omega arith

-- a walk along the chain of v has come to index i, past count records of which the last has far end low
pub record Walking (m : Image) (v i low count : ℕ) : Type 0 where
  pub some : 1 ≤ v
  pub few : low ≤ m.size
  pub rises : count + v ≤ low
  pub same : sound_from m v (m.size - count) low i ≡ sound_chain m v
  pub counted : count + steps m (m.size - count) i ≡ steps m m.size (m.head v)

module _ (m : Image) (v : ℕ) where
  pub walk_starts : 1 ≤ v → v ≤ m.size → Walking m v (m.head v) v 0
  walk_starts a b =
      let e : m.size - 0 ≡ m.size = omega arith in
      record {
        some = a;
        few = b;
        rises = omega arith;
        same = ap (λ k. sound_from m v k v (m.head v)) e;
        counted = let d : steps m (m.size - 0) (m.head v) ≡ steps m m.size (m.head v) = ap (λ k. steps m k (m.head v)) e in omega arith;
      }

  pub walk_goes_on : (i low count next far : ℕ) → Walking m v i low count → Member m v low i → next ≡ m.next i → far ≡ m.far i → Walking m v next far (count + 1)
  walk_goes_on i low count next far w b next-is far-is = rw (next-is, far-is) after
    where
      after : Walking m v (m.next i) (m.far i) (count + 1)
      after =
          let ne : i ≡ 0 → ⊥ = λ e. omega (arith, b.some) in
          let e : m.size - count ≡ suc (m.size - (count + 1)) = omega arith in
          let s : sound_from m v (suc (m.size - (count + 1))) low i ≡ sound_chain m v = rw e at w.same in
          let c : count + steps m (suc (m.size - (count + 1))) i ≡ steps m m.size (m.head v) = rw e at w.counted in
          let d : steps m (suc (m.size - (count + 1))) i ≡ suc (steps m (m.size - (count + 1)) (m.next i)) = steps_step m v (m.size - (count + 1)) i ne in
          record {
            some = w.some;
            few = b.below;
            rises = omega arith;
            same = sym (sound_step m v (m.size - (count + 1)) low i ne (member_follows m v low i b)) ∙ s;
            counted = omega arith;
          }

  pub walk_fails : (i low count : ℕ) → Walking m v i low count → (i ≢ 0) → (Member m v low i → ⊥) → sound_chain m v ≡ false
  walk_fails i low count w ne out = sym w.same ∙ sound_stop m v (m.size - count) low i ne (no_member m v low i ne out)

  pub walk_ends : (i low n : ℕ) → Walking m v i low n → i ≡ 0 → Walked m v (Some n)
  walk_ends i low n w e =
      let sound : sound_chain m v ≡ true = sym w.same ∙ (ap (sound_from m v (m.size - n) low) e ∙ sound_end m v (m.size - n) low) in
      let s : count (λ j. in_chain m v (suc j)) m.records ≡ steps m m.size (m.head v) = steps_counted m v m.size v (m.head v) sound in
      let z : steps m (m.size - n) i ≡ 0 = ap (steps m (m.size - n)) e ∙ steps_end m v (m.size - n) in
      (sound, omega (arith, w.counted))
