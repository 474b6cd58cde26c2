-- Writing the places of a list of junctions into a table, one entry after the other.
use Rattle.std.proofs.Common.{◌≡◌, ℕ, suc, ◌+◌, ◌-◌, ◌<◌, ◌≤◌, true, false, ◌⊎◌, List, length, get_or, set, replicate, sym, refl, ap, ◌∙◌, inl, inr, arith}
use Rattle.std.proofs.lemmas.List.{length-set, length-replicate, get_or-replicate, get_or_past, get_or-set_same, get_or-set_other}
use Rattle.std.proofs.lemmas.Bool.{cases_eq, cases_lt, both_ways, false_from_ne_true, le-leb}
use Rattle.plan.specs.Plans.{within}
use Rattle.plan.specs.Orders.{ordered, place}
use Rattle.plan.proofs.Orders.{IsOrder, order_of, ordered_from_each, place_at}
use Rattle.elimination.specs.Steps.{Places}

-- the first i entries are different junctions of 1 to n with their places in the table, which is 0 elsewhere
pub record Located (n : ℕ) (us : List ℕ) (i : ℕ) (places : List ℕ) : Type 0 where
  pub size : length places ≡ 512
  pub seen : (j : ℕ) → j < i → (1 ≤ get_or us j 0) × (get_or us j 0 ≤ n) × (get_or places (get_or us j 0 - 1) 0 ≡ suc j)
  pub back : (k : ℕ) → (get_or places k 0 ≡ 0 → ⊥) → (get_or places k 0 ≤ i) × (get_or us (get_or places k 0 - 1) 0 ≡ suc k)

zeros : (m k : ℕ) → get_or {A = ℕ} (replicate m 0) k 0 ≡ 0
zeros m k = go (cases_lt k m)
  where
    go : (k < m) ⊎ (m ≤ k) → get_or {A = ℕ} (replicate m 0) k 0 ≡ 0
    go (inl h) = get_or-replicate m k 0 0 h
    go (inr h) = get_or_past (replicate m 0) k 0 (rw (length-replicate {A = ℕ} m 0) h)

pub located_none : (n : ℕ) (us : List ℕ) → Located n us 0 (replicate 512 0)
located_none n us =
    record {
      size = length-replicate {A = ℕ} 512 0;
      seen = λ j h. absurd (omega arith);
      back = λ k h. absurd (h (zeros 512 k));
    }

module _ (n : ℕ) (us : List ℕ) (i : ℕ) (places : List ℕ) (l : Located n us i places) where
  -- an entry without a place yet gets the next
  pub located_more : (v : ℕ) → get_or us i 0 ≡ v → 1 ≤ v → v ≤ n → n ≤ 512 → get_or places (v - 1) 0 ≡ 0 → Located n us (i + 1) (set places (v - 1) (i + 1))
  located_more v e a b few free =
      record {
        size = length-set places (v - 1) (i + 1) ∙ l.size;
        seen = λ j h. seen j (cases_eq j i) h;
        back = λ k h. back k (cases_eq k (v - 1)) h;
      }
    where
      here : get_or (set places (v - 1) (i + 1)) (v - 1) 0 ≡ i + 1
      here = get_or-set_same places (v - 1) (i + 1) 0 (omega (arith, l.size))

      there : (k : ℕ) → (k ≡ v - 1 → ⊥) → get_or (set places (v - 1) (i + 1)) k 0 ≡ get_or places k 0
      there k ne = get_or-set_other places (v - 1) k (i + 1) 0 ne

      seen : (j : ℕ) → (j ≡ i) ⊎ (j ≡ i → ⊥) → j < i + 1 → (1 ≤ get_or us j 0) × (get_or us j 0 ≤ n) × (get_or (set places (v - 1) (i + 1)) (get_or us j 0 - 1) 0 ≡ suc j)
      seen j (inl d) h =
          let q : get_or us j 0 ≡ v = ap (λ k. get_or us k 0) d ∙ e in
          rw q (a, b, here ∙ omega arith)
      seen j (inr ne) h =
          let old : (1 ≤ get_or us j 0) × (get_or us j 0 ≤ n) × (get_or places (get_or us j 0 - 1) 0 ≡ suc j) = l.seen j (omega arith) in
          (old.0, old.1, there (get_or us j 0 - 1) (λ d. let z : get_or places (get_or us j 0 - 1) 0 ≡ 0 = ap (λ k. get_or places k 0) d ∙ free in omega (arith, old.2)) ∙ old.2)

      back : (k : ℕ) → (k ≡ v - 1) ⊎ (k ≡ v - 1 → ⊥) → (get_or (set places (v - 1) (i + 1)) k 0 ≡ 0 → ⊥) → (get_or (set places (v - 1) (i + 1)) k 0 ≤ i + 1) × (get_or us (get_or (set places (v - 1) (i + 1)) k 0 - 1) 0 ≡ suc k)
      back k (inl d) h =
          let z : get_or (set places (v - 1) (i + 1)) k 0 ≡ i + 1 = ap (λ m. get_or (set places (v - 1) (i + 1)) m 0) d ∙ here in
          let y : (i + 1) - 1 ≡ i = omega arith in
          rw (z, y) (omega arith, e ∙ omega arith)
      back k (inr ne) h =
          let z : get_or (set places (v - 1) (i + 1)) k 0 ≡ get_or places k 0 = there k ne in
          let old : (get_or places k 0 ≤ i) × (get_or us (get_or places k 0 - 1) 0 ≡ suc k) = l.back k (λ w. h (z ∙ w)) in
          rw z (omega (arith, old.0), old.1)

  -- an entry that has a place already
  pub not_ordered_twice : i < n → 1 ≤ get_or us i 0 → (get_or places (get_or us i 0 - 1) 0 ≡ 0 → ⊥) → ordered n us ≡ false
  not_ordered_twice h a taken = false_from_ne_true (ordered n us) twice
    where
      twice : ordered n us ≡ true → ⊥
      twice t =
          let old : (get_or places (get_or us i 0 - 1) 0 ≤ i) × (get_or us (get_or places (get_or us i 0 - 1) 0 - 1) 0 ≡ suc (get_or us i 0 - 1)) = l.back (get_or us i 0 - 1) taken in
          let same : suc (get_or us i 0 - 1) ≡ get_or us i 0 = omega arith in
          (order_of n us t).once (get_or places (get_or us i 0 - 1) 0 - 1) i (omega (arith, old.0)) h (old.1 ∙ same)

  pub ordered_all : i ≡ n → length us ≡ n → ordered n us ≡ true
  ordered_all e long =
      ordered_from_each n us long
      (λ j h. ((l.seen j (omega arith)).0, (l.seen j (omega arith)).1))
      (λ j k h m d. let z : get_or places (get_or us j 0 - 1) 0 ≡ get_or places (get_or us k 0 - 1) 0 = ap (λ x. get_or places (x - 1) 0) d in omega (arith, (l.seen j (omega arith)).2, (l.seen k (omega arith)).2))

  pub places_all : i ≡ n → length us ≡ n → Places n us places
  places_all e long v a b =
      let o : IsOrder n us = order_of n us (ordered_all e long) in
      let r : (j : ℕ) × (j < n) × (get_or us j 0 ≡ v) = o.all v a b in
      ap (λ x. get_or places (x - 1) 0) (sym r.2) ∙ (l.seen r.0 (omega (arith, r.1))).2 ∙ sym (place_at n us o r.0 r.1) ∙ ap (place us) r.2

pub not-ordered-outside : (n : ℕ) (us : List ℕ) (i : ℕ) → i < n → within n (get_or us i 0) ≡ false → ordered n us ≡ false
not-ordered-outside n us i h out = false_from_ne_true (ordered n us) inside
  where
    inside : ordered n us ≡ true → ⊥
    inside t =
        let e : (1 ≤ get_or us i 0) × (get_or us i 0 ≤ n) = (order_of n us t).each i h in
        both_ways (within n (get_or us i 0)) out (rw (le-leb 1 (get_or us i 0) e.0, le-leb (get_or us i 0) n e.1) refl)
