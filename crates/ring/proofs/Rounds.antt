-- A ring as a function of the index.
use Rattle.std.proofs.Common.{◌≡◌, ℕ, ◌+◌, ◌<◌, ◌≤◌, Bool, true, false, ◌⊎◌, List, map, length, get_or, sym, ◌∙◌, ap₂, inl, inr, arith}
use Rattle.std.specs.List.{range_with_len}
use Rattle.std.proofs.lemmas.List.FromFn.{length-map-range_with_len, get_or-map-range_with_len}
use Rattle.std.proofs.lemmas.Bool.{cases_eq, cases_lt}
use Rattle.std.proofs.lemmas.Bool.Decides.{nat_tests}
use Rattle.plan.specs.Plans.{Plan}
use Rattle.ring.specs.Rings.{Ring, beside}

-- r 0 to r (k - 1) is a ring: each joined to the next and the last to the first, with no other pipe among them
pub record Round (g : ℕ → ℕ → Bool) (k : ℕ) (r : ℕ → ℕ) : Type 0 where
  pub long : 4 ≤ k
  pub step : (i j : ℕ) → j ≡ i + 1 → j < k → g (r i) (r j) ≡ true
  pub close : (j : ℕ) → j + 1 ≡ k → g (r 0) (r j) ≡ true
  pub apart : (i j : ℕ) → i + 1 < j → j < k → j + 1 < k + i → g (r i) (r j) ≡ false
  pub once : (i j : ℕ) → i < j → j < k → r i ≡ r j → ⊥

beside_step : (k i j : ℕ) → j ≡ i + 1 → beside k i j ≡ true
beside_step k i j e = grind (arith, nat_tests)

beside_close : (k j : ℕ) → j + 1 ≡ k → beside k 0 j ≡ true
beside_close k j e = grind (arith, nat_tests)

beside_apart : (k i j : ℕ) → i + 1 < j → j < k → j + 1 < k + i → beside k i j ≡ false
beside_apart k i j a b c = grind (arith, nat_tests)

pub round_of_ring : (p : Plan) (vs : List ℕ) → Ring p vs → Round p.joins (length vs) (λ i. get_or vs i 0)
round_of_ring p vs h = record {
  long = h.long;
  step = λ i j e l. h.round i j (omega arith) l ∙ beside_step _ i j e;
  close = λ j e. h.round 0 j (omega (arith, h.long)) (omega arith) ∙ beside_close _ j e;
  apart = λ i j a b c. h.round i j (omega arith) b ∙ beside_apart _ i j a b c;
  once = h.once;
}

module _ (p : Plan) (k : ℕ) (r : ℕ → ℕ) (h : Round p.joins k r) where
  round_beside : (i j : ℕ) → i < j → j < k → p.joins (r i) (r j) ≡ beside k i j
  round_beside i j l m = go (cases_eq j (i + 1)) (cases_lt (j + 1) (k + i))
    where
      go : (j ≡ i + 1) ⊎ (j ≡ i + 1 → ⊥) → (j + 1 < k + i) ⊎ (k + i ≤ j + 1) → p.joins (r i) (r j) ≡ beside k i j
      go (inl e) c = h.step i j e m ∙ sym (beside_step k i j e)
      go (inr ne) (inl c) = h.apart i j (omega arith) m c ∙ sym (beside_apart k i j (omega arith) m c)
      go (inr ne) (inr c) =
          let e : i ≡ 0 = omega arith in
          let f : j + 1 ≡ k = omega arith in
          rw e (h.close j f ∙ sym (beside_close k j f))

  -- a list that reads as the ring
  pub ring_from_reads : (vs : List ℕ) → length vs ≡ k → ((i : ℕ) → i < k → get_or vs i 0 ≡ r i) → Ring p vs
  ring_from_reads vs len at = record {
    long = rw len h.long;
    once = λ i j l m e. let m' : j < k = rw len at m in h.once i j l m' (sym (at i (omega arith)) ∙ e ∙ at j m');
    round = λ i j l m. let m' : j < k = rw len at m in rw len (ap₂ p.joins (at i (omega arith)) (at j m') ∙ round_beside i j l m');
  }

  pub ring_of_round : Ring p (map r (range_with_len 0 k))
  ring_of_round = ring_from_reads (map r (range_with_len 0 k)) (length-map-range_with_len r 0 k) (λ i l. get_or-map-range_with_len r 0 k i i 0 l (omega arith))
