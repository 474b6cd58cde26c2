-- Outranking is transitive and, of two different junctions, one outranks the other.
use Rattle.std.proofs.Common.{◌≡◌, ℕ, ◌+◌, ◌<◌, true, false, ◌⊎◌, List, Ordering, Less, Equal, Greater, sym, refl, ap, ◌∙◌, inl, inr, arith}
use Rattle.std.proofs.lemmas.Bool.{both_ways, cases_eq}
use Rattle.std.proofs.lemmas.Bool.Decides.{nat_tests}
use Rattle.std.specs.Ordering.{ordering_reverse}
use Rattle.label.specs.Laws.{Laws}
use Rattle.search.specs.Rule.{outranks}

module _ {L : Type 0} (blank : L) (raised : L → ℕ → L) (compared : L → L → Ordering) (stands : L → List ℕ → Type 0) (law : Laws blank raised compared stands) where
  -- u with label a, v with label b, w with label c
  pub outranks_chain : (u v w : ℕ) (a b c : L) → outranks (compared b a) u v ≡ true → outranks (compared c b) v w ≡ true → outranks (compared c a) u w ≡ true
  outranks_chain u v w a b c h k = go (compared b a) (compared c b) refl refl h k
    where
      go : (o p : Ordering) → compared b a ≡ o → compared c b ≡ p → outranks o u v ≡ true → outranks p v w ≡ true → outranks (compared c a) u w ≡ true
      go Less Less x y h k = ap (λ o. outranks o u w) (law.less_less c b a y x)
      go Less Equal x y h k = ap (λ o. outranks o u w) (law.equal_less c b a y x)
      go Less Greater x y h k = absurd (both_ways false refl k)
      go Equal Less x y h k = ap (λ o. outranks o u w) (law.less_equal c b a y x)
      go Equal Equal x y h k = ap (λ o. outranks o u w) (law.equal_equal c b a y x) ∙ (grind (arith, nat_tests))
      go Equal Greater x y h k = absurd (both_ways false refl k)
      go Greater p x y h k = absurd (both_ways false refl h)

  pub outranked : (u v : ℕ) (a b : L) → (u ≡ v → ⊥) → outranks (compared b a) u v ≡ false → outranks (compared a b) v u ≡ true
  outranked u v a b ne h = go (compared b a) refl h
    where
      go : (o : Ordering) → compared b a ≡ o → outranks o u v ≡ false → outranks (compared a b) v u ≡ true
      go Less e h = absurd (both_ways true h refl)
      go Equal e h = ap (λ o. outranks o v u) (law.turns b a ∙ ap ordering_reverse e) ∙ (grind (arith, nat_tests))
      go Greater e h = ap (λ o. outranks o v u) (law.turns b a ∙ ap ordering_reverse e)

  -- the best of the indices below i, and then of those up to i; index k has junction at k with label tag k
  module _ (at : ℕ → ℕ) (tag : ℕ → L) (best i : ℕ) (low : best < i) (inv : (k : ℕ) → k < i → (k ≡ best → ⊥) → outranks (compared (tag k) (tag best)) (at best) (at k) ≡ true) where
    pub better : (b : ℕ) → b ≡ i → true ≡ outranks (compared (tag best) (tag i)) (at i) (at best) → (k : ℕ) → k < i + 1 → (k ≡ b → ⊥) → outranks (compared (tag k) (tag b)) (at b) (at k) ≡ true
    better b is h k l ne = rw is (go (cases_eq k best))
      where
        go : (k ≡ best) ⊎ (k ≡ best → ⊥) → outranks (compared (tag k) (tag i)) (at i) (at k) ≡ true
        go (inl e) = rw e (sym h)
        go (inr other) = outranks_chain (at i) (at best) (at k) (tag i) (tag best) (tag k) (sym h) (inv k (omega arith) other)

    pub no_better : (b : ℕ) → b ≡ best → (at i ≡ at best → ⊥) → false ≡ outranks (compared (tag best) (tag i)) (at i) (at best) → (k : ℕ) → k < i + 1 → (k ≡ b → ⊥) → outranks (compared (tag k) (tag b)) (at b) (at k) ≡ true
    no_better b is apart h k l ne = rw is (go (cases_eq k i))
      where
        go : (k ≡ i) ⊎ (k ≡ i → ⊥) → outranks (compared (tag k) (tag best)) (at best) (at k) ≡ true
        go (inl e) = rw e (outranked (at i) (at best) (tag i) (tag best) apart (sym h))
        go (inr other) = inv k (omega arith) (omega arith)
