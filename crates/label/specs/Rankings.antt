-- Comparisons that rank: the four laws of transitivity as one, and how rankings are put together.
use Rattle.std.specs.Prelude.{◌≡◌, ℕ, true, false, List, refl}
use Rattle.std.specs.declared.cmp.Ordering.TheVariants.{Less, Equal, Greater}
use Rattle.std.specs.declared.cmp.Ordering.{Ordering}
use Rattle.std.proofs.Common.{ap, ◌∙◌, arith}
use Rattle.std.proofs.lemmas.Bool.{both_ways}
use Rattle.std.proofs.lemmas.Bool.Decides.{nat_tests}
use Rattle.std.specs.Ordering.{ordering_reverse, ordering_then, is_le}
use Rattle.label.specs.Laws.{Laws}
use Rattle.label.specs.Counts.{by_number}

-- what is not greater chains: the first answer that is not equal is the answer of the ends
pub record Ranking {L : Type 0} (c : L → L → Ordering) : Type 0 where
  pub turns : (x y : L) → c y x ≡ ordering_reverse (c x y)
  pub chains : (x y z : L) → is_le (c x y) ≡ true → is_le (c y z) ≡ true → c x z ≡ ordering_then (c x y) (c y z)

module _ {L : Type 0} (c : L → L → Ordering) (r : Ranking c) where
  pub chain : (x y z : L) (o p : Ordering) → c x y ≡ o → c y z ≡ p → is_le o ≡ true → is_le p ≡ true → c x z ≡ ordering_then o p
  chain x y z o p a b h k = r.chains x y z (ap is_le a ∙ h) (ap is_le b ∙ k) ∙ (cc)

module _ {L : Type 0} (blank : L) (raised : L → ℕ → L) (c : L → L → Ordering) (stands : L → List ℕ → Type 0) (law : Laws blank raised c stands) where
  pub lawful_ranking : Ranking c
  lawful_ranking = record {
    turns = law.turns;
    chains = λ x y z h k. go x y z (c x y) (c y z) refl refl h k;
  }
    where
      go : (x y z : L) (o p : Ordering) → c x y ≡ o → c y z ≡ p → is_le o ≡ true → is_le p ≡ true → c x z ≡ ordering_then o p
      go x y z Less Less a b h k = law.less_less x y z a b
      go x y z Less Equal a b h k = law.less_equal x y z a b
      go x y z Less Greater a b h k = absurd (both_ways false refl k)
      go x y z Equal Less a b h k = law.equal_less x y z a b
      go x y z Equal Equal a b h k = law.equal_equal x y z a b
      go x y z Equal Greater a b h k = absurd (both_ways false refl k)
      go x y z Greater p a b h k = absurd (both_ways false refl h)

-- ---- rankings
pub level_ranking : {L : Type 0} → Ranking {L = L} (λ x y. Equal)
level_ranking = record { turns = λ x y. refl; chains = λ x y z h k. refl }

pub number_ranking : {L : Type 0} (key : L → ℕ) → Ranking (λ x y. by_number (key x) (key y))
number_ranking key = record { turns = λ x y. grind (arith, nat_tests); chains = λ x y z h k. grind (arith, nat_tests) }

pub upto_then_less : (o : Ordering) → is_le o ≡ true → ordering_then o Less ≡ Less
upto_then_less Less h = refl
upto_then_less Equal h = refl
upto_then_less Greater h = absurd (both_ways false refl h)

-- by one comparison, and where that finds no difference by another
pub then_ranking : {L : Type 0} (c d : L → L → Ordering) → Ranking c → Ranking d → Ranking (λ x y. ordering_then (c x y) (d x y))
then_ranking {L} c d r s = record {
  turns = λ x y. turned (c x y) (d x y) (c y x) (d y x) (r.turns x y) (s.turns x y);
  chains = λ x y z h k. go x y z (c x y) (c y z) refl refl h k;
}
  where
    turned : (o p o' p' : Ordering) → o' ≡ ordering_reverse o → p' ≡ ordering_reverse p → ordering_then o' p' ≡ ordering_reverse (ordering_then o p)
    turned Less p o' p' a b = cc
    turned Equal p o' p' a b = cc
    turned Greater p o' p' a b = cc

    go : (x y z : L) (o p : Ordering) → c x y ≡ o → c y z ≡ p → is_le (ordering_then o (d x y)) ≡ true → is_le (ordering_then p (d y z)) ≡ true → ordering_then (c x z) (d x z) ≡ ordering_then (ordering_then o (d x y)) (ordering_then p (d y z))
    go x y z Less Less a b h k = let e : c x z ≡ Less = chain c r x y z Less Less a b refl refl in cc
    go x y z Less Equal a b h k = let e : c x z ≡ Less = chain c r x y z Less Equal a b refl refl in cc
    go x y z Less Greater a b h k = absurd (both_ways false refl k)
    go x y z Equal Less a b h k =
        let e : c x z ≡ Less = chain c r x y z Equal Less a b refl refl in
        let f : ordering_then (d x y) Less ≡ Less = upto_then_less (d x y) h in
        cc
    go x y z Equal Equal a b h k =
        let e : c x z ≡ Equal = chain c r x y z Equal Equal a b refl refl in
        let f : d x z ≡ ordering_then (d x y) (d y z) = s.chains x y z h k in
        cc
    go x y z Equal Greater a b h k = absurd (both_ways false refl k)
    go x y z Greater p a b h k = absurd (both_ways false refl h)
