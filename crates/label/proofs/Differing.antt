-- The laws tell the empty label from a raised one.
use Rattle.std.proofs.Common.{◌≡◌, ℕ, false, List, [], ◌∷◌, Ordering, Less, Equal, refl, arith}
use Rattle.std.proofs.lemmas.Bool.{both_ways}
use Rattle.label.specs.Laws.{Laws, AllEqual}

module _ {L : Type 0} (blank : L) (raised : L → ℕ → L) (compared : L → L → Ordering) (stands : L → List ℕ → Type 0) (law : Laws blank raised compared stands) where
  pub empty_less : compared blank (raised blank 1) ≡ Less
  empty_less = law.fewer blank (raised blank 1) [] (1 ∷ []) 1 law.empty (law.raises blank [] 1 refl law.empty (λ x h. absurd (both_ways false refl h))) (λ x h. absurd (both_ways false refl h)) refl refl

  pub not_all_equal : AllEqual compared → ⊥
  not_all_equal same =
      let p : compared blank (raised blank 1) ≡ Less = empty_less in
      let q : compared blank (raised blank 1) ≡ Equal = same blank (raised blank 1) in
      let z : ◌≡◌ {A = ℕ} 0 1 = cc in
      omega arith
