-- The search by one of two kinds is the search by that kind.
use Rattle.std.proofs.Common.{◌≡◌, ℕ, suc, List, [], ◌∷◌, get_or, drop, fold, Ordering, refl}
use Rattle.label.specs.declared.either.Either.TheVariants as kind
use Rattle.label.specs.declared.either.Either.TheVariants.{First, Second}
use Rattle.label.specs.Eithers.{raised_either}
use Rattle.search.specs.Rule.{marks}
use Rattle.search.specs.Theorems.{ByFirst, BySecond}

module _ {A B X Y : Type 0} (bf : A → X) (bg : B → Y) (rf : A → X → ℕ → X) (rg : B → Y → ℕ → Y) (cf : A → X → X → Ordering) (cg : B → Y → Y → Ordering) where
  folds_first : (a : A) (x : X) (ms : List ℕ) → fold (raised_either rf rg (kind.First a)) (First x) ms ≡ First (fold (rf a) x ms)
  folds_first a x [] = refl
  folds_first a x (m ∷ ms) = folds_first a (rf a x m) ms

  folds_second : (b : B) (y : Y) (ms : List ℕ) → fold (raised_either rf rg (kind.Second b)) (Second y) ms ≡ Second (fold (rg b) y ms)
  folds_second b y [] = refl
  folds_second b y (m ∷ ms) = folds_second b (rg b y m) ms

  pub by_first : (a : A) → ByFirst bf bg rf rg cf cg a
  by_first a p us = (
    λ s. record { order = s.order; greatest = λ k i h l. rw (folds_first a (bf a) (marks p.joins (get_or us i 0) (suc (suc k)) (drop (suc k) us)), folds_first a (bf a) (marks p.joins (get_or us k 0) (suc (suc k)) (drop (suc k) us))) at (s.greatest k i h l) },
    λ s. record { order = s.order; greatest = λ k i h l. rw (folds_first a (bf a) (marks p.joins (get_or us i 0) (suc (suc k)) (drop (suc k) us)), folds_first a (bf a) (marks p.joins (get_or us k 0) (suc (suc k)) (drop (suc k) us))) (s.greatest k i h l) },
  )

  pub by_second : (b : B) → BySecond bf bg rf rg cf cg b
  by_second b p us = (
    λ s. record { order = s.order; greatest = λ k i h l. rw (folds_second b (bg b) (marks p.joins (get_or us i 0) (suc (suc k)) (drop (suc k) us)), folds_second b (bg b) (marks p.joins (get_or us k 0) (suc (suc k)) (drop (suc k) us))) at (s.greatest k i h l) },
    λ s. record { order = s.order; greatest = λ k i h l. rw (folds_second b (bg b) (marks p.joins (get_or us i 0) (suc (suc k)) (drop (suc k) us)), folds_second b (bg b) (marks p.joins (get_or us k 0) (suc (suc k)) (drop (suc k) us))) (s.greatest k i h l) },
  )
