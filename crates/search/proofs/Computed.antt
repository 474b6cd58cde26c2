-- The orders of small plans, by computation.
use Rattle.std.proofs.Common.{◌≡◌, ℕ, zero, suc, ◌<◌, Bool, true, ◌&&◌, ◌⊎◌, List, [], ◌∷◌, get_or, Ordering, sym, refl, ap, ◌∙◌, inl, inr, arith}
use Rattle.std.proofs.lemmas.Bool.{and_parts, cases_eq}
use Rattle.plan.specs.Orders.{ordered}
use Rattle.plan.specs.Plans.{Plan, blank}
use Rattle.label.specs.Counted.{counting_lawful}
use Rattle.label.specs.LexLaws.{lexicographic_lawful}
use Rattle.label.specs.Counts.{no_count, counted, compared_counts}
use Rattle.label.specs.Sets.{no_marks, with_mark, compared_sets}
use Rattle.search.specs.Rule.{label, outranks, Searched}
use Rattle.search.specs.Worked.{Lexicographically, ByCounts, ring_of_four, ring_of_five, WorkedOrders}
use Rattle.search.proofs.Unique.{at_most_one}

-- a test passes for every number below n
abbrev all_below : (ℕ → Bool) → ℕ → Bool
all_below f zero = true
all_below f (suc n) = f n && all_below f n

all_below-at : (f : ℕ → Bool) (n : ℕ) → all_below f n ≡ true → (i : ℕ) → i < n → f i ≡ true
all_below-at f zero h i l = absurd (omega arith)
all_below-at f (suc n) h i l = go (cases_eq i n) (all_below-at f n (and_parts (f n) (all_below f n) h).1 i)
  where
    go : (i ≡ n) ⊎ (i ≡ n → ⊥) → (i < n → f i ≡ true) → f i ≡ true
    go (inl e) rest = ap f e ∙ (and_parts (f n) (all_below f n) h).0
    go (inr ne) rest = rest (omega arith)

-- the rule as a test
module _ {L : Type 0} (blank-label : L) (raised : L → ℕ → L) (compared : L → L → Ordering) (p : Plan) (us : List ℕ) where
  abbrev beats : ℕ → ℕ → Bool
  beats k i = outranks (compared (label blank-label raised p.joins us (suc k) (get_or us i 0)) (label blank-label raised p.joins us (suc k) (get_or us k 0))) (get_or us k 0) (get_or us i 0)

  searched_by_test : ordered p.size us ≡ true → all_below (λ k. all_below (beats k) k) p.size ≡ true → Searched blank-label raised compared p us
  searched_by_test o t = record {
    order = o;
    greatest = λ k i a b. all_below-at (beats k) k (all_below-at (λ j. all_below (beats j) j) p.size t k b) i a;
  }

lexicographic : (p : Plan) (us : List ℕ) → ordered p.size us ≡ true → all_below (λ k. all_below (beats no_marks with_mark compared_sets p us k) k) p.size ≡ true → Lexicographically p us
lexicographic p us o t = searched_by_test no_marks with_mark compared_sets p us o t

counting : (p : Plan) (us : List ℕ) → ordered p.size us ≡ true → all_below (λ k. all_below (beats no_count counted compared_counts p us k) k) p.size ≡ true → ByCounts p us
counting p us o t = searched_by_test no_count counted compared_counts p us o t

four_lexicographic : Lexicographically ring_of_four (3 ∷ 4 ∷ 2 ∷ 1 ∷ [])
four_lexicographic = lexicographic ring_of_four (3 ∷ 4 ∷ 2 ∷ 1 ∷ []) refl refl

four_counting : ByCounts ring_of_four (4 ∷ 3 ∷ 2 ∷ 1 ∷ [])
four_counting = counting ring_of_four (4 ∷ 3 ∷ 2 ∷ 1 ∷ []) refl refl

kinds_differ : (us : List ℕ) → Lexicographically ring_of_four us → ByCounts ring_of_four us → ⊥
kinds_differ us s t =
    let e : us ≡ 3 ∷ 4 ∷ 2 ∷ 1 ∷ [] = at_most_one no_marks with_mark compared_sets lexicographic_lawful.turns ring_of_four us (3 ∷ 4 ∷ 2 ∷ 1 ∷ []) s four_lexicographic in
    let f : us ≡ 4 ∷ 3 ∷ 2 ∷ 1 ∷ [] = at_most_one no_count counted compared_counts counting_lawful.turns ring_of_four us (4 ∷ 3 ∷ 2 ∷ 1 ∷ []) t four_counting in
    let z : ◌≡◌ {A = ℕ} 3 4 = sym (ap (λ ws. get_or ws 0 0) e) ∙ ap (λ ws. get_or ws 0 0) f in
    omega arith

pub worked_orders_lem : WorkedOrders
worked_orders_lem = record {
  one_lexicographic = lexicographic (blank 1) (1 ∷ []) refl refl;
  one_counting = counting (blank 1) (1 ∷ []) refl refl;
  four_lexicographic = four_lexicographic;
  four_counting = four_counting;
  five_lexicographic = lexicographic ring_of_five (4 ∷ 3 ∷ 5 ∷ 2 ∷ 1 ∷ []) refl refl;
  kinds_differ = kinds_differ;
}
