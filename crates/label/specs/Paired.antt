-- Two kinds of label as one keep the laws.
use Rattle.std.specs.Prelude.{◌≡◌, ℕ, ◌<◌, true, false, List, [], ◌∷◌, ◌++◌, refl}
use Rattle.std.specs.declared.cmp.Ordering.TheVariants.{Less, Equal}
use Rattle.std.specs.declared.cmp.Ordering.{Ordering}
use Rattle.std.proofs.lemmas.Bool.{both_ways}
use Rattle.std.specs.Ordering.{ordering_reverse, ordering_then, is_le}
use Rattle.label.specs.declared.either.Either.{Either}
use Rattle.label.specs.declared.either.Either.TheVariants.{First, Second}
use Rattle.label.specs.Marks.{has, is_mark}
use Rattle.label.specs.Laws.{Laws}
use Rattle.label.specs.Eithers.{blank_either, raised_either, by_kind, compared_either, StandsEither}
use Rattle.label.specs.Rankings.{Ranking, chain, lawful_ranking, level_ranking, upto_then_less}

kind_ranking : {X Y : Type 0} (c : X → X → Ordering) (d : Y → Y → Ordering) → Ranking c → Ranking d → Ranking (by_kind c d)
kind_ranking {X} {Y} c d r s = record { turns = turned; chains = chained }
  where
    turned : (x y : Either X Y) → by_kind c d y x ≡ ordering_reverse (by_kind c d x y)
    turned (First p) (First q) = r.turns p q
    turned (First p) (Second q) = refl
    turned (Second p) (First q) = refl
    turned (Second p) (Second q) = s.turns p q

    chained : (x y z : Either X Y) → is_le (by_kind c d x y) ≡ true → is_le (by_kind c d y z) ≡ true → by_kind c d x z ≡ ordering_then (by_kind c d x y) (by_kind c d y z)
    chained (First p) (First q) (First t) h k = r.chains p q t h k
    chained (First p) (First q) (Second t) h k = let e : ordering_then (c p q) Less ≡ Less = upto_then_less (c p q) h in cc
    chained (First p) (Second q) (First t) h k = absurd (both_ways false refl k)
    chained (First p) (Second q) (Second t) h k = refl
    chained (Second p) (First q) z h k = absurd (both_ways false refl h)
    chained (Second p) (Second q) (First t) h k = absurd (both_ways false refl k)
    chained (Second p) (Second q) (Second t) h k = s.chains p q t h k

module _ {A B X Y : Type 0} (bf : A → X) (bg : B → Y) (rf : A → X → ℕ → X) (rg : B → Y → ℕ → Y) (cf : A → X → X → Ordering) (cg : B → Y → Y → Ordering) (sf : A → X → List ℕ → Type 0) (sg : B → Y → List ℕ → Type 0) (lf : (a : A) → Laws (bf a) (rf a) (cf a) (sf a)) (lg : (b : B) → Laws (bg b) (rg b) (cg b) (sg b)) where
  ranking : (k : Either A B) → Ranking (compared_either cf cg k)
  ranking (First a) = kind_ranking (cf a) (λ p q. Equal) (lawful_ranking (bf a) (rf a) (cf a) (sf a) (lf a)) level_ranking
  ranking (Second b) = kind_ranking (λ p q. Equal) (cg b) level_ranking (lawful_ranking (bg b) (rg b) (cg b) (sg b) (lg b))

  empty : (k : Either A B) → StandsEither sf sg k (blank_either bf bg k) []
  empty (First a) = (lf a).empty
  empty (Second b) = (lg b).empty

  raises : (k : Either A B) (x : Either X Y) (s : List ℕ) (m : ℕ) → is_mark m ≡ true → StandsEither sf sg k x s → ((i : ℕ) → has s i ≡ true → m < i) → StandsEither sf sg k (raised_either rf rg k x m) (s ++ m ∷ [])
  raises (First a) (First x) s m i h above = (lf a).raises x s m i h above
  raises (First a) (Second x) s m i h above = absurd h
  raises (Second b) (First x) s m i h above = absurd h
  raises (Second b) (Second x) s m i h above = (lg b).raises x s m i h above

  fewer : (k : Either A B) (x y : Either X Y) (s t : List ℕ) (m : ℕ) → StandsEither sf sg k x s → StandsEither sf sg k y t → ((i : ℕ) → has s i ≡ true → has t i ≡ true) → has t m ≡ true → has s m ≡ false → compared_either cf cg k x y ≡ Less
  fewer (First a) (First x) (First y) s t m h k sub p q = (lf a).fewer x y s t m h k sub p q
  fewer (First a) (First x) (Second y) s t m h k sub p q = absurd k
  fewer (First a) (Second x) y s t m h k sub p q = absurd h
  fewer (Second b) (First x) y s t m h k sub p q = absurd h
  fewer (Second b) (Second x) (First y) s t m h k sub p q = absurd k
  fewer (Second b) (Second x) (Second y) s t m h k sub p q = (lg b).fewer x y s t m h k sub p q

  pub either_lawful : (k : Either A B) → Laws (blank_either bf bg k) (raised_either rf rg k) (compared_either cf cg k) (StandsEither sf sg k)
  either_lawful k =
      let c : Either X Y → Either X Y → Ordering = compared_either cf cg k in
      record {
        empty = empty k;
        raises = raises k;
        turns = (ranking k).turns;
        less_less = λ x y z p q. chain c (ranking k) x y z Less Less p q refl refl;
        less_equal = λ x y z p q. chain c (ranking k) x y z Less Equal p q refl refl;
        equal_less = λ x y z p q. chain c (ranking k) x y z Equal Less p q refl refl;
        equal_equal = λ x y z p q. chain c (ranking k) x y z Equal Equal p q refl refl;
        fewer = fewer k;
      }
