-- Two kinds of label as one. The kind chosen acts on its own labels; it leaves those of the other as they are, and takes them for equal.
use Rattle.std.specs.Prelude.{ℕ, List}
use Rattle.std.specs.declared.cmp.Ordering.TheVariants.{Less, Equal, Greater}
use Rattle.std.specs.declared.cmp.Ordering.{Ordering}
use Rattle.label.specs.declared.either.Either.{Either}
use Rattle.label.specs.declared.either.Either.TheVariants.{First, Second}

abbrev pub blank_either : {A B X Y : Type 0} → (A → X) → (B → Y) → Either A B → Either X Y
blank_either f g (First a) = First (f a)
blank_either f g (Second b) = Second (g b)

abbrev pub raised_either : {A B X Y : Type 0} → (A → X → ℕ → X) → (B → Y → ℕ → Y) → Either A B → Either X Y → ℕ → Either X Y
raised_either f g (First a) (First x) m = First (f a x m)
raised_either f g (First a) (Second y) m = Second y
raised_either f g (Second b) (First x) m = First x
raised_either f g (Second b) (Second y) m = Second (g b y m)

-- labels of different kinds compare by kind
abbrev pub by_kind : {X Y : Type 0} → (X → X → Ordering) → (Y → Y → Ordering) → Either X Y → Either X Y → Ordering
by_kind c d (First p) (First q) = c p q
by_kind c d (First p) (Second q) = Less
by_kind c d (Second p) (First q) = Greater
by_kind c d (Second p) (Second q) = d p q

abbrev pub compared_either : {A B X Y : Type 0} → (A → X → X → Ordering) → (B → Y → Y → Ordering) → Either A B → Either X Y → Either X Y → Ordering
compared_either f g (First a) x y = by_kind (f a) (λ p q. Equal) x y
compared_either f g (Second b) x y = by_kind (λ p q. Equal) (g b) x y

abbrev pub StandsEither : {A B X Y : Type 0} → (A → X → List ℕ → Type 0) → (B → Y → List ℕ → Type 0) → Either A B → Either X Y → List ℕ → Type 0
StandsEither f g (First a) (First x) s = f a x s
StandsEither f g (First a) (Second y) s = ⊥
StandsEither f g (Second b) (First x) s = ⊥
StandsEither f g (Second b) (Second y) s = g b y s
