-- What a kind of label keeps. The laws speak of labels: two labels may stand for one list, and one label for several.
use Rattle.std.specs.Prelude.{◌≡◌, ℕ, ◌<◌, true, false, List, [], ◌∷◌, ◌++◌}
use Rattle.std.specs.declared.cmp.Ordering.TheVariants.{Less, Equal}
use Rattle.std.specs.declared.cmp.Ordering.{Ordering}
use Rattle.std.specs.Ordering.{ordering_reverse}
use Rattle.label.specs.Marks.{has, is_mark}

pub record Laws {L : Type 0} (blank : L) (raised : L → ℕ → L) (compared : L → L → Ordering) (stands : L → List ℕ → Type 0) : Type 0 where
  -- the empty label stands for the empty list
  pub empty : stands blank []
  -- a label that stands for s, raised by a mark below all of s, stands for s with that mark after it
  pub raises : (a : L) (s : List ℕ) (m : ℕ) → is_mark m ≡ true → stands a s → ((x : ℕ) → has s x ≡ true → m < x) → stands (raised a m) (s ++ m ∷ [])
  -- the comparison turns round when its sides are exchanged
  pub turns : (a b : L) → compared b a ≡ ordering_reverse (compared a b)
  -- less and equal are transitive
  pub less_less : (a b c : L) → compared a b ≡ Less → compared b c ≡ Less → compared a c ≡ Less
  pub less_equal : (a b c : L) → compared a b ≡ Less → compared b c ≡ Equal → compared a c ≡ Less
  pub equal_less : (a b c : L) → compared a b ≡ Equal → compared b c ≡ Less → compared a c ≡ Less
  pub equal_equal : (a b c : L) → compared a b ≡ Equal → compared b c ≡ Equal → compared a c ≡ Equal
  -- a stands for s and b for t; all of s is in t, and t has a mark m more: then a is less than b
  pub fewer : (a b : L) (s t : List ℕ) (m : ℕ) → stands a s → stands b t → ((x : ℕ) → has s x ≡ true → has t x ≡ true) → has t m ≡ true → has s m ≡ false → compared a b ≡ Less

-- all labels are equal
abbrev pub AllEqual : {L : Type 0} → (L → L → Ordering) → Type 0
AllEqual {L} compared = (a b : L) → compared a b ≡ Equal
