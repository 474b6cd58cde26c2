-- What is proved of orders by the rule.
use Rattle.std.specs.Prelude.{◌≡◌, ℕ, ◌<◌, true, false, ◌↔◌, List, slice_index}
use Rattle.std.specs.declared.cmp.Ordering.{Ordering}
use Rattle.label.specs.Eithers.{blank_either, raised_either, compared_either}
use Rattle.label.specs.declared.either.Either.TheVariants as kind
use Rattle.plan.specs.Plans.{Plan, Sound}
use Rattle.search.specs.Rule.{Searched}

-- a plan has at most one order by the rule
abbrev pub AtMostOne : {L : Type 0} → L → (L → ℕ → L) → (L → L → Ordering) → Type 0
AtMostOne blank raised compared = (p : Plan) (us ws : List ℕ) → Searched blank raised compared p us → Searched blank raised compared p ws → us ≡ ws

-- a place d above b whose junction is joined to that of b and not to that of a; the places are counted from 0
pub record LateNeighbour (p : Plan) (us : List ℕ) (a b : ℕ) : Type 0 where
  pub place : ℕ
  pub above : b < place
  pub inside : place < p.size
  pub joined : p.joins (slice_index us b) (slice_index us place) ≡ true
  pub apart : p.joins (slice_index us a) (slice_index us place) ≡ false

-- of places a below b below c, the junction of c joined to that of a and not to that of b: then b has a late neighbour that a has not
abbrev pub LateNeighbours : {L : Type 0} → L → (L → ℕ → L) → (L → L → Ordering) → Type 0
LateNeighbours blank raised compared = (p : Plan) (us : List ℕ) → Sound p → Searched blank raised compared p us → (a b c : ℕ) → a < b → b < c → c < p.size → p.joins (slice_index us a) (slice_index us c) ≡ true → p.joins (slice_index us b) (slice_index us c) ≡ false → LateNeighbour p us a b

-- an order by the first of two kinds taken together is an order by that kind, and the other way round; and so for the second
abbrev pub ByFirst : {A B X Y : Type 0} → (A → X) → (B → Y) → (A → X → ℕ → X) → (B → Y → ℕ → Y) → (A → X → X → Ordering) → (B → Y → Y → Ordering) → A → Type 0
ByFirst bf bg rf rg cf cg a = (p : Plan) (us : List ℕ) → Searched (blank_either bf bg (kind.First a)) (raised_either rf rg (kind.First a)) (compared_either cf cg (kind.First a)) p us ↔ Searched (bf a) (rf a) (cf a) p us

abbrev pub BySecond : {A B X Y : Type 0} → (A → X) → (B → Y) → (A → X → ℕ → X) → (B → Y → ℕ → Y) → (A → X → X → Ordering) → (B → Y → Y → Ordering) → B → Type 0
BySecond bf bg rf rg cf cg b = (p : Plan) (us : List ℕ) → Searched (blank_either bf bg (kind.Second b)) (raised_either rf rg (kind.Second b)) (compared_either cf cg (kind.Second b)) p us ↔ Searched (bg b) (rg b) (cg b) p us
