-- What a checked image answers: outside its junctions, below v, and below v or else above.
use Rattle.std.specs.Prelude.{◌≡◌, ℕ, ◌+◌, ◌<◌, ◌≤◌, Bool, true, false, Some, None, Option, MatchOption}
use Rattle.std.specs.Option.{option_map}
use Rattle.std.proofs.Common.{sym, ap, ◌∙◌, arith}
use Rattle.plan.specs.declared.number.Junction.{Junction}
use Rattle.plan.specs.Plans.{Plan, Sound, NextNeighbour, within}
use Rattle.image.specs.declared.checked.CheckedImage.{CheckedImage}
use Rattle.image.specs.Checked.{plan_in, LowerNeighbour}
use Rattle.image.specs.CheckedPlans.{checked_sound, outside_apart, next_past}

-- the first of w + 1 to v - 1 that is joined to v
pub first_below : (p : Plan) (s : Sound p) (v w : ℕ) (r : Option ℕ) → MatchOption r ((k : ℕ) → w + 1 ≤ k → k < v → p.joins k v ≡ false) (λ i. (w + 1 ≤ i) × (i < v) × (p.joins i v ≡ true) × ((k : ℕ) → w + 1 ≤ k → k < i → p.joins k v ≡ false)) → LowerNeighbour p v w (option_map (λ u. record { 0 = u }) r)
first_below p s v w None h = λ u a b. s.alike v u ∙ h u (omega arith) b
first_below p s v w (Some u) h = (omega (arith, h.0), h.1, s.alike v u ∙ h.2, λ x a b. s.alike v x ∙ h.3 x (omega arith) b)

-- and where none is, the first above v
pub first_below_or_above : (p : Plan) (s : Sound p) (v w : ℕ) (below r : Option Junction) → w < v → LowerNeighbour p v w below → MatchOption below (NextNeighbour p v v r) (λ u. r ≡ Some u) → NextNeighbour p v w r
first_below_or_above p s v w None r l h m = next_past p s v w r l h m
first_below_or_above p s v w (Some u) r l h m = rw m (h.0, h.2, h.3)

-- a number that is no junction has no pipe
pub outside : (c : CheckedImage) (v w : ℕ) (b : Bool) → b ≡ within c.header.n v → b ≡ false → (plan_in c).joins v w ≡ false
outside c v w b e f = outside_apart (plan_in c) (checked_sound c) v w (sym (ap (λ n. within n v) c.size) ∙ (sym e ∙ f))
