-- Plans without a pipe, in which every junction is in service.
use Rattle.std.proofs.Common.{◌≡◌, ℕ, ◌<◌, ◌≤◌, true, false, not, ◌⊎◌, is_some, Some, None, Option, refl, inl, inr, arith}
use Rattle.std.proofs.lemmas.Bool.{cases_Bool, both_ways, and_parts, and_from, and_left, and_right, not_from_true, not_from_false}
use Rattle.plan.specs.declared.number.Junction.{Junction}
use Rattle.plan.specs.Plans.{Plan, Sound, NextNeighbour}
use Rattle.image.specs.Ranges.{each, some}
use Rattle.image.specs.RangesLemmas.{some_at, some-none, each_at, each_all}
use Rattle.set.specs.Ledgers.{clear}

-- the junctions below v are in service and have no neighbour
abbrev pub ClearBelow : Plan → ℕ → Type 0
ClearBelow p v = (u : ℕ) → 1 ≤ u → u < v → (p.serves u ≡ true) × ((w : ℕ) → 1 ≤ w → p.joins u w ≡ false)

pub clear_all : (p : Plan) (v : ℕ) → p.size < v → ClearBelow p v → clear p ≡ true
clear_all p v l below =
    and_from (each p.serves p.size) (not (some (λ u. some (p.joins u) p.size) p.size)) (each_all p.serves p.size (λ u a b. (below u a (omega arith)).0))
    (not_from_false (some (λ u. some (p.joins u) p.size) p.size) (some-none (λ u. some (p.joins u) p.size) p.size (λ u a b. some-none (p.joins u) p.size (λ w c d. (below u a (omega arith)).1 w c))))

-- a junction out of service
pub clear-unserved : (p : Plan) (v : ℕ) → 1 ≤ v → v ≤ p.size → p.serves v ≡ false → clear p ≡ false
clear-unserved p v a b h = and_left (each p.serves p.size) (not (some (λ u. some (p.joins u) p.size) p.size)) (go (cases_Bool (each p.serves p.size)))
  where
    go : (each p.serves p.size ≡ true) ⊎ (each p.serves p.size ≡ false) → each p.serves p.size ≡ false
    go (inl e) = absurd (both_ways (p.serves v) h (each_at p.serves p.size e v a b))
    go (inr e) = e

-- a pipe
pub clear-joined : (p : Plan) → Sound p → (v w : ℕ) → p.joins v w ≡ true → clear p ≡ false
clear-joined p s v w h =
    let ends : (p.serves v ≡ true) × (p.serves w ≡ true) = s.ends v w h in
    let left : (1 ≤ v) × (v ≤ p.size) = s.inside v ends.0 in
    let right : (1 ≤ w) × (w ≤ p.size) = s.inside w ends.1 in
    and_right (each p.serves p.size) (not (some (λ u. some (p.joins u) p.size) p.size))
    (not_from_true (some (λ u. some (p.joins u) p.size) p.size) (some_at (λ u. some (p.joins u) p.size) p.size v left.0 left.1 (some_at (p.joins v) p.size w right.0 right.1 h)))

-- what the next neighbour after 0 tells
pub next-clear-joined : (p : Plan) → Sound p → (v : ℕ) (r : Option Junction) → is_some r ≡ true → NextNeighbour p v 0 r → clear p ≡ false
next-clear-joined p s v None h n = absurd (both_ways false refl h)
next-clear-joined p s v (Some w) h n = clear-joined p s v w.0 n.1

pub next-none : (p : Plan) (v : ℕ) (r : Option Junction) → is_some r ≡ false → NextNeighbour p v 0 r → (w : ℕ) → 0 < w → p.joins v w ≡ false
next-none p v None h n = n
next-none p v (Some w) h n = absurd (both_ways true h refl)

-- what a clear plan is
pub clear-serves : (p : Plan) → clear p ≡ true → (v : ℕ) → 1 ≤ v → v ≤ p.size → p.serves v ≡ true
clear-serves p h = each_at p.serves p.size (and_parts (each p.serves p.size) (not (some (λ u. some (p.joins u) p.size) p.size)) h).0

pub clear_apart : (p : Plan) → clear p ≡ true → (v w : ℕ) → 1 ≤ v → v ≤ p.size → 1 ≤ w → w ≤ p.size → p.joins v w ≡ false
clear_apart p h v w a b c d = go (cases_Bool (p.joins v w))
  where
    none : not (some (λ u. some (p.joins u) p.size) p.size) ≡ true
    none = (and_parts (each p.serves p.size) (not (some (λ u. some (p.joins u) p.size) p.size)) h).1

    go : (p.joins v w ≡ true) ⊎ (p.joins v w ≡ false) → p.joins v w ≡ false
    go (inl e) = absurd (both_ways (not (some (λ u. some (p.joins u) p.size) p.size)) (not_from_true (some (λ u. some (p.joins u) p.size) p.size) (some_at (λ u. some (p.joins u) p.size) p.size v a b (some_at (p.joins v) p.size w c d e))) none)
    go (inr e) = e
