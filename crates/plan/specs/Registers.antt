-- A register means a plan and a spare, the number of pipes that it can still take. Joining and cutting, with their checks in order.
use Rattle.std.specs.Prelude.{◌≡◌, ℕ, ◌+◌, ◌-◌, Bool, not, ◌&&◌, ◌||◌, [], ◌∷◌, ◌==◌}
use Rattle.plan.specs.Plans.{Plan, within}
use Rattle.plan.specs.Refusals.{Verdict, checked, after}

-- a, b is the unordered pair v, w
abbrev pub same_pair : ℕ → ℕ → ℕ → ℕ → Bool
same_pair v w a b = (a == v && b == w) || (a == w && b == v)

abbrev pub with_pipe : Plan → ℕ → ℕ → Plan
with_pipe p v w = record { size = p.size; serves = p.serves; joins = λ a b. same_pair v w a b || p.joins a b }

abbrev pub without_pipe : Plan → ℕ → ℕ → Plan
without_pipe p v w = record { size = p.size; serves = p.serves; joins = λ a b. not (same_pair v w a b) && p.joins a b }

-- v or w is 0 or above n
abbrev pub outside : Plan → ℕ → ℕ → Bool
outside p v w = not (within p.size v && within p.size w)

-- v or w is out of service
abbrev pub unserved : Plan → ℕ → ℕ → Bool
unserved p v w = not (p.serves v && p.serves w)

-- the checks of a join and of a cut on a register of plan p and spare s
abbrev pub join_verdict : Plan → ℕ → ℕ → ℕ → Verdict
join_verdict p s v w = checked ((outside p v w, 2) ∷ ((v == w), 3) ∷ (unserved p v w, 11) ∷ (p.joins v w, 12) ∷ ((s == 0), 14) ∷ [])

abbrev pub cut_verdict : Plan → ℕ → ℕ → Verdict
cut_verdict p v w = checked ((outside p v w, 2) ∷ ((v == w), 3) ∷ (unserved p v w, 11) ∷ (not (p.joins v w), 13) ∷ [])

-- plan and spare before a join and after it, carried out or turned down
pub record Joins (p : Plan) (s v w : ℕ) (answer : Verdict) (p' : Plan) (s' : ℕ) : Type 0 where
  pub says : answer ≡ join_verdict p s v w
  pub plan : p' ≡ after (join_verdict p s v w) (with_pipe p v w) p
  pub spare : s' ≡ after (join_verdict p s v w) (s - 1) s

pub record Cuts (p : Plan) (s v w : ℕ) (answer : Verdict) (p' : Plan) (s' : ℕ) : Type 0 where
  pub says : answer ≡ cut_verdict p v w
  pub plan : p' ≡ after (cut_verdict p v w) (without_pipe p v w) p
  pub spare : s' ≡ after (cut_verdict p v w) (s + 1) s
