-- A pipe plan as a value, and the four questions that a readable plan answers.
use Rattle.std.specs.Prelude.{◌≡◌, ℕ, zero, suc, ◌+◌, ◌<◌, ◌≤◌, Bool, true, false, cond, ◌&&◌, Some, None, Option, nat_le}
use Rattle.plan.specs.declared.number.Junction.{Junction}

-- a plan: its junctions are 1 to size, serves says which are in service, and joins which pairs have a pipe
pub record Plan : Type 0 where
  pub size : ℕ
  pub serves : ℕ → Bool
  pub joins : ℕ → ℕ → Bool

-- v is 1 to n
abbrev pub within : ℕ → ℕ → Bool
within n v = nat_le 1 v && nat_le v n

-- what holds of every plan: 1 to 512 junctions; only junctions are in service; a pipe is an unordered pair of two different junctions, both in service
pub record Sound (p : Plan) : Type 0 where
  pub some : 1 ≤ p.size
  pub few : p.size ≤ 512
  pub inside : (v : ℕ) → p.serves v ≡ true → (1 ≤ v) × (v ≤ p.size)
  pub ends : (v w : ℕ) → p.joins v w ≡ true → (p.serves v ≡ true) × (p.serves w ≡ true)
  pub apart : (v : ℕ) → p.joins v v ≡ false
  pub alike : (v w : ℕ) → p.joins v w ≡ p.joins w v

-- the next neighbour of v after w: the lowest neighbour of v above w, or nothing where v has none
abbrev pub NextNeighbour : Plan → ℕ → ℕ → Option Junction → Type 0
NextNeighbour p v w None = (u : ℕ) → w < u → p.joins v u ≡ false
NextNeighbour p v w (Some u) = (w < u.0) × (p.joins v u.0 ≡ true) × ((x : ℕ) → w < x → x < u.0 → p.joins v x ≡ false)

-- how many numbers below n pass a test
abbrev pub count : (ℕ → Bool) → ℕ → ℕ
count t zero = 0
count t (suc n) = cond (t n) 1 0 + count t n

-- how many unordered pairs of different numbers from 1 to n pass a test
abbrev pub pairs : (ℕ → ℕ → Bool) → ℕ → ℕ
pairs t zero = 0
pairs t (suc n) = count (λ v. t (suc v) (suc n)) n + pairs t n

-- the plan of n junctions, all in service, with no pipe
abbrev pub blank : ℕ → Plan
blank n = record { size = n; serves = within n; joins = λ v w. false }
