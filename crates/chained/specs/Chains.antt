-- What holds of the chains and of the free pairs, for nodes below top with their next nodes, far ends and owners. A node is in a chain if its owner is not 0.
use Rattle.std.specs.Prelude.{◌≡◌, ℕ, ◌+◌, ◌-◌, ◌<◌, ◌≤◌}

-- the next node is of the same owner, with a higher far end
abbrev pub Ascends : ℕ → (ℕ → ℕ) → (ℕ → ℕ) → (ℕ → ℕ) → Type 0
Ascends top next far owner = (s : ℕ) → (s < top) × (1 ≤ owner s) × (1 ≤ next s) → (next s < top) × (owner (next s) ≡ owner s) × (far s < far (next s))

-- no node of the same owner stands between a node and the next one, and none behind the last
abbrev pub Complete : ℕ → (ℕ → ℕ) → (ℕ → ℕ) → (ℕ → ℕ) → Type 0
Complete top next far owner = (s t : ℕ) → (s < top) × (t < top) × (1 ≤ owner s) × (owner s ≡ owner t) × (far s < far t) → (1 ≤ next s) × (far (next s) ≤ far t)

-- a chain has one node for each far end
abbrev pub Single : ℕ → (ℕ → ℕ) → (ℕ → ℕ) → Type 0
Single top far owner = (s t : ℕ) → (s < top) × (t < top) × (1 ≤ owner s) × (owner s ≡ owner t) × (far s ≡ far t) → s ≡ t

-- far ends are junctions, or 0
abbrev pub Bounded : ℕ → ℕ → (ℕ → ℕ) → Type 0
Bounded n top far = (k : ℕ) → (n ≤ k) × (k < top) → far k ≤ n

-- a pair of cells is in use at both ends or at none
abbrev pub Paired : ℕ → ℕ → (ℕ → ℕ) → (ℕ → ℕ) → Type 0
Paired n top far owner = (k : ℕ) → (n ≤ k) × (k < top) × (1 ≤ owner k) → 1 ≤ far k

-- the ends of a pair in use are two different junctions
abbrev pub Apart : ℕ → ℕ → (ℕ → ℕ) → (ℕ → ℕ) → Type 0
Apart n top far owner = (k : ℕ) → (n ≤ k) × (k < top) × (1 ≤ owner k) × (far k ≡ owner k) → ⊥

-- s is the last node of v's chain with far end below w
pub record Seat (top : ℕ) (next far owner : ℕ → ℕ) (v w s : ℕ) : Type 0 where
  pub inside : s < top
  pub owned : owner s ≡ v
  pub below : far s < w
  pub last : 1 ≤ next s → w ≤ far (next s)

-- ---- the free pairs: the next node of the first cell is the next pair, and that of the second says how many pairs are left from there on

-- a free pair has at least itself left, and at most the spare
abbrev pub Counted : ℕ → ℕ → ℕ → (ℕ → ℕ) → (ℕ → ℕ) → Type 0
Counted n c spare next far = (k : ℕ) → (n ≤ k) × (k < n + c) × (far k ≡ 0) → (1 ≤ next (k + c)) × (next (k + c) ≤ spare)

-- no two free pairs have as many left
abbrev pub Distinct : ℕ → ℕ → (ℕ → ℕ) → (ℕ → ℕ) → Type 0
Distinct n c next far = (j k : ℕ) → (n ≤ j) × (j < n + c) × (n ≤ k) × (k < n + c) × (far j ≡ 0) × (far k ≡ 0) × (next (j + c) ≡ next (k + c)) → j ≡ k

-- k is a free pair, and d pairs are left from there on
abbrev pub FreeAt : ℕ → ℕ → (ℕ → ℕ) → (ℕ → ℕ) → ℕ → ℕ → Type 0
FreeAt n c next far k d = (n ≤ k) × (k < n + c) × (far k ≡ 0) × (next (k + c) ≡ d)

-- a free pair with more left leads to one with one less
abbrev pub Listed : ℕ → ℕ → (ℕ → ℕ) → (ℕ → ℕ) → Type 0
Listed n c next far = (k : ℕ) → (n ≤ k) × (k < n + c) × (far k ≡ 0) × (2 ≤ next (k + c)) → FreeAt n c next far (next k) (next (k + c) - 1)
