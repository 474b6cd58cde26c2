-- Changes of the memory of chained cells.
use Rattle.std.specs.Prelude.{◌≡◌, ℕ, ◌+◌, ◌-◌, ◌*◌, ◌<◌, ◌≤◌, min, List, slice_index, slice_set}

-- node x put behind node s
abbrev pub linked : List ℕ → ℕ → ℕ → List ℕ
linked ws s x = slice_set (slice_set ws x (slice_index ws s)) s x

-- the node behind node s taken out
abbrev pub unlinked : List ℕ → ℕ → List ℕ
unlinked ws s = slice_set ws s (slice_index ws (slice_index ws s))

-- the far ends of cells x and x + c
abbrev pub with_ends : ℕ → List ℕ → ℕ → ℕ → ℕ → List ℕ
with_ends c ws x a b = slice_set (slice_set ws (x + 2 * c) a) (x + 3 * c) b

-- the pair x is put behind the nodes s and t, with far ends w and v
abbrev pub with_pair : ℕ → List ℕ → ℕ → ℕ → ℕ → ℕ → ℕ → List ℕ
with_pair c ws x v s w t = linked (linked (with_ends c ws x w v) s x) t (x + c)

-- the first cell of the pair behind the nodes s and t
abbrev pub pair_behind : List ℕ → ℕ → ℕ → ℕ
pair_behind ws s t = min (slice_index ws s) (slice_index ws t)

-- the pair behind the nodes s and t is taken out and put before the free pair head, d of them then
abbrev pub without_pair : ℕ → List ℕ → ℕ → ℕ → ℕ → ℕ → List ℕ
without_pair c ws s t head d = slice_set (slice_set (with_ends c (unlinked (unlinked ws s) t) (pair_behind ws s t) 0 0) (pair_behind ws s t) head) (pair_behind ws s t + c) d

-- the memory of a register without pipes: no chain has a cell, and every pair is free
pub record LaidOut (n c : ℕ) (before ws : List ℕ) : Type 0 where
  pub heads : (k : ℕ) → k < n → slice_index ws k ≡ 0
  pub links : (k : ℕ) → n ≤ k → k < n + c → slice_index ws k ≡ k + 1
  pub counts : (k : ℕ) → n ≤ k → k < n + c → slice_index ws (k + c) ≡ n + c - k
  pub ends : (k : ℕ) → n + 2 * c ≤ k → k < n + 4 * c → slice_index ws k ≡ 0
  pub behind : (k : ℕ) → n + 4 * c ≤ k → slice_index ws k ≡ slice_index before k
