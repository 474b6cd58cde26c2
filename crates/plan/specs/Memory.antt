-- Memory that is handed to a call.
use Rattle.std.specs.Prelude.{◌≡◌, ℕ, ◌≤◌, List, slice_index_or}

-- the entries from index n on are as before
abbrev pub KeptFrom : {A : Type 0} → ℕ → List A → List A → Type 0
KeptFrom {A} n before after = (k : ℕ) (d : A) → n ≤ k → slice_index_or after k d ≡ slice_index_or before k d
