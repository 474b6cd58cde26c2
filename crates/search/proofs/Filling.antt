-- A loop that fills the first entries of a slice.
use Rattle.std.proofs.Common.{ℕ, ◌≤◌, List, ◌∙◌, arith}
use Rattle.plan.specs.Memory.{KeptFrom}

pub kept_trans : {A : Type 0} (n m : ℕ) (xs ys zs : List A) → n ≤ m → KeptFrom n xs ys → KeptFrom n ys zs → KeptFrom m xs zs
kept_trans n m xs ys zs l a b k d h = b k d (omega arith) ∙ a k d (omega arith)
