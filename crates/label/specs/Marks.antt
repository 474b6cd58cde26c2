-- Lists of marks. A mark is a number from 1 to 512.
use Rattle.std.specs.Prelude.{ℕ, Bool, true, false, ◌&&◌, ◌||◌, List, [], ◌∷◌, ◌==◌, nat_le, nat_lt}

abbrev pub is_mark : ℕ → Bool
is_mark m = nat_le 1 m && nat_le m 512

-- m is in a list
abbrev pub has : List ℕ → ℕ → Bool
has [] m = false
has (x ∷ xs) m = x == m || has xs m

-- the numbers of a list fall, from below top to 1 or above
abbrev pub falls : ℕ → List ℕ → Bool
falls top [] = true
falls top (x ∷ xs) = nat_le 1 x && nat_lt x top && falls x xs

-- a falling list of marks
abbrev pub falling : List ℕ → Bool
falling s = falls 513 s
