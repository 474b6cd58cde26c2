-- Lists of bytes cut at a stop byte.
use Rattle.std.specs.Prelude.{ℕ, cond, List, [], ◌∷◌, ◌==◌}

-- the bytes before the first stop, or all where there is none
abbrev pub front : ℕ → List ℕ → List ℕ
front stop [] = []
front stop (b ∷ bs) = cond (b == stop) [] (b ∷ front stop bs)

-- what is left behind them: nothing, or what begins with that stop
abbrev pub back : ℕ → List ℕ → List ℕ
back stop [] = []
back stop (b ∷ bs) = cond (b == stop) (b ∷ bs) (back stop bs)

-- a byte put in front of the first of some lines
abbrev pub before_first : ℕ → List (List ℕ) → List (List ℕ)
before_first b [] = (b ∷ []) ∷ []
before_first b (line ∷ more) = (b ∷ line) ∷ more

-- the lines of a sheet: each is ended by byte 10, which is no part of it and which the last may lack
abbrev pub lines : List ℕ → List (List ℕ)
lines [] = []
lines (b ∷ bs) = cond (b == 10) ([] ∷ lines bs) (before_first b (lines bs))
