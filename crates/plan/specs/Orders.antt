-- An order of elimination: a list of junctions, the one at place 1 first.
use Rattle.std.specs.Prelude.{ℕ, zero, suc, ◌+◌, Bool, true, cond, ◌&&◌, List, [], ◌∷◌, map, length, ◌==◌}
use Rattle.plan.specs.declared.number.Junction.{Junction}

-- the numbers of a list of junctions
abbrev pub numbers : List Junction → List ℕ
numbers js = map (λ j. j.0) js

-- how often v stands in a list
abbrev pub times : ℕ → List ℕ → ℕ
times v [] = 0
times v (u ∷ us) = cond (u == v) 1 0 + times v us

-- each of 1 to n stands in a list exactly once
abbrev pub each_once : ℕ → List ℕ → Bool
each_once zero us = true
each_once (suc n) us = times (suc n) us == 1 && each_once n us

-- the list is an order of n junctions: exactly n entries, each of 1 to n once
abbrev pub ordered : ℕ → List ℕ → Bool
ordered n us = length us == n && each_once n us

-- the place of v in an order, counted from 1
abbrev pub place : List ℕ → ℕ → ℕ
place [] v = 1
place (u ∷ us) v = cond (u == v) 1 (suc (place us v))
