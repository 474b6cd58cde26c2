-- Tests over the numbers 1 to n.
use Rattle.std.specs.Prelude.{ℕ, zero, suc, Bool, true, false, cond, ◌&&◌, ◌||◌}

-- each of 1 to n passes
abbrev pub each : (ℕ → Bool) → ℕ → Bool
each t zero = true
each t (suc n) = t (suc n) && each t n

-- one of 1 to n passes
abbrev pub some : (ℕ → Bool) → ℕ → Bool
some t zero = false
some t (suc n) = t (suc n) || some t n

-- the lowest of 1 to n that passes, or 0 where none does
abbrev pub lowest : (ℕ → Bool) → ℕ → ℕ
lowest t zero = 0
lowest t (suc n) = cond (some t n) (lowest t n) (cond (t (suc n)) (suc n) 0)
