-- What follows the verb of a line.
use Rattle.std.specs.Prelude.{◌≡◌, ℕ, Bool, true, false, ◌&&◌, List, [], ◌∷◌, Some, None, Option, ◌==◌, ◌≢◌}
use Rattle.std.specs.Borrow.{Bor}
use Rattle.sheet.specs.Fields.{numeral, value_after}
use Rattle.sheet.specs.Lines.{front, back}

-- the rest of a line begins with a blank and a number
abbrev pub numbered : List ℕ → Bool
numbered [] = false
numbered (b ∷ bs) = b == 32 && numeral (front 32 bs)

abbrev pub number_of : List ℕ → ℕ
number_of [] = 0
number_of (b ∷ bs) = value_after 0 (front 32 bs)

-- and then this follows
abbrev pub behind : List ℕ → List ℕ
behind [] = []
behind (b ∷ bs) = back 32 bs

-- one number after a blank, and what is left
abbrev pub Argument : List ℕ → Option (ℕ × Bor (List ℕ)) → Type 0
Argument rest None = numbered rest ≡ false
Argument rest (Some x) = (numbered rest ≡ true) × (x.0 ≡ number_of rest) × (x.1.now ≡ behind rest)

-- one number after a blank, and nothing more
abbrev pub OneArgument : List ℕ → Option ℕ → Type 0
OneArgument rest None = numbered rest ≡ true → behind rest ≢ []
OneArgument rest (Some n) = (numbered rest ≡ true) × (n ≡ number_of rest) × (behind rest ≡ [])

-- two numbers, each after a blank, and nothing more
abbrev pub TwoArguments : List ℕ → Option (ℕ × ℕ) → Type 0
TwoArguments rest None = numbered rest ≡ true → numbered (behind rest) ≡ true → behind (behind rest) ≢ []
TwoArguments rest (Some x) = (numbered rest ≡ true) × (numbered (behind rest) ≡ true) × (x.0 ≡ number_of rest) × (x.1 ≡ number_of (behind rest)) × (behind (behind rest) ≡ [])

-- nothing at all
abbrev pub Alone : {A : Type 0} → List ℕ → A → Option A → Type 0
Alone rest a None = rest ≡ [] → ⊥
Alone rest a (Some b) = (rest ≡ []) × (b ≡ a)
