-- The calls of a sheet, and the lines that spell them.
use Rattle.std.specs.Prelude.{◌≡◌, ℕ, true, List, [], ◌∷◌, ◌++◌, Some, None, Option}
use Rattle.sheet.specs.Fields.{numeral, value_after}
use Rattle.sheet.specs.declared.call.Call.{Call}
use Rattle.sheet.specs.declared.call.Call.TheVariants.{New, Join, Cut, Shut, Open, OrderLexicographic, OrderCounting}

-- the bytes are the number n
abbrev pub Numeral : List ℕ → ℕ → Type 0
Numeral bs n = (numeral bs ≡ true) × (n ≡ value_after 0 bs)

-- a letter and one number after a blank
abbrev pub One : ℕ → List ℕ → ℕ → Type 0
One letter line n = (a : List ℕ) × (line ≡ letter ∷ 32 ∷ a) × Numeral a n

-- a letter and two numbers, each after a blank
abbrev pub Two : ℕ → List ℕ → ℕ → ℕ → Type 0
Two letter line m n = (a : List ℕ) × (b : List ℕ) × (line ≡ letter ∷ 32 ∷ (a ++ 32 ∷ b)) × Numeral a m × Numeral b n

-- the line spells the call
abbrev pub Spells : List ℕ → Call → Type 0
Spells line (New n) = One 78 line n
Spells line (Join v w) = Two 74 line v.0 w.0
Spells line (Cut v w) = Two 67 line v.0 w.0
Spells line (Shut v) = One 83 line v.0
Spells line (Open v) = One 79 line v.0
Spells line OrderLexicographic = line ≡ 76 ∷ []
Spells line OrderCounting = line ≡ 75 ∷ []

-- what reading a line answers: the call that it spells, or nothing where it spells none
abbrev pub Spelled : List ℕ → Option Call → Type 0
Spelled line None = (c : Call) → Spells line c → ⊥
Spelled line (Some c) = Spells line c
