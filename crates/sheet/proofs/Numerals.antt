-- Reading a number, digit by digit.
use Rattle.std.proofs.Common.{◌≡◌, ℕ, ◌^◌, ◌<◌, ◌≤◌, true, List, [], ◌∷◌, length, get_or, drop, refl, arith, rules}
use Rattle.std.proofs.lemmas.Bool.Decides.{nat_tests}
use Rattle.std.proofs.lemmas.Str.Parse.{IsNumeralModel, numerals_by_fold}
use Rattle.sheet.specs.Fields.{digits, plain, numeral, value_after}
use Rattle.sheet.proofs.Cutting.{Free}

-- the sheet's digits and values are those of the decimal numerals
pub own : IsNumeralModel (λ ds. digits ds ≡ true) (value_after 0)
own = numerals_by_fold (λ ds. digits ds ≡ true) (search rules) value_after (search rules)

-- no needless zero in front
pub alone : (text : List ℕ) → plain text ≡ true → 0 < length text → get_or text 0 0 ≡ 48 → length text ≡ 1
alone [] h l e = absurd (omega arith)
alone (b ∷ []) h l e = refl
alone (b ∷ c ∷ text) h l e = grind (arith, nat_tests)

-- after i digits of a text: their value, and what is left to read
pub record Valued (text : List ℕ) (i value : ℕ) : Type 0 where
  pub small : value < 10 ^ i
  pub whole : value_after value (drop i text) ≡ value_after 0 text
  pub rest : digits (drop i text) ≡ digits text

-- the rule of a number, by its parts
pub numeral_from : (text : List ℕ) → 1 ≤ length text → length text ≤ 5 → plain text ≡ true → digits text ≡ true → value_after 0 text ≤ 65535 → numeral text ≡ true
numeral_from text a b p d v = grind (arith, nat_tests)

pub numeral_parts : (text : List ℕ) → numeral text ≡ true → (1 ≤ length text) × (plain text ≡ true) × (digits text ≡ true) × (value_after 0 text ≤ 65535)
numeral_parts text h = (grind (arith, nat_tests), grind (arith, nat_tests), grind (arith, nat_tests), grind (arith, nat_tests))

pub plain_from : (text : List ℕ) → (1 < length text → get_or text 0 0 ≡ 48 → ⊥) → plain text ≡ true
plain_from [] h = refl
plain_from (b ∷ []) h = refl
plain_from (b ∷ c ∷ bs) h = grind (arith, nat_tests)

-- a number holds no blank
digits_free : (text : List ℕ) → digits text ≡ true → Free 32 text
digits_free [] h = tt
digits_free (b ∷ bs) h = (grind (arith, nat_tests), digits_free bs (grind (arith, nat_tests)))

pub numeral_free : (text : List ℕ) → numeral text ≡ true → Free 32 text
numeral_free text h = digits_free text (numeral_parts text h).2
