-- The fields of a line. A field runs to the next blank, byte 32, or to the line's end.
use Rattle.std.specs.Prelude.{◌≡◌, ℕ, ◌+◌, ◌-◌, ◌*◌, Bool, true, false, cond, not, ◌&&◌, ◌||◌, List, [], ◌∷◌, length, drop, ◌==◌, nat_le}
use Rattle.sheet.specs.Lines.{front, back}
use Rattle.sheet.specs.declared.field.Field.{Field}
use Rattle.sheet.specs.declared.field.Field.TheVariants.{Verb, Number, Word}

-- a verb is one of the letters N, J, C, S, O, L and K
abbrev pub letter : ℕ → Bool
letter b = b == 78 || b == 74 || b == 67 || b == 83 || b == 79 || b == 76 || b == 75

abbrev pub verb : List ℕ → Bool
verb [] = false
verb (b ∷ []) = letter b
verb (b ∷ c ∷ bs) = false

abbrev pub digits : List ℕ → Bool
digits [] = true
digits (b ∷ bs) = (nat_le 48 b && nat_le b 57) && digits bs

-- no needless zero in front
abbrev pub plain : List ℕ → Bool
plain [] = true
plain (b ∷ []) = true
plain (b ∷ c ∷ bs) = not (b == 48)

-- the number that digits write after those of n
abbrev pub value_after : ℕ → List ℕ → ℕ
value_after n [] = n
value_after n (b ∷ bs) = value_after (n * 10 + (b - 48)) bs

-- a number has one to five digits, no needless zero in front, and is at most 65,535
abbrev pub numeral : List ℕ → Bool
numeral bs = (nat_le 1 (length bs) && nat_le (length bs) 5) && plain bs && digits bs && nat_le (value_after 0 bs) 65535

-- the three sorts of field
pub data Sort : Type 0 where
  a_verb a_number a_word : Sort

abbrev pub sort : List ℕ → Sort
sort bs = cond (verb bs) a_verb (cond (numeral bs) a_number a_word)

abbrev pub sort_of : Field → Sort
sort_of (Verb text at) = a_verb
sort_of (Number text at) = a_number
sort_of (Word text at) = a_word

abbrev pub text_of : Field → List ℕ
text_of (Verb text at) = text.now
text_of (Number text at) = text.now
text_of (Word text at) = text.now

abbrev pub place_of : Field → ℕ
place_of (Verb text at) = at
place_of (Number text at) = at
place_of (Word text at) = at

-- a reading of a line at a place: the field that begins there, up to the next blank, and the rest, which begins with that blank
pub record Read (line : List ℕ) (at : ℕ) (field : Field) (rest : List ℕ) : Type 0 where
  pub text : text_of field ≡ front 32 (drop at line)
  pub kind : sort_of field ≡ sort (front 32 (drop at line))
  pub place : place_of field ≡ at
  pub left : rest ≡ back 32 (drop at line)
