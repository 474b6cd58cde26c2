-- The one line of a call: a number of a line is its decimal digits.
use Rattle.std.proofs.Common.{◌≡◌, ℕ, ◌^◌, ◌<◌, ◌≤◌, true, ◌⊎◌, List, ◌∷◌, ◌++◌, length, get_or, decimal, sym, refl, ap, ◌∙◌, ap₂, inl, inr, arith}
use Rattle.std.proofs.lemmas.Fmt.{decimal-digits_value, digits_decimal, digits_value-decimal, decimal_nonempty, decimal_digit, first_decimal, length-decimal-le}
use Rattle.std.proofs.lemmas.Bool.{cases_eq}
use Rattle.sheet.specs.Calls.{Numeral, One, Two, Spells}
use Rattle.sheet.specs.Fields.{plain, value_after}
use Rattle.sheet.specs.Laws.{line_of, Fitting}
use Rattle.sheet.specs.declared.call.Call.{Call}
use Rattle.sheet.specs.declared.call.Call.TheVariants.{New, Join, Cut, Shut, Open, OrderLexicographic, OrderCounting}
use Rattle.sheet.proofs.Numerals.{own, alone, numeral_from, numeral_parts, plain_from}

pub numeral_is : (a : List ℕ) (n : ℕ) → Numeral a n → a ≡ decimal n
numeral_is a n h =
    let p = numeral_parts a h.0 in
    sym (ap decimal h.1 ∙ decimal-digits_value own a p.2 p.0 (alone a p.1 p.0) (omega (arith, p.3)))

decimal_plain : (n : ℕ) → n < 2 ^ 64 → plain (decimal n) ≡ true
decimal_plain n l = plain_from (decimal n) (go (cases_eq n 0))
  where
    go : (n ≡ 0) ⊎ (n ≡ 0 → ⊥) → 1 < length (decimal n) → get_or (decimal n) 0 0 ≡ 48 → ⊥
    go (inl e) long z = let f : length (decimal n) ≡ 1 = ap length (decimal_digit n (omega (arith, e))) in omega (arith, f, long)
    go (inr e) long z = omega (arith, z, first_decimal n (omega arith) l)

pub decimal_numeral : (n : ℕ) → n ≤ 65535 → Numeral (decimal n) n
decimal_numeral n l =
    let b : n < 2 ^ 64 = omega arith in
    let v : value_after 0 (decimal n) ≡ n = digits_value-decimal own n b in
    (numeral_from (decimal n) (decimal_nonempty n b) (length-decimal-le 5 n (omega arith) (omega arith) b) (decimal_plain n b) (digits_decimal own n b) (omega (arith, v)), sym v)

module _ (letter : ℕ) where
  one_is : (line : List ℕ) (n : ℕ) → One letter line n → line ≡ letter ∷ 32 ∷ decimal n
  one_is line n h = h.1 ∙ ap (λ (a : List ℕ). letter ∷ 32 ∷ a) (numeral_is h.0 n h.2)

  two_is : (line : List ℕ) (m n : ℕ) → Two letter line m n → line ≡ letter ∷ 32 ∷ (decimal m ++ 32 ∷ decimal n)
  two_is line m n h = h.2 ∙ ap₂ (λ (a b : List ℕ). letter ∷ 32 ∷ (a ++ 32 ∷ b)) (numeral_is h.0 m h.3) (numeral_is h.1 n h.4)

  has_one : (n : ℕ) → n ≤ 65535 → One letter (letter ∷ 32 ∷ decimal n) n
  has_one n l = (decimal n, refl, decimal_numeral n l)

  has_two : (m n : ℕ) → m ≤ 65535 → n ≤ 65535 → Two letter (letter ∷ 32 ∷ (decimal m ++ 32 ∷ decimal n)) m n
  has_two m n k l = (decimal m, decimal n, refl, decimal_numeral m k, decimal_numeral n l)

pub spells_line : (line : List ℕ) (c : Call) → Spells line c → line ≡ line_of c
spells_line line (New n) h = one_is 78 line n h
spells_line line (Join v w) h = two_is 74 line v.0 w.0 h
spells_line line (Cut v w) h = two_is 67 line v.0 w.0 h
spells_line line (Shut v) h = one_is 83 line v.0 h
spells_line line (Open v) h = one_is 79 line v.0 h
spells_line line OrderLexicographic h = h
spells_line line OrderCounting h = h

pub line_spells : (c : Call) → Fitting c → Spells (line_of c) c
line_spells (New n) h = has_one 78 n h
line_spells (Join v w) h = has_two 74 v.0 w.0 h.0 h.1
line_spells (Cut v w) h = has_two 67 v.0 w.0 h.0 h.1
line_spells (Shut v) h = has_one 83 v.0 h
line_spells (Open v) h = has_one 79 v.0 h
line_spells OrderLexicographic h = refl
line_spells OrderCounting h = refl
