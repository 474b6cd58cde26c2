-- A line spells at most one call: the verb and the numbers of the call can be read off the line.
use Rattle.std.proofs.Common.{◌≡◌, ℕ, cond, eqb, List, ◌∷◌, ◌++◌, get_or, drop, Some, None, Option, sym, refl, ap, ◌∙◌, ap₂}
use Rattle.sheet.specs.Arguments.{number_of, behind}
use Rattle.sheet.specs.Calls.{Numeral, Spells, Spelled}
use Rattle.sheet.specs.Fields.{value_after}
use Rattle.sheet.specs.declared.call.Call.{Call}
use Rattle.sheet.specs.declared.call.Call.TheVariants.{New, Join, Cut, Shut, Open, OrderLexicographic, OrderCounting}
use Rattle.sheet.proofs.Cutting.{front_free, front_all}
use Rattle.sheet.proofs.Numerals.{numeral_free}

-- the call of a letter and two numbers
abbrev call_by : ℕ → ℕ → ℕ → Call
call_by b m n =
    cond (eqb b 78) (New m) (cond (eqb b 74) (Join (record { 0 = m }) (record { 0 = n })) (cond (eqb b 67) (Cut (record { 0 = m }) (record { 0 = n })) (cond (eqb b 83) (Shut (record { 0 = m })) (cond (eqb b 79) (Open (record { 0 = m })) (cond (eqb b 76) OrderLexicographic OrderCounting)))))

-- the call that a line spells, where it spells one
abbrev call_of : List ℕ → Call
call_of line = call_by (get_or line 0 0) (number_of (drop 1 line)) (number_of (behind (drop 1 line)))

-- one number behind a blank
last_number : (a : List ℕ) (n : ℕ) → Numeral a n → n ≡ number_of (32 ∷ a)
last_number a n h = h.1 ∙ ap (value_after 0) (sym (front_all 32 a (numeral_free a h.0)).0)

-- two numbers, each behind a blank
first_number : (a b : List ℕ) (m : ℕ) → Numeral a m → m ≡ number_of (32 ∷ (a ++ 32 ∷ b))
first_number a b m h = h.1 ∙ ap (value_after 0) (sym (front_free 32 a b (numeral_free a h.0)).0)

second_number : (a b : List ℕ) (m n : ℕ) → Numeral a m → Numeral b n → n ≡ number_of (behind (32 ∷ (a ++ 32 ∷ b)))
second_number a b m n h k = last_number b n k ∙ ap number_of (sym (front_free 32 a b (numeral_free a h.0)).1)

pub spells_is : (line : List ℕ) (c : Call) → Spells line c → c ≡ call_of line
spells_is line (New n) h = ap (λ m. New m) (last_number h.0 n h.2) ∙ ap call_of (sym h.1)
spells_is line (Join v w) h =
    ap₂ (λ m n. Join (record { 0 = m }) (record { 0 = n })) (first_number h.0 h.1 v.0 h.3) (second_number h.0 h.1 v.0 w.0 h.3 h.4) ∙ ap call_of (sym h.2)
spells_is line (Cut v w) h =
    ap₂ (λ m n. Cut (record { 0 = m }) (record { 0 = n })) (first_number h.0 h.1 v.0 h.3) (second_number h.0 h.1 v.0 w.0 h.3 h.4) ∙ ap call_of (sym h.2)
spells_is line (Shut v) h = ap (λ m. Shut (record { 0 = m })) (last_number h.0 v.0 h.2) ∙ ap call_of (sym h.1)
spells_is line (Open v) h = ap (λ m. Open (record { 0 = m })) (last_number h.0 v.0 h.2) ∙ ap call_of (sym h.1)
spells_is line OrderLexicographic h = ap call_of (sym h)
spells_is line OrderCounting h = ap call_of (sym h)

pub spells_unique : (line : List ℕ) (c d : Call) → Spells line c → Spells line d → c ≡ d
spells_unique line c d h k = spells_is line c h ∙ sym (spells_is line d k)

pub spelled_unique : (line : List ℕ) (r s : Option Call) → Spelled line r → Spelled line s → r ≡ s
spelled_unique line None None h k = refl
spelled_unique line None (Some d) h k = absurd (h d k)
spelled_unique line (Some c) None h k = absurd (k c h)
spelled_unique line (Some c) (Some d) h k = ap (λ x. Some x) (spells_unique line c d h k)
