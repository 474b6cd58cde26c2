-- What a walk found, against the junction that was looked for.
use Rattle.std.proofs.Common.{◌≡◌, ℕ, ◌≤◌, Bool, true, false, eqb, refl, Some, None, Option, sym, ◌∙◌, arith}
use Rattle.std.specs.Option.{option_eq}
use Rattle.std.proofs.lemmas.Bool.{both_ways, eq-eqb, ne_eqb, eqb-true}
use Rattle.plan.specs.declared.number.Junction.{Junction}
use Rattle.chained.specs.Reading.{number_of}

abbrev pub same_number : Junction → Junction → Bool
same_number x y = eqb x.0 y.0

module _ (w : ℕ) (some : 1 ≤ w) where
  found_eq : (f : Option Junction) → option_eq same_number f (Some (record { 0 = w })) ≡ eqb (number_of f) w
  found_eq None = sym (ne_eqb 0 w (omega arith))
  found_eq (Some u) = refl

  pub is_found : (f : Option Junction) → option_eq same_number f (Some (record { 0 = w })) ≡ true → number_of f ≡ w
  is_found f h = eqb-true (number_of f) w (sym (found_eq f) ∙ h)

  pub not_found : (f : Option Junction) → option_eq same_number f (Some (record { 0 = w })) ≡ false → number_of f ≡ w → ⊥
  not_found f h e = both_ways (eqb (number_of f) w) (sym (found_eq f) ∙ h) (eq-eqb (number_of f) w e)
