-- Junctions written one after another.
use Rattle.std.proofs.Common.{◌≡◌, ℕ, zero, suc, ◌+◌, ◌<◌, List, [], ◌∷◌, ◌++◌, length, get_or, take, decimal, sym, ap, ◌∙◌, append_assoc, append-nil, arith}
use native.Mathlib.Numerals.{unary_clauses}
use Rattle.plan.specs.declared.number.Junction.{Junction}
use Rattle.visit.specs.Listings.{spaced}

spaced-suc : (xs : List Junction) (i : ℕ) (d : Junction) → i < length xs → spaced (take (suc i) xs) ≡ spaced (take i xs) ++ (32 ∷ decimal (get_or xs i d).0)
spaced-suc [] i d l = absurd (omega arith)
spaced-suc (x ∷ xs) zero d l = append-nil (32 ∷ decimal x.0)
spaced-suc (x ∷ xs) (suc i) d l =
    ap (λ (t : List ℕ). (32 ∷ decimal x.0) ++ t) (spaced-suc xs i d (omega arith)) ∙ sym (append_assoc (32 ∷ decimal x.0) (spaced (take i xs)) (32 ∷ decimal (get_or xs i d).0))

-- one junction more
pub spaced_more : (xs : List Junction) (i : ℕ) (d : Junction) → i < length xs → spaced (take (i + 1) xs) ≡ spaced (take i xs) ++ (32 ∷ decimal (get_or xs i d).0)
spaced_more xs i d l = simp unary_clauses (spaced-suc xs i d l)
