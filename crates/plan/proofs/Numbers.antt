-- A list of junctions and the list of its numbers.
use Rattle.std.proofs.Common.{◌≡◌, ℕ, ◌<◌, ◌≤◌, ◌⊎◌, List, length, get_or, sym, ap, ◌∙◌, inl, inr}
use Rattle.std.proofs.lemmas.List.{length-map, get_or-map, get_or_past}
use Rattle.std.proofs.lemmas.Bool.{cases_lt}
use Rattle.plan.specs.declared.number.Junction.{Junction}
use Rattle.plan.specs.Orders.{numbers}

pub length-numbers : (js : List Junction) → length (numbers js) ≡ length js
length-numbers js = length-map js (λ j. j.0)

pub getD_numbers : (js : List Junction) (i : ℕ) → get_or (numbers js) i 0 ≡ (get_or js i (record { 0 = 0 })).0
getD_numbers js i = go (cases_lt i (length js))
  where
    go : (i < length js) ⊎ (length js ≤ i) → get_or (numbers js) i 0 ≡ (get_or js i (record { 0 = 0 })).0
    go (inl h) = get_or-map (λ (j : Junction). j.0) js i (record { 0 = 0 }) 0 h
    go (inr h) =
        let past : length (numbers js) ≤ i = rw (length-numbers js) h in
        get_or_past (numbers js) i 0 past ∙ ap (λ (j : Junction). j.0) (sym (get_or_past js i (record { 0 = 0 }) h))
