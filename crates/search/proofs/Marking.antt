-- The label of a junction, one place further down.
use Rattle.std.proofs.Common.{◌≡◌, ℕ, suc, ◌+◌, ◌<◌, Bool, true, false, cond, List, [], ◌∷◌, ◌++◌, length, get_or, drop, fold, refl, ap, ◌∙◌, add-one}
use Rattle.std.proofs.lemmas.List.{drop_more}
use Rattle.search.specs.Rule.{marks, label}

pub folded_append : {A B : Type 0} (f : B → A → B) (a : B) (xs ys : List A) → fold f a (xs ++ ys) ≡ fold f (fold f a xs) ys
folded_append f a [] ys = refl
folded_append f a (x ∷ xs) ys = folded_append f (f a x) xs ys

module _ {L : Type 0} (blank : L) (raised : L → ℕ → L) (joins : ℕ → ℕ → Bool) where
  -- the junctions of the places above p are all that counts
  pub label_same : (us ws : List ℕ) (p v : ℕ) → drop p us ≡ drop p ws → label blank raised joins us p v ≡ label blank raised joins ws p v
  label_same us ws p v e = ap (λ xs. fold raised blank (marks joins v (suc p) xs)) e

  -- place p + 1 is given to u
  pub label_step : (us : List ℕ) (p u v : ℕ) → p < length us → get_or us p 0 ≡ u → label blank raised joins us p v ≡ cond (joins u v) (raised (label blank raised joins us (suc p) v) (suc p)) (label blank raised joins us (suc p) v)
  label_step us p u v l e =
      let d : drop p us ≡ get_or us p 0 ∷ drop (p + 1) us = drop_more us p 0 l in
      let f : drop p us ≡ u ∷ drop (suc p) us = rw (e, add-one) at d in
      ap (λ xs. fold raised blank (marks joins v (suc p) xs)) f
      ∙ (folded_append raised blank (marks joins v (suc (suc p)) (drop (suc p) us)) (cond (joins u v) (suc p ∷ []) [])
      ∙ last (joins u v) (label blank raised joins us (suc p) v))
    where
      last : (b : Bool) (a : L) → fold raised a (cond b (suc p ∷ []) []) ≡ cond b (raised a (suc p)) a
      last true a = refl
      last false a = refl
