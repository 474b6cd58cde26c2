-- The next neighbour of v after w, by the marks in the row of v.
use Rattle.std.proofs.Common.{◌≡◌, ℕ, ◌<◌, ◌≤◌, Bool, true, false, ◌⊎◌, List, Some, None, Option, MatchOption, sym, refl, ◌∙◌, inl, inr, arith}
use Rattle.std.specs.Bool.{then_some}
use Rattle.std.proofs.lemmas.Bool.{cases_Bool}
use Rattle.std.proofs.lemmas.Bool.Decides.{nat_tests}
use Rattle.plan.specs.Plans.{within, NextNeighbour}
use Rattle.plan.specs.declared.number.Junction.{Junction}
use Rattle.plan.proofs.PipeLaws.{within_parts}
use Rattle.pairs.specs.Rows.{marked, NextIn}
use Rattle.bits.specs.Rows.{joined, kept}
use Rattle.bits.proofs.Marks.{joined-mark}

module _ (n : ℕ) (ws : List ℕ) (v w : ℕ) (few : n ≤ 512) (v-in : within n v ≡ true) where
  joined_by_row : (u : ℕ) → within n u ≡ true → joined n ws v u ≡ marked ws v u
  joined_by_row u u_in = joined-mark n few ws v u v-in u_in

  unjoined : (u : ℕ) → (u ≤ n → marked ws v u ≡ false) → joined n ws v u ≡ false
  unjoined u clear = go (cases_Bool (within n u))
    where
      go : (within n u ≡ true) ⊎ (within n u ≡ false) → joined n ws v u ≡ false
      go (inl e) = joined_by_row u e ∙ clear (within_parts n u e).1
      go (inr e) = rw (v-in, e) refl

  past : (x : ℕ) → w < x → within n x ≡ false → n < x
  past x l f = grind (arith, nat_tests)

  -- marks past n stand for no junction
  pub next_kept : (P : Junction → Bool → Type 0) → ((x : Junction) (b : Bool) → P x b → b ≡ within n x.0) → (r s : Option Junction) → NextIn (marked ws v) w r → MatchOption r (s ≡ None) (λ x. (b : Bool) × P x b × (s ≡ then_some b x)) → NextNeighbour (kept n ws) v w s
  next_kept P sound None s h e = rw e (λ u l. unjoined u (λ k. h u l))
  next_kept P sound (Some x) s h (b, p, e) = rw e (go b (sound x b p))
    where
      go : (b : Bool) → b ≡ within n x.0 → NextNeighbour (kept n ws) v w (then_some b x)
      go true i = (h.0, joined_by_row x.0 (sym i) ∙ h.1, λ y j k. unjoined y (λ l. h.2 y j k))
      go false i = λ u j. unjoined u (λ l. h.2 u j (omega (arith, past x.0 h.0 (sym i))))
