-- The pairs marked in rows of words, read.
use Rattle.std.proofs.Common.{◌≡◌, ℕ, ◌+◌, ◌-◌, ◌*◌, ◌^◌, ◌/◌, ◌%◌, ◌<◌, ◌≤◌, true, false, ◌⊎◌, List, length, get_or, take, min, Some, None, sym, refl, ap, ◌∙◌, inl, inr, arith}
use Rattle.std.proofs.lemmas.List.{length-take, get_or-take}
use Rattle.std.proofs.lemmas.Bool.{cases_lt, both_ways, false_from_ne_true}
use Rattle.std.proofs.lemmas.Bool.Decides.{nat_tests}
use Rattle.bitset.specs.Bits.{bit, holds, NextHeld}
use Rattle.bitset.proofs.BitLaws.{bit_of_zero}
use Rattle.bitset.proofs.Held.{held_below, holds_past}
use Rattle.plan.specs.Plans.{within}
use Rattle.pairs.specs.Rows.{number, marked, NextIn}

pub marked-holds : (rows : List ℕ) (v w : ℕ) → 1 ≤ v → 1 ≤ w → w ≤ 512 → marked rows v w ≡ holds rows (number v w)
unfolding marked
marked-holds rows v w a b c = grind (arith, nat_tests)

pub marked_parts : (rows : List ℕ) (v w : ℕ) → marked rows v w ≡ true → (1 ≤ v) × (1 ≤ w) × (w ≤ 512)
unfolding marked
marked_parts rows v w h = grind (arith, nat_tests)

pub marked-outside : (rows : List ℕ) (v w : ℕ) → ((1 ≤ v) × (1 ≤ w) × (w ≤ 512) → ⊥) → marked rows v w ≡ false
marked-outside rows v w out = false_from_ne_true (marked rows v w) (λ t. out (marked_parts rows v w t))

pub unmarked_off : (rows : List ℕ) (v w : ℕ) → within 512 w ≡ false → marked rows v w ≡ false
unfolding marked
unmarked_off rows v w h = grind (arith, nat_tests)

-- where a mark stands, by its word and bit
pub marked-bit : (rows : List ℕ) (v i : ℕ) → 1 ≤ v → i < 512 → marked rows v (i + 1) ≡ bit (get_or rows (8 * (v - 1) + i / 64) 0) (i % 64)
unfolding holds
marked-bit rows v i a b =
    let word : number v (i + 1) / 64 ≡ 8 * (v - 1) + i / 64 = omega arith in
    let place : number v (i + 1) % 64 ≡ i % 64 = omega arith in
    rw (marked-holds rows v (i + 1) a (omega arith) (omega arith), word, place) refl

-- rows of zeros mark nothing
pub marked_blank : (rows : List ℕ) (n : ℕ) → ((k : ℕ) → k < 8 * n → get_or rows k 0 ≡ 0) → (v w : ℕ) → v ≤ n → marked rows v w ≡ false
marked_blank rows n clear v w l = false_from_ne_true (marked rows v w) (λ t. both_ways (marked rows v w) (unmarked (marked_parts rows v w t)) t)
  where
    unmarked : (1 ≤ v) × (1 ≤ w) × (w ≤ 512) → marked rows v w ≡ false
    unmarked p =
        let e : (w - 1) + 1 ≡ w = omega arith in
        let b : marked rows v w ≡ bit (get_or rows (8 * (v - 1) + (w - 1) / 64) 0) ((w - 1) % 64) = rw e at (marked-bit rows v (w - 1) p.0 (omega arith)) in
        b ∙ rw (clear (8 * (v - 1) + (w - 1) / 64) (omega arith)) (bit_of_zero ((w - 1) % 64))

-- ---- the words up to the end of a row

module _ (rows : List ℕ) (v e : ℕ) (short : e ≡ min (length rows) (8 * v)) where
  take_length : length (take e rows) ≡ e
  take_length = omega (arith, length-take e rows, short)

  holds_taken : (i : ℕ) → i / 64 < e → holds (take e rows) i ≡ holds rows i
  unfolding holds
  holds_taken i l = ap (λ x. bit x (i % 64)) (get_or-take e rows (i / 64) 0 l)

  -- what is marked in the row stands in those words
  marked_taken : (u : ℕ) → 1 ≤ v → 1 ≤ u → u ≤ 512 → marked rows v u ≡ holds (take e rows) (number v u)
  marked_taken u a b c = go (cases_lt (number v u / 64) e)
    where
      go : (number v u / 64 < e) ⊎ (e ≤ number v u / 64) → marked rows v u ≡ holds (take e rows) (number v u)
      go (inl l) = marked-holds rows v u a b c ∙ sym (holds_taken (number v u) l)
      go (inr l) =
          marked-holds rows v u a b c ∙ (holds_past rows (number v u) (omega (arith, short)) ∙ sym (holds_past (take e rows) (number v u) (omega (arith, take_length))))

  found_below : (i : ℕ) → holds (take e rows) i ≡ true → i < 512 * v
  found_below i h = omega (arith, held_below (take e rows) i h, take_length, short)

  pub next_few : (w i : ℕ) → NextHeld (take e rows) (512 * (v - 1) + w) (Some i) → i - 512 * (v - 1) < 512
  next_few w i h = omega (arith, found_below i h.1)

  pub next_found : (w i : ℕ) → NextHeld (take e rows) (512 * (v - 1) + w) (Some i) → NextIn (marked rows v) w (Some (record { 0 = i - 512 * (v - 1) + 1 }))
  next_found w i h =
      let b : i < 512 * v = found_below i h.1 in
      let k : number v (i - 512 * (v - 1) + 1) ≡ i = omega (arith, h.0) in (
        omega (arith, h.0),
        marked_taken (i - 512 * (v - 1) + 1) (omega arith) (omega arith) (omega (arith, h.0)) ∙ (ap (holds (take e rows)) k ∙ h.1),
        λ x l m. marked_taken x (omega arith) (omega arith) (omega (arith, h.0)) ∙ h.2 (number v x) (omega arith) (omega (arith, h.0)),
      )

  pub none_found : (w : ℕ) → NextHeld (take e rows) (512 * (v - 1) + w) None → v < 2 ^ 16 → NextIn (marked rows v) w None
  none_found w h small u l = go (cases_lt 512 u) (cases_lt 0 v)
    where
      go : (512 < u) ⊎ (u ≤ 512) → (0 < v) ⊎ (v ≤ 0) → marked rows v u ≡ false
      go (inl k) a = marked-outside rows v u (λ r. omega arith)
      go (inr k) (inr a) = marked-outside rows v u (λ r. omega arith)
      go (inr k) (inl a) = marked_taken u a (omega arith) k ∙ h (number v u) (omega arith) (omega arith)
