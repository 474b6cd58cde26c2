-- An order without fill, and rings.
use Rattle.std.proofs.Common.{◌≡◌, ℕ, ◌+◌, ◌-◌, ◌<◌, ◌≤◌, true, false, ◌⊎◌, List, sym, refl, ◌∙◌, inl, inr, arith}
use Rattle.std.proofs.lemmas.Bool.{cases_eq, cases_lt, cases_Bool, both_ways}
use Rattle.plan.specs.Orders.{place}
use Rattle.plan.specs.Plans.{Plan, Sound}
use Rattle.plan.proofs.Orders.{IsOrder, at_place, place_apart}
use Rattle.elimination.specs.Laws.{Perfect}
use Rattle.ring.specs.Rings.{NoRing}
use Rattle.ring.proofs.Rounds.{Round, round_of_ring, ring_of_round}
use Rattle.ring.proofs.Turning.{lowest}
use Rattle.order.proofs.Bridges.{Witness, round_from_later}

module _ (p : Plan) (sound : Sound p) (us : List ℕ) (o : IsOrder p.size us) where
  -- an end of a pipe is a junction
  end_inside : (v w : ℕ) → p.joins v w ≡ true → (1 ≤ v) × (v ≤ p.size)
  end_inside v w h = sound.inside v (sound.ends v w h).0

  pub place_bounded : (v w : ℕ) → p.joins v w ≡ true → place us v ≤ p.size
  place_bounded v w h = let i = end_inside v w h in (at_place p.size us o v i.0 i.1).1

  pub place_distinct : (v w x y : ℕ) → p.joins v x ≡ true → p.joins w y ≡ true → place us v ≡ place us w → v ≡ w
  place_distinct v w x y a b e =
      let i = end_inside v x a in
      let j = end_inside w y b in
      place_apart p.size us o v w i.0 i.1 j.0 j.1 e

  -- on a ring, the junction of lowest place has two later neighbours that are not joined
  module _ (k : ℕ) (r : ℕ → ℕ) (h : Round p.joins k r) where
    near : (i : ℕ) → i < k → (x : ℕ) × (p.joins (r i) x ≡ true)
    near i l = go (cases_lt (i + 1) k)
      where
        go : (i + 1 < k) ⊎ (k ≤ i + 1) → (x : ℕ) × (p.joins (r i) x ≡ true)
        go (inl m) = (r (i + 1), h.step i (i + 1) refl m)
        go (inr m) = (r 0, sound.alike _ _ ∙ h.close i (omega arith))

    later : (s j : ℕ) → s < k → j < k → (s ≡ j → ⊥) → place us (r s) ≤ place us (r j) → place us (r s) < place us (r j)
    later s j a b ne l = go (cases_eq (place us (r s)) (place us (r j))) (cases_lt s j)
      where
        go : (place us (r s) ≡ place us (r j)) ⊎ (place us (r s) ≡ place us (r j) → ⊥) → (s < j) ⊎ (j ≤ s) → place us (r s) < place us (r j)
        go (inr d) c = omega arith
        go (inl e) (inl c) = absurd (h.once s j c b (place_distinct (r s) (r j) _ _ (near s a).1 (near j b).1 e))
        go (inl e) (inr c) = absurd (h.once j s (omega arith) a (sym (place_distinct (r s) (r j) _ _ (near s a).1 (near j b).1 e)))

    pub no_round_if_perfect : Perfect p.joins us → ⊥
    no_round_if_perfect perfect = go (lowest (λ i. place us (r i)) (k - 1))
      where
        clash : (s x y : ℕ) → s < k → x < k → y < k → (s ≡ x → ⊥) → (s ≡ y → ⊥) → ((j : ℕ) → j ≤ k - 1 → place us (r s) ≤ place us (r j)) → p.joins (r s) (r x) ≡ true → p.joins (r s) (r y) ≡ true → x < y → p.joins (r x) (r y) ≡ false → ⊥
        clash s x y a b c sx sy low jx jy l f =
            both_ways _ f (perfect (r s) (r x) (r y) jx jy (later s x a b sx (low x (omega arith))) (later s y a c sy (low y (omega arith))) (h.once x y l c))

        go : (s : ℕ) × (s ≤ k - 1) × ((j : ℕ) → j ≤ k - 1 → place us (r s) ≤ place us (r j)) → ⊥
        go q = at q.0 q.1 q.2 (cases_eq q.0 0) (cases_eq (q.0 + 1) k)
          where
            at : (s : ℕ) → s ≤ k - 1 → ((j : ℕ) → j ≤ k - 1 → place us (r s) ≤ place us (r j)) → (s ≡ 0) ⊎ (s ≡ 0 → ⊥) → (s + 1 ≡ k) ⊎ (s + 1 ≡ k → ⊥) → ⊥
            at s l low (inl e) c =
                clash s 1 (k - 1) (omega (arith, h.long)) (omega (arith, h.long)) (omega (arith, h.long)) (omega arith) (omega (arith, h.long)) low
                (h.step s 1 (omega arith) (omega (arith, h.long))) (rw e (h.close (k - 1) (omega (arith, h.long)))) (omega (arith, h.long))
                (h.apart 1 (k - 1) (omega (arith, h.long)) (omega (arith, h.long)) (omega (arith, h.long)))
            at s l low (inr ne) (inl e) =
                clash s 0 (k - 2) (omega (arith, h.long)) (omega (arith, h.long)) (omega (arith, h.long)) (omega arith) (omega (arith, h.long)) low
                (sound.alike _ _ ∙ h.close s e) (sound.alike _ _ ∙ h.step (k - 2) s (omega (arith, h.long)) (omega (arith, h.long))) (omega (arith, h.long))
                (h.apart 0 (k - 2) (omega (arith, h.long)) (omega (arith, h.long)) (omega (arith, h.long)))
            at s l low (inr ne) (inr mid) =
                clash s (s - 1) (s + 1) (omega (arith, h.long)) (omega (arith, h.long)) (omega (arith, h.long)) (omega arith) (omega arith) low
                (sound.alike _ _ ∙ h.step (s - 1) s (omega arith) (omega (arith, h.long))) (h.step s (s + 1) refl (omega (arith, h.long))) (omega arith)
                (h.apart (s - 1) (s + 1) (omega arith) (omega (arith, h.long)) (omega (arith, h.long)))

  pub no_ring_if_perfect : Perfect p.joins us → NoRing p
  no_ring_if_perfect perfect vs h = no_round_if_perfect _ _ (round_of_ring p vs h) perfect

  pub perfect_if_no_ring : Witness p.joins (place us) → NoRing p → Perfect p.joins us
  perfect_if_no_ring witness none v a b ja jb la lb ne = go (cases_Bool (p.joins a b))
    where
      go : (p.joins a b ≡ true) ⊎ (p.joins a b ≡ false) → p.joins a b ≡ true
      go (inl h) = h
      go (inr h) =
          let r = round_from_later p.joins sound.alike sound.apart (place us) witness p.size place_bounded place_distinct v a b ja jb la lb ne h in
          absurd (none _ (ring_of_round p r.0 r.1 r.2))
