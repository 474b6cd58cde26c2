-- Where the search finds nothing there is no ring.
use Rattle.std.proofs.Common.{◌≡◌, ℕ, zero, suc, ◌+◌, ◌-◌, ◌<◌, ◌≤◌, true, false, ◌⊎◌, Some, None, sym, refl, ap, ◌∙◌, ap₂, inl, inr, arith}
use Rattle.std.proofs.lemmas.Bool.{cases_eq, cases_lt, both_ways}
use Rattle.plan.specs.Plans.{Plan, Sound, NextNeighbour}
use Rattle.plan.specs.declared.number.Junction.{Junction}
use Rattle.ring.specs.Reach.{Open, Queue, Spread}
use Rattle.ring.specs.Rings.{NoRing}
use Rattle.ring.proofs.Rounds.{round_of_ring}
use Rattle.ring.proofs.Turning.{Directed, directed}

-- no ring has v as its lowest junction, a as the lower of v's neighbours in it, and c as the other
abbrev pub NoneAt : Plan → ℕ → ℕ → ℕ → Type 0
NoneAt p v a c = (k : ℕ) (r : ℕ → ℕ) → Directed p.joins k r → r 0 ≡ v → r 1 ≡ a → r (k - 1) ≡ c → ⊥

module _ (p : Plan) (sound : Sound p) where
  pub none_without_near : (v a c : ℕ) → p.joins v a ≡ false → NoneAt p v a c
  none_without_near v a c f k r h e₀ e₁ e₂ =
      both_ways _ f (sym (ap₂ p.joins e₀ e₁) ∙ h.round.step 0 1 (omega arith) (omega (arith, h.round.long)))

  pub none_without_far : (v a c : ℕ) → p.joins v c ≡ false → NoneAt p v a c
  none_without_far v a c f k r h e₀ e₁ e₂ =
      both_ways _ f (sym (ap₂ p.joins e₀ e₂) ∙ h.round.close (k - 1) (omega (arith, h.round.long)))

  pub none_across : (v a c : ℕ) → p.joins a c ≡ true → NoneAt p v a c
  none_across v a c j k r h e₀ e₁ e₂ =
      both_ways _ (h.round.apart 1 (k - 1) (omega (arith, h.round.long)) (omega (arith, h.round.long)) (omega (arith, h.round.long))) (ap₂ p.joins e₁ e₂ ∙ j)

  -- the search around r 0 from r 1 reaches every junction of the ring up to the last but one
  module _ (k : ℕ) (r : ℕ → ℕ) (h : Directed p.joins k r) (size : ℕ) (q m : ℕ → ℕ) (z : Queue p (r 0) (r 1) size q m) (all : Spread p (r 0) size q m) where
    reached : (j : ℕ) → suc j + 1 < k → (i : ℕ) × (i < size) × (q i ≡ r (suc j))
    reached zero l = (0, z.some, z.first)
    reached (suc j) l =
        let before = reached j (omega arith) in
        let link : p.joins (r (suc j)) (r (suc (suc j))) ≡ true = h.round.step (suc j) (suc (suc j)) (omega arith) (omega arith) in
        let inside = sound.inside (r (suc (suc j))) (sound.ends (r (suc j)) (r (suc (suc j))) link).1 in
        let free : Open p (r 0) (r (suc (suc j))) = record {
          above = h.lowest_first (suc (suc j)) (omega arith) (omega arith);
          upto = inside.1;
          apart = h.round.apart 0 (suc (suc j)) (omega arith) (omega arith) (omega arith);
        } in
        z.listed (r (suc (suc j))) inside.0 inside.1 (all before.0 (r (suc (suc j))) before.1 free (ap (λ x. p.joins x (r (suc (suc j)))) before.2 ∙ link))

    pub would_meet : ((i : ℕ) → i < size → p.joins (q i) (r (k - 1)) ≡ false) → ⊥
    would_meet none =
        let long = h.round.long in
        let e : suc (k - 3) ≡ k - 2 = omega arith in
        let f = reached (k - 3) (omega arith) in
        let link : p.joins (r (k - 2)) (r (k - 1)) ≡ true = h.round.step (k - 2) (k - 1) (omega arith) (omega arith) in
        both_ways _ (none f.0 f.1) (ap (λ x. p.joins x (r (k - 1))) (f.2 ∙ ap r e) ∙ link)

  pub none_missed : (v a c size : ℕ) (q m : ℕ → ℕ) → Queue p v a size q m → Spread p v size q m → ((i : ℕ) → i < size → p.joins (q i) c ≡ false) → NoneAt p v a c
  none_missed v a c size q m z all none k r h e₀ e₁ e₂ =
      would_meet k r h size q m (rw (e₀, e₁) z) (rw e₀ all) (λ i l. ap (p.joins (q i)) e₂ ∙ none i l)

  -- no ring at any junction is no ring at all
  pub no_ring_from_none : ((v a c : ℕ) → 1 ≤ v → v ≤ p.size → NoneAt p v a c) → NoRing p
  no_ring_from_none none vs h =
      let d = directed p.joins sound.alike _ _ (round_of_ring p vs h) in
      let r : (ℕ → ℕ) = d.0 in
      let near : p.joins (r 0) (r 1) ≡ true = d.1.round.step 0 1 (omega arith) (omega (arith, d.1.round.long)) in
      let i = sound.inside (r 0) (sound.ends (r 0) (r 1) near).0 in
      none (r 0) (r 1) _ i.0 i.1 _ r d.1 refl refl refl

-- the neighbours of a junction from low on are visited up to last, and P holds of every number up to there
pub record Visited (low last : ℕ) (P : ℕ → Type 0) : Type 0 where
  pub from : low ≤ last
  pub upto : (x : ℕ) → x ≤ last → P x

-- P holds of every number that is no neighbour
module _ (p : Plan) (v : ℕ) {low last : ℕ} {P : ℕ → Type 0} (other : (x : ℕ) → p.joins v x ≡ false → P x) (h : Visited low last P) where
  pub visit_more : {y y' : Junction} → NextNeighbour p v last (Some y) → y' ≡ y → P y.0 → Visited low y'.0 P
  visit_more {y} m e here = rw e (record { from = omega (arith, h.from, m.0); upto = λ x l. go x l (cases_lt last x) (cases_eq x y.0) })
    where
      go : (x : ℕ) → x ≤ y.0 → (last < x) ⊎ (x ≤ last) → (x ≡ y.0) ⊎ (x ≡ y.0 → ⊥) → P x
      go x l (inr k) c = h.upto x k
      go x l (inl k) (inl e) = rw e here
      go x l (inl k) (inr ne) = other x (m.2 x k (omega arith))

  pub visit_all : NextNeighbour p v last None → (x : ℕ) → P x
  visit_all m x = go (cases_lt last x)
    where
      go : (last < x) ⊎ (x ≤ last) → P x
      go (inr k) = h.upto x k
      go (inl k) = other x (m x k)
