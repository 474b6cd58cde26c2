-- The walk along a chain of a sound image for the lowest far end above w.
use Rattle.std.specs.Prelude.{◌≡◌, ℕ, zero, suc, ◌<◌, ◌≤◌, true, false, ◌⊎◌, Some, None, ◌==◌, ◌≢◌}
use Rattle.std.proofs.Common.{sym, ap, ◌∙◌, arith}
use Rattle.std.proofs.Math.Logic.{inl, inr}
use Rattle.std.proofs.lemmas.Bool.{cases_Bool, both_ways, or_cases, ne_eqb, eqb-true}
use Rattle.plan.specs.declared.number.Junction.{Junction}
use Rattle.plan.specs.Plans.{NextNeighbour}
use Rattle.image.specs.Chains.{sound_from, reaches, in_chain, pipe, plan_of}
use Rattle.image.specs.Images.{Image}
use Rattle.image.specs.Sounds.{Chained, placed, pipe_record, record_pipe}
use Rattle.image.specs.Walks.{Member, reaches_member, reaches_step, reaches_end, sound_more, follows_member}

-- a walk of the chain of v has come to index i behind a far end low, and every record of the chain with a far end above w is still to come
pub record Seeking (m : Image) (v w low i : ℕ) : Type 0 where
  pub room : ℕ
  pub sound : sound_from m v room low i ≡ true
  pub coming : (j : ℕ) → 1 ≤ j → j ≤ m.records → m.near j ≡ v → w < m.far j → reaches m room i j ≡ true

-- one record further: what it is, and the walk behind it
pub record Step (m : Image) (v w low i : ℕ) : Type 0 where
  pub room : ℕ
  pub here : Member m v low i
  pub sound : sound_from m v room (m.far i) (m.next i) ≡ true
  pub coming : (j : ℕ) → 1 ≤ j → j ≤ m.records → m.near j ≡ v → w < m.far j → (i ≡ j) ⊎ (reaches m room (m.next i) j ≡ true)

module _ (m : Image) (c : Chained m) (v w : ℕ) where
  pub seek_starts : 1 ≤ v → v ≤ m.size → Seeking m v w v (m.head v)
  seek_starts a b =
      record {
        room = m.size;
        sound = c.sound v a b;
        coming = λ j x y near l. ap (λ u. in_chain m u j) (sym near) ∙ (placed m c j x y).here;
      }

  pub seek_steps : (low i : ℕ) → Seeking m v w low i → (i ≢ 0) → Step m v w low i
  unfolding sound_from
  seek_steps low i s ne = go s.room s.sound s.coming
    where
      go : (k : ℕ) → sound_from m v k low i ≡ true → ((j : ℕ) → 1 ≤ j → j ≤ m.records → m.near j ≡ v → w < m.far j → reaches m k i j ≡ true) → Step m v w low i
      go zero h coming = absurd (both_ways (i == 0) (ne_eqb i 0 ne) h)
      go (suc k) h coming =
          let p = sound_more m v k low i ne h in
          record {
            room = k;
            here = follows_member m v low i ne p.0;
            sound = p.1;
            coming = λ j a b near l. first j (or_cases (i == j) (reaches m k (m.next i) j) (sym (reaches_step m v k i j ne) ∙ coming j a b near l));
          }
        where
          first : (j : ℕ) → ((i == j) ≡ true) ⊎ (reaches m k (m.next i) j ≡ true) → (i ≡ j) ⊎ (reaches m k (m.next i) j ≡ true)
          first j (inl e) = inl (eqb-true i j e)
          first j (inr e) = inr e

  pub seek_goes_on : (low i : ℕ) → Seeking m v w low i → (i ≢ 0) → m.far i ≤ w → Seeking m v w (m.far i) (m.next i)
  seek_goes_on low i s ne l = record { room = t.room; sound = t.sound; coming = λ j a b near k. later j k (t.coming j a b near k) }
    where
      t : Step m v w low i
      t = seek_steps low i s ne

      later : (j : ℕ) → w < m.far j → (i ≡ j) ⊎ (reaches m t.room (m.next i) j ≡ true) → reaches m t.room (m.next i) j ≡ true
      later j k (inl e) = absurd (omega (arith, ap m.far e))
      later j k (inr h) = h

  pub seek_finds : (low i : ℕ) (u : Junction) → v ≤ w → Seeking m v w low i → (i ≢ 0) → u.0 ≡ m.far i → w < u.0 → NextNeighbour (plan_of m) v w (Some u)
  seek_finds low i u upper s ne u-is l =
      (l, record_pipe m c i v u.0 t.here.some t.here.few t.here.near (sym u-is), λ x a b. least x a b (cases_Bool (pipe m v x)))
    where
      t : Step m v w low i
      t = seek_steps low i s ne

      least : (x : ℕ) → w < x → x < u.0 → (pipe m v x ≡ true) ⊎ (pipe m v x ≡ false) → pipe m v x ≡ false
      least x a b (inr h) = h
      least x a b (inl h) = absurd (behind (t.coming r.0 r.1 r.2 r.3 (omega (arith, r.4))))
        where
          r : (j : ℕ) × (1 ≤ j) × (j ≤ m.records) × (m.near j ≡ v) × (m.far j ≡ x)
          r = pipe_record m c v x (omega arith) h

          behind : (i ≡ r.0) ⊎ (reaches m t.room (m.next i) r.0 ≡ true) → ⊥
          behind (inl e) = omega (arith, r.4, ap m.far e)
          behind (inr e) =
              let z : Member m v (m.far i) r.0 = reaches_member m v t.room (m.far i) (m.next i) r.0 t.sound e in
              omega (arith, z.above, r.4)

  pub seek_ends : (low i : ℕ) → v ≤ w → Seeking m v w low i → i ≡ 0 → NextNeighbour (plan_of m) v w None
  seek_ends low i upper s e u l = go (cases_Bool (pipe m v u))
    where
      go : (pipe m v u ≡ true) ⊎ (pipe m v u ≡ false) → pipe m v u ≡ false
      go (inr h) = h
      go (inl h) =
          let r : (j : ℕ) × (1 ≤ j) × (j ≤ m.records) × (m.near j ≡ v) × (m.far j ≡ u) = pipe_record m c v u (omega arith) h in
          absurd (both_ways (reaches m s.room 0 r.0) (reaches_end m v s.room r.0) (ap (λ x. reaches m s.room x r.0) (sym e) ∙ s.coming r.0 r.1 r.2 r.3 (omega (arith, r.4))))
