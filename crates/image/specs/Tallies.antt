-- Every record is in a chain exactly when the chains together have as many records as there are: no record is in two chains, since its near end tells which, and in none twice, since far ends rise.
use Rattle.std.specs.Prelude.{◌≡◌, ℕ, suc, ◌+◌, ◌-◌, ◌<◌, ◌≤◌, Bool, true, false, cond, not, ◌||◌, ◌⊎◌, [], ◌∷◌, Some, None, ◌≢◌}
use Rattle.std.proofs.Math.Path.{refl}
use Rattle.std.proofs.Common.{sym, ap, ◌∙◌, inl, inr, arith}
use Rattle.std.proofs.lemmas.Bool.{cases_eq, not_from_true, not_from_false, ne_eqb, eq-eqb}
use Rattle.plan.specs.Plans.{count}
use Rattle.plan.specs.Refusals.{carried, refused}
use Rattle.plan.proofs.Counts.{count-le, count_none}
use Rattle.image.specs.Images.{Image}
use Rattle.image.specs.Chains.{sound_chain, in_chain, reached}
use Rattle.image.specs.Ranges.{each, some, lowest}
use Rattle.image.specs.Reading.{Walked, chains_verdict}
use Rattle.image.specs.RangesLemmas.{some_at, some_one, some-none, lowest_first, each-counted, count_either}
use Rattle.image.specs.Walks.{Member, reaches_member}

-- a record of a sound chain has the chain's junction as its near end
pub in_chain_near : (m : Image) (v j : ℕ) → sound_chain m v ≡ true → in_chain m v j ≡ true → Member m v v j
in_chain_near m v j s h = reaches_member m v m.size v (m.head v) j s h

-- record j is in the chain of one of 1 to v
abbrev pub reached_to : Image → ℕ → ℕ → Bool
reached_to m v j = some (λ u. in_chain m u j) v

-- the chains of 1 to v are sound and have total records together
pub record Tallied (m : Image) (v total : ℕ) : Type 0 where
  pub sound : (u : ℕ) → 1 ≤ u → u ≤ v → sound_chain m u ≡ true
  pub counted : total ≡ count (λ j. reached_to m v (suc j)) m.records

module _ (m : Image) where
  pub tally_starts : Tallied m 0 0
  tally_starts = record { sound = λ u a b. absurd (omega arith); counted = sym (count_none (λ j. false) m.records (λ j l. refl)) }

  pub tally_most : (v total : ℕ) → Tallied m v total → total ≤ m.records
  tally_most v total t = omega (arith, t.counted, count-le (λ j. reached_to m v (suc j)) m.records)

  pub tally_next : (v total more : ℕ) → Tallied m v total → Walked m (suc v) (Some more) → Tallied m (suc v) (total + more)
  tally_next v total more t (s, e) =
      record {
        sound = λ u a b. all u a (cases_eq u (suc v)) b;
        counted =
            let d : count (λ j. in_chain m (suc v) (suc j) || some (λ u. in_chain m u (suc j)) v) m.records ≡ count (λ j. in_chain m (suc v) (suc j)) m.records + count (λ j. some (λ u. in_chain m u (suc j)) v) m.records = count_either (λ j. in_chain m (suc v) (suc j)) (λ j. some (λ u. in_chain m u (suc j)) v) m.records apart in
            omega (arith, t.counted);
      }
    where
      all : (u : ℕ) → 1 ≤ u → (u ≡ suc v) ⊎ (u ≢ suc v) → u ≤ suc v → sound_chain m u ≡ true
      all u a (inl e) b = ap (sound_chain m) e ∙ s
      all u a (inr ne) b = t.sound u a (omega arith)

      apart : (j : ℕ) → j < m.records → in_chain m (suc v) (suc j) ≡ true → some (λ u. in_chain m u (suc j)) v ≢ true
      apart j l a b =
          let here : Member m (suc v) (suc v) (suc j) = in_chain_near m (suc v) (suc j) s a in
          let r : (u : ℕ) × (1 ≤ u) × (u ≤ v) × (in_chain m u (suc j) ≡ true) = some_one (λ u. in_chain m u (suc j)) v b in
          let there : Member m r.0 r.0 (suc j) = in_chain_near m r.0 (suc j) (t.sound r.0 r.1 r.2) r.3 in
          omega (arith, here.near, there.near, r.2)

  pub tally_goes_on : (v total more : ℕ) → 1 ≤ v → Tallied m (v - 1) total → Walked m v (Some more) → Tallied m (v + 1 - 1) (total + more)
  tally_goes_on v total more a t w =
      let e : suc (v - 1) ≡ v = omega arith in
      let d : v + 1 - 1 ≡ suc (v - 1) = omega arith in
      rw d (tally_next (v - 1) total more t (rw e w))

  -- the first faulty chain
  first_fault : (v total : ℕ) → Tallied m v total → v < m.size → Walked m (suc v) None → chains_verdict m ≡ refused 6 (suc v ∷ [])
  unfolding chains_verdict
  first_fault v total t l f =
      let bad : not (sound_chain m (suc v)) ≡ true = not_from_false (sound_chain m (suc v)) f in
      let one : some (λ u. not (sound_chain m u)) m.size ≡ true = some_at (λ u. not (sound_chain m u)) m.size (suc v) (omega arith) (omega arith) bad in
      let first : lowest (λ u. not (sound_chain m u)) m.size ≡ suc v = lowest_first (λ u. not (sound_chain m u)) m.size (suc v) (omega arith) (omega arith) bad (λ u a b. not_from_true (sound_chain m u) (t.sound u a (omega arith))) in
      rw (one, first) refl

  pub tally_fails : (v total : ℕ) → 1 ≤ v → v ≤ m.size → Tallied m (v - 1) total → Walked m v None → refused 6 (v ∷ []) ≡ chains_verdict m
  tally_fails v total a b t w =
      let e : suc (v - 1) ≡ v = omega arith in
      sym (rw e at (first_fault (v - 1) total t (omega arith) (rw e w)))

  -- every chain is sound
  all_sound : (total : ℕ) → Tallied m m.size total → chains_verdict m ≡ cond (each (reached m) m.records) carried (refused 6 (0 ∷ []))
  unfolding chains_verdict
  all_sound total t =
      rw (some-none (λ u. not (sound_chain m u)) m.size (λ u a b. not_from_true (sound_chain m u) (t.sound u a b))) refl

  pub tally_full : (v total : ℕ) → v ≡ m.size → Tallied m v total → total ≡ m.records → carried ≡ chains_verdict m
  tally_full v total d t e =
      let t' : Tallied m m.size total = rw d at t in
      sym (all_sound total t' ∙ rw (each-counted (reached m) m.records, eq-eqb (count (λ j. reached m (suc j)) m.records) m.records (sym t'.counted ∙ e)) refl)

  pub tally_lacks : (v total : ℕ) → v ≡ m.size → Tallied m v total → (total ≢ m.records) → refused 6 (0 ∷ []) ≡ chains_verdict m
  tally_lacks v total d t ne =
      let t' : Tallied m m.size total = rw d at t in
      sym (all_sound total t' ∙ rw (each-counted (reached m) m.records, ne_eqb (count (λ j. reached m (suc j)) m.records) m.records (λ e. ne (t'.counted ∙ e))) refl)
