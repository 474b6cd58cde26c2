-- A sound image has as many records as it stands for pipes.
use Rattle.std.specs.Prelude.{◌≡◌, ℕ, zero, suc, ◌+◌, ◌<◌, ◌≤◌, true, ◌⊎◌, Some, None, ◌==◌, ◌≢◌, refl}
use Rattle.std.proofs.Math.Path.{sym, ap}
use Rattle.std.proofs.Common.{◌∙◌, inl, inr, arith}
use Rattle.std.proofs.lemmas.Bool.{cases_eq, eqb-true, or_cases}
use Rattle.plan.specs.Plans.{NextNeighbour, count, pairs}
use Rattle.image.specs.Chains.{sound_from, sound_chain, reaches, in_chain, reached, pipe, plan_of}
use Rattle.image.specs.Images.{Image}
use Rattle.image.specs.Reading.{Walked}
use Rattle.image.specs.Ranges.{each}
use Rattle.image.specs.Writing.{uppers, pipes_to}
use Rattle.image.specs.RangesLemmas.{each_all, each-counted, some_at}
use Rattle.image.proofs.Seeks.{Seeking, seek_finds, seek_ends}
use Rattle.image.specs.Sounds.{Chained, placed}
use Rattle.image.specs.Tallies.{Tallied, tally_starts, tally_next}
use Rattle.image.proofs.Uppers.{uppers_none, uppers_next, uppers_end, pipes_pairs}
use Rattle.image.specs.Walks.{Member, steps, steps_end, steps_step, steps_counted, sound_more, reaches_step, follows_member}

module _ (m : Image) (c : Chained m) (v : ℕ) where
  -- the records of v with a far end above low all follow from index i on
  Coming : ℕ → ℕ → ℕ → Type 0
  Coming k low i = (j : ℕ) → 1 ≤ j → j ≤ m.records → m.near j ≡ v → low < m.far j → reaches m k i j ≡ true

  at_end : (k low i : ℕ) → sound_from m v k low i ≡ true → Coming k low i → v ≤ low → low ≤ m.size → i ≡ 0 → steps m k i + uppers (plan_of m) v low ≡ uppers (plan_of m) v m.size
  unfolding Coming
  at_end k low i s coming a b e =
      let none : NextNeighbour (plan_of m) v low None = seek_ends m c v low low i a (record { room = k; sound = s; coming = coming }) e in
      let z : steps m k i ≡ 0 = ap (steps m k) e ∙ steps_end m v k in
      omega (arith, uppers_end (plan_of m) v low m.size b none)

  steps_uppers : (k low i : ℕ) → sound_from m v k low i ≡ true → Coming k low i → v ≤ low → low ≤ m.size → steps m k i + uppers (plan_of m) v low ≡ uppers (plan_of m) v m.size
  unfolding Coming sound_from
  steps_uppers zero low i s coming a b = at_end 0 low i s coming a b (eqb-true i 0 s)
  steps_uppers (suc k) low i s coming a b = go (cases_eq i 0) (steps_uppers k (m.far i) (m.next i))
    where
      seeking : Seeking m v low low i
      seeking = record { room = suc k; sound = s; coming = coming }

      go : (i ≡ 0) ⊎ (i ≢ 0) → (sound_from m v k (m.far i) (m.next i) ≡ true → ((j : ℕ) → 1 ≤ j → j ≤ m.records → m.near j ≡ v → m.far i < m.far j → reaches m k (m.next i) j ≡ true) → v ≤ m.far i → m.far i ≤ m.size → steps m k (m.next i) + uppers (plan_of m) v (m.far i) ≡ uppers (plan_of m) v m.size) → steps m (suc k) i + uppers (plan_of m) v low ≡ uppers (plan_of m) v m.size
      go (inl e) rest = at_end (suc k) low i s coming a b e
      go (inr ne) rest =
          let more = sound_more m v k low i ne s in
          let here : Member m v low i = follows_member m v low i ne more.0 in
          let found : NextNeighbour (plan_of m) v low (Some (record { 0 = m.far i })) = seek_finds m c v low low i (record { 0 = m.far i }) a seeking ne refl here.above in
          let one : uppers (plan_of m) v (m.far i) ≡ uppers (plan_of m) v low + 1 = uppers_next (plan_of m) v low (m.far i) a found.0 found.1 found.2 in
          let after : steps m k (m.next i) + uppers (plan_of m) v (m.far i) ≡ uppers (plan_of m) v m.size = rest more.1 (λ j x y near l. later j l (or_cases (i == j) (reaches m k (m.next i) j) (sym (reaches_step m v k i j ne) ∙ coming j x y near (omega (arith, here.above))))) (omega (arith, here.above)) here.below in
          omega (arith, steps_step m v k i ne)
        where
          later : (j : ℕ) → m.far i < m.far j → ((i == j) ≡ true) ⊎ (reaches m k (m.next i) j ≡ true) → reaches m k (m.next i) j ≡ true
          later j l (inl e) = absurd (omega (arith, ap m.far (eqb-true i j e)))
          later j l (inr h) = h

  -- a chain has as many records as its junction has neighbours above it
  pub chain_counted : 1 ≤ v → v ≤ m.size → Walked m v (Some (uppers (plan_of m) v m.size))
  unfolding Coming
  chain_counted a b =
      let whole : sound_chain m v ≡ true = c.sound v a b in
      let s : steps m m.size (m.head v) + uppers (plan_of m) v v ≡ uppers (plan_of m) v m.size = steps_uppers m.size v (m.head v) whole (λ j x y near l. ap (λ u. in_chain m u j) (sym near) ∙ (placed m c j x y).here) (omega arith) b in
      (whole, sym (steps_counted m v m.size v (m.head v) whole ∙ omega (arith, uppers_none (plan_of m) v)))

module _ (m : Image) (c : Chained m) where
  tallied : (v : ℕ) → v ≤ m.size → Tallied m v (pipes_to (plan_of m) v)
  unfolding pipes_to
  tallied zero l = tally_starts m
  tallied (suc v) l = tally_next m v (pipes_to (plan_of m) v) (uppers (plan_of m) (suc v) m.size) (tallied v (omega arith)) (chain_counted m c (suc v) (omega arith) l)

  pub records_pairs : m.records ≡ pairs (pipe m) m.size
  records_pairs =
      let full : each (reached m) m.records ≡ true = each_all (reached m) m.records (λ i a b. at i (c.all i a b)) in
      sym (eqb-true (count (λ j. reached m (suc j)) m.records) m.records (sym (each-counted (reached m) m.records) ∙ full)) ∙ (sym (tallied m.size (omega arith)).counted ∙ pipes_pairs (plan_of m))
    where
      at : (i : ℕ) → (v : ℕ) × (1 ≤ v) × (v ≤ m.size) × (in_chain m v i ≡ true) → reached m i ≡ true
      at i r = some_at (λ v. in_chain m v i) m.size r.0 r.1 r.2 r.3
