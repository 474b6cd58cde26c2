-- One turn of the search: the junction chosen is exchanged into its place, and its neighbours are raised.
use Rattle.std.proofs.Common.{◌≡◌, ℕ, suc, ◌+◌, ◌-◌, ◌<◌, ◌≤◌, Bool, true, false, cond, ◌&&◌, ltb, ◌⊎◌, List, length, get_or, drop, set, Ordering, sym, refl, ap, ◌∙◌, ap₂, inl, inr, add-one, arith, get_or-set_other, get_or-set_same}
use Rattle.std.proofs.lemmas.List.Edits.{Swapped, swapped_from_swap, length-swap}
use Rattle.std.proofs.lemmas.List.{length-set}
use Rattle.std.proofs.lemmas.Bool.{cases_eq, cases_lt, lt-ltb}
use Rattle.std.specs.List.{swap as exchanged}
use Rattle.plan.specs.declared.number.Junction.{Junction}
use Rattle.plan.specs.Plans.{Plan}
use Rattle.plan.specs.Memory.{KeptFrom}
use Rattle.search.specs.Rule.{label, outranks}
use Rattle.search.specs.Working.{at, Chosen, RaisedBy}
use Rattle.search.proofs.Going.{Going, listed, listed_at, length-listed}
use Rattle.search.proofs.Marking.{label_same, label_step}
use Rattle.search.proofs.Tails.{same_drop}

-- where the junction at index i of the new order came from, when b and q were exchanged, b ≤ q
pub record Came (at at' : ℕ → ℕ) (b q i : ℕ) : Type 0 where
  pub from : ℕ
  pub same : at' i ≡ at from
  pub low : i ≤ q → from ≤ q
  pub high : q < i → from ≡ i
  pub off : i < q → from ≡ b → ⊥

pub came : (at at' : ℕ → ℕ) (b q : ℕ) → b ≤ q → at' b ≡ at q → at' q ≡ at b → ((m : ℕ) → (m ≡ b → ⊥) → (m ≡ q → ⊥) → at' m ≡ at m) → (i : ℕ) → Came at at' b q i
came at at' b q l x y z i = go (cases_eq i b) (cases_eq i q)
  where
    go : (i ≡ b) ⊎ (i ≡ b → ⊥) → (i ≡ q) ⊎ (i ≡ q → ⊥) → Came at at' b q i
    go (inl e) c = record { from = q; same = ap at' e ∙ x; low = λ h. omega arith; high = λ h. absurd (omega arith); off = λ h k. omega arith }
    go (inr ne) (inl e) = record { from = b; same = ap at' e ∙ y; low = λ h. l; high = λ h. absurd (omega arith); off = λ h k. omega arith }
    go (inr ne) (inr n) = record { from = i; same = z i ne n; low = λ h. h; high = λ h. refl; off = λ h k. ne k }

module _ {L : Type 0} (blank : L) (raised : L → ℕ → L) (compared : L → L → Ordering) (p : Plan)
    (places places' : List Junction) (labels labels' : List L) (scratch scratch' : List ℕ) (q b : ℕ)
    (g : Going blank raised compared p places labels scratch (suc q))
    (wide : p.size ≤ length scratch)
    (chosen : Chosen compared places labels q b)
    (swap : places' ≡ exchanged places b q)
    (noted : scratch' ≡ set (set scratch (at places q - 1) (b + 1)) (at places b - 1) (q + 1))
    (rise : RaisedBy raised p.joins (at places' q) (q + 1) p.size scratch' labels labels') where
  inside : q < p.size
  inside = omega (arith, g.few)

  swapped : Swapped (at places) (at places') b q
  swapped =
      let d : Junction = record { 0 = 0 } in
      let s : Swapped (λ i. get_or places i d) (λ i. get_or places' i d) b q = swapped_from_swap places places' b q d (omega (arith, g.room, chosen.upto, inside)) (omega (arith, g.room, inside)) swap in
      (ap (λ (j : Junction). j.0) s.0, ap (λ (j : Junction). j.0) s.1, λ m x y. ap (λ (j : Junction). j.0) (s.2 m x y))

  from : (i : ℕ) → Came (at places) (at places') b q i
  from = came (at places) (at places') b q chosen.upto swapped.0 swapped.1 swapped.2

  room' : p.size ≤ length places'
  room' = let e : length places' ≡ length places = ap length swap ∙ length-swap places b q in omega (arith, g.room)

  one_place : (i j : ℕ) → i < p.size → j < p.size → at places i ≡ at places j → i ≡ j
  one_place i j h k e =
      let f : i + 1 ≡ j + 1 = sym (g.back i h) ∙ (ap (λ v. get_or scratch (v - 1) 0) e ∙ g.back j k) in
      omega arith

  -- different junctions have different entries
  apart : (i j : ℕ) → i < p.size → j < p.size → (i ≡ j → ⊥) → at places i - 1 ≡ at places j - 1 → ⊥
  apart i j h k ne e =
      let a : (1 ≤ at places i) × (at places i ≤ p.size) = g.each i h in
      let c : (1 ≤ at places j) × (at places j ≤ p.size) = g.each j k in
      ne (one_place i j h k (omega arith))

  each' : (i : ℕ) → i < p.size → (1 ≤ at places' i) × (at places' i ≤ p.size)
  each' i h = go (cases_lt q i)
    where
      go : (q < i) ⊎ (i ≤ q) → (1 ≤ at places' i) × (at places' i ≤ p.size)
      go (inl c) = rw (from i).same (g.each (from i).from (omega (arith, (from i).high c)))
      go (inr c) = rw (from i).same (g.each (from i).from (omega (arith, (from i).low c, inside)))

  back' : (i : ℕ) → i < p.size → get_or scratch' (at places' i - 1) 0 ≡ i + 1
  back' i h = rw noted (go (cases_eq i q) (cases_eq i b))
    where
      bq : b < p.size
      bq = omega (arith, chosen.upto, inside)

      go : (i ≡ q) ⊎ (i ≡ q → ⊥) → (i ≡ b) ⊎ (i ≡ b → ⊥) → get_or (set (set scratch (at places q - 1) (b + 1)) (at places b - 1) (q + 1)) (at places' i - 1) 0 ≡ i + 1
      go (inl e) c =
          let l : at places b - 1 < length (set scratch (at places q - 1) (b + 1)) = rw (length-set scratch (at places q - 1) (b + 1)) (omega (arith, g.each b bq, wide)) in
          rw (e, swapped.1, get_or-set_same (set scratch (at places q - 1) (b + 1)) (at places b - 1) (q + 1) 0 l)
      go (inr ne) (inl e) =
          let l : at places q - 1 < length scratch = omega (arith, g.each q inside, wide) in
          let d : at places q - 1 ≡ at places b - 1 → ⊥ = apart q b inside bq (omega arith) in
          rw (e, swapped.0, get_or-set_other (set scratch (at places q - 1) (b + 1)) (at places b - 1) (at places q - 1) (q + 1) 0 d, get_or-set_same scratch (at places q - 1) (b + 1) 0 l)
      go (inr ne) (inr nb) =
          let c : at places i - 1 ≡ at places b - 1 → ⊥ = apart i b h bq nb in
          let d : at places i - 1 ≡ at places q - 1 → ⊥ = apart i q h inside ne in
          rw (swapped.2 i nb ne, get_or-set_other (set scratch (at places q - 1) (b + 1)) (at places b - 1) (at places i - 1) (q + 1) 0 c, get_or-set_other scratch (at places q - 1) (at places i - 1) (b + 1) 0 d)
          (g.back i h)

  -- the places above q are as they were
  rest : (m : ℕ) → q < m → drop m (listed p.size places') ≡ drop m (listed p.size places)
  rest m l = same_drop m (listed p.size places') (listed p.size places) (here ∙ sym there) entry
    where
      here : length (listed p.size places') ≡ p.size
      here = length-listed p.size places' room'

      there : length (listed p.size places) ≡ p.size
      there = length-listed p.size places g.room

      entry : (i : ℕ) → m ≤ i → i < length (listed p.size places') → get_or (listed p.size places') i 0 ≡ get_or (listed p.size places) i 0
      entry i h k =
          let n : i < p.size = omega (arith, here) in
          listed_at p.size places' i n ∙ ((from i).same ∙ (ap (at places) ((from i).high (omega arith)) ∙ sym (listed_at p.size places i n)))

  tag : ℕ → ℕ → L
  tag m v = label blank raised p.joins (listed p.size places) m v

  tag' : ℕ → ℕ → L
  tag' m v = label blank raised p.joins (listed p.size places') m v

  same_tag : (m v : ℕ) → q < m → tag' m v ≡ tag m v
  unfolding tag tag'
  same_tag m v l = label_same blank raised p.joins (listed p.size places') (listed p.size places) m v (rest m l)

  -- the label kept for a junction that has no place yet
  kept_tag : (i : ℕ) (d : L) → i ≤ q → get_or labels (at places' i - 1) d ≡ tag' (suc q) (at places' i)
  unfolding tag tag'
  kept_tag i d h =
      ap (λ v. get_or labels (v - 1) d) (from i).same ∙ (g.labelled (from i).from d (omega (arith, (from i).low h)) ∙ (ap (tag (suc q)) (sym (from i).same) ∙ sym (same_tag (suc q) (at places' i) (omega arith))))

  labelled' : (i : ℕ) (d : L) → i < q → get_or labels' (at places' i - 1) d ≡ tag' q (at places' i)
  unfolding tag'
  labelled' i d h =
      let range : (1 ≤ at places' i) × (at places' i ≤ p.size) = each' i (omega (arith, inside)) in
      let less : ltb (get_or scratch' (at places' i - 1) 0) (q + 1) ≡ true = lt-ltb (get_or scratch' (at places' i - 1) 0) (q + 1) (omega (arith, back' i (omega (arith, inside)))) in
      let was : get_or labels (at places' i - 1) d ≡ tag' (suc q) (at places' i) = kept_tag i d (omega arith) in
      let now : get_or labels' (at places' i - 1) d ≡ cond (p.joins (at places' q) (at places' i) && ltb (get_or scratch' (at places' i - 1) 0) (q + 1)) (raised (get_or labels (at places' i - 1) d) (q + 1)) (get_or labels (at places' i - 1) d) = rise.within (at places' i) d range.0 range.1 in
      let step : tag' q (at places' i) ≡ cond (p.joins (at places' q) (at places' i)) (raised (tag' (suc q) (at places' i)) (suc q)) (tag' (suc q) (at places' i)) = label_step blank raised p.joins (listed p.size places') q (at places' q) (at places' i) (omega (arith, length-listed p.size places' room', inside)) (listed_at p.size places' q inside) in
      now ∙ (turn (p.joins (at places' q) (at places' i)) (ltb (get_or scratch' (at places' i - 1) 0) (q + 1)) less (get_or labels (at places' i - 1) d) (tag' (suc q) (at places' i)) was ∙ sym step)
    where
      turn : (x y : Bool) → y ≡ true → (a c : L) → a ≡ c → cond (x && y) (raised a (q + 1)) a ≡ cond x (raised c (suc q)) c
      turn true y t a c e = ap (λ z. cond z (raised a (q + 1)) a) t ∙ ap₂ raised e (add-one q)
      turn false y t a c e = e

  greatest' : (k i : ℕ) → i < k → q ≤ k → k < p.size → outranks (compared (tag' (suc k) (at places' i)) (tag' (suc k) (at places' k))) (at places' k) (at places' i) ≡ true
  unfolding tag tag'
  greatest' k i a c l = go (cases_eq k q)
    where
      go : (k ≡ q) ⊎ (k ≡ q → ⊥) → outranks (compared (tag' (suc k) (at places' i)) (tag' (suc k) (at places' k))) (at places' k) (at places' i) ≡ true
      go (inl e) =
          let low : i < q = omega arith in
          let best : outranks (compared (get_or labels (at places (from i).from - 1) blank) (get_or labels (at places b - 1) blank)) (at places b) (at places (from i).from) ≡ true = chosen.best (from i).from blank ((from i).low (omega arith)) ((from i).off low) in
          let x : get_or labels (at places' i - 1) blank ≡ tag' (suc q) (at places' i) = kept_tag i blank (omega arith) in
          let y : get_or labels (at places' q - 1) blank ≡ tag' (suc q) (at places' q) = kept_tag q blank (omega arith) in
          let s : at places' i ≡ at places (from i).from = (from i).same in
          let t : at places' q ≡ at places b = swapped.1 in
          rw e (rw (← x, ← y, s, t) best)
      go (inr ne) =
          let high : q < k = omega arith in
          let s : at places' k ≡ at places k = (from k).same ∙ ap (at places) ((from k).high high) in
          let t : at places' i ≡ at places (from i).from = (from i).same in
          rw (same_tag (suc k) (at places' i) (omega arith), same_tag (suc k) (at places' k) (omega arith), s, t)
          (g.greatest k (from i).from (lower (cases_lt q i)) (omega arith) l)
        where
          lower : (q < i) ⊎ (i ≤ q) → (from i).from < k
          lower (inl z) = omega (arith, (from i).high z)
          lower (inr z) = omega (arith, (from i).low z, ne)

  going_more : Going blank raised compared p places' labels' scratch' q
  unfolding tag'
  going_more = record {
    few = omega (arith, g.few);
    room = room';
    each = each';
    back = back';
    labelled = labelled';
    greatest = greatest';
  }

  kept_places : KeptFrom p.size places places'
  kept_places k d h =
      (swapped_from_swap places places' b q d (omega (arith, g.room, chosen.upto, inside)) (omega (arith, g.room, inside)) swap).2 k (omega (arith, chosen.upto, inside)) (omega (arith, inside))

  kept_scratch : KeptFrom p.size scratch scratch'
  kept_scratch k d h =
      let x : k ≡ at places b - 1 → ⊥ = omega (arith, g.each b (omega (arith, chosen.upto, inside))) in
      let y : k ≡ at places q - 1 → ⊥ = omega (arith, g.each q inside) in
      rw (noted, get_or-set_other (set scratch (at places q - 1) (b + 1)) (at places b - 1) k (q + 1) d x, get_or-set_other scratch (at places q - 1) k (b + 1) d y)

  pub turn : Going blank raised compared p places' labels' scratch' q × KeptFrom p.size places places' × KeptFrom p.size labels labels' × KeptFrom p.size scratch scratch'
  turn = (going_more, kept_places, rise.behind, kept_scratch)
