-- The search under way: the places above m are given by the rule, and every junction without one has its label.
use Rattle.std.proofs.Common.{◌≡◌, ℕ, suc, ◌+◌, ◌-◌, ◌<◌, ◌≤◌, true, List, length, get_or, take, Ordering, sym, ap, ◌∙◌, arith}
use Rattle.std.proofs.lemmas.List.{length-take-le, get_or-take}
use Rattle.plan.specs.declared.number.Junction.{Junction}
use Rattle.plan.specs.Orders.{numbers}
use Rattle.plan.specs.Plans.{Plan}
use Rattle.plan.proofs.Numbers.{length-numbers, getD_numbers}
use Rattle.plan.proofs.Orders.{ordered_from_each}
use Rattle.search.specs.Rule.{label, outranks, Searched}
use Rattle.search.specs.Working.{at}

-- the junctions of places 1 to n
abbrev pub listed : ℕ → List Junction → List ℕ
listed n places = take n (numbers places)

pub record Going {L : Type 0} (blank : L) (raised : L → ℕ → L) (compared : L → L → Ordering) (p : Plan) (places : List Junction) (labels : List L) (scratch : List ℕ) (m : ℕ) : Type 0 where
  pub few : m ≤ p.size
  pub room : p.size ≤ length places
  pub each : (i : ℕ) → i < p.size → (1 ≤ at places i) × (at places i ≤ p.size)
  pub back : (i : ℕ) → i < p.size → get_or scratch (at places i - 1) 0 ≡ i + 1
  pub labelled : (i : ℕ) (d : L) → i < m → get_or labels (at places i - 1) d ≡ label blank raised p.joins (listed p.size places) m (at places i)
  pub greatest : (k i : ℕ) → i < k → m ≤ k → k < p.size → outranks (compared (label blank raised p.joins (listed p.size places) (suc k) (at places i)) (label blank raised p.joins (listed p.size places) (suc k) (at places k))) (at places k) (at places i) ≡ true

pub listed_at : (n : ℕ) (places : List Junction) (i : ℕ) → i < n → get_or (listed n places) i 0 ≡ at places i
listed_at n places i h = get_or-take n (numbers places) i 0 h ∙ getD_numbers places i

pub length-listed : (n : ℕ) (places : List Junction) → n ≤ length places → length (listed n places) ≡ n
length-listed n places h =
    let l : n ≤ length (numbers places) = rw (length-numbers places) h in
    length-take-le n (numbers places) l

-- ---- the start
module _ {L : Type 0} (blank : L) (raised : L → ℕ → L) (compared : L → L → Ordering) (p : Plan) (places : List Junction) (labels : List L) (scratch : List ℕ) where
  -- ---- the end
  pub going_end : Going blank raised compared p places labels scratch 0 → Searched blank raised compared p (listed p.size places)
  going_end g = record {
    order = ordered_from_each p.size (listed p.size places) (length-listed p.size places g.room) (λ i h. rw (listed_at p.size places i h) (g.each i h)) once;
    greatest = λ k i a b. let l : i < p.size = omega arith in rw (listed_at p.size places k b, listed_at p.size places i l) (g.greatest k i a (omega arith) b);
  }
    where
      once : (i j : ℕ) → i < j → j < p.size → get_or (listed p.size places) i 0 ≡ get_or (listed p.size places) j 0 → ⊥
      once i j a b e =
          let l : i < p.size = omega arith in
          let same : at places i ≡ at places j = sym (listed_at p.size places i l) ∙ (e ∙ listed_at p.size places j b) in
          let f : i + 1 ≡ j + 1 = sym (g.back i l) ∙ (ap (λ v. get_or scratch (v - 1) 0) same ∙ g.back j b) in
          omega arith
