-- A plan has at most one order by the rule.
use Rattle.std.proofs.Common.{◌≡◌, ℕ, zero, suc, ◌+◌, ◌<◌, ◌≤◌, true, false, ◌⊎◌, List, get_or, Ordering, Less, Equal, Greater, sym, refl, ap, ◌∙◌, inl, inr, arith}
use Rattle.std.proofs.lemmas.List.{ext_get_or}
use Rattle.std.proofs.lemmas.Bool.{both_ways, cases_eq, cases_lt}
use Rattle.std.proofs.lemmas.Bool.Decides.{nat_tests}
use Rattle.std.specs.Ordering.{ordering_reverse}
use Rattle.plan.specs.Plans.{Plan}
use Rattle.plan.proofs.Orders.{IsOrder, order_of}
use Rattle.search.specs.Rule.{label, outranks, Searched}
use Rattle.search.specs.Theorems.{AtMostOne}
use Rattle.search.proofs.Marking.{label_same}
use Rattle.search.proofs.Tails.{same_drop}

-- no two junctions outrank each other
one_way : (o : Ordering) (u v : ℕ) → outranks o u v ≡ true → outranks (ordering_reverse o) v u ≡ true → ⊥
one_way Less u v h k = both_ways false refl k
one_way Equal u v h k = let z : ◌≡◌ {A = ℕ} 0 1 = grind (arith, nat_tests) in omega arith
one_way Greater u v h k = both_ways false refl h

module _ {L : Type 0} (blank : L) (raised : L → ℕ → L) (compared : L → L → Ordering) (turns : (a b : L) → compared b a ≡ ordering_reverse (compared a b)) (p : Plan) where
  -- orders that agree above k: what stands at k in one stands at k or below in the other
  low_index : (us ws : List ℕ) → IsOrder p.size us → IsOrder p.size ws → (k : ℕ) → k < p.size → ((i : ℕ) → k < i → i < p.size → get_or us i 0 ≡ get_or ws i 0) → (j : ℕ) × (j ≤ k) × (get_or us j 0 ≡ get_or ws k 0)
  low_index us ws o o' k l same =
      let r : (1 ≤ get_or ws k 0) × (get_or ws k 0 ≤ p.size) = o'.each k l in
      let f : (j : ℕ) × (j < p.size) × (get_or us j 0 ≡ get_or ws k 0) = o.all (get_or ws k 0) r.0 r.1 in
      go f.0 f.1 f.2 (cases_lt k f.0)
    where
      go : (j : ℕ) → j < p.size → get_or us j 0 ≡ get_or ws k 0 → (k < j) ⊎ (j ≤ k) → (j : ℕ) × (j ≤ k) × (get_or us j 0 ≡ get_or ws k 0)
      go j h e (inl c) = absurd (o'.once k j c h (sym e ∙ same j c h))
      go j h e (inr c) = (j, c, e)

  module _ (us ws : List ℕ) (s : Searched blank raised compared p us) (t : Searched blank raised compared p ws) where
    here : IsOrder p.size us
    here = order_of p.size us s.order

    there : IsOrder p.size ws
    there = order_of p.size ws t.order

    at_place : (k : ℕ) → k < p.size → ((i : ℕ) → k < i → i < p.size → get_or us i 0 ≡ get_or ws i 0) → get_or us k 0 ≡ get_or ws k 0
    at_place k l same =
        let f : (j : ℕ) × (j ≤ k) × (get_or us j 0 ≡ get_or ws k 0) = low_index us ws here there k l same in
        let g : (j : ℕ) × (j ≤ k) × (get_or ws j 0 ≡ get_or us k 0) = low_index ws us there here k l (λ i a b. sym (same i a b)) in
        go f.0 f.1 f.2 g.0 g.1 g.2 (cases_eq f.0 k) (cases_eq g.0 k)
      where
        same_tag : (v : ℕ) → label blank raised p.joins ws (suc k) v ≡ label blank raised p.joins us (suc k) v
        same_tag v = label_same blank raised p.joins ws us (suc k) v (same_drop (suc k) ws us (there.long ∙ sym here.long) (λ i a b. sym (same i (omega arith) (omega (arith, there.long)))))

        clash : (a u b v : ℕ) → a ≡ v → b ≡ u → outranks (compared (label blank raised p.joins us (suc k) a) (label blank raised p.joins us (suc k) u)) u a ≡ true → outranks (compared (label blank raised p.joins ws (suc k) b) (label blank raised p.joins ws (suc k) v)) v b ≡ true → u ≡ v
        clash a u b v e d x y =
            let f : compared (label blank raised p.joins us (suc k) u) (label blank raised p.joins us (suc k) v) ≡ ordering_reverse (compared (label blank raised p.joins us (suc k) v) (label blank raised p.joins us (suc k) u)) = turns (label blank raised p.joins us (suc k) v) (label blank raised p.joins us (suc k) u) in
            absurd (one_way (compared (label blank raised p.joins us (suc k) v) (label blank raised p.joins us (suc k) u)) u v (rw e at x) (rw (d, same_tag u, same_tag v, f) at y))

        go : (j : ℕ) → j ≤ k → get_or us j 0 ≡ get_or ws k 0 → (i : ℕ) → i ≤ k → get_or ws i 0 ≡ get_or us k 0 → (j ≡ k) ⊎ (j ≡ k → ⊥) → (i ≡ k) ⊎ (i ≡ k → ⊥) → get_or us k 0 ≡ get_or ws k 0
        go j a e i b d (inl z) y = ap (λ n. get_or us n 0) (sym z) ∙ e
        go j a e i b d (inr nz) (inl z) = sym d ∙ ap (λ n. get_or ws n 0) z
        go j a e i b d (inr nz) (inr nw) =
            let x : outranks (compared (label blank raised p.joins us (suc k) (get_or us j 0)) (label blank raised p.joins us (suc k) (get_or us k 0))) (get_or us k 0) (get_or us j 0) ≡ true = s.greatest k j (omega arith) l in
            let y : outranks (compared (label blank raised p.joins ws (suc k) (get_or ws i 0)) (label blank raised p.joins ws (suc k) (get_or ws k 0))) (get_or ws k 0) (get_or ws i 0) ≡ true = t.greatest k i (omega arith) l in
            clash (get_or us j 0) (get_or us k 0) (get_or ws i 0) (get_or ws k 0) e d x y

    agree : (m k : ℕ) → k + m ≡ p.size → (i : ℕ) → k ≤ i → i < p.size → get_or us i 0 ≡ get_or ws i 0
    agree zero k e i a b = absurd (omega arith)
    agree (suc m) k e i a b = go (cases_eq i k) (agree m (suc k) (omega arith))
      where
        go : (i ≡ k) ⊎ (i ≡ k → ⊥) → ((j : ℕ) → suc k ≤ j → j < p.size → get_or us j 0 ≡ get_or ws j 0) → get_or us i 0 ≡ get_or ws i 0
        go (inl z) rest = rw z (at_place k (omega arith) rest)
        go (inr nz) rest = rest i (omega arith) b

    pub same_order : us ≡ ws
    same_order = ext_get_or 0 us ws (here.long ∙ sym there.long) (λ i h. agree p.size 0 (omega arith) i (omega arith) (omega (arith, here.long)))

pub at_most_one : {L : Type 0} (blank : L) (raised : L → ℕ → L) (compared : L → L → Ordering) → ((a b : L) → compared b a ≡ ordering_reverse (compared a b)) → AtMostOne blank raised compared
at_most_one blank raised compared turns p us ws s t = same_order blank raised compared turns p us ws s t
