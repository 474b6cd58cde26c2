-- The nodes of the memory: their far ends and owners, and the cells of a pipe.
use Rattle.std.specs.Prelude.{◌≡◌, ℕ, suc, ◌+◌, ◌-◌, ◌*◌, ◌<◌, ◌≤◌, Bool, true, ◌&&◌, ◌⊎◌, List, Decides, ◌==◌, slice_index, slice_index_or, refl}
use Rattle.std.proofs.Common.{sym, ap, ◌∙◌, inl, inr, arith}
use Rattle.std.proofs.lemmas.Bool.{and_parts, and_from, or_cases, or_left, or_right, eqb-true, eq-eqb, lt-ltb, le-ltb, cases_lt}
use Rattle.std.proofs.lemmas.Bool.Decides.{Decides-below_or, Decides-like, same_from_decides}
use Rattle.plan.specs.Plans.{within}
use Rattle.plan.specs.Registers.{same_pair}
use Rattle.chained.specs.Nodes.{twin, far, owner, any, joined}

module _ (n c : ℕ) (ws : List ℕ) (k : ℕ) where
  pub far_head : k < n → far n c ws k ≡ 0
  far_head l = rw (lt-ltb k n l) refl

  pub far_cell : n ≤ k → far n c ws k ≡ slice_index ws (k + 2 * c)
  far_cell l = rw (le-ltb k n l) refl

  pub owner_head : k < n → owner n c ws k ≡ suc k
  owner_head l = rw (lt-ltb k n l) refl

  owner_cell : n ≤ k → owner n c ws k ≡ slice_index ws (twin n c k + 2 * c)
  owner_cell l = rw (le-ltb k n l) refl

  twin_first : k < n + c → twin n c k ≡ k + c
  twin_first l = rw (lt-ltb k (n + c) l) refl

  twin_second : n + c ≤ k → twin n c k ≡ k - c
  twin_second l = rw (le-ltb k (n + c) l) refl

  pub owner_first : n ≤ k → k < n + c → owner n c ws k ≡ slice_index ws (k + 3 * c)
  owner_first a b = owner_cell a ∙ ap (λ i. slice_index ws i) (omega (arith, twin_first b))

  pub owner_second : n + c ≤ k → owner n c ws k ≡ slice_index ws (k + c)
  owner_second a = owner_cell (omega arith) ∙ ap (λ i. slice_index ws i) (omega (arith, twin_second a))

  -- only a cell has a far end
  pub cell_since_far : 1 ≤ far n c ws k → n ≤ k
  cell_since_far h = go (cases_lt k n)
    where
      go : (k < n) ⊎ (n ≤ k) → n ≤ k
      go (inl l) = absurd (omega (arith, far_head l))
      go (inr l) = l

-- a cell of a's chain with far end b
pub record CellOf (n c : ℕ) (ws : List ℕ) (a b : ℕ) : Type 0 where
  pub node : ℕ
  pub low : n ≤ node
  pub high : node < n + 2 * c
  pub owned : owner n c ws node ≡ a
  pub ends : far n c ws node ≡ b
  pub left : within n a ≡ true
  pub right : within n b ≡ true

module _ (n c : ℕ) (ws : List ℕ) (a b : ℕ) where
  abbrev pair_test : ℕ → Bool
  pair_test p = same_pair a b (slice_index ws ((n + p) + 2 * c)) (slice_index ws ((n + p) + 3 * c))

  tested : Decides (any pair_test c) ((p : ℕ) × (p < c) × (pair_test p ≡ true))
  tested = Decides-below_or pair_test (λ p. pair_test p ≡ true) (any pair_test) (λ p. (λ e. e, λ e. e)) refl (λ m. refl) c

  cell_of_pair : (p : ℕ) → p < c → pair_test p ≡ true → within n a ≡ true → within n b ≡ true → CellOf n c ws a b
  cell_of_pair p l e x y =
      go (or_cases (slice_index ws ((n + p) + 2 * c) == a && slice_index ws ((n + p) + 3 * c) == b) (slice_index ws ((n + p) + 2 * c) == b && slice_index ws ((n + p) + 3 * c) == a) e)
    where
      go : ((slice_index ws ((n + p) + 2 * c) == a && slice_index ws ((n + p) + 3 * c) == b) ≡ true) ⊎ ((slice_index ws ((n + p) + 2 * c) == b && slice_index ws ((n + p) + 3 * c) == a) ≡ true) → CellOf n c ws a b
      go (inl h) =
          let t : ((slice_index ws ((n + p) + 2 * c) == a) ≡ true) × ((slice_index ws ((n + p) + 3 * c) == b) ≡ true) = and_parts (slice_index ws ((n + p) + 2 * c) == a) (slice_index ws ((n + p) + 3 * c) == b) h in
          record {
            node = (n + p) + c;
            low = omega arith;
            high = omega arith;
            owned = owner_second n c ws ((n + p) + c) (omega arith) ∙ (ap (λ i. slice_index ws i) (omega arith) ∙ eqb-true (slice_index ws ((n + p) + 2 * c)) a t.0);
            ends = far_cell n c ws ((n + p) + c) (omega arith) ∙ (ap (λ i. slice_index ws i) (omega arith) ∙ eqb-true (slice_index ws ((n + p) + 3 * c)) b t.1);
            left = x;
            right = y;
          }
      go (inr h) =
          let t : ((slice_index ws ((n + p) + 2 * c) == b) ≡ true) × ((slice_index ws ((n + p) + 3 * c) == a) ≡ true) = and_parts (slice_index ws ((n + p) + 2 * c) == b) (slice_index ws ((n + p) + 3 * c) == a) h in
          record {
            node = n + p;
            low = omega arith;
            high = omega arith;
            owned = owner_first n c ws (n + p) (omega arith) (omega arith) ∙ eqb-true (slice_index ws ((n + p) + 3 * c)) a t.1;
            ends = far_cell n c ws (n + p) (omega arith) ∙ eqb-true (slice_index ws ((n + p) + 2 * c)) b t.0;
            left = x;
            right = y;
          }

  pub cell_of_joined : joined n c ws a b ≡ true → CellOf n c ws a b
  cell_of_joined e =
      let p : ((within n a && within n b) ≡ true) × (any pair_test c ≡ true) = and_parts (within n a && within n b) (any pair_test c) e in
      let q : (within n a ≡ true) × (within n b ≡ true) = and_parts (within n a) (within n b) p.0 in
      let t : (p : ℕ) × (p < c) × (pair_test p ≡ true) = tested.0 p.1 in
      cell_of_pair t.0 t.1 t.2 q.0 q.1

  pair_of_cell : (k : ℕ) → n ≤ k → k < n + 2 * c → owner n c ws k ≡ a → far n c ws k ≡ b → (k < n + c) ⊎ (n + c ≤ k) → (p : ℕ) × (p < c) × (pair_test p ≡ true)
  pair_of_cell k low high o f (inl l) =
      let one : slice_index_or ws ((n + (k - n)) + 2 * c) 0 ≡ b = ap (λ i. slice_index ws i) (omega arith) ∙ (sym (far_cell n c ws k low) ∙ f) in
      let two : slice_index_or ws ((n + (k - n)) + 3 * c) 0 ≡ a = ap (λ i. slice_index ws i) (omega arith) ∙ (sym (owner_first n c ws k low l) ∙ o) in
      (k - n, omega arith, or_right _ _ (and_from _ _ (eq-eqb (slice_index ws ((n + (k - n)) + 2 * c)) b one) (eq-eqb (slice_index ws ((n + (k - n)) + 3 * c)) a two)))
  pair_of_cell k low high o f (inr l) =
      let one : slice_index_or ws ((n + (k - (n + c))) + 2 * c) 0 ≡ a = ap (λ i. slice_index ws i) (omega arith) ∙ (sym (owner_second n c ws k l) ∙ o) in
      let two : slice_index_or ws ((n + (k - (n + c))) + 3 * c) 0 ≡ b = ap (λ i. slice_index ws i) (omega arith) ∙ (sym (far_cell n c ws k low) ∙ f) in
      (k - (n + c), omega arith, or_left _ _ (and_from _ _ (eq-eqb (slice_index ws ((n + (k - (n + c))) + 2 * c)) a one) (eq-eqb (slice_index ws ((n + (k - (n + c))) + 3 * c)) b two)))

  pub joined_of_cell : CellOf n c ws a b → joined n c ws a b ≡ true
  joined_of_cell x =
      and_from (within n a && within n b) (any pair_test c) (and_from (within n a) (within n b) x.left x.right) (tested.1 (pair_of_cell x.node x.low x.high x.owned x.ends (cases_lt x.node (n + c))))

  pub joined_decides : Decides (joined n c ws a b) (CellOf n c ws a b)
  joined_decides = (cell_of_joined, joined_of_cell)

-- the two cells of a pair
module _ (n c : ℕ) (ws : List ℕ) (k : ℕ) (low : n ≤ k) (high : k < n + c) where
  pub owner_twin : owner n c ws (k + c) ≡ far n c ws k
  owner_twin = owner_second n c ws (k + c) (omega arith) ∙ (ap (λ i. slice_index ws i) (omega arith) ∙ sym (far_cell n c ws k low))

  pub far_twin : far n c ws (k + c) ≡ owner n c ws k
  far_twin = far_cell n c ws (k + c) (omega arith) ∙ (ap (λ i. slice_index ws i) (omega arith) ∙ sym (owner_first n c ws k low high))

-- the pipe's other cell
pub cell-turned : (n c : ℕ) (ws : List ℕ) (a b : ℕ) → CellOf n c ws a b → CellOf n c ws b a
cell-turned n c ws a b x = go (cases_lt x.node (n + c))
  where
    go : (x.node < n + c) ⊎ (n + c ≤ x.node) → CellOf n c ws b a
    go (inl l) =
        record {
          node = x.node + c;
          low = omega (arith, x.low);
          high = omega arith;
          owned = owner_twin n c ws x.node x.low l ∙ x.ends;
          ends = far_twin n c ws x.node x.low l ∙ x.owned;
          left = x.right;
          right = x.left;
        }
    go (inr l) =
        let e : (x.node - c) + c ≡ x.node = omega arith in
        record {
          node = x.node - c;
          low = omega arith;
          high = omega (arith, x.high);
          owned = sym (far_twin n c ws (x.node - c) (omega arith) (omega (arith, x.high))) ∙ (ap (far n c ws) e ∙ x.ends);
          ends = sym (owner_twin n c ws (x.node - c) (omega arith) (omega (arith, x.high))) ∙ (ap (owner n c ws) e ∙ x.owned);
          left = x.right;
          right = x.left;
        }

pub joined_alike : (n c : ℕ) (ws : List ℕ) (a b : ℕ) → joined n c ws a b ≡ joined n c ws b a
joined_alike n c ws a b =
    same_from_decides (joined n c ws a b) (joined n c ws b a) (joined_decides n c ws a b)
    (Decides-like (joined n c ws b a) (cell-turned n c ws b a) (cell-turned n c ws a b) (joined_decides n c ws b a))
