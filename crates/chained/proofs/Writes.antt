-- What a write leaves of the chains, far ends and owners.
use Rattle.std.proofs.Common.{◌≡◌, ℕ, ◌+◌, ◌*◌, ◌<◌, ◌≤◌, ◌⊎◌, List, length, get_or, set, sym, ap, ◌∙◌, inl, inr, arith}
use Rattle.std.proofs.lemmas.List.{get_or-set_same, get_or-set_other, length-set}
use Rattle.std.proofs.lemmas.Bool.{cases_lt}
use Rattle.chained.specs.Changes.{linked, with_ends}
use Rattle.chained.specs.Nodes.{far, owner}
use Rattle.chained.specs.NodesLemmas.{far_head, far_cell, owner_head, owner_first, owner_second}

-- lists that agree on the numbers of far ends
module _ (n c : ℕ) (ws ws' : List ℕ) (k : ℕ) where
  pub far_same : (n ≤ k → get_or ws' (k + 2 * c) 0 ≡ get_or ws (k + 2 * c) 0) → far n c ws' k ≡ far n c ws k
  far_same e = go (cases_lt k n)
    where
      go : (k < n) ⊎ (n ≤ k) → far n c ws' k ≡ far n c ws k
      go (inl l) = far_head n c ws' k l ∙ sym (far_head n c ws k l)
      go (inr l) = far_cell n c ws' k l ∙ (e l ∙ sym (far_cell n c ws k l))

  pub owner_same : (n ≤ k → k < n + c → get_or ws' (k + 3 * c) 0 ≡ get_or ws (k + 3 * c) 0) → (n + c ≤ k → get_or ws' (k + c) 0 ≡ get_or ws (k + c) 0) → owner n c ws' k ≡ owner n c ws k
  owner_same d e = go (cases_lt k n) (cases_lt k (n + c))
    where
      go : (k < n) ⊎ (n ≤ k) → (k < n + c) ⊎ (n + c ≤ k) → owner n c ws' k ≡ owner n c ws k
      go (inl l) m = owner_head n c ws' k l ∙ sym (owner_head n c ws k l)
      go (inr l) (inl m) = owner_first n c ws' k l m ∙ (d l m ∙ sym (owner_first n c ws k l m))
      go (inr l) (inr m) = owner_second n c ws' k m ∙ (e m ∙ sym (owner_second n c ws k m))

-- a write to a next node leaves far ends and owners
module _ (n c : ℕ) (ws : List ℕ) (i y k : ℕ) (low : i < n + 2 * c) where
  pub far_set : far n c (set ws i y) k ≡ far n c ws k
  far_set = far_same n c ws (set ws i y) k (λ l. get_or-set_other ws i (k + 2 * c) y 0 (λ e. omega arith))

  pub owner_set : owner n c (set ws i y) k ≡ owner n c ws k
  owner_set =
      owner_same n c ws (set ws i y) k (λ l m. get_or-set_other ws i (k + 3 * c) y 0 (λ e. omega arith)) (λ m. get_or-set_other ws i (k + c) y 0 (λ e. omega arith))

-- x put behind s
module _ (ws : List ℕ) (s x : ℕ) (s-in : s < length ws) (x-in : x < length ws) (ne : x ≡ s → ⊥) where
  pub linked_after : get_or (linked ws s x) x 0 ≡ get_or ws s 0
  linked_after = get_or-set_other (set ws x (get_or ws s 0)) s x x 0 ne ∙ get_or-set_same ws x (get_or ws s 0) 0 x-in

  pub linked_before : get_or (linked ws s x) s 0 ≡ x
  linked_before = get_or-set_same (set ws x (get_or ws s 0)) s x 0 (rw length-set s-in)

  pub linked_other : (k : ℕ) → (k ≡ s → ⊥) → (k ≡ x → ⊥) → get_or (linked ws s x) k 0 ≡ get_or ws k 0
  linked_other k a b = get_or-set_other (set ws x (get_or ws s 0)) s k x 0 a ∙ get_or-set_other ws x k (get_or ws s 0) 0 b

module _ (n c : ℕ) (ws : List ℕ) (s x k : ℕ) (s-in : s < n + 2 * c) (x-in : x < n + 2 * c) where
  pub far_linked : far n c (linked ws s x) k ≡ far n c ws k
  far_linked = far_set n c (set ws x (get_or ws s 0)) s x k s-in ∙ far_set n c ws x (get_or ws s 0) k x-in

  pub owner_linked : owner n c (linked ws s x) k ≡ owner n c ws k
  owner_linked = owner_set n c (set ws x (get_or ws s 0)) s x k s-in ∙ owner_set n c ws x (get_or ws s 0) k x-in

pub length-linked : (ws : List ℕ) (s x : ℕ) → length (linked ws s x) ≡ length ws
length-linked ws s x = length-set (set ws x (get_or ws s 0)) s x ∙ length-set ws x (get_or ws s 0)

pub length-with_ends : (c : ℕ) (ws : List ℕ) (x a b : ℕ) → length (with_ends c ws x a b) ≡ length ws
length-with_ends c ws x a b = length-set (set ws (x + 2 * c) a) (x + 3 * c) b ∙ length-set ws (x + 2 * c) a

-- the far ends of the pair x written
module _ (n c : ℕ) (ws : List ℕ) (x a b : ℕ) (room : n + 4 * c ≤ length ws) (low : n ≤ x) (high : x < n + c) where
  at_first : get_or (with_ends c ws x a b) (x + 2 * c) 0 ≡ a
  at_first =
      get_or-set_other (set ws (x + 2 * c) a) (x + 3 * c) (x + 2 * c) b 0 (λ e. omega arith) ∙ get_or-set_same ws (x + 2 * c) a 0 (omega arith)

  at_second : get_or (with_ends c ws x a b) (x + 3 * c) 0 ≡ b
  at_second = get_or-set_same (set ws (x + 2 * c) a) (x + 3 * c) b 0 (rw length-set (omega arith))

  at_other : (k : ℕ) → (k ≡ x + 2 * c → ⊥) → (k ≡ x + 3 * c → ⊥) → get_or (with_ends c ws x a b) k 0 ≡ get_or ws k 0
  at_other k p q = get_or-set_other (set ws (x + 2 * c) a) (x + 3 * c) k b 0 q ∙ get_or-set_other ws (x + 2 * c) k a 0 p

  pub ends_next : (k : ℕ) → k < n + 2 * c → get_or (with_ends c ws x a b) k 0 ≡ get_or ws k 0
  ends_next k l = at_other k (λ e. omega arith) (λ e. omega arith)

  pub ends_far_first : far n c (with_ends c ws x a b) x ≡ a
  ends_far_first = far_cell n c (with_ends c ws x a b) x low ∙ at_first

  pub ends_owner_first : owner n c (with_ends c ws x a b) x ≡ b
  ends_owner_first = owner_first n c (with_ends c ws x a b) x low high ∙ at_second

  pub ends_far_second : far n c (with_ends c ws x a b) (x + c) ≡ b
  ends_far_second =
      far_cell n c (with_ends c ws x a b) (x + c) (omega arith) ∙ (ap (λ i. get_or (with_ends c ws x a b) i 0) (omega arith) ∙ at_second)

  pub ends_owner_second : owner n c (with_ends c ws x a b) (x + c) ≡ a
  ends_owner_second =
      owner_second n c (with_ends c ws x a b) (x + c) (omega arith) ∙ (ap (λ i. get_or (with_ends c ws x a b) i 0) (omega arith) ∙ at_first)

  module _ (k : ℕ) (inside : k < n + 2 * c) (p : k ≡ x → ⊥) (q : k ≡ x + c → ⊥) where
    pub ends_far_other : far n c (with_ends c ws x a b) k ≡ far n c ws k
    ends_far_other = far_same n c ws (with_ends c ws x a b) k (λ l. at_other (k + 2 * c) (λ e. p (omega arith)) (λ e. q (omega arith)))

    pub ends_owner_other : owner n c (with_ends c ws x a b) k ≡ owner n c ws k
    ends_owner_other =
        owner_same n c ws (with_ends c ws x a b) k (λ l m. at_other (k + 3 * c) (λ e. omega arith) (λ e. p (omega arith))) (λ m. at_other (k + c) (λ e. q (omega arith)) (λ e. omega arith))
