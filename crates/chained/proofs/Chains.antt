-- A cell put into a chain and taken out of it; a pair taken off the free list and put on it. All over plain functions.
use Rattle.std.proofs.Common.{◌≡◌, ℕ, ◌+◌, ◌-◌, ◌<◌, ◌≤◌, ◌⊎◌, sym, ap, ◌∙◌, inl, inr, arith}
use Rattle.std.proofs.lemmas.Bool.{cases_eq, cases_order}
use Rattle.chained.specs.Chains.{Ascends, Complete, Single, Seat, Counted, Distinct, FreeAt, Listed}

pub record Chains (top : ℕ) (next far owner : ℕ → ℕ) : Type 0 where
  pub ascends : Ascends top next far owner
  pub complete : Complete top next far owner
  pub single : Single top far owner

-- x, so far in no chain, is put behind s
pub record PutIn (top : ℕ) (next far owner next' far' owner' : ℕ → ℕ) (s x v w : ℕ) : Type 0 where
  pub after : next' x ≡ next s
  pub before : next' s ≡ x
  pub end : far' x ≡ w
  pub of : owner' x ≡ v
  pub other_next : (k : ℕ) → k < top → 1 ≤ owner k → (k ≡ s → ⊥) → next' k ≡ next k
  pub other_far : (k : ℕ) → k < top → 1 ≤ owner k → far' k ≡ far k
  pub other_owner : (k : ℕ) → k < top → (k ≡ x → ⊥) → owner' k ≡ owner k

module _ (top : ℕ) (next far owner next' far' owner' : ℕ → ℕ) (s x v w : ℕ) (ch : Chains top next far owner) (seat : Seat top next far owner v w s) (some : 1 ≤ v) (x-some : 1 ≤ x) (x-inside : x < top) (out : owner x ≡ 0) (fresh : (t : ℕ) → t < top → owner t ≡ v → far t ≡ w → ⊥) (put : PutIn top next far owner next' far' owner' s x v w) where
  put_ascends : Ascends top next' far' owner'
  put_ascends k (l, o, m) = go (cases_eq k x) (cases_eq k s)
    where
      go : (k ≡ x) ⊎ (k ≡ x → ⊥) → (k ≡ s) ⊎ (k ≡ s → ⊥) → (next' k < top) × (owner' (next' k) ≡ owner' k) × (far' k < far' (next' k))
      go (inl a) b = grind arith
      go (inr a) (inl b) = grind arith
      go (inr a) (inr b) = grind arith

  put_complete : Complete top next' far' owner'
  put_complete k j (l, m, o, e, h) = go (cases_eq k x) (cases_eq k s) (cases_eq j x)
    where
      go : (k ≡ x) ⊎ (k ≡ x → ⊥) → (k ≡ s) ⊎ (k ≡ s → ⊥) → (j ≡ x) ⊎ (j ≡ x → ⊥) → (1 ≤ next' k) × (far' (next' k) ≤ far' j)
      go (inl a) b (inl c) = grind arith
      go (inl a) b (inr c) = grind arith
      go (inr a) (inl b) (inl c) = grind arith
      go (inr a) (inl b) (inr c) = grind arith
      go (inr a) (inr b) (inl c) = grind arith
      go (inr a) (inr b) (inr c) = grind arith

  put_single : Single top far' owner'
  put_single k j (l, m, o, e, h) = go (cases_eq k x) (cases_eq j x)
    where
      go : (k ≡ x) ⊎ (k ≡ x → ⊥) → (j ≡ x) ⊎ (j ≡ x → ⊥) → k ≡ j
      go (inl a) (inl c) = grind arith
      go (inl a) (inr c) = grind arith
      go (inr a) (inl c) = grind arith
      go (inr a) (inr c) = grind arith

  pub put_chains : Chains top next' far' owner'
  put_chains = record { ascends = put_ascends; complete = put_complete; single = put_single }

-- x, behind s, is taken out
pub record TakenOut (top : ℕ) (next far owner next' far' owner' : ℕ → ℕ) (s x : ℕ) : Type 0 where
  pub before : next' s ≡ next x
  pub gone : owner' x ≡ 0
  pub other_next : (k : ℕ) → k < top → 1 ≤ owner' k → (k ≡ s → ⊥) → next' k ≡ next k
  pub other_far : (k : ℕ) → k < top → 1 ≤ owner' k → far' k ≡ far k
  pub other_owner : (k : ℕ) → k < top → (k ≡ x → ⊥) → owner' k ≡ owner k

-- the node of v's chain with far end w stands behind the seat of w
module _ (top : ℕ) (next far owner : ℕ → ℕ) (s x v w : ℕ) (ch : Chains top next far owner) (seat : Seat top next far owner v w s) (some : 1 ≤ v) (inside : x < top) (owned : owner x ≡ v) (ends : far x ≡ w) where
  pub seat_next : next s ≡ x
  seat_next =
      let c : (1 ≤ next s) × (far (next s) ≤ far x) = ch.complete s x (seat.inside, inside, omega (arith, seat.owned), seat.owned ∙ sym owned, omega (arith, seat.below)) in
      let a : (next s < top) × (owner (next s) ≡ owner s) × (far s < far (next s)) = ch.ascends s (seat.inside, omega (arith, seat.owned), c.0) in
      ch.single (next s) x (a.0, inside, omega (arith, seat.owned), omega (arith, seat.owned), omega (arith, seat.last c.0))

module _ (top : ℕ) (next far owner next' far' owner' : ℕ → ℕ) (s x v w : ℕ) (ch : Chains top next far owner) (seat : Seat top next far owner v w s) (some : 1 ≤ v) (inside : x < top) (owned : owner x ≡ v) (ends : far x ≡ w) (taken : TakenOut top next far owner next' far' owner' s x) where
  behind : next s ≡ x
  behind = seat_next top next far owner s x v w ch seat some inside owned ends

  -- no other node leads to x
  only_seat : (k : ℕ) → k < top → 1 ≤ owner k → 1 ≤ next k → next k ≡ x → k ≡ s
  only_seat k l o m e = go (cases_order (far k) (far s))
    where
      f : (next k < top) × (owner (next k) ≡ owner k) × (far k < far (next k))
      f = ch.ascends k (l, o, m)

      same : owner k ≡ owner s
      same = sym f.1 ∙ (ap owner e ∙ (owned ∙ sym seat.owned))

      go : (far k ≡ far s) ⊎ ((far k < far s) ⊎ (far s < far k)) → k ≡ s
      go (inl d) = ch.single k s (l, seat.inside, o, same, d)
      go (inr (inl d)) = absurd (omega (arith, (ch.complete k s (l, seat.inside, o, same, d)).1, ap far e, ends, seat.below))
      go (inr (inr d)) =
          absurd (omega (arith, (ch.complete s k (seat.inside, l, omega (arith, seat.owned), sym same, d)).1, ap far behind, ap far e, f.2))

  take_ascends : Ascends top next' far' owner'
  take_ascends k (l, o, m) = go (cases_eq k x) (cases_eq k s)
    where
      go : (k ≡ x) ⊎ (k ≡ x → ⊥) → (k ≡ s) ⊎ (k ≡ s → ⊥) → (next' k < top) × (owner' (next' k) ≡ owner' k) × (far' k < far' (next' k))
      go (inl a) b = grind arith
      go (inr a) (inl b) =
          let n : next' k ≡ next x = ap next' b ∙ taken.before in
          let f : (next x < top) × (owner (next x) ≡ owner x) × (far x < far (next x)) = ch.ascends x (inside, omega (arith, owned), omega arith) in
          let o : owner' (next x) ≡ owner (next x) = taken.other_owner (next x) f.0 (λ e. absurd (omega (arith, f.2, ap far e))) in
          let p : owner' k ≡ owner k = taken.other_owner k l a in
          let q : owner k ≡ v = ap owner b ∙ seat.owned in
          let g : far' (next x) ≡ far (next x) = taken.other_far (next x) f.0 (omega arith) in
          let h : far' k ≡ far s = taken.other_far k l (omega arith) ∙ ap far b in
          rw n (f.0, omega arith, omega (arith, seat.below))
      go (inr a) (inr b) =
          let n : next' k ≡ next k = taken.other_next k l o b in
          let p : owner' k ≡ owner k = taken.other_owner k l a in
          let f : (next k < top) × (owner (next k) ≡ owner k) × (far k < far (next k)) = ch.ascends k (l, omega arith, omega arith) in
          let q : owner' (next k) ≡ owner (next k) = taken.other_owner (next k) f.0 (λ e. b (only_seat k l (omega arith) (omega arith) e)) in
          let g : far' (next k) ≡ far (next k) = taken.other_far (next k) f.0 (omega arith) in
          let h : far' k ≡ far k = taken.other_far k l o in
          rw n (f.0, omega arith, omega arith)

  take_complete : Complete top next' far' owner'
  take_complete k j (l, m, o, e, h) = go (cases_eq k x) (cases_eq k s) (cases_eq j x)
    where
      go : (k ≡ x) ⊎ (k ≡ x → ⊥) → (k ≡ s) ⊎ (k ≡ s → ⊥) → (j ≡ x) ⊎ (j ≡ x → ⊥) → (1 ≤ next' k) × (far' (next' k) ≤ far' j)
      go (inl a) b c = grind arith
      go (inr a) b (inl c) = grind arith
      go (inr a) (inl b) (inr c) = let y : next s ≡ x = behind in grind arith
      go (inr a) (inr b) (inr c) = let y : next s ≡ x = behind in grind arith

  take_single : Single top far' owner'
  take_single k j (l, m, o, e, h) = go (cases_eq k x) (cases_eq j x)
    where
      go : (k ≡ x) ⊎ (k ≡ x → ⊥) → (j ≡ x) ⊎ (j ≡ x → ⊥) → k ≡ j
      go (inl a) c = grind arith
      go (inr a) (inl c) = grind arith
      go (inr a) (inr c) = grind arith

  pub take_chains : Chains top next' far' owner'
  take_chains = record { ascends = take_ascends; complete = take_complete; single = take_single }

-- ---- the free pairs

pub record FreeList (n c spare head : ℕ) (next far : ℕ → ℕ) : Type 0 where
  pub counted : Counted n c spare next far
  pub distinct : Distinct n c next far
  pub listed : Listed n c next far
  pub first : 1 ≤ spare → FreeAt n c next far head spare

-- the first free pair is taken off
module _ (n c spare head : ℕ) (next far next' far' : ℕ → ℕ) (list : FreeList n c spare head next far) (some : 1 ≤ spare) (used : 1 ≤ far' head) (other_far : (k : ℕ) → n ≤ k → k < n + c → (k ≡ head → ⊥) → far' k ≡ far k) (other_next : (k : ℕ) → n ≤ k → k < n + c → far' k ≡ 0 → (next' k ≡ next k) × (next' (k + c) ≡ next (k + c))) where
  pop_counted : Counted n c (spare - 1) next' far'
  pop_counted k (a, b, f) = go (cases_eq k head)
    where
      go : (k ≡ head) ⊎ (k ≡ head → ⊥) → (1 ≤ next' (k + c)) × (next' (k + c) ≤ spare - 1)
      go (inl e) = grind arith
      go (inr e) = grind arith

  pop_distinct : Distinct n c next' far'
  pop_distinct j k (a, b, p, q, f, g, same) = go (cases_eq k head) (cases_eq j head)
    where
      go : (k ≡ head) ⊎ (k ≡ head → ⊥) → (j ≡ head) ⊎ (j ≡ head → ⊥) → j ≡ k
      go (inl e) d = grind arith
      go (inr e) (inl d) = grind arith
      go (inr e) (inr d) = grind arith

  pop_listed : Listed n c next' far'
  pop_listed k (a, b, f, m) = go (cases_eq k head) (cases_eq (next k) head)
    where
      go : (k ≡ head) ⊎ (k ≡ head → ⊥) → (next k ≡ head) ⊎ (next k ≡ head → ⊥) → FreeAt n c next' far' (next' k) (next' (k + c) - 1)
      go (inl e) d = grind arith
      go (inr e) (inl d) = grind arith
      go (inr e) (inr d) = grind arith

  pop_first : 1 ≤ spare - 1 → FreeAt n c next' far' (next head) (spare - 1)
  pop_first l = go (cases_eq (next head) head)
    where
      go : (next head ≡ head) ⊎ (next head ≡ head → ⊥) → FreeAt n c next' far' (next head) (spare - 1)
      go (inl e) = grind arith
      go (inr e) = grind arith

  pub pop_free : FreeList n c (spare - 1) (next head) next' far'
  pop_free = record { counted = pop_counted; distinct = pop_distinct; listed = pop_listed; first = pop_first }

-- the pair x, so far in use, is put on
module _ (n c spare head : ℕ) (next far next' far' : ℕ → ℕ) (x : ℕ) (list : FreeList n c spare head next far) (low : n ≤ x) (high : x < n + c) (used : 1 ≤ far x) (free : far' x ≡ 0) (link : next' x ≡ head) (left : next' (x + c) ≡ spare + 1) (other_far : (k : ℕ) → n ≤ k → k < n + c → (k ≡ x → ⊥) → far' k ≡ far k) (other_next : (k : ℕ) → n ≤ k → k < n + c → (k ≡ x → ⊥) → far k ≡ 0 → (next' k ≡ next k) × (next' (k + c) ≡ next (k + c))) where
  push_counted : Counted n c (spare + 1) next' far'
  push_counted k (a, b, f) = go (cases_eq k x)
    where
      go : (k ≡ x) ⊎ (k ≡ x → ⊥) → (1 ≤ next' (k + c)) × (next' (k + c) ≤ spare + 1)
      go (inl e) = grind arith
      go (inr e) = grind arith

  push_distinct : Distinct n c next' far'
  push_distinct j k (a, b, p, q, f, g, same) = go (cases_eq k x) (cases_eq j x)
    where
      go : (k ≡ x) ⊎ (k ≡ x → ⊥) → (j ≡ x) ⊎ (j ≡ x → ⊥) → j ≡ k
      go (inl e) (inl d) = grind arith
      go (inl e) (inr d) = grind arith
      go (inr e) (inl d) = grind arith
      go (inr e) (inr d) = grind arith

  push_listed : Listed n c next' far'
  push_listed k (a, b, f, m) = go (cases_eq k x)
    where
      go : (k ≡ x) ⊎ (k ≡ x → ⊥) → FreeAt n c next' far' (next' k) (next' (k + c) - 1)
      go (inl e) = grind arith
      go (inr e) = grind arith

  pub push_free : FreeList n c (spare + 1) x next' far'
  push_free = record { counted = push_counted; distinct = push_distinct; listed = push_listed; first = λ l. (low, high, free, left) }
