-- A pipe joined: a free pair of cells put at its seats in the two chains.
use Rattle.std.proofs.Common.{◌≡◌, ℕ, ◌+◌, ◌-◌, ◌*◌, ◌<◌, ◌≤◌, true, false, cond, ◌||◌, eqb, ◌⊎◌, List, length, get_or, sym, refl, ap, ◌∙◌, inl, inr, arith}
use Rattle.std.proofs.lemmas.Bool.{cases_eq, cond-true, cond-false, eq-eqb, ne_eqb, both_ways, or_cases, or_left, or_right}
use Rattle.std.proofs.lemmas.Bool.Decides.{same_from_decides}
use Rattle.plan.specs.Plans.{within, pairs}
use Rattle.plan.specs.Registers.{same_pair}
use Rattle.plan.proofs.PipeLaws.{within_parts, same_pair_ways, same_pair_of, pairs_added}
use Rattle.chained.specs.Chains.{Seat, FreeAt, Bounded, Paired, Apart}
use Rattle.chained.specs.Changes.{linked, with_ends, with_pair}
use Rattle.chained.specs.Nodes.{next, far, owner, joined}
use Rattle.chained.proofs.Chains.{Chains, FreeList, PutIn, put_chains, pop_free}
use Rattle.chained.specs.NodesLemmas.{cell_since_far, CellOf, cell_of_joined, joined_of_cell, joined_decides, joined_alike}
use Rattle.chained.proofs.States.{Kept, free_unowned}
use Rattle.chained.proofs.Writes.{far_linked, owner_linked, length-linked, length-with_ends, linked_after, linked_before, linked_other, ends_next, ends_far_first, ends_owner_first, ends_far_second, ends_owner_second, ends_far_other, ends_owner_other}

module _ (n c spare x : ℕ) (ws : List ℕ) (kept : Kept n c spare x ws) (room : n + 4 * c ≤ length ws) (n-some : 1 ≤ n) (v w s t : ℕ) (v-in : within n v ≡ true) (w-in : within n w ≡ true) (ne : v ≡ w → ⊥) (unjoined : joined n c ws v w ≡ false) (some : 1 ≤ spare) (v-seat : Seat (n + 2 * c) (next ws) (far n c ws) (owner n c ws) v w s) (w-seat : Seat (n + 2 * c) (next ws) (far n c ws) (owner n c ws) w v t) where
  abbrev ends : List ℕ
  ends = with_ends c ws x w v

  abbrev first : List ℕ
  first = linked ends s x

  abbrev ws' : List ℕ
  ws' = linked first t (x + c)

  v_some : (1 ≤ v) × (v ≤ n)
  v_some = within_parts n v v-in

  w_some : (1 ≤ w) × (w ≤ n)
  w_some = within_parts n w w-in

  free : FreeAt n c (next ws) (far n c ws) x spare
  free = kept.frees.first some

  unowned : (owner n c ws x ≡ 0) × (owner n c ws (x + c) ≡ 0)
  unowned = free_unowned n c spare x ws kept x free.0 free.1 free.2

  -- a node in a chain is neither of the two cells
  old : (k : ℕ) → 1 ≤ owner n c ws k → (k ≡ x → ⊥) × (k ≡ x + c → ⊥)
  old k o = (λ e. omega (arith, ap (owner n c ws) e, unowned.0), λ e. omega (arith, ap (owner n c ws) e, unowned.1))

  s_old : (s ≡ x → ⊥) × (s ≡ x + c → ⊥)
  s_old = old s (omega (arith, v_some.0, v-seat.owned))

  t_old : (t ≡ x → ⊥) × (t ≡ x + c → ⊥)
  t_old = old t (omega (arith, w_some.0, w-seat.owned))

  s_not_t : s ≡ t → ⊥
  s_not_t e = ne (sym v-seat.owned ∙ (ap (owner n c ws) e ∙ w-seat.owned))

  long_ends : length ends ≡ length ws
  long_ends = length-with_ends c ws x w v

  long_first : length first ≡ length ws
  long_first = length-linked ends s x ∙ long_ends

  -- ---- far ends and owners after

  far_ends : (k : ℕ) → far n c ws' k ≡ far n c ends k
  far_ends k =
      far_linked n c first t (x + c) k w-seat.inside (omega (arith, free.1)) ∙ far_linked n c ends s x k v-seat.inside (omega (arith, free.1))

  owner_ends : (k : ℕ) → owner n c ws' k ≡ owner n c ends k
  owner_ends k =
      owner_linked n c first t (x + c) k w-seat.inside (omega (arith, free.1)) ∙ owner_linked n c ends s x k v-seat.inside (omega (arith, free.1))

  far_x : far n c ws' x ≡ w
  far_x = far_ends x ∙ ends_far_first n c ws x w v room free.0 free.1

  owner_x : owner n c ws' x ≡ v
  owner_x = owner_ends x ∙ ends_owner_first n c ws x w v room free.0 free.1

  far_y : far n c ws' (x + c) ≡ v
  far_y = far_ends (x + c) ∙ ends_far_second n c ws x w v room free.0 free.1

  owner_y : owner n c ws' (x + c) ≡ w
  owner_y = owner_ends (x + c) ∙ ends_owner_second n c ws x w v room free.0 free.1

  far_old : (k : ℕ) → k < n + 2 * c → (k ≡ x → ⊥) → (k ≡ x + c → ⊥) → far n c ws' k ≡ far n c ws k
  far_old k l p q = far_ends k ∙ ends_far_other n c ws x w v room free.0 free.1 k l p q

  owner_old : (k : ℕ) → k < n + 2 * c → (k ≡ x → ⊥) → (k ≡ x + c → ⊥) → owner n c ws' k ≡ owner n c ws k
  owner_old k l p q = owner_ends k ∙ ends_owner_other n c ws x w v room free.0 free.1 k l p q

  -- ---- next nodes after

  next_ends : (k : ℕ) → k < n + 2 * c → get_or ends k 0 ≡ get_or ws k 0
  next_ends k l = ends_next n c ws x w v room free.0 free.1 k l

  next_first : (k : ℕ) → k < n + 2 * c → (k ≡ s → ⊥) → (k ≡ x → ⊥) → get_or first k 0 ≡ get_or ws k 0
  next_first k l p q =
      linked_other ends s x (omega (arith, v-seat.inside, long_ends)) (omega (arith, free.1, long_ends)) (λ e. s_old.0 (sym e)) k p q ∙ next_ends k l

  next_last : (k : ℕ) → (k ≡ t → ⊥) → (k ≡ x + c → ⊥) → get_or ws' k 0 ≡ get_or first k 0
  next_last k p q =
      linked_other first t (x + c) (omega (arith, w-seat.inside, long_first)) (omega (arith, free.1, long_first)) (λ e. t_old.1 (sym e)) k p q

  -- ---- the chains: first v's cell, then w's

  owner₁ : ℕ → ℕ
  owner₁ k = cond (eqb k (x + c)) 0 (owner n c ws' k)

  owner₁_y : owner₁ (x + c) ≡ 0
  unfolding owner₁
  owner₁_y = cond-true (eqb (x + c) (x + c)) 0 (owner n c ws' (x + c)) (eq-eqb (x + c) (x + c) refl)

  owner₁_other : (k : ℕ) → (k ≡ x + c → ⊥) → owner₁ k ≡ owner n c ws' k
  unfolding owner₁
  owner₁_other k p = cond-false (eqb k (x + c)) 0 (owner n c ws' k) (ne_eqb k (x + c) p)

  x_not_y : x ≡ x + c → ⊥
  x_not_y e = omega (arith, free.0, free.1)

  put_first : PutIn (n + 2 * c) (next ws) (far n c ws) (owner n c ws) (next first) (far n c ws') owner₁ s x v w
  put_first =
      record {
        after = linked_after ends s x (omega (arith, v-seat.inside, long_ends)) (omega (arith, free.1, long_ends)) (λ e. s_old.0 (sym e)) ∙ next_ends s v-seat.inside;
        before = linked_before ends s x (omega (arith, v-seat.inside, long_ends)) (omega (arith, free.1, long_ends)) (λ e. s_old.0 (sym e));
        end = far_x;
        of = owner₁_other x x_not_y ∙ owner_x;
        other_next = λ k l o p. next_first k l p (old k o).0;
        other_far = λ k l o. far_old k l (old k o).0 (old k o).1;
        other_owner = λ k l p. go k l p (cases_eq k (x + c));
      }
    where
      go : (k : ℕ) → k < n + 2 * c → (k ≡ x → ⊥) → (k ≡ x + c) ⊎ (k ≡ x + c → ⊥) → owner₁ k ≡ owner n c ws k
      go k l p (inl e) = ap owner₁ e ∙ (owner₁_y ∙ (sym unowned.1 ∙ sym (ap (owner n c ws) e)))
      go k l p (inr q) = owner₁_other k q ∙ owner_old k l p q

  put_second : PutIn (n + 2 * c) (next first) (far n c ws') owner₁ (next ws') (far n c ws') (owner n c ws') t (x + c) w v
  put_second =
      record {
        after = linked_after first t (x + c) (omega (arith, w-seat.inside, long_first)) (omega (arith, free.1, long_first)) (λ e. t_old.1 (sym e));
        before = linked_before first t (x + c) (omega (arith, w-seat.inside, long_first)) (omega (arith, free.1, long_first)) (λ e. t_old.1 (sym e));
        end = far_y;
        of = owner_y;
        other_next = λ k l o p. next_last k p (λ e. omega (arith, o, ap owner₁ e, owner₁_y));
        other_far = λ k l o. refl;
        other_owner = λ k l p. sym (owner₁_other k p);
      }

  -- no cell has these ends yet
  fresh : (a b : ℕ) → within n a ≡ true → within n b ≡ true → joined n c ws a b ≡ false → (k : ℕ) → k < n + 2 * c → owner n c ws k ≡ a → far n c ws k ≡ b → ⊥
  fresh a b a_in b-in out k l o f =
      both_ways (joined n c ws a b) out
      (joined_of_cell n c ws a b (record { node = k; low = cell_since_far n c ws k (omega (arith, f, within_parts n b b-in)); high = l; owned = o; ends = f; left = a_in; right = b-in }))

  chains_first : Chains (n + 2 * c) (next first) (far n c ws') owner₁
  chains_first =
      put_chains (n + 2 * c) (next ws) (far n c ws) (owner n c ws) (next first) (far n c ws') owner₁ s x v w kept.chains v-seat v_some.0 (omega (arith, free.0)) (omega (arith, free.1)) unowned.0
      (fresh v w v-in w-in unjoined) put_first

  w_seat_first : Seat (n + 2 * c) (next first) (far n c ws') owner₁ w v t
  w_seat_first =
      record {
        inside = w-seat.inside;
        owned = owner₁_other t t_old.1 ∙ (owner_old t w-seat.inside t_old.0 t_old.1 ∙ w-seat.owned);
        below = omega (arith, far_old t w-seat.inside t_old.0 t_old.1, w-seat.below);
        last = λ m. ends_high (omega (arith, m, same));
      }
    where
      same : get_or first t 0 ≡ get_or ws t 0
      same = next_first t w-seat.inside (λ e. s_not_t (sym e)) t_old.0

      ends_high : 1 ≤ get_or ws t 0 → v ≤ far n c ws' (get_or first t 0)
      ends_high m =
          let a : (next ws t < n + 2 * c) × (owner n c ws (next ws t) ≡ owner n c ws t) × (far n c ws t < far n c ws (next ws t)) = kept.chains.ascends t (w-seat.inside, omega (arith, w_some.0, w-seat.owned), m) in
          let o : (get_or ws t 0 ≡ x → ⊥) × (get_or ws t 0 ≡ x + c → ⊥) = old (get_or ws t 0) (omega (arith, a.1, w_some.0, w-seat.owned)) in
          omega (arith, ap (far n c ws') same, far_old (get_or ws t 0) a.0 o.0 o.1, w-seat.last m)

  fresh_first : (k : ℕ) → k < n + 2 * c → owner₁ k ≡ w → far n c ws' k ≡ v → ⊥
  fresh_first k l o f = go (cases_eq k x) (cases_eq k (x + c))
    where
      go : (k ≡ x) ⊎ (k ≡ x → ⊥) → (k ≡ x + c) ⊎ (k ≡ x + c → ⊥) → ⊥
      go p (inl q) = omega (arith, o, ap owner₁ q, owner₁_y, w_some.0)
      go (inl p) (inr q) = ne (sym owner_x ∙ (sym (ap (owner n c ws') p) ∙ (sym (owner₁_other k q) ∙ o)))
      go (inr p) (inr q) =
          fresh w v w-in v-in (joined_alike n c ws w v ∙ unjoined) k l (sym (owner_old k l p q) ∙ (sym (owner₁_other k q) ∙ o)) (sym (far_old k l p q) ∙ f)

  chains_after : Chains (n + 2 * c) (next ws') (far n c ws') (owner n c ws')
  chains_after =
      put_chains (n + 2 * c) (next first) (far n c ws') owner₁ (next ws') (far n c ws') (owner n c ws') t (x + c) w v chains_first w_seat_first w_some.0 (omega (arith, free.0, n-some)) (omega (arith, free.1)) owner₁_y
      fresh_first put_second

  -- ---- the free pairs

  frees_after : FreeList n c (spare - 1) (next ws x) (next ws') (far n c ws')
  frees_after =
      pop_free n c spare x (next ws) (far n c ws) (next ws') (far n c ws') kept.frees some (omega (arith, far_x, w_some.0))
      (λ k low high p. far_old k (omega arith) p (λ e. omega (arith, free.0))) free_next
    where
      -- a node outside the chains keeps its next
      stays : (k : ℕ) → k < n + 2 * c → owner n c ws k ≡ 0 → (k ≡ x → ⊥) → (k ≡ x + c → ⊥) → get_or ws' k 0 ≡ get_or ws k 0
      stays k l o p q =
          next_last k (λ e. omega (arith, o, ap (owner n c ws) e, w-seat.owned, w_some.0)) q
          ∙ next_first k l (λ e. omega (arith, o, ap (owner n c ws) e, v-seat.owned, v_some.0)) p

      free_next : (k : ℕ) → n ≤ k → k < n + c → far n c ws' k ≡ 0 → (next ws' k ≡ next ws k) × (next ws' (k + c) ≡ next ws (k + c))
      free_next k low high f =
          let p : k ≡ x → ⊥ = λ e. omega (arith, f, ap (far n c ws') e, far_x, w_some.0) in
          let q : k ≡ x + c → ⊥ = λ e. omega (arith, free.0) in
          let o : (owner n c ws k ≡ 0) × (owner n c ws (k + c) ≡ 0) = free_unowned n c spare x ws kept k low high (sym (far_old k (omega arith) p q) ∙ f) in
          (stays k (omega arith) o.0 p q, stays (k + c) (omega arith) o.1 (λ e. omega (arith, free.1)) (λ e. p (omega arith)))

  -- ---- the ends

  bounded_after : Bounded n (n + 2 * c) (far n c ws')
  bounded_after k (low, high) = go (cases_eq k x) (cases_eq k (x + c))
    where
      go : (k ≡ x) ⊎ (k ≡ x → ⊥) → (k ≡ x + c) ⊎ (k ≡ x + c → ⊥) → far n c ws' k ≤ n
      go (inl p) q = omega (arith, ap (far n c ws') p, far_x, w_some.1)
      go (inr p) (inl q) = omega (arith, ap (far n c ws') q, far_y, v_some.1)
      go (inr p) (inr q) = omega (arith, far_old k high p q, kept.bounded k (low, high))

  paired_after : Paired n (n + 2 * c) (far n c ws') (owner n c ws')
  paired_after k (low, high, o) = go (cases_eq k x) (cases_eq k (x + c))
    where
      go : (k ≡ x) ⊎ (k ≡ x → ⊥) → (k ≡ x + c) ⊎ (k ≡ x + c → ⊥) → 1 ≤ far n c ws' k
      go (inl p) q = omega (arith, ap (far n c ws') p, far_x, w_some.0)
      go (inr p) (inl q) = omega (arith, ap (far n c ws') q, far_y, v_some.0)
      go (inr p) (inr q) =
          omega (arith, far_old k high p q, kept.paired k (low, high, omega (arith, o, owner_old k high p q)))

  apart_after : Apart n (n + 2 * c) (far n c ws') (owner n c ws')
  apart_after k (low, high, o, e) = go (cases_eq k x) (cases_eq k (x + c))
    where
      go : (k ≡ x) ⊎ (k ≡ x → ⊥) → (k ≡ x + c) ⊎ (k ≡ x + c → ⊥) → ⊥
      go (inl p) q = ne (omega (arith, e, ap (far n c ws') p, ap (owner n c ws') p, far_x, owner_x))
      go (inr p) (inl q) = ne (omega (arith, e, ap (far n c ws') q, ap (owner n c ws') q, far_y, owner_y))
      go (inr p) (inr q) =
          kept.apart k (low, high, omega (arith, o, owner_old k high p q), omega (arith, e, far_old k high p q, owner_old k high p q))

  -- ---- the plan

  module _ (a b : ℕ) where
    cell_new : ((a ≡ v) × (b ≡ w)) ⊎ ((a ≡ w) × (b ≡ v)) → CellOf n c ws' a b
    cell_new (inl (p, q)) =
        record { node = x; low = free.0; high = omega (arith, free.1); owned = owner_x ∙ sym p; ends = far_x ∙ sym q; left = ap (within n) p ∙ v-in; right = ap (within n) q ∙ w-in }
    cell_new (inr (p, q)) =
        record { node = x + c; low = omega (arith, free.0); high = omega (arith, free.1); owned = owner_y ∙ sym p; ends = far_y ∙ sym q; left = ap (within n) p ∙ w-in; right = ap (within n) q ∙ v-in }

    cell_kept : CellOf n c ws a b → CellOf n c ws' a b
    cell_kept k =
        let o : (k.node ≡ x → ⊥) × (k.node ≡ x + c → ⊥) = old k.node (omega (arith, k.owned, within_parts n a k.left)) in
        record {
          node = k.node;
          low = k.low;
          high = k.high;
          owned = owner_old k.node k.high o.0 o.1 ∙ k.owned;
          ends = far_old k.node k.high o.0 o.1 ∙ k.ends;
          left = k.left;
          right = k.right;
        }

    cell_either : CellOf n c ws' a b → (same_pair v w a b || joined n c ws a b) ≡ true
    cell_either k = go (cases_eq k.node x) (cases_eq k.node (x + c))
      where
        go : (k.node ≡ x) ⊎ (k.node ≡ x → ⊥) → (k.node ≡ x + c) ⊎ (k.node ≡ x + c → ⊥) → (same_pair v w a b || joined n c ws a b) ≡ true
        go (inl p) q =
            or_left (same_pair v w a b) (joined n c ws a b) (same_pair_of v w a b (inl (sym k.owned ∙ (ap (owner n c ws') p ∙ owner_x), sym k.ends ∙ (ap (far n c ws') p ∙ far_x))))
        go (inr p) (inl q) =
            or_left (same_pair v w a b) (joined n c ws a b) (same_pair_of v w a b (inr (sym k.owned ∙ (ap (owner n c ws') q ∙ owner_y), sym k.ends ∙ (ap (far n c ws') q ∙ far_y))))
        go (inr p) (inr q) =
            or_right (same_pair v w a b) (joined n c ws a b)
            (joined_of_cell n c ws a b (record { node = k.node; low = k.low; high = k.high; owned = sym (owner_old k.node k.high p q) ∙ k.owned; ends = sym (far_old k.node k.high p q) ∙ k.ends; left = k.left; right = k.right }))

    either_cell : (same_pair v w a b || joined n c ws a b) ≡ true → CellOf n c ws' a b
    either_cell e = go (or_cases (same_pair v w a b) (joined n c ws a b) e)
      where
        go : (same_pair v w a b ≡ true) ⊎ (joined n c ws a b ≡ true) → CellOf n c ws' a b
        go (inl h) = cell_new (same_pair_ways v w a b h)
        go (inr h) = cell_kept (cell_of_joined n c ws a b h)

  pub joined_after : (a b : ℕ) → joined n c (with_pair c ws x v s w t) a b ≡ (same_pair v w a b || joined n c ws a b)
  joined_after a b =
      same_from_decides (joined n c ws' a b) (same_pair v w a b || joined n c ws a b) (joined_decides n c ws' a b) (either_cell a b, cell_either a b)

  filled_after : (spare - 1) + pairs (joined n c ws') n ≡ c
  filled_after =
      let more : pairs (joined n c ws') n ≡ pairs (joined n c ws) n + 1 = pairs_added (joined n c ws) (joined n c ws') n v w v_some.0 v_some.1 w_some.0 w_some.1 ne (joined_alike n c ws v w) unjoined joined_after in
      omega (arith, kept.filled, more, some)

  pub kept_after : Kept n c (spare - 1) (next ws x) (with_pair c ws x v s w t)
  kept_after =
      record { bounded = bounded_after; paired = paired_after; apart = apart_after; chains = chains_after; frees = frees_after; filled = filled_after }
