-- A pipe cut: its pair of cells taken out of the two chains and put on the free pairs.
use Rattle.std.proofs.Common.{◌≡◌, ℕ, ◌+◌, ◌-◌, ◌*◌, ◌<◌, ◌≤◌, true, false, cond, not, ◌&&◌, eqb, ◌⊎◌, List, length, get_or, set, sym, refl, ap, ◌∙◌, inl, inr, arith}
use Rattle.std.proofs.lemmas.List.{get_or-set_same, get_or-set_other, length-set}
use Rattle.std.proofs.lemmas.Bool.{cases_eq, cases_lt, cases_Bool, cond-true, cond-false, eq-eqb, ne_eqb, both_ways, and_parts, and_from, not-true, not_from_false}
use Rattle.std.proofs.lemmas.Bool.Decides.{same_from_decides}
use Rattle.plan.specs.Plans.{within, pairs}
use Rattle.plan.specs.Registers.{same_pair}
use Rattle.plan.proofs.PipeLaws.{within_parts, same_pair_ways, same_pair_of, pairs_taken}
use Rattle.chained.specs.Chains.{Seat, Bounded, Paired, Apart}
use Rattle.chained.specs.Changes.{unlinked, with_ends, pair_behind, without_pair}
use Rattle.chained.specs.Nodes.{next, far, owner, joined}
use Rattle.chained.proofs.Chains.{Chains, FreeList, TakenOut, seat_next, take_chains, push_free}
use Rattle.chained.specs.NodesLemmas.{CellOf, owner_twin, far_twin, cell_of_joined, joined_of_cell, joined_decides, joined_alike}
use Rattle.chained.proofs.States.{Kept, free_unowned}
use Rattle.chained.proofs.Writes.{far_set, owner_set, length-with_ends, ends_next, ends_far_first, ends_owner_first, ends_far_second, ends_owner_second, ends_far_other, ends_owner_other}

module _ (n c spare head : ℕ) (ws : List ℕ) (kept : Kept n c spare head ws) (room : n + 4 * c ≤ length ws) (v w s t : ℕ) (v-in : within n v ≡ true) (w-in : within n w ≡ true) (ne : v ≡ w → ⊥) (joint : joined n c ws v w ≡ true) (v-seat : Seat (n + 2 * c) (next ws) (far n c ws) (owner n c ws) v w s) (w-seat : Seat (n + 2 * c) (next ws) (far n c ws) (owner n c ws) w v t) where
  v_some : (1 ≤ v) × (v ≤ n)
  v_some = within_parts n v v-in

  w_some : (1 ≤ w) × (w ≤ n)
  w_some = within_parts n w w-in

  -- v's cell and w's cell
  abbrev one : ℕ
  one = get_or ws s 0

  abbrev two : ℕ
  two = get_or ws t 0

  abbrev x : ℕ
  x = pair_behind ws s t

  cell : CellOf n c ws v w
  cell = cell_of_joined n c ws v w joint

  one_is : one ≡ cell.node
  one_is = seat_next (n + 2 * c) (next ws) (far n c ws) (owner n c ws) s cell.node v w kept.chains v-seat v_some.0 cell.high cell.owned cell.ends

  one_in : (n ≤ one) × (one < n + 2 * c) × (owner n c ws one ≡ v) × (far n c ws one ≡ w)
  one_in = rw one_is (cell.low, cell.high, cell.owned, cell.ends)

  -- the pair, by which of the two is its first cell
  record Halves : Type 0 where
    low : n ≤ x
    high : x < n + c
    halves : ((one ≡ x) × (two ≡ x + c)) ⊎ ((one ≡ x + c) × (two ≡ x))

  two_is : (k : ℕ) → k < n + 2 * c → owner n c ws k ≡ w → far n c ws k ≡ v → two ≡ k
  two_is k l o f = seat_next (n + 2 * c) (next ws) (far n c ws) (owner n c ws) t k w v kept.chains w-seat w_some.0 l o f

  pair : Halves
  pair = go (cases_lt one (n + c))
    where
      go : (one < n + c) ⊎ (n + c ≤ one) → Halves
      go (inl l) =
          let e : two ≡ one + c = two_is (one + c) (omega arith) (owner_twin n c ws one one_in.0 l ∙ one_in.3) (far_twin n c ws one one_in.0 l ∙ one_in.2) in
          record { low = omega (arith, one_in.0); high = omega arith; halves = inl (omega arith, omega arith) }
      go (inr l) =
          let d : (one - c) + c ≡ one = omega arith in
          let e : two ≡ one - c = two_is (one - c) (omega (arith, one_in.1)) (sym (far_twin n c ws (one - c) (omega arith) (omega (arith, one_in.1))) ∙ (ap (far n c ws) d ∙ one_in.3)) (sym (owner_twin n c ws (one - c) (omega arith) (omega (arith, one_in.1))) ∙ (ap (owner n c ws) d ∙ one_in.2)) in
          record { low = omega arith; high = omega (arith, one_in.1); halves = inr (omega arith, omega arith) }

  two_in : (n ≤ two) × (two < n + 2 * c) × (owner n c ws two ≡ w) × (far n c ws two ≡ v)
  two_in = go pair.halves
    where
      go : ((one ≡ x) × (two ≡ x + c)) ⊎ ((one ≡ x + c) × (two ≡ x)) → (n ≤ two) × (two < n + 2 * c) × (owner n c ws two ≡ w) × (far n c ws two ≡ v)
      go (inl (p, q)) =
          (omega (arith, pair.low), omega (arith, pair.high), ap (owner n c ws) q ∙ (owner_twin n c ws x pair.low pair.high ∙ (sym (ap (far n c ws) p) ∙ one_in.3)), ap (far n c ws) q ∙ (far_twin n c ws x pair.low pair.high ∙ (sym (ap (owner n c ws) p) ∙ one_in.2)))
      go (inr (p, q)) =
          (omega (arith, pair.low), omega (arith, pair.high), ap (owner n c ws) q ∙ (sym (far_twin n c ws x pair.low pair.high) ∙ (sym (ap (far n c ws) p) ∙ one_in.3)), ap (far n c ws) q ∙ (sym (owner_twin n c ws x pair.low pair.high) ∙ (sym (ap (owner n c ws) p) ∙ one_in.2)))

  one_not_two : one ≡ two → ⊥
  one_not_two e = ne (sym one_in.2 ∙ (ap (owner n c ws) e ∙ two_in.2))

  s_not_t : s ≡ t → ⊥
  s_not_t e = ne (sym v-seat.owned ∙ (ap (owner n c ws) e ∙ w-seat.owned))

  -- a node that is neither cell of the pipe
  other : (k : ℕ) → (k ≡ one → ⊥) → (k ≡ two → ⊥) → (k ≡ x → ⊥) × (k ≡ x + c → ⊥)
  other k p q = go pair.halves
    where
      go : ((one ≡ x) × (two ≡ x + c)) ⊎ ((one ≡ x + c) × (two ≡ x)) → (k ≡ x → ⊥) × (k ≡ x + c → ⊥)
      go (inl (a, b)) = (λ e. p (e ∙ sym a), λ e. q (e ∙ sym b))
      go (inr (a, b)) = (λ e. q (e ∙ sym b), λ e. p (e ∙ sym a))

  -- w's seat is neither
  t_not_one : t ≡ one → ⊥
  t_not_one e = ne (sym one_in.2 ∙ (sym (ap (owner n c ws) e) ∙ w-seat.owned))

  t_not_two : t ≡ two → ⊥
  t_not_two e = omega (arith, w-seat.below, ap (far n c ws) e, two_in.3)

  t_other : (t ≡ x → ⊥) × (t ≡ x + c → ⊥)
  t_other = other t t_not_one t_not_two

  -- ---- the memory after

  abbrev first : List ℕ
  first = unlinked ws s

  abbrev second : List ℕ
  second = unlinked first t

  abbrev ends : List ℕ
  ends = with_ends c second x 0 0

  abbrev ws' : List ℕ
  ws' = set (set ends x head) (x + c) (spare + 1)

  long_second : length second ≡ length ws
  long_second = length-set first t (get_or first (get_or first t 0) 0) ∙ length-set ws s (get_or ws (get_or ws s 0) 0)

  long_ends : length ends ≡ length ws
  long_ends = length-with_ends c second x 0 0 ∙ long_second

  room_second : n + 4 * c ≤ length second
  room_second = omega (arith, room, long_second)

  far_second : (k : ℕ) → far n c second k ≡ far n c ws k
  far_second k =
      far_set n c first t (get_or first (get_or first t 0) 0) k w-seat.inside ∙ far_set n c ws s (get_or ws (get_or ws s 0) 0) k v-seat.inside

  owner_unlinked : (k : ℕ) → owner n c second k ≡ owner n c ws k
  owner_unlinked k =
      owner_set n c first t (get_or first (get_or first t 0) 0) k w-seat.inside ∙ owner_set n c ws s (get_or ws (get_or ws s 0) 0) k v-seat.inside

  far_ends : (k : ℕ) → far n c ws' k ≡ far n c ends k
  far_ends k =
      far_set n c (set ends x head) (x + c) (spare + 1) k (omega (arith, pair.high)) ∙ far_set n c ends x head k (omega (arith, pair.high))

  owner_ends : (k : ℕ) → owner n c ws' k ≡ owner n c ends k
  owner_ends k =
      owner_set n c (set ends x head) (x + c) (spare + 1) k (omega (arith, pair.high)) ∙ owner_set n c ends x head k (omega (arith, pair.high))

  far_x : far n c ws' x ≡ 0
  far_x = far_ends x ∙ ends_far_first n c second x 0 0 room_second pair.low pair.high

  owner_x : owner n c ws' x ≡ 0
  owner_x = owner_ends x ∙ ends_owner_first n c second x 0 0 room_second pair.low pair.high

  owner_y : owner n c ws' (x + c) ≡ 0
  owner_y = owner_ends (x + c) ∙ ends_owner_second n c second x 0 0 room_second pair.low pair.high

  far_y : far n c ws' (x + c) ≡ 0
  far_y = far_ends (x + c) ∙ ends_far_second n c second x 0 0 room_second pair.low pair.high

  far_old : (k : ℕ) → k < n + 2 * c → (k ≡ x → ⊥) → (k ≡ x + c → ⊥) → far n c ws' k ≡ far n c ws k
  far_old k l p q = far_ends k ∙ (ends_far_other n c second x 0 0 room_second pair.low pair.high k l p q ∙ far_second k)

  owner_old : (k : ℕ) → k < n + 2 * c → (k ≡ x → ⊥) → (k ≡ x + c → ⊥) → owner n c ws' k ≡ owner n c ws k
  owner_old k l p q =
      owner_ends k ∙ (ends_owner_other n c second x 0 0 room_second pair.low pair.high k l p q ∙ owner_unlinked k)

  owner_one : owner n c ws' one ≡ 0
  owner_one = go pair.halves
    where
      go : ((one ≡ x) × (two ≡ x + c)) ⊎ ((one ≡ x + c) × (two ≡ x)) → owner n c ws' one ≡ 0
      go (inl (p, q)) = ap (owner n c ws') p ∙ owner_x
      go (inr (p, q)) = ap (owner n c ws') p ∙ owner_y

  owner_two : owner n c ws' two ≡ 0
  owner_two = go pair.halves
    where
      go : ((one ≡ x) × (two ≡ x + c)) ⊎ ((one ≡ x + c) × (two ≡ x)) → owner n c ws' two ≡ 0
      go (inl (p, q)) = ap (owner n c ws') q ∙ owner_y
      go (inr (p, q)) = ap (owner n c ws') q ∙ owner_x

  -- a node still in a chain is neither cell
  still : (k : ℕ) → 1 ≤ owner n c ws' k → (k ≡ x → ⊥) × (k ≡ x + c → ⊥)
  still k o = (λ e. omega (arith, o, ap (owner n c ws') e, owner_x), λ e. omega (arith, o, ap (owner n c ws') e, owner_y))

  -- ---- next nodes after

  next_x : get_or ws' x 0 ≡ head
  next_x =
      get_or-set_other (set ends x head) (x + c) x (spare + 1) 0 (λ e. omega (arith, pair.low, pair.high)) ∙ get_or-set_same ends x head 0 (omega (arith, long_ends, room, pair.high))

  next_y : get_or ws' (x + c) 0 ≡ spare + 1
  next_y =
      get_or-set_same (set ends x head) (x + c) (spare + 1) 0 (rw length-set (omega (arith, long_ends, room, pair.high)))

  next_second : (k : ℕ) → k < n + 2 * c → (k ≡ x → ⊥) → (k ≡ x + c → ⊥) → get_or ws' k 0 ≡ get_or second k 0
  next_second k l p q =
      get_or-set_other (set ends x head) (x + c) k (spare + 1) 0 q ∙ (get_or-set_other ends x k head 0 p ∙ ends_next n c second x 0 0 room_second pair.low pair.high k l)

  next_first : (k : ℕ) → (k ≡ t → ⊥) → get_or second k 0 ≡ get_or first k 0
  next_first k p = get_or-set_other first t k (get_or first (get_or first t 0) 0) 0 p

  next_old : (k : ℕ) → (k ≡ s → ⊥) → get_or first k 0 ≡ get_or ws k 0
  next_old k p = get_or-set_other ws s k (get_or ws (get_or ws s 0) 0) 0 p

  two_kept : get_or first t 0 ≡ two
  two_kept = next_old t (λ e. s_not_t (sym e))

  next_t : get_or ws' t 0 ≡ get_or first two 0
  next_t =
      next_second t w-seat.inside t_other.0 t_other.1
      ∙ (get_or-set_same first t (get_or first (get_or first t 0) 0) 0 (rw length-set (omega (arith, w-seat.inside, room)))
      ∙ ap (λ i. get_or first i 0) two_kept)

  -- ---- the chains: first v's cell out, then w's

  owner₁ : ℕ → ℕ
  owner₁ k = cond (eqb k one) 0 (owner n c ws k)

  owner₁_one : owner₁ one ≡ 0
  unfolding owner₁
  owner₁_one = cond-true (eqb one one) 0 (owner n c ws one) (eq-eqb one one refl)

  owner₁_other : (k : ℕ) → (k ≡ one → ⊥) → owner₁ k ≡ owner n c ws k
  unfolding owner₁
  owner₁_other k p = cond-false (eqb k one) 0 (owner n c ws k) (ne_eqb k one p)

  out_first : TakenOut (n + 2 * c) (next ws) (far n c ws) (owner n c ws) (next first) (far n c ws) owner₁ s one
  out_first =
      record {
        before = get_or-set_same ws s (get_or ws (get_or ws s 0) 0) 0 (omega (arith, v-seat.inside, room));
        gone = owner₁_one;
        other_next = λ k l o p. next_old k p;
        other_far = λ k l o. refl;
        other_owner = λ k l p. owner₁_other k p;
      }

  chains_first : Chains (n + 2 * c) (next first) (far n c ws) owner₁
  chains_first =
      take_chains (n + 2 * c) (next ws) (far n c ws) (owner n c ws) (next first) (far n c ws) owner₁ s one v w kept.chains v-seat v_some.0 one_in.1 one_in.2 one_in.3 out_first

  w_seat_first : Seat (n + 2 * c) (next first) (far n c ws) owner₁ w v t
  w_seat_first =
      record {
        inside = w-seat.inside;
        owned = owner₁_other t t_not_one ∙ w-seat.owned;
        below = w-seat.below;
        last = λ m. omega (arith, ap (far n c ws) two_kept, w-seat.last (omega (arith, m, two_kept)));
      }

  out_second : TakenOut (n + 2 * c) (next first) (far n c ws) owner₁ (next ws') (far n c ws') (owner n c ws') t two
  out_second =
      record {
        before = next_t;
        gone = owner_two;
        other_next = λ k l o p. next_second k l (still k o).0 (still k o).1 ∙ next_first k p;
        other_far = λ k l o. far_old k l (still k o).0 (still k o).1;
        other_owner = λ k l p. go k l p (cases_eq k one);
      }
    where
      go : (k : ℕ) → k < n + 2 * c → (k ≡ two → ⊥) → (k ≡ one) ⊎ (k ≡ one → ⊥) → owner n c ws' k ≡ owner₁ k
      go k l p (inl e) = ap (owner n c ws') e ∙ (owner_one ∙ (sym owner₁_one ∙ sym (ap owner₁ e)))
      go k l p (inr q) = owner_old k l (other k q p).0 (other k q p).1 ∙ sym (owner₁_other k q)

  chains_after : Chains (n + 2 * c) (next ws') (far n c ws') (owner n c ws')
  chains_after =
      take_chains (n + 2 * c) (next first) (far n c ws) owner₁ (next ws') (far n c ws') (owner n c ws') t two w v chains_first w_seat_first w_some.0 two_in.1 (owner₁_other two (λ e. one_not_two (sym e)) ∙ two_in.2) two_in.3 out_second

  -- ---- the free pairs

  far_x_before : 1 ≤ far n c ws x
  far_x_before = go pair.halves
    where
      go : ((one ≡ x) × (two ≡ x + c)) ⊎ ((one ≡ x + c) × (two ≡ x)) → 1 ≤ far n c ws x
      go (inl (p, q)) = omega (arith, ap (far n c ws) p, one_in.3, w_some.0)
      go (inr (p, q)) = omega (arith, ap (far n c ws) q, two_in.3, v_some.0)

  frees_after : FreeList n c (spare + 1) x (next ws') (far n c ws')
  frees_after =
      push_free n c spare head (next ws) (far n c ws) (next ws') (far n c ws') x kept.frees pair.low pair.high far_x_before far_x next_x next_y
      (λ k low high p. far_old k (omega arith) p (λ e. omega (arith, pair.low))) free_next
    where
      -- a node outside the chains keeps its next
      stays : (k : ℕ) → k < n + 2 * c → owner n c ws k ≡ 0 → (k ≡ x → ⊥) → (k ≡ x + c → ⊥) → get_or ws' k 0 ≡ get_or ws k 0
      stays k l o p q =
          next_second k l p q ∙ (next_first k (λ e. omega (arith, o, ap (owner n c ws) e, w-seat.owned, w_some.0))
          ∙ next_old k (λ e. omega (arith, o, ap (owner n c ws) e, v-seat.owned, v_some.0)))

      free_next : (k : ℕ) → n ≤ k → k < n + c → (k ≡ x → ⊥) → far n c ws k ≡ 0 → (next ws' k ≡ next ws k) × (next ws' (k + c) ≡ next ws (k + c))
      free_next k low high p f =
          let o : (owner n c ws k ≡ 0) × (owner n c ws (k + c) ≡ 0) = free_unowned n c spare head ws kept k low high f in
          (stays k (omega arith) o.0 p (λ e. omega (arith, pair.low)), stays (k + c) (omega arith) o.1 (λ e. omega (arith, pair.high)) (λ e. p (omega arith)))

  -- ---- the ends

  bounded_after : Bounded n (n + 2 * c) (far n c ws')
  bounded_after k (low, high) = go (cases_eq k x) (cases_eq k (x + c))
    where
      go : (k ≡ x) ⊎ (k ≡ x → ⊥) → (k ≡ x + c) ⊎ (k ≡ x + c → ⊥) → far n c ws' k ≤ n
      go (inl p) q = omega (arith, ap (far n c ws') p, far_x)
      go (inr p) (inl q) = omega (arith, ap (far n c ws') q, far_y)
      go (inr p) (inr q) = omega (arith, far_old k high p q, kept.bounded k (low, high))

  paired_after : Paired n (n + 2 * c) (far n c ws') (owner n c ws')
  paired_after k (low, high, o) =
      omega (arith, far_old k high (still k o).0 (still k o).1, kept.paired k (low, high, omega (arith, o, owner_old k high (still k o).0 (still k o).1)))

  apart_after : Apart n (n + 2 * c) (far n c ws') (owner n c ws')
  apart_after k (low, high, o, e) =
      kept.apart k (low, high, omega (arith, o, owner_old k high (still k o).0 (still k o).1), omega (arith, e, far_old k high (still k o).0 (still k o).1, owner_old k high (still k o).0 (still k o).1))

  -- ---- the plan

  module _ (a b : ℕ) where
    cell_kept : CellOf n c ws' a b → (not (same_pair v w a b) && joined n c ws a b) ≡ true
    cell_kept k = and_from (not (same_pair v w a b)) (joined n c ws a b) (go (cases_Bool (same_pair v w a b))) (joined_of_cell n c ws a b before)
      where
        apart : (k.node ≡ x → ⊥) × (k.node ≡ x + c → ⊥)
        apart = still k.node (omega (arith, k.owned, within_parts n a k.left))

        before : CellOf n c ws a b
        before = record { node = k.node; low = k.low; high = k.high; owned = sym (owner_old k.node k.high apart.0 apart.1) ∙ k.owned; ends = sym (far_old k.node k.high apart.0 apart.1) ∙ k.ends; left = k.left; right = k.right }

        away : ((a ≡ v) × (b ≡ w)) ⊎ ((a ≡ w) × (b ≡ v)) → ⊥
        away (inl (p, q)) =
            let e : one ≡ k.node = seat_next (n + 2 * c) (next ws) (far n c ws) (owner n c ws) s k.node v w kept.chains v-seat v_some.0 k.high (before.owned ∙ p) (before.ends ∙ q) in
            omega (arith, k.owned, ap (owner n c ws') e, owner_one, within_parts n a k.left)
        away (inr (p, q)) =
            let e : two ≡ k.node = two_is k.node k.high (before.owned ∙ p) (before.ends ∙ q) in
            omega (arith, k.owned, ap (owner n c ws') e, owner_two, within_parts n a k.left)

        go : (same_pair v w a b ≡ true) ⊎ (same_pair v w a b ≡ false) → not (same_pair v w a b) ≡ true
        go (inl e) = absurd (away (same_pair_ways v w a b e))
        go (inr e) = not_from_false (same_pair v w a b) e

    kept_cell : (not (same_pair v w a b) && joined n c ws a b) ≡ true → CellOf n c ws' a b
    kept_cell e =
        record {
          node = k.node;
          low = k.low;
          high = k.high;
          owned = owner_old k.node k.high away.0 away.1 ∙ k.owned;
          ends = far_old k.node k.high away.0 away.1 ∙ k.ends;
          left = k.left;
          right = k.right;
        }
      where
        parts : (not (same_pair v w a b) ≡ true) × (joined n c ws a b ≡ true)
        parts = and_parts (not (same_pair v w a b)) (joined n c ws a b) e

        k : CellOf n c ws a b
        k = cell_of_joined n c ws a b parts.1

        differs : ((a ≡ v) × (b ≡ w)) ⊎ ((a ≡ w) × (b ≡ v)) → ⊥
        differs h = both_ways (same_pair v w a b) (not-true (same_pair v w a b) parts.0) (same_pair_of v w a b h)

        away : (k.node ≡ x → ⊥) × (k.node ≡ x + c → ⊥)
        away =
            other k.node
            (λ h. differs (inl (sym k.owned ∙ (ap (owner n c ws) h ∙ one_in.2), sym k.ends ∙ (ap (far n c ws) h ∙ one_in.3))))
            (λ h. differs (inr (sym k.owned ∙ (ap (owner n c ws) h ∙ two_in.2), sym k.ends ∙ (ap (far n c ws) h ∙ two_in.3))))

  pub joined_after : (a b : ℕ) → joined n c (without_pair c ws s t head (spare + 1)) a b ≡ (not (same_pair v w a b) && joined n c ws a b)
  joined_after a b =
      same_from_decides (joined n c ws' a b) (not (same_pair v w a b) && joined n c ws a b) (joined_decides n c ws' a b) (kept_cell a b, cell_kept a b)

  fewer : pairs (joined n c ws) n ≡ pairs (joined n c ws') n + 1
  fewer =
      pairs_taken (joined n c ws) (joined n c ws') n v w v_some.0 v_some.1 w_some.0 w_some.1 ne (joined_alike n c ws v w) joint joined_after

  pub kept_after : Kept n c (spare + 1) (pair_behind ws s t) (without_pair c ws s t head (spare + 1))
  kept_after =
      record { bounded = bounded_after; paired = paired_after; apart = apart_after; chains = chains_after; frees = frees_after; filled = omega (arith, kept.filled, fewer) }

  -- what `free_pair` asks
  pub seats_fit : (s < length ws) × (t < length ws)
  seats_fit = (omega (arith, v-seat.inside, room), omega (arith, w-seat.inside, room))

  pub nodes_fit : (get_or ws s 0 < length ws) × (get_or (unlinked ws s) t 0 < length ws)
  nodes_fit = (omega (arith, one_in.1, room), omega (arith, two_kept, two_in.1, room))

  pub pair_fits : pair_behind ws s t + 3 * c < length ws
  pair_fits = omega (arith, pair.high, room)
