-- A walk along a chain, and what it finds.
use Rattle.std.specs.Prelude.{◌≡◌, ℕ, suc, ◌+◌, ◌-◌, ◌*◌, ◌<◌, ◌≤◌, true, false, ◌⊎◌, List, Some, None, Option, vec_items, ◌==◌, ◌≢◌, nat_eq, nat_le, slice_index, refl}
use Rattle.std.proofs.Common.{sym, ap, ◌∙◌, inl, inr, arith}
use Rattle.std.proofs.lemmas.Bool.{cases_Bool, cases_eq, and_from, le-leb, eq-eqb, ne_eqb}
use Rattle.plan.specs.declared.number.Junction.{Junction}
use Rattle.plan.specs.Plans.{within, Sound, NextNeighbour}
use Rattle.plan.proofs.PipeLaws.{within_parts}
use Rattle.chained.specs.declared.register.ChainedRegister.{ChainedRegister}
use Rattle.chained.specs.Nodes.{far, owner, joined}
use Rattle.chained.specs.Making.{plan_of}
use Rattle.chained.specs.Reading.{SeatIn, NeighbourFrom, number_of}
use Rattle.chained.specs.NodesLemmas.{far_head, far_cell, owner_head, cell_since_far, CellOf, cell_of_joined, joined_of_cell, joined_alike}

-- a walk from node `start`, a head, up to w is at a node, with the next one read
pub record Walk (r : ChainedRegister) (start w node after : ℕ) : Type 0 where
  pub inside : node < r.n + 2 * r.c
  pub owned : owner r.n r.c (vec_items r.cells) node ≡ suc start
  pub below : far r.n r.c (vec_items r.cells) node < w
  pub reads : after ≡ slice_index (vec_items r.cells) node
  pub room : 1 ≤ after → after + 2 * r.c < r.n + 4 * r.c

module _ (r : ChainedRegister) where
  abbrev end : ℕ → ℕ
  end k = far r.n r.c (vec_items r.cells) k

  abbrev of : ℕ → ℕ
  of k = owner r.n r.c (vec_items r.cells) k

  abbrev after : ℕ → ℕ
  after k = slice_index (vec_items r.cells) k

  -- the node after a node of a chain
  pub next_node : (k : ℕ) → k < r.n + 2 * r.c → 1 ≤ of k → 1 ≤ after k → (r.n ≤ after k) × (after k < r.n + 2 * r.c) × (of (after k) ≡ of k) × (end k < end (after k)) × (end (after k) ≡ slice_index (vec_items r.cells) (after k + 2 * r.c))
  next_node k l o m =
      let a : (after k < r.n + 2 * r.c) × (of (after k) ≡ of k) × (end k < end (after k)) = r.ascends k (l, o, m) in
      let c : r.n ≤ after k = cell_since_far r.n r.c (vec_items r.cells) (after k) (omega (arith, a.2)) in
      (c, a.0, a.1, a.2, far_cell r.n r.c (vec_items r.cells) (after k) c)

  module _ (start w : ℕ) (cs : List ℕ) (is : cs ≡ vec_items r.cells) where
    reads_same : (k : ℕ) → slice_index cs k ≡ after k
    reads_same k = ap (λ ys. slice_index ys k) is

    -- the node after a node has a far end to read
    end_room : (k : ℕ) → k < r.n + 2 * r.c → 1 ≤ of k → 1 ≤ slice_index cs k → slice_index cs k + 2 * r.c < r.n + 4 * r.c
    end_room k l o m = omega (arith, reads_same k, (next_node k l o (omega (arith, reads_same k, m))).1)

    pub walk_starts : start < r.n → 1 ≤ w → Walk r start w start (slice_index cs start)
    walk_starts head some =
        let o : of start ≡ suc start = owner_head r.n r.c (vec_items r.cells) start head in
        record {
          inside = omega arith;
          owned = o;
          below = omega (arith, far_head r.n r.c (vec_items r.cells) start head);
          reads = reads_same start;
          room = end_room start (omega arith) (omega arith);
        }

    module _ (node x : ℕ) (walk : Walk r start w node x) where
      walk_next : 1 ≤ x → (r.n ≤ x) × (x < r.n + 2 * r.c) × (of x ≡ suc start) × (end node < end x) × (end x ≡ slice_index cs (x + 2 * r.c))
      walk_next m =
          let e : x ≡ after node = walk.reads in
          let t : (r.n ≤ after node) × (after node < r.n + 2 * r.c) × (of (after node) ≡ of node) × (end node < end (after node)) × (end (after node) ≡ slice_index (vec_items r.cells) (after node + 2 * r.c)) = next_node node walk.inside (omega (arith, walk.owned)) (omega arith) in
          rw e (t.0, t.1, t.2 ∙ walk.owned, t.3, t.4 ∙ sym (reads_same (after node + 2 * r.c)))

      pub walk_goes : 1 ≤ x → slice_index cs (x + 2 * r.c) < w → Walk r start w x (slice_index cs x)
      walk_goes m l =
          record {
            inside = (walk_next m).1;
            owned = (walk_next m).2;
            below = omega (arith, (walk_next m).4);
            reads = reads_same x;
            room = end_room x (walk_next m).1 (omega (arith, (walk_next m).2));
          }

      pub walk_falls : 1 ≤ x → slice_index cs (x + 2 * r.c) < w → w - end x < w - end node
      walk_falls m l = omega (arith, (walk_next m).3, (walk_next m).4)

      pub walk_ends : (v : ℕ) → suc start ≡ v → (1 ≤ x → w ≤ slice_index cs (x + 2 * r.c)) → SeatIn r v w node
      walk_ends v e h =
          record {
            inside = walk.inside;
            owned = walk.owned ∙ e;
            below = walk.below;
            last = λ m. rw (sym walk.reads) (omega (arith, h (rw walk.reads m), (walk_next (rw walk.reads m)).4));
          }

  -- ---- the lowest neighbour of v from w on, behind the seat of w

  module _ (v w s : ℕ) (v-in : within r.n v ≡ true) (seat : SeatIn r v w s) where
    some : 1 ≤ v
    some = (within_parts r.n v v-in).0

    -- a neighbour from w on is not below the one behind the seat
    behind_seat : (x : ℕ) → w ≤ x → joined r.n r.c (vec_items r.cells) v x ≡ true → (1 ≤ after s) × (end (after s) ≤ x)
    behind_seat x l e =
        let t : CellOf r.n r.c (vec_items r.cells) v x = cell_of_joined r.n r.c (vec_items r.cells) v x e in
        let a : (1 ≤ after s) × (end (after s) ≤ end t.node) = r.complete s t.node (seat.inside, t.high, omega (arith, some, seat.owned), seat.owned ∙ sym t.owned, omega (arith, seat.below, t.ends)) in
        (a.0, omega (arith, a.1, t.ends))

    pub neighbour_none : after s ≡ 0 → NeighbourFrom (plan_of r) v w 0
    neighbour_none z =
        record {
          none = λ e x l. go x l (cases_Bool (joined r.n r.c (vec_items r.cells) v x));
          from = λ l. absurd (omega arith);
          joins = λ l. absurd (omega arith);
          least = λ x a b. absurd (omega arith);
        }
      where
        go : (x : ℕ) → w ≤ x → (joined r.n r.c (vec_items r.cells) v x ≡ true) ⊎ (joined r.n r.c (vec_items r.cells) v x ≡ false) → joined r.n r.c (vec_items r.cells) v x ≡ false
        go x l (inl e) = absurd (omega (arith, (behind_seat x l e).0, z))
        go x l (inr e) = e

    module _ (m : 1 ≤ after s) where
      found : (r.n ≤ after s) × (after s < r.n + 2 * r.c) × (of (after s) ≡ of s) × (end s < end (after s)) × (end (after s) ≡ slice_index (vec_items r.cells) (after s + 2 * r.c))
      found = next_node s seat.inside (omega (arith, some, seat.owned)) m

      pub found_room : after s + 2 * r.c < r.n + 4 * r.c
      found_room = omega (arith, found.1)

      found_joined : joined r.n r.c (vec_items r.cells) v (end (after s)) ≡ true
      found_joined =
          joined_of_cell r.n r.c (vec_items r.cells) v (end (after s))
          (record {
            node = after s;
            low = found.0;
            high = found.1;
            owned = found.2 ∙ seat.owned;
            ends = refl;
            left = v-in;
            right = and_from (nat_le 1 (end (after s))) (nat_le (end (after s)) r.n) (le-leb 1 (end (after s)) (omega (arith, found.3))) (le-leb (end (after s)) r.n (r.bounded (after s) (found.0, found.1)));
          })

      neighbour_end : NeighbourFrom (plan_of r) v w (end (after s))
      neighbour_end =
          record {
            none = λ e x l. absurd (omega (arith, e, found.3));
            from = λ l. seat.last m;
            joins = λ l. found_joined;
            least = λ x a b. go x a b (cases_Bool (joined r.n r.c (vec_items r.cells) v x));
          }
        where
          go : (x : ℕ) → w ≤ x → x < end (after s) → (joined r.n r.c (vec_items r.cells) v x ≡ true) ⊎ (joined r.n r.c (vec_items r.cells) v x ≡ false) → joined r.n r.c (vec_items r.cells) v x ≡ false
          go x a b (inl e) = absurd (omega (arith, (behind_seat x a e).1, b))
          go x a b (inr e) = e

      pub neighbour_some : slice_index (vec_items r.cells) (after s + 2 * r.c) ≢ 0
      neighbour_some e = omega (arith, found.3, found.4, e)

      pub neighbour_found : NeighbourFrom (plan_of r) v w (slice_index (vec_items r.cells) (after s + 2 * r.c))
      neighbour_found = rw found.4 at neighbour_end

  -- ---- the plan

  module _ (v w u : ℕ) (some : 1 ≤ w) (found : NeighbourFrom (plan_of r) v w u) where
    pub joined_since : u ≡ w → joined r.n r.c (vec_items r.cells) v w ≡ true
    joined_since e = sym (ap (joined r.n r.c (vec_items r.cells) v) e) ∙ found.joins (omega arith)

    pub unjoined_since : (u ≢ w) → joined r.n r.c (vec_items r.cells) v w ≡ false
    unjoined_since ne = go (cases_eq u 0)
      where
        go : (u ≡ 0) ⊎ (u ≢ 0) → joined r.n r.c (vec_items r.cells) v w ≡ false
        go (inl z) = found.none z w (omega arith)
        go (inr z) = found.least w (omega arith) (omega (arith, found.from (omega arith)))

    pub joined_answer : nat_eq u w ≡ joined r.n r.c (vec_items r.cells) v w
    joined_answer = go (cases_eq u w)
      where
        go : (u ≡ w) ⊎ (u ≢ w) → (u == w) ≡ joined r.n r.c (vec_items r.cells) v w
        go (inl e) = eq-eqb u w e ∙ sym (joined_since e)
        go (inr ne) = ne_eqb u w ne ∙ sym (unjoined_since ne)

  -- the neighbour from w on as the next one behind w - 1, and the other way round
  pub next_from_none : (v w : ℕ) → 1 ≤ w → NeighbourFrom (plan_of r) v w 0 → NextNeighbour (plan_of r) v (w - 1) None
  next_from_none v w some h u l = h.none refl u (omega arith)

  pub next_from : (v w u : ℕ) → 1 ≤ w → (u ≢ 0) → NeighbourFrom (plan_of r) v w u → NextNeighbour (plan_of r) v (w - 1) (Some (record { 0 = u }))
  next_from v w u some ne h = (omega (arith, h.from (omega arith)), h.joins (omega arith), λ x a b. h.least x (omega arith) b)

  pub from_next : (v w : ℕ) (f : Option Junction) → 1 ≤ w → NextNeighbour (plan_of r) v (w - 1) f → NeighbourFrom (plan_of r) v w (number_of f)
  from_next v w None some h = record {
    none = λ e x l. h x (omega arith);
    from = λ l. absurd (omega arith);
    joins = λ l. absurd (omega arith);
    least = λ x a b. absurd (omega arith);
  }
  from_next v w (Some u) some h = record {
    none = λ e x l. absurd (omega (arith, e, h.0));
    from = λ l. omega (arith, h.0);
    joins = λ l. h.1;
    least = λ x a b. h.2 x (omega arith) b;
  }

  pub next-none : (v w : ℕ) → NeighbourFrom (plan_of r) v (w + 1) 0 → NextNeighbour (plan_of r) v w None
  next-none v w h u l = h.none refl u (omega arith)

  pub next_found : (v w u : ℕ) → (u ≢ 0) → NeighbourFrom (plan_of r) v (w + 1) u → NextNeighbour (plan_of r) v w (Some (record { 0 = u }))
  next_found v w u ne h =
      (omega (arith, h.from (omega arith)), h.joins (omega arith), λ x a b. h.least x (omega arith) b)

  joined_inside : (v w : ℕ) → joined r.n r.c (vec_items r.cells) v w ≡ true → (within r.n v ≡ true) × (within r.n w ≡ true)
  joined_inside v w e =
      let t : CellOf r.n r.c (vec_items r.cells) v w = cell_of_joined r.n r.c (vec_items r.cells) v w e in
      (t.left, t.right)

  joined_apart : (v : ℕ) → joined r.n r.c (vec_items r.cells) v v ≡ false
  joined_apart v = go (cases_Bool (joined r.n r.c (vec_items r.cells) v v))
    where
      go : (joined r.n r.c (vec_items r.cells) v v ≡ true) ⊎ (joined r.n r.c (vec_items r.cells) v v ≡ false) → joined r.n r.c (vec_items r.cells) v v ≡ false
      go (inl e) =
          let t : CellOf r.n r.c (vec_items r.cells) v v = cell_of_joined r.n r.c (vec_items r.cells) v v e in
          absurd (r.apart t.node (t.low, t.high, omega (arith, t.owned, within_parts r.n v t.left), t.ends ∙ sym t.owned))
      go (inr e) = e

  pub plan_sound : Sound (plan_of r)
  plan_sound =
      record {
        some = r.some;
        few = r.few;
        inside = λ v e. within_parts r.n v e;
        ends = λ v w e. joined_inside v w e;
        apart = joined_apart;
        alike = λ v w. joined_alike r.n r.c (vec_items r.cells) v w;
      }
