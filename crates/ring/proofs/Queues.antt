-- The queue of a breadth-first search, and how it grows.
use Rattle.std.proofs.Common.{◌≡◌, ℕ, zero, suc, ◌+◌, ◌-◌, ◌*◌, ◌<◌, ◌≤◌, true, false, cond, not, eqb, ◌≢◌, ◌⊎◌, List, length, get_or, set, Some, sym, refl, ap, ◌∙◌, ap₂, inl, inr, arith}
use Rattle.std.proofs.lemmas.List.{get_or-set_same, get_or-set_other, length-set}
use Rattle.std.proofs.lemmas.Bool.{cases_eq, cases_lt, cases_Bool, both_ways, eq-eqb, ne_eqb, not_from_true, not_from_false}
use Rattle.plan.specs.Plans.{Plan, Sound, NextNeighbour, count}
use Rattle.plan.specs.declared.number.Junction.{Junction}
use Rattle.plan.proofs.Counts.{count-le, count_more}
use Rattle.plan.specs.Memory.{KeptFrom}
use Rattle.ring.specs.Reach.{queue, mark, Open, Queue, Spread}

-- the walk over the neighbours of u, the junction at `head`, has come to `last`
pub record Walked (p : Plan) (v a head u size now' last : ℕ) (s₀ s : List ℕ) : Type 0 where
  pub long : length s ≡ length s₀
  pub grows : size ≤ now'
  pub above : v ≤ last
  pub at_head : queue s head ≡ u
  pub grown : Queue p v a now' (queue s) (mark p.size s)
  pub done : Spread p v head (queue s) (mark p.size s)
  pub here : (w : ℕ) → w ≤ last → Open p v w → p.joins u w ≡ true → mark p.size s w ≡ 0 → ⊥
  pub behind : KeptFrom (2 * p.size) s₀ s

module _ (p : Plan) (v a size : ℕ) (q m : ℕ → ℕ) (h : Queue p v a size q m) where
  -- a junction that is not marked is not in the queue
  fresh_apart : (w : ℕ) → m w ≡ 0 → (i : ℕ) → i < size → q i ≡ w → ⊥
  fresh_apart w e i l f = let z : m (q i) ≡ 0 = ap m f ∙ e in omega (arith, h.marked i l)

  counted_more : (m' : ℕ → ℕ) (w : ℕ) → 1 ≤ w → w ≤ p.size → m w ≡ 0 → ((x : ℕ) → 1 ≤ x → x ≤ p.size → (x ≡ w → ⊥) → m' x ≡ m x) → (m' w ≡ 0 → ⊥) → count (λ k. not (eqb (m' (suc k)) 0)) p.size ≡ size + 1
  counted_more m' w pos le e same new =
      let s : suc (w - 1) ≡ w = omega arith in
      count_more (λ k. not (eqb (m (suc k)) 0)) (λ k. not (eqb (m' (suc k)) 0)) p.size (w - 1) (omega arith)
      (not_from_true _ (eq-eqb (m (suc (w - 1))) 0 (ap m s ∙ e)))
      (not_from_false _ (ne_eqb (m' (suc (w - 1))) 0 (λ z. new (sym (ap m' s) ∙ z))))
      (λ k l ne. ap (λ x. not (eqb x 0)) (sym (same (suc k) (omega arith) (omega arith) (λ z. ne (omega arith)))))
      ∙ ap (λ x. x + 1) h.counted

  -- so the queue has room for it
  pub room_left : (w : ℕ) → 1 ≤ w → w ≤ p.size → m w ≡ 0 → size < p.size
  room_left w pos le e =
      let m' : (ℕ → ℕ) = λ x. cond (eqb x w) 1 (m x) in
      let c : count (λ k. not (eqb (m' (suc k)) 0)) p.size ≡ size + 1 = counted_more m' w pos le e (λ x a b ne. rw (ne_eqb x w ne) refl) (λ z. let f : eqb w w ≡ true = eq-eqb w w refl in let g : ◌≡◌ {A = ℕ} 1 0 = rw f at z in omega arith) in
      omega (arith, count-le (λ k. not (eqb (m' (suc k)) 0)) p.size)

  -- one junction more
  module _ (q' m' : ℕ → ℕ) (w head : ℕ) (lt : head < size) (o : Open p v w) (fresh : m w ≡ 0) (joined : p.joins (q head) w ≡ true) (none : (k : ℕ) → k < head → p.joins (q k) w ≡ false)
      (same : (i : ℕ) → i < size → q' i ≡ q i) (new : q' size ≡ w) (msame : (x : ℕ) → 1 ≤ x → x ≤ p.size → (x ≡ w → ⊥) → m' x ≡ m x) (mnew : m' w ≡ head + 1) where
    old_mark : (i : ℕ) → i < size → m' (q' i) ≡ m (q i)
    old_mark i l = ap m' (same i l) ∙ msame (q i) (h.inside i l).0 (h.inside i l).1 (fresh_apart w fresh i l)

    new_mark : m' (q' size) ≡ head + 1
    new_mark = ap m' new ∙ mnew

    last_or : (P : ℕ → Type 0) → ((i : ℕ) → i < size → P i) → P size → (i : ℕ) → i < size + 1 → P i
    last_or P f g i l = go (cases_eq i size)
      where
        go : (i ≡ size) ⊎ (i ≡ size → ⊥) → P i
        go (inl e) = rw e g
        go (inr ne) = f i (omega arith)

    old_joined : (i : ℕ) → i < size → 0 < i → p.joins (q' (m' (q' i) - 1)) (q' i) ≡ true
    old_joined i l z =
        let b : m (q i) - 1 < size = omega (arith, h.before i z l) in
        ap₂ p.joins (ap (λ x. q' (x - 1)) (old_mark i l) ∙ same (m (q i) - 1) b) (same i l) ∙ h.joined i z l

    new_joined : p.joins (q' (m' (q' size) - 1)) (q' size) ≡ true
    new_joined =
        let e : head + 1 - 1 ≡ head = omega arith in
        ap₂ p.joins (ap (λ x. q' (x - 1)) new_mark ∙ ap q' e ∙ same head lt) new ∙ joined

    old_earliest : (k i : ℕ) → i < size → 0 < i → k + 1 < m' (q' i) → p.joins (q' k) (q' i) ≡ false
    old_earliest k i l z e =
        let f : k + 1 < m (q i) = rw (old_mark i l) at e in
        ap₂ p.joins (same k (omega (arith, h.before i z l))) (same i l) ∙ h.earliest i k z l f

    new_earliest : (k : ℕ) → k + 1 < m' (q' size) → p.joins (q' k) (q' size) ≡ false
    new_earliest k e =
        let f : k + 1 < head + 1 = rw new_mark at e in
        ap₂ p.joins (same k (omega arith)) new ∙ none k (omega arith)

    apart : (i j : ℕ) → i < j → q' i ≡ q' j → (j ≡ size) ⊎ (j ≡ size → ⊥) → j < size + 1 → ⊥
    apart i j l e (inl f) k = fresh_apart w fresh i (omega arith) (sym (same i (omega arith)) ∙ e ∙ ap q' f ∙ new)
    apart i j l e (inr f) k = h.once i j l (omega arith) (sym (same i (omega arith)) ∙ e ∙ same j (omega arith))

    found : (x : ℕ) → 1 ≤ x → x ≤ p.size → (m' x ≡ 0 → ⊥) → (x ≡ w) ⊎ (x ≡ w → ⊥) → (i : ℕ) × (i < size + 1) × (q' i ≡ x)
    found x a b ne (inl e) = (size, omega arith, new ∙ sym e)
    found x a b ne (inr f) =
        let r = h.listed x a b (λ z. ne (msame x a b f ∙ z)) in
        (r.0, omega (arith, r.1), same r.0 r.1 ∙ r.2)

    pub queue_more : Queue p v a (size + 1) q' m'
    queue_more = record {
      some = omega arith;
      few = omega (arith, room_left w (omega (arith, o.above)) o.upto fresh);
      first = same 0 (omega (arith, h.some)) ∙ h.first;
      inside = last_or (λ i. (1 ≤ q' i) × (q' i ≤ p.size)) (λ i l. rw (same i l) (h.inside i l)) (rw new (omega (arith, o.above), o.upto));
      free = λ i pos l. last_or (λ i. 0 < i → Open p v (q' i)) (λ i l z. rw (same i l) (h.free i z l)) (λ z. rw new o) i l pos;
      marked = last_or (λ i. 1 ≤ m' (q' i)) (λ i l. rw (old_mark i l) (h.marked i l)) (rw new_mark (omega arith));
      before = λ i pos l. last_or (λ i. 0 < i → m' (q' i) ≤ i) (λ i l z. rw (old_mark i l) (h.before i z l)) (λ z. rw new_mark (omega arith)) i l pos;
      joined = λ i pos l. last_or (λ i. 0 < i → p.joins (q' (m' (q' i) - 1)) (q' i) ≡ true) old_joined (λ z. new_joined) i l pos;
      earliest = λ i k pos l. last_or (λ i. 0 < i → k + 1 < m' (q' i) → p.joins (q' k) (q' i) ≡ false) (old_earliest k) (λ z e. new_earliest k e) i l pos;
      once = λ i j l k e. apart i j l e (cases_eq j size) k;
      listed = λ x a b ne. found x a b ne (cases_eq x w);
      counted = counted_more m' w (omega (arith, o.above)) o.upto fresh msame (λ z. omega (arith, mnew, z));
    }

pub neighbour_inside : (p : Plan) → Sound p → (u last : ℕ) (w : Junction) → NextNeighbour p u last (Some w) → (1 ≤ w.0) × (w.0 ≤ p.size)
neighbour_inside p s u last w h = s.inside w.0 (s.ends u w.0 h.1).1

module _ (p : Plan) (sound : Sound p) (v a head u size now' last : ℕ) (s₀ s : List ℕ) (h : Walked p v a head u size now' last s₀ s) where
  -- a neighbour is taken into the queue
  module _ (w : Junction) (nb : NextNeighbour p u last (Some w)) (fresh : mark p.size s w.0 ≡ 0) (apart : p.joins v w.0 ≡ false) (inside : head < size) (room : 2 * p.size ≤ length s₀) where
    w_open : Open p v w.0
    w_open = record { above = omega (arith, h.above, nb.0); upto = (neighbour_inside p sound u last w nb).1; apart = apart }

    pub seat_left : now' < p.size
    seat_left = room_left p v a now' _ _ h.grown w.0 (neighbour_inside p sound u last w nb).0 w_open.upto fresh

    abbrev pub s' : List ℕ
    s' = set (set s now' w.0) (p.size + (w.0 - 1)) (head + 1)

    reads_queue : (i : ℕ) → i < p.size → (i ≡ now' → ⊥) → queue s' i ≡ queue s i
    reads_queue i l ne =
        let a₁ : i ≢ p.size + (w.0 - 1) = omega arith in
        get_or-set_other (set s now' w.0) (p.size + (w.0 - 1)) i (head + 1) 0 a₁ ∙ get_or-set_other s now' i w.0 0 ne

    reads_new : queue s' now' ≡ w.0
    reads_new =
        let l = seat_left in
        let a₁ : now' ≢ p.size + (w.0 - 1) = omega arith in
        get_or-set_other (set s now' w.0) (p.size + (w.0 - 1)) now' (head + 1) 0 a₁ ∙ get_or-set_same s now' w.0 0 (omega (arith, h.long))

    reads_mark : (x : ℕ) → 1 ≤ x → (x ≡ w.0 → ⊥) → mark p.size s' x ≡ mark p.size s x
    reads_mark x pos ne =
        let l = seat_left in
        let i = neighbour_inside p sound u last w nb in
        let a₁ : p.size + (x - 1) ≢ p.size + (w.0 - 1) = omega (arith, i.0) in
        let a₂ : p.size + (x - 1) ≢ now' = omega arith in
        get_or-set_other (set s now' w.0) (p.size + (w.0 - 1)) (p.size + (x - 1)) (head + 1) 0 a₁ ∙ get_or-set_other s now' (p.size + (x - 1)) w.0 0 a₂

    reads_seat : mark p.size s' w.0 ≡ head + 1
    reads_seat =
        let i = neighbour_inside p sound u last w nb in
        get_or-set_same (set s now' w.0) (p.size + (w.0 - 1)) (head + 1) 0 (simp length-set (omega (arith, h.long, i.0, i.1)))

    -- a fresh junction is joined to none that was spread before
    none_before : (k : ℕ) → k < head → p.joins (queue s k) w.0 ≡ false
    none_before k l = go (cases_Bool (p.joins (queue s k) w.0))
      where
        go : (p.joins (queue s k) w.0 ≡ true) ⊎ (p.joins (queue s k) w.0 ≡ false) → p.joins (queue s k) w.0 ≡ false
        go (inl j) = absurd (h.done k w.0 l w_open j fresh)
        go (inr j) = j

    grown' : Queue p v a (now' + 1) (queue s') (mark p.size s')
    grown' =
        let l = seat_left in
        queue_more p v a now' (queue s) (mark p.size s) h.grown (queue s') (mark p.size s') w.0 head (omega (arith, h.grows)) w_open fresh
        (ap (λ x. p.joins x w.0) h.at_head ∙ nb.1) none_before
        (λ i k. reads_queue i (omega arith) (omega arith)) reads_new (λ x pos le ne. reads_mark x pos ne) reads_seat

    pub walk_adds : Walked p v a head u size (now' + 1) w.0 s₀ s'
    walk_adds =
        let l = seat_left in
        record {
          long = length-set (set s now' w.0) (p.size + (w.0 - 1)) (head + 1) ∙ length-set s now' w.0 ∙ h.long;
          grows = omega (arith, h.grows);
          above = omega (arith, h.above, nb.0);
          at_head = reads_queue head (omega (arith, h.grows)) (omega (arith, h.grows)) ∙ h.at_head;
          grown = grown';
          done = λ k x lt o j m. done' k x lt o j m (cases_eq x w.0);
          here = λ x le o j m. here' x le o j m (cases_eq x w.0) (cases_lt last x);
          behind = λ i d le. behind' i d le;
        }
      where
        done' : (k x : ℕ) → k < head → Open p v x → p.joins (queue s' k) x ≡ true → mark p.size s' x ≡ 0 → (x ≡ w.0) ⊎ (x ≡ w.0 → ⊥) → ⊥
        done' k x lt o j m (inl e) = let z : mark p.size s' w.0 ≡ 0 = sym (ap (mark p.size s') e) ∙ m in omega (arith, reads_seat)
        done' k x lt o j m (inr ne) =
            let q : queue s' k ≡ queue s k = reads_queue k (omega (arith, h.grows, seat_left)) (omega (arith, h.grows)) in
            h.done k x lt o (sym (ap (λ y. p.joins y x) q) ∙ j) (sym (reads_mark x (omega (arith, o.above)) ne) ∙ m)

        here' : (x : ℕ) → x ≤ w.0 → Open p v x → p.joins u x ≡ true → mark p.size s' x ≡ 0 → (x ≡ w.0) ⊎ (x ≡ w.0 → ⊥) → (last < x) ⊎ (x ≤ last) → ⊥
        here' x le o j m (inl e) c = let z : mark p.size s' w.0 ≡ 0 = sym (ap (mark p.size s') e) ∙ m in omega (arith, reads_seat)
        here' x le o j m (inr ne) (inl c) = both_ways _ (nb.2 x c (omega arith)) j
        here' x le o j m (inr ne) (inr c) = h.here x c o j (sym (reads_mark x (omega (arith, o.above)) ne) ∙ m)

        behind' : (i d : ℕ) → 2 * p.size ≤ i → get_or s' i d ≡ get_or s₀ i d
        behind' i d le =
            let j = neighbour_inside p sound u last w nb in
            let l = seat_left in
            let a₁ : i ≢ p.size + (w.0 - 1) = omega (arith, j.0, j.1) in
            let a₂ : i ≢ now' = omega arith in
            get_or-set_other (set s now' w.0) (p.size + (w.0 - 1)) i (head + 1) d a₁ ∙ get_or-set_other s now' i w.0 d a₂ ∙ h.behind i d le

-- the queue of a alone
pub queue_alone : (p : Plan) → (v a b : ℕ) (q m : ℕ → ℕ) → 1 ≤ a → a ≤ p.size → q 0 ≡ a → b ≡ a → m a ≡ 1 → ((w : ℕ) → 1 ≤ w → w ≤ p.size → (w ≡ a → ⊥) → m w ≡ 0) → Queue p v b 1 q m
queue_alone p v a b q m pos le first e mark' others = record {
  some = omega arith;
  few = omega arith;
  first = first ∙ sym e;
  inside = λ i l. let z : i ≡ 0 = omega arith in rw (z, first) (pos, le);
  free = λ i x y. absurd (omega arith);
  marked = λ i l. let z : i ≡ 0 = omega arith in rw (z, first, mark') (omega arith);
  before = λ i x y. absurd (omega arith);
  joined = λ i x y. absurd (omega arith);
  earliest = λ i k x y. absurd (omega arith);
  once = λ i j x y. absurd (omega arith);
  listed = λ w x y ne. go w x y ne (cases_eq w a);
  counted = one;
}
  where
    go : (w : ℕ) → 1 ≤ w → w ≤ p.size → (m w ≡ 0 → ⊥) → (w ≡ a) ⊎ (w ≡ a → ⊥) → (i : ℕ) × (i < 1) × (q i ≡ w)
    go w x y ne (inl f) = (0, omega arith, first ∙ sym f)
    go w x y ne (inr f) = absurd (ne (others w x y f))

    none : (n : ℕ) → count (λ k. false) n ≡ 0
    none zero = refl
    none (suc n) = omega (arith, none n)

    one : count (λ k. not (eqb (m (suc k)) 0)) p.size ≡ 1
    one =
        let s : suc (a - 1) ≡ a = omega arith in
        count_more (λ k. false) (λ k. not (eqb (m (suc k)) 0)) p.size (a - 1) (omega arith) refl
        (not_from_false _ (ne_eqb (m (suc (a - 1))) 0 (λ z. omega (arith, mark', sym (ap m s) ∙ z))))
        (λ k l ne. sym (not_from_true _ (eq-eqb (m (suc k)) 0 (others (suc k) (omega arith) (omega arith) (λ z. ne (omega arith))))))
        ∙ ap (λ x. x + 1) (none p.size)
