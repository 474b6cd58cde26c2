-- The neighbours of a junction by pipes and by marks, in the order of their numbers, and the earliest placed of them.
use Rattle.std.proofs.Common.{◌≡◌, ℕ, ◌-◌, ◌*◌, ◌<◌, ◌≤◌, Bool, true, false, ◌&&◌, ◌||◌, leb, ◌⊎◌, List, length, MatchBool, Some, None, Option, sym, refl, ◌∙◌, inl, inr, rules, arith}
use Rattle.std.specs.Ordering.{nat_cmp, is_lt, ord_min}
use Rattle.std.proofs.lemmas.Bool.{cases_Bool, cases_lt, both_ways, or_cases, or_left, or_right, or_from}
use Rattle.std.proofs.lemmas.Bool.Decides.{nat_tests}
use Rattle.plan.specs.Plans.{Plan, Sound, NextNeighbour}
use Rattle.plan.specs.Registers.{same_pair}
use Rattle.plan.specs.declared.number.Junction.{Junction}
use Rattle.elimination.specs.Steps.{found, known, Joins}
use Rattle.pairs.specs.Rows.{has_row, marked, Marks, NextIn}
use Rattle.pairs.proofs.Marked.{marked_parts}
use Rattle.pairs.proofs.Marking.{has_row_from}

pub found-marked : (n : ℕ) (rows : List ℕ) (v w : ℕ) → v ≤ n → found n rows v w ≡ marked rows v w
unfolding found
found-marked n rows v w h = grind (arith, nat_tests)

pub found-outside : (n : ℕ) (rows : List ℕ) (v w : ℕ) → n < v → found n rows v w ≡ false
unfolding found
found-outside n rows v w h = grind (arith, nat_tests)

pub found_parts : (n : ℕ) (rows : List ℕ) (v w : ℕ) → found n rows v w ≡ true → (1 ≤ v) × (v ≤ n) × (1 ≤ w) × (w ≤ 512)
unfolding found
found_parts n rows v w h =
    let p : (leb v n ≡ true) × (marked rows v w ≡ true) = grind arith in
    let q : (1 ≤ v) × (1 ≤ w) × (w ≤ 512) = marked_parts rows v w p.1 in
    (q.0, grind (arith, nat_tests), q.1, q.2)

-- a neighbour has a number of 1 to 512
pub known_inside : (q : Plan) → Sound q → (rows : List ℕ) (v w : ℕ) → known q rows v w ≡ true → (1 ≤ w) × (w ≤ 512)
known_inside q s rows v w h = go (or_cases (q.joins v w) (found q.size rows v w) h)
  where
    go : (q.joins v w ≡ true) ⊎ (found q.size rows v w ≡ true) → (1 ≤ w) × (w ≤ 512)
    go (inl e) = let i : (1 ≤ w) × (w ≤ q.size) = s.inside w (s.ends v w e).1 in (i.0, omega (arith, s.few, i.1))
    go (inr e) = let p : (1 ≤ v) × (v ≤ q.size) × (1 ≤ w) × (w ≤ 512) = found_parts q.size rows v w e in (p.2, p.3)

-- the next by either of two tests
module _ (t s k : ℕ → Bool) (is : (x : ℕ) → k x ≡ (t x || s x)) (w : ℕ) where
  pub next_left : (a : Junction) → NextIn t w (Some a) → ((x : ℕ) → w < x → x < a.0 → s x ≡ false) → NextIn k w (Some a)
  next_left a h none =
      (h.0, is a.0 ∙ or_left (t a.0) (s a.0) h.1, λ x l m. is x ∙ or_from (t x) (s x) (h.2 x l m) (none x l m))

  next_right : (a : Junction) → NextIn s w (Some a) → ((x : ℕ) → w < x → x < a.0 → t x ≡ false) → NextIn k w (Some a)
  next_right a h none =
      (h.0, is a.0 ∙ or_right (t a.0) (s a.0) h.1, λ x l m. is x ∙ or_from (t x) (s x) (none x l m) (h.2 x l m))

  pub next_lower_lem : (a b : Junction) → NextIn t w (Some a) → NextIn s w (Some b) → NextIn k w (Some (ord_min (λ x y. nat_cmp x.0 y.0) a b))
  next_lower_lem a b h i = go (cases_Bool (is_lt (nat_cmp b.0 a.0)))
    where
      go : (is_lt (nat_cmp b.0 a.0) ≡ true) ⊎ (is_lt (nat_cmp b.0 a.0) ≡ false) → NextIn k w (Some (ord_min (λ x y. nat_cmp x.0 y.0) a b))
      go (inl e) = let l : b.0 < a.0 = search rules in rw e (next_right b i (λ x m n. h.2 x m (omega arith)))
      go (inr e) = let l : a.0 ≤ b.0 = search rules in rw e (next_left a h (λ x m n. i.2 x m (omega arith)))

  pub next_rest : (r : Option Junction) → NextIn t w None → NextIn s w r → NextIn k w r
  next_rest None h i = λ u l. is u ∙ or_from (t u) (s u) (h u l) (i u l)
  next_rest (Some a) h i = next_right a i (λ x l m. h x l)

pub known_is : (q : Plan) (rows : List ℕ) (v : ℕ) → v ≤ q.size → (x : ℕ) → known q rows v x ≡ (q.joins v x || marked rows v x)
known_is q rows v h x = rw (found-marked q.size rows v x h) refl

-- the lowest neighbour by a pipe above w is the lowest from u on, where u is the lowest neighbour above w
pub pipe_from : (q : Plan) (rows : List ℕ) (v w : ℕ) (u : Junction) (pipe : Option Junction) → v ≤ q.size → NextIn (known q rows v) w (Some u) → NextNeighbour q v w pipe → NextNeighbour q v (u.0 - 1) pipe
pipe_from q rows v w u None h k none = λ x l. none x (omega (arith, k.0))
pipe_from q rows v w u (Some a) h k next = (above (cases_lt a.0 u.0), next.1, λ x l m. next.2 x (omega (arith, k.0)) m)
  where
    above : (a.0 < u.0) ⊎ (u.0 ≤ a.0) → u.0 - 1 < a.0
    above (inl l) = absurd (both_ways (known q rows v a.0) (k.2 a.0 next.0 l) (known_is q rows v h a.0 ∙ or_left (q.joins v a.0) (marked rows v a.0) next.1))
    above (inr l) = omega (arith, k.0)

-- the earliest of v's neighbours at later places, of those up to number k
abbrev pub EarliestTo : (ℕ → ℕ → Bool) → (ℕ → ℕ) → ℕ → ℕ → Option Junction → Type 0
EarliestTo g at v k None = (u : ℕ) → u ≤ k → g v u ≡ true → at u ≤ at v
EarliestTo g at v k (Some p) = (g v p.0 ≡ true) × (at v < at p.0) × ((u : ℕ) → u ≤ k → g v u ≡ true → at v < at u → at p.0 ≤ at u)

pub joins_already : (q : Plan) (rows : List ℕ) (p u : ℕ) → known q rows p u ≡ true → Joins q p u rows false rows
joins_already q rows p u h =
    record { says = rw h refl; marks = λ a b. refl; behind = λ k l. refl }

found-both : (l m s : Bool) → (l ≡ false → s ≡ false) → (l && (s || m)) ≡ (s || (l && m))
found-both true m s h = refl
found-both false m true h = sym (h refl)
found-both false m false h = refl

module _ (q : Plan) (before after : List ℕ) (p u : ℕ) (p_in : p ≤ q.size) (u_in : u ≤ q.size) (1≤p : 1 ≤ p) (1≤u : 1 ≤ u) where
  found_marks : Marks before p u after → (a b : ℕ) → found q.size after a b ≡ (same_pair p u a b || found q.size before a b)
  unfolding found
  found_marks m a b =
      rw (m.pairs a b)
      (found-both (leb a q.size) (marked before a b) (same_pair p u a b) (λ e. grind (arith, nat_tests)))

  pub joins_marked : q.size ≤ 512 → 8 * q.size ≤ length before → known q before p u ≡ false → MatchBool (has_row before p && has_row before u) (Marks before p u after) (after ≡ before) → Joins q p u before true after
  joins_marked few room h marked =
      let i : has_row before p ≡ true = has_row_from before p 1≤p (omega arith) (omega arith) in
      let j : has_row before u ≡ true = has_row_from before u 1≤u (omega arith) (omega arith) in
      let m : Marks before p u after = rw (i, j) at marked in
      record {
        says = rw h refl;
        marks = found_marks m;
        behind = λ k l. m.others k (λ e. omega arith) (λ e. omega arith);
      }

pub earliest_none : (q : Plan) → Sound q → (rows : List ℕ) (at : ℕ → ℕ) (v : ℕ) → EarliestTo (known q rows) at v 0 None
earliest_none q s rows at v u l h = absurd (omega (arith, (known_inside q s rows v u h).0))

pub known_by_pipe : (q : Plan) (rows : List ℕ) (v w : ℕ) → q.joins v w ≡ true → known q rows v w ≡ true
known_by_pipe q rows v w h = or_left (q.joins v w) (found q.size rows v w) h

pub known_by_mark : (q : Plan) (rows : List ℕ) (v w : ℕ) → v ≤ q.size → marked rows v w ≡ true → known q rows v w ≡ true
known_by_mark q rows v w l h =
    or_right (q.joins v w) (found q.size rows v w) (found-marked q.size rows v w l ∙ h)

pub not_known : (q : Plan) (rows : List ℕ) (v w : ℕ) → v ≤ q.size → q.joins v w ≡ false → marked rows v w ≡ false → known q rows v w ≡ false
not_known q rows v w l h i =
    or_from (q.joins v w) (found q.size rows v w) h (found-marked q.size rows v w l ∙ i)
