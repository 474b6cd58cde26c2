-- The earliest later neighbour takes over the others, one after the other in the order of their numbers.
use Rattle.std.proofs.Common.{◌≡◌, ℕ, ◌+◌, ◌*◌, ◌<◌, ◌≤◌, Bool, true, false, ◌&&◌, ◌||◌, eqb, leb, ◌⊎◌, List, get_or, Some, None, sym, refl, ap, ◌∙◌, inl, inr, arith}
use Rattle.std.proofs.lemmas.Bool.{cases_eq, cases_lt, or_cases, or_parts, and_right, not-true, not-false, both_ways, false_from_ne_true, and_parts, leb-true, eq-eqb, ne_eqb, le-leb, lt-leb}
use Rattle.plan.specs.Plans.{Plan, Sound, pairs}
use Rattle.plan.specs.Registers.{same_pair}
use Rattle.plan.specs.declared.number.Junction.{Junction}
use Rattle.plan.proofs.Counts.{pairs_same}
use Rattle.plan.proofs.PipeLaws.{pairs_added}
use Rattle.pairs.specs.Rows.{NextIn}
use Rattle.elimination.specs.Steps.{found, known, Joins, Table, takes, taken, TakesOver, Eliminates}
use Rattle.elimination.proofs.Neighbours.{found_parts, known_inside}
use Rattle.elimination.proofs.Takeover.{takes_parts, takes_from, taken_cases}

-- p takes u over, and u is at most k
pub takes_to : (ℕ → ℕ → Bool) → (ℕ → ℕ) → ℕ → ℕ → ℕ → ℕ → Bool
takes_to h at v p k u = leb u k && takes h at v p u

-- a, b is the pair of p and a junction of number k at most that it takes over
pub taken_to : (ℕ → ℕ → Bool) → (ℕ → ℕ) → ℕ → ℕ → ℕ → ℕ → ℕ → Bool
taken_to h at v p k a b = (eqb a p && takes_to h at v p k b) || (eqb b p && takes_to h at v p k a)

-- the rows once p took over those of number k at most
pub record Taking (q : Plan) (at : ℕ → ℕ) (v p : ℕ) (before : List ℕ) (k : ℕ) (rows : List ℕ) (added : ℕ) : Type 0 where
  pub marks : (a b : ℕ) → found q.size rows a b ≡ (taken_to (known q before) at v p k a b || found q.size before a b)
  pub behind : (j : ℕ) → 8 * q.size ≤ j → get_or rows j 0 ≡ get_or before j 0
  pub count : added + pairs (found q.size before) q.size ≡ pairs (found q.size rows) q.size

pair_step : (ap au bp bu r s t : Bool) → ((ap && ((bu && r) || s)) || (bp && ((au && r) || t))) ≡ ((r && ((ap && bu) || (au && bp))) || ((ap && s) || (bp && t)))
pair_step ap au bp bu r s t = grind arith

module _ (h : ℕ → ℕ → Bool) (at : ℕ → ℕ) (v p : ℕ) where
  -- from number k to the next neighbour u
  takes_to_more : (k u : ℕ) → k < u → ((x : ℕ) → k < x → x < u → h v x ≡ false) → (x : ℕ) → takes_to h at v p u x ≡ ((eqb x u && takes h at v p u) || takes_to h at v p k x)
  unfolding takes_to
  takes_to_more k u l none x = go (cases_eq x u) (cases_lt k x) (cases_lt u x)
    where
      between : k < x → x < u → takes h at v p x ≡ false
      between i j = false_from_ne_true (takes h at v p x) (λ t. both_ways (h v x) (none x i j) (takes_parts h at v p x t).0)

      go : (x ≡ u) ⊎ (x ≡ u → ⊥) → (k < x) ⊎ (x ≤ k) → (u < x) ⊎ (x ≤ u) → (leb x u && takes h at v p x) ≡ ((eqb x u && takes h at v p u) || (leb x k && takes h at v p x))
      go (inl e) (inl i) j = rw (eq-eqb x u e, le-leb x u (omega arith), lt-leb x k i, e) (grind arith)
      go (inl e) (inr i) j = absurd (omega arith)
      go (inr e) (inl i) (inl j) = rw (ne_eqb x u e, lt-leb x u j, lt-leb x k i) refl
      go (inr e) (inl i) (inr j) = rw (ne_eqb x u e, le-leb x u j, lt-leb x k i, between i (omega arith)) refl
      go (inr e) (inr i) j = rw (ne_eqb x u e, le-leb x u (omega arith), le-leb x k i) refl

  pub taken_to_more : (k u : ℕ) → k < u → ((x : ℕ) → k < x → x < u → h v x ≡ false) → (a b : ℕ) → taken_to h at v p u a b ≡ ((takes h at v p u && same_pair p u a b) || taken_to h at v p k a b)
  unfolding taken_to
  taken_to_more k u l none a b =
      rw (takes_to_more k u l none a, takes_to_more k u l none b)
      (pair_step (eqb a p) (eqb a u) (eqb b p) (eqb b u) (takes h at v p u) (takes_to h at v p k b) (takes_to h at v p k a))

  pub taken_to_alike : (k a b : ℕ) → taken_to h at v p k a b ≡ taken_to h at v p k b a
  unfolding taken_to
  taken_to_alike k a b = grind arith

  -- none has number 0
  pub taken_to_none : ((x : ℕ) → h v x ≡ true → 1 ≤ x) → (a b : ℕ) → taken_to h at v p 0 a b ≡ false
  unfolding taken_to takes_to
  taken_to_none some a b = rw (none a, none b) (grind arith)
    where
      none : (x : ℕ) → (leb x 0 && takes h at v p x) ≡ false
      none x =
          false_from_ne_true (leb x 0 && takes h at v p x)
          (λ t. let r : (leb x 0 ≡ true) × (takes h at v p x ≡ true) = and_parts (leb x 0) (takes h at v p x) t in omega (arith, leb-true x 0 r.0, some x (takes_parts h at v p x r.1).0))

  -- no neighbour is above k
  pub taken_to_all : (k : ℕ) → ((x : ℕ) → k < x → h v x ≡ false) → (a b : ℕ) → taken_to h at v p k a b ≡ taken h at v p a b
  unfolding taken_to takes_to taken
  taken_to_all k none a b = rw (all a, all b) refl
    where
      all : (x : ℕ) → (leb x k && takes h at v p x) ≡ takes h at v p x
      all x = go (cases_lt k x)
        where
          above : k < x → takes h at v p x ≡ false
          above i = false_from_ne_true (takes h at v p x) (λ t. both_ways (h v x) (none x i) (takes_parts h at v p x t).0)

          go : (k < x) ⊎ (x ≤ k) → (leb x k && takes h at v p x) ≡ takes h at v p x
          go (inl i) = rw (above i) (and_right (leb x k) false refl)
          go (inr i) = rw (le-leb x k i) refl

  -- v's own row does not change
  pub taken_to_own : (v ≡ p → ⊥) → (k x : ℕ) → taken_to h at v p k v x ≡ false
  unfolding taken_to takes_to
  taken_to_own ne k x =
      let o : takes h at v p v ≡ false = false_from_ne_true (takes h at v p v) (λ t. omega (arith, (takes_parts h at v p v t).1)) in
      rw (ne_eqb v p ne, o) (grind arith)

  -- p and a junction above k are not taken yet
  pub taken_to_next : (k u : ℕ) → k < u → (u ≡ p → ⊥) → taken_to h at v p k p u ≡ false
  unfolding taken_to takes_to
  taken_to_next k u l ne = rw (ne_eqb u p ne, lt-leb u k l) (grind arith)

-- v's neighbours are junctions
pub known-size : {q : Plan} {rows : List ℕ} → Sound q → Table q.size rows → (v x : ℕ) → known q rows v x ≡ true → (1 ≤ x) × (x ≤ q.size)
known-size {q} {rows} s table v x h = go (or_cases (q.joins v x) (found q.size rows v x) h)
  where
    go : (q.joins v x ≡ true) ⊎ (found q.size rows v x ≡ true) → (1 ≤ x) × (x ≤ q.size)
    go (inl e) = s.inside x (s.ends v x e).1
    go (inr e) = ((found_parts q.size rows v x e).2, table.inside v x e)

later_apart : (at : ℕ → ℕ) (v p : ℕ) → at v < at p → v ≡ p → ⊥
later_apart at v p l e = let z : at v ≡ at p = ap at e in omega arith

module _ {q : Plan} {at : ℕ → ℕ} {v p : ℕ} {before : List ℕ} (s : Sound q) (table : Table q.size before) (later : at v < at p) where
  pub taking_none : Taking q at v p before 0 before 0
  taking_none =
      record {
        marks = λ a b. rw (taken_to_none (known q before) at v p (λ x h. (known_inside q s before v x h).0) a b) refl;
        behind = λ j l. refl;
        count = omega arith;
      }

  module _ {k : ℕ} {rows : List ℕ} {added : ℕ} (t : Taking q at v p before k rows added) where
    found_own : (x : ℕ) → found q.size rows v x ≡ found q.size before v x
    found_own x = t.marks v x ∙ rw (taken_to_own (known q before) at v p (later_apart at v p later) k x) refl

    pub known_own : (x : ℕ) → known q rows v x ≡ known q before v x
    known_own x = ap (λ (b : Bool). q.joins v x || b) (found_own x)

    found_alike : (a b : ℕ) → found q.size rows a b ≡ found q.size rows b a
    found_alike a b =
        t.marks a b ∙ rw (taken_to_alike (known q before) at v p k a b, table.alike a b) (sym (t.marks b a))

    pub own_inside : (x : ℕ) → known q rows v x ≡ true → (1 ≤ x) × (x ≤ q.size)
    own_inside x h = known-size s table v x (sym (known_own x) ∙ h)

    module _ (u : Junction) (next : NextIn (known q rows v) k (Some u)) where
      between : (x : ℕ) → k < x → x < u.0 → known q before v x ≡ false
      between x l m = sym (known_own x) ∙ next.2 x l m

      -- u is not taken over
      taking_skip : takes (known q before) at v p u.0 ≡ false → Taking q at v p before u.0 rows added
      taking_skip f =
          record {
            marks = λ a b. t.marks a b ∙ ap (λ (e : Bool). e || found q.size before a b) (sym (taken_to_more (known q before) at v p k u.0 next.0 between a b ∙ rw f refl));
            behind = t.behind;
            count = t.count;
          }

      pub taking_early : at u.0 ≤ at v → Taking q at v p before u.0 rows added
      taking_early h = taking_skip (false_from_ne_true (takes (known q before) at v p u.0) (λ e. omega (arith, h, (takes_parts (known q before) at v p u.0 e).1)))

      pub taking_same : u.0 ≡ p → Taking q at v p before u.0 rows added
      taking_same h = taking_skip (false_from_ne_true (takes (known q before) at v p u.0) (λ e. (takes_parts (known q before) at v p u.0 e).2 h))

      module _ (1≤p : 1 ≤ p) (p≤n : p ≤ q.size) (late : at v < at u.0) (ne : u.0 ≡ p → ⊥) where
        -- p and u are joined in the rows so far exactly where they were before
        known_same : known q rows p u.0 ≡ known q before p u.0
        known_same =
            ap (λ (b : Bool). q.joins p u.0 || b)
            (t.marks p u.0 ∙ rw (taken_to_next (known q before) at v p k u.0 next.0 ne) refl)

        -- p and u are joined already
        pub taking_kept : (after : List ℕ) → Joins q p u.0 rows false after → Taking q at v p before u.0 after added
        taking_kept after j =
            record {
              marks = λ a b. j.marks a b ∙ old.marks a b;
              behind = λ i l. j.behind i l ∙ t.behind i l;
              count = t.count ∙ pairs_same (found q.size rows) (found q.size after) q.size (λ a b i l m. sym (j.marks a b));
            }
          where
            joined : known q rows p u.0 ≡ true
            joined = not-false (known q rows p u.0) (sym j.says)

            old : Taking q at v p before u.0 rows added
            old = taking_skip (false_from_ne_true (takes (known q before) at v p u.0) (λ e. both_ways (known q before p u.0) (takes_parts (known q before) at v p u.0 e).3 (sym known_same ∙ joined)))

        taken_over : known q rows p u.0 ≡ false → takes (known q before) at v p u.0 ≡ true
        taken_over h =
            takes_from (known q before) at v p u.0 (sym (known_own u.0) ∙ next.1) late ne (sym known_same ∙ h)

        pub taking_joined : (after : List ℕ) → Joins q p u.0 rows true after → Taking q at v p before u.0 after (added + 1)
        taking_joined after j =
            record {
              marks = λ a b. j.marks a b ∙ rw (t.marks a b) (regroup (same_pair p u.0 a b) (taken_to (known q before) at v p k a b) (found q.size before a b) ∙ ap (λ (e : Bool). e || found q.size before a b) (sym (taken_to_more (known q before) at v p k u.0 next.0 between a b ∙ rw (taken_over free) refl)));
              behind = λ i l. j.behind i l ∙ t.behind i l;
              count = omega (arith, t.count, pairs_added (found q.size rows) (found q.size after) q.size p u.0 1≤p p≤n inside.0 inside.1 (λ e. ne (sym e)) (found_alike p u.0) (or_parts (q.joins p u.0) (found q.size rows p u.0) free).1 (λ a b. j.marks a b));
            }
          where
            regroup : (x y z : Bool) → (x || (y || z)) ≡ ((x || y) || z)
            regroup true y z = refl
            regroup false y z = refl

            free : known q rows p u.0 ≡ false
            free = not-true (known q rows p u.0) (sym j.says)

            inside : (1 ≤ u.0) × (u.0 ≤ q.size)
            inside = own_inside u.0 next.1

    -- no neighbour is left
    pub takes_over : NextIn (known q rows v) k None → TakesOver q at v p before rows
    takes_over none =
        record {
          marks = λ a b. t.marks a b ∙ ap (λ (e : Bool). e || found q.size before a b) (taken_to_all (known q before) at v p k (λ x l. sym (known_own x) ∙ none x l) a b);
          behind = t.behind;
        }

-- v has no later neighbour
pub eliminates_none : (q : Plan) (rows : List ℕ) (at : ℕ → ℕ) (v : ℕ) → ((u : ℕ) → known q rows v u ≡ true → at u ≤ at v) → Eliminates q at v rows rows
eliminates_none q rows at v none =
    record {
      parent = 0;
      earliest = λ u h l. absurd (omega (arith, none u h));
      over = record {
        marks = λ a b. ap (λ (e : Bool). e || found q.size rows a b) (sym (nothing a b));
        behind = λ k l. refl;
      };
    }
  where
    nothing : (a b : ℕ) → taken (known q rows) at v 0 a b ≡ false
    nothing a b =
        false_from_ne_true (taken (known q rows) at v 0 a b)
        (λ e. elim (taken_cases (known q rows) at v 0 a b e) [ inl r ↦ late b r.1 | inr r ↦ late a r.1 ])
      where
        late : (u : ℕ) → takes (known q rows) at v 0 u ≡ true → ⊥
        late u e = let w : (known q rows v u ≡ true) × (at v < at u) × (u ≡ 0 → ⊥) × (known q rows 0 u ≡ false) = takes_parts (known q rows) at v 0 u e in omega (arith, w.1, none u w.0)
