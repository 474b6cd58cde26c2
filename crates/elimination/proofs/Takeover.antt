-- Eliminating junctions in the order of their places, where only the earliest later neighbour takes over the others, finds the fill.
use Rattle.std.proofs.Common.{◌≡◌, ℕ, zero, suc, ◌+◌, ◌<◌, ◌≤◌, Bool, true, false, ◌&&◌, ◌||◌, eqb, ◌⊎◌, List, sym, ap, ◌∙◌, inl, inr, arith}
use Rattle.std.proofs.lemmas.Bool.{cases_eq, cases_lt, cases_Bool, or_cases, or_left, or_right, both_ways}
use Rattle.std.proofs.lemmas.Bool.Decides.{nat_tests}
use Rattle.plan.specs.Orders.{place}
use Rattle.plan.proofs.Orders.{IsOrder, at_place, place_apart}
use Rattle.elimination.specs.Elimination.{fill, filled}
use Rattle.elimination.specs.Steps.{takes, taken}
use Rattle.elimination.proofs.Filled.{Simple, fill_alike, fill_no_pipe, filled_pipe, filled_fill, filled_cases, filled_closed, filled_least}

-- the pairs of g and those of m
abbrev pub both : (ℕ → ℕ → Bool) → (ℕ → ℕ → Bool) → ℕ → ℕ → Bool
both g m v w = g v w || m v w

-- p leads v's later neighbours by h: it is one of them, the other ones are later and joined to it
pub record Led (h : ℕ → ℕ → Bool) (us : List ℕ) (v p u : ℕ) : Type 0 where
  pub later : place us v < place us p
  pub same_or_later : (u ≡ p) ⊎ ((place us p < place us u) × (h p u ≡ true))

-- the marks m once the first t places are eliminated
pub record Working (g : ℕ → ℕ → Bool) (n : ℕ) (us : List ℕ) (t : ℕ) (m : ℕ → ℕ → Bool) : Type 0 where
  pub alike : (v w : ℕ) → m v w ≡ m w v
  pub inside : (v w : ℕ) → m v w ≡ true → (1 ≤ v) × (v ≤ n) × (1 ≤ w) × (w ≤ n)
  pub sound : (v w : ℕ) → m v w ≡ true → fill g us v w ≡ true
  pub done : (v : ℕ) → 1 ≤ v → v ≤ n → place us v ≤ t → (p : ℕ) × ((u : ℕ) → both g m v u ≡ true → place us v < place us u → Led (both g m) us v p u)

pub takes_parts : (h : ℕ → ℕ → Bool) (at : ℕ → ℕ) (v p u : ℕ) → takes h at v p u ≡ true → (h v u ≡ true) × (at v < at u) × (u ≡ p → ⊥) × (h p u ≡ false)
unfolding takes
takes_parts h at v p u e = grind (arith, nat_tests)

pub takes_from : (h : ℕ → ℕ → Bool) (at : ℕ → ℕ) (v p u : ℕ) → h v u ≡ true → at v < at u → (u ≡ p → ⊥) → h p u ≡ false → takes h at v p u ≡ true
unfolding takes
takes_from h at v p u a b c d = rw (a, d) (grind (arith, nat_tests))

pub taken_cases : (h : ℕ → ℕ → Bool) (at : ℕ → ℕ) (v p a b : ℕ) → taken h at v p a b ≡ true → ((a ≡ p) × (takes h at v p b ≡ true)) ⊎ ((b ≡ p) × (takes h at v p a ≡ true))
unfolding taken
taken_cases h at v p a b e = go (or_cases (eqb a p && takes h at v p b) (eqb b p && takes h at v p a) e)
  where
    go : ((eqb a p && takes h at v p b) ≡ true) ⊎ ((eqb b p && takes h at v p a) ≡ true) → ((a ≡ p) × (takes h at v p b ≡ true)) ⊎ ((b ≡ p) × (takes h at v p a ≡ true))
    go (inl l) = inl (grind (arith, nat_tests))
    go (inr r) = inr (grind (arith, nat_tests))

pub taken_from : (h : ℕ → ℕ → Bool) (at : ℕ → ℕ) (v p u : ℕ) → takes h at v p u ≡ true → taken h at v p p u ≡ true
unfolding taken
taken_from h at v p u e = rw e (grind (arith, nat_tests))

pub taken_alike : (h : ℕ → ℕ → Bool) (at : ℕ → ℕ) (v p a b : ℕ) → taken h at v p a b ≡ taken h at v p b a
unfolding taken
taken_alike h at v p a b = grind arith

module _ (g : ℕ → ℕ → Bool) (s : Simple g) (n : ℕ) (us : List ℕ) (o : IsOrder n us) (ends : (v w : ℕ) → g v w ≡ true → (1 ≤ v) × (v ≤ n) × (1 ≤ w) × (w ≤ n)) where
  -- nothing is marked at the start
  pub working_none : (m : ℕ → ℕ → Bool) → ((v w : ℕ) → m v w ≡ false) → Working g n us 0 m
  working_none m none =
      record {
        alike = λ v w. none v w ∙ sym (none w v);
        inside = λ v w h. absurd (both_ways (m v w) (none v w) h);
        sound = λ v w h. absurd (both_ways (m v w) (none v w) h);
        done = λ v a b h. absurd (omega (arith, (at_place n us o v a b).0));
      }

  module _ (t : ℕ) (m : ℕ → ℕ → Bool) (k : Working g n us t m) where
    both_inside : (v w : ℕ) → both g m v w ≡ true → (1 ≤ v) × (v ≤ n) × (1 ≤ w) × (w ≤ n)
    both_inside v w h = go (or_cases (g v w) (m v w) h)
      where
        go : (g v w ≡ true) ⊎ (m v w ≡ true) → (1 ≤ v) × (v ≤ n) × (1 ≤ w) × (w ≤ n)
        go (inl e) = ends v w e
        go (inr e) = k.inside v w e

    both_filled : (v w : ℕ) → both g m v w ≡ true → filled g us v w ≡ true
    both_filled v w h = go (or_cases (g v w) (m v w) h)
      where
        go : (g v w ≡ true) ⊎ (m v w ≡ true) → filled g us v w ≡ true
        go (inl e) = filled_pipe g s us v w e
        go (inr e) = filled_fill g s us v w (k.sound v w e)

    both_alike : (v w : ℕ) → both g m v w ≡ both g m w v
    both_alike v w = rw (s.alike v w, k.alike v w)

    module _ (v p : ℕ) (at : ℕ → ℕ) (places : (x : ℕ) → 1 ≤ x → x ≤ n → at x ≡ place us x) (1≤v : 1 ≤ v) (v≤n : v ≤ n) (now : place us v ≡ suc t) (earliest : (u : ℕ) → both g m v u ≡ true → at v < at u → (both g m v p ≡ true) × (at v < at p) × (at p ≤ at u)) (m' : ℕ → ℕ → Bool) (marks : (a b : ℕ) → m' a b ≡ (taken (both g m) at v p a b || m a b)) where
      -- what is known of a junction that p takes over
      record Over (u : ℕ) : Type 0 where
        p_in : (1 ≤ p) × (p ≤ n)
        u_in : (1 ≤ u) × (u ≤ n)
        p_late : suc t < place us p
        u_late : suc t < place us u
        fills : fill g us p u ≡ true

      over : (u : ℕ) → takes (both g m) at v p u ≡ true → Over u
      over u h =
          let q : (both g m v u ≡ true) × (at v < at u) × (u ≡ p → ⊥) × (both g m p u ≡ false) = takes_parts (both g m) at v p u h in
          let e : (both g m v p ≡ true) × (at v < at p) × (at p ≤ at u) = earliest u q.0 q.1 in
          let i : (1 ≤ v) × (v ≤ n) × (1 ≤ u) × (u ≤ n) = both_inside v u q.0 in
          let j : (1 ≤ v) × (v ≤ n) × (1 ≤ p) × (p ≤ n) = both_inside v p e.0 in
          let pv : at v ≡ place us v = places v 1≤v v≤n in
          let pu : at u ≡ place us u = places u i.2 i.3 in
          let pp : at p ≡ place us p = places p j.2 j.3 in
          let f : filled g us p u ≡ true = filled_closed g us s v p u (both_filled v p e.0) (both_filled v u q.0) (omega (arith, e.1)) (omega (arith, q.1)) (λ d. q.2 (sym d)) in
          record {
            p_in = (j.2, j.3);
            u_in = (i.2, i.3);
            p_late = omega (arith, e.1);
            u_late = omega (arith, q.1);
            fills = elim (filled_cases g s us p u f) [ inl pipe ↦ absurd (both_ways (both g m p u) q.3 (or_left (g p u) (m p u) pipe)) | inr fills ↦ fills ];
          }

      grows : (a b : ℕ) → m a b ≡ true → m' a b ≡ true
      grows a b h = marks a b ∙ or_right (taken (both g m) at v p a b) (m a b) h

      both_grows : (a b : ℕ) → both g m a b ≡ true → both g m' a b ≡ true
      both_grows a b h = go (or_cases (g a b) (m a b) h)
        where
          go : (g a b ≡ true) ⊎ (m a b ≡ true) → both g m' a b ≡ true
          go (inl e) = or_left (g a b) (m' a b) e
          go (inr e) = or_right (g a b) (m' a b) (grows a b e)

      -- the rows of junctions that are eliminated do not change
      both_kept : (x u : ℕ) → place us x ≤ suc t → both g m' x u ≡ true → both g m x u ≡ true
      both_kept x u early h = go (or_cases (g x u) (m' x u) h)
        where
          new : taken (both g m) at v p x u ≡ true → ⊥
          new e = elim (taken_cases (both g m) at v p x u e) [
            | inl r ↦ (let z : place us x ≡ place us p = ap (place us) r.0 in omega (arith, (over u r.1).p_late))
            | inr r ↦ omega (arith, (over x r.1).u_late)
          ]

          old : (taken (both g m) at v p x u ≡ true) ⊎ (m x u ≡ true) → both g m x u ≡ true
          old (inl e) = absurd (new e)
          old (inr e) = or_right (g x u) (m x u) e

          go : (g x u ≡ true) ⊎ (m' x u ≡ true) → both g m x u ≡ true
          go (inl e) = or_left (g x u) (m x u) e
          go (inr e) = old (or_cases (taken (both g m) at v p x u) (m x u) (sym (marks x u) ∙ e))

      inside' : (a b : ℕ) → m' a b ≡ true → (1 ≤ a) × (a ≤ n) × (1 ≤ b) × (b ≤ n)
      inside' a b h = go (or_cases (taken (both g m) at v p a b) (m a b) (sym (marks a b) ∙ h))
        where
          new : ((a ≡ p) × (takes (both g m) at v p b ≡ true)) ⊎ ((b ≡ p) × (takes (both g m) at v p a ≡ true)) → (1 ≤ a) × (a ≤ n) × (1 ≤ b) × (b ≤ n)
          new (inl r) = let q = over b r.1 in omega (arith, q.p_in, q.u_in, r.0)
          new (inr r) = let q = over a r.1 in omega (arith, q.p_in, q.u_in, r.0)

          go : (taken (both g m) at v p a b ≡ true) ⊎ (m a b ≡ true) → (1 ≤ a) × (a ≤ n) × (1 ≤ b) × (b ≤ n)
          go (inl e) = new (taken_cases (both g m) at v p a b e)
          go (inr e) = k.inside a b e

      sound' : (a b : ℕ) → m' a b ≡ true → fill g us a b ≡ true
      sound' a b h = go (or_cases (taken (both g m) at v p a b) (m a b) (sym (marks a b) ∙ h))
        where
          new : ((a ≡ p) × (takes (both g m) at v p b ≡ true)) ⊎ ((b ≡ p) × (takes (both g m) at v p a ≡ true)) → fill g us a b ≡ true
          new (inl r) = rw r.0 (over b r.1).fills
          new (inr r) = rw r.0 (fill_alike g us s a p ∙ (over a r.1).fills)

          go : (taken (both g m) at v p a b ≡ true) ⊎ (m a b ≡ true) → fill g us a b ≡ true
          go (inl e) = new (taken_cases (both g m) at v p a b e)
          go (inr e) = k.sound a b e

      -- the junction eliminated now: its parent leads
      led_now : (u : ℕ) → both g m v u ≡ true → place us v < place us u → Led (both g m') us v p u
      led_now u h l =
          let i : (1 ≤ v) × (v ≤ n) × (1 ≤ u) × (u ≤ n) = both_inside v u h in
          let pv : at v ≡ place us v = places v 1≤v v≤n in
          let pu : at u ≡ place us u = places u i.2 i.3 in
          let e : (both g m v p ≡ true) × (at v < at p) × (at p ≤ at u) = earliest u h (omega arith) in
          let j : (1 ≤ v) × (v ≤ n) × (1 ≤ p) × (p ≤ n) = both_inside v p e.0 in
          let pp : at p ≡ place us p = places p j.2 j.3 in
          record {
            later = omega (arith, e.1);
            same_or_later = go (cases_eq u p) (cases_Bool (both g m p u)) i j (omega (arith, e.2)) (omega (arith));
          }
        where
          go : (u ≡ p) ⊎ (u ≡ p → ⊥) → (both g m p u ≡ true) ⊎ (both g m p u ≡ false) → (1 ≤ v) × (v ≤ n) × (1 ≤ u) × (u ≤ n) → (1 ≤ v) × (v ≤ n) × (1 ≤ p) × (p ≤ n) → place us p ≤ place us u → at v < at u → (u ≡ p) ⊎ ((place us p < place us u) × (both g m' p u ≡ true))
          go (inl d) b i j le lt = inl d
          go (inr ne) b i j le lt = inr (further, joined b)
            where
              further : place us p < place us u
              further = elim (cases_eq (place us p) (place us u)) [ inl d ↦ absurd (ne (sym (place_apart n us o p u j.2 j.3 i.2 i.3 d))) | inr f ↦ omega arith ]

              joined : (both g m p u ≡ true) ⊎ (both g m p u ≡ false) → both g m' p u ≡ true
              joined (inl t) = both_grows p u t
              joined (inr f) =
                  or_right (g p u) (m' p u)
                  (marks p u ∙ or_left (taken (both g m) at v p p u) (m p u) (taken_from (both g m) at v p u (takes_from (both g m) at v p u h lt ne f)))

      led_grows : (x q u : ℕ) → Led (both g m) us x q u → Led (both g m') us x q u
      led_grows x q u l =
          record {
            later = l.later;
            same_or_later = elim l.same_or_later [ inl d ↦ inl d | inr r ↦ inr (r.0, both_grows q u r.1) ];
          }

      done' : (x : ℕ) → 1 ≤ x → x ≤ n → place us x ≤ suc t → (q : ℕ) × ((u : ℕ) → both g m' x u ≡ true → place us x < place us u → Led (both g m') us x q u)
      done' x a b early = go (cases_lt (place us x) (suc t))
        where
          go : (place us x < suc t) ⊎ (suc t ≤ place us x) → (q : ℕ) × ((u : ℕ) → both g m' x u ≡ true → place us x < place us u → Led (both g m') us x q u)
          go (inl l) =
              let d : (q : ℕ) × ((u : ℕ) → both g m x u ≡ true → place us x < place us u → Led (both g m) us x q u) = k.done x a b (omega arith) in
              (d.0, λ u h i. led_grows x d.0 u (d.1 u (both_kept x u early h) i))
          go (inr l) =
              let same : x ≡ v = place_apart n us o x v a b 1≤v v≤n (omega arith) in
              (p, λ u h i. rw same (led_now u (rw same at (both_kept x u early h)) (rw same at i)))

      -- one junction more is eliminated
      pub working_more : Working g n us (suc t) m'
      working_more =
          record {
            alike = λ a b. marks a b ∙ rw (taken_alike (both g m) at v p a b, k.alike a b) (sym (marks b a));
            inside = inside';
            sound = sound';
            done = done';
          }

  module _ (m : ℕ → ℕ → Bool) (k : Working g n us n m) where
    -- once all are eliminated, two later neighbours are joined: either one leads, or both are later neighbours of the one that does
    both_closed : (f v a b : ℕ) → n ≤ place us v + f → both g m v a ≡ true → both g m v b ≡ true → place us v < place us a → place us v < place us b → (a ≡ b → ⊥) → both g m a b ≡ true
    both_closed zero v a b late h i x y ne =
        let r : (1 ≤ v) × (v ≤ n) × (1 ≤ a) × (a ≤ n) = both_inside n m k v a h in
        absurd (omega (arith, (at_place n us o a r.2 r.3).1))
    both_closed (suc f) v a b late h i x y ne =
        go la.same_or_later lb.same_or_later (λ p l e d. both_closed f p a b (omega arith) e d)
      where
        r : (1 ≤ v) × (v ≤ n) × (1 ≤ a) × (a ≤ n)
        r = both_inside n m k v a h

        d : (p : ℕ) × ((u : ℕ) → both g m v u ≡ true → place us v < place us u → Led (both g m) us v p u)
        d = k.done v r.0 r.1 (at_place n us o v r.0 r.1).1

        la : Led (both g m) us v d.0 a
        la = d.1 a h x

        lb : Led (both g m) us v d.0 b
        lb = d.1 b i y

        go : (a ≡ d.0) ⊎ ((place us d.0 < place us a) × (both g m d.0 a ≡ true)) → (b ≡ d.0) ⊎ ((place us d.0 < place us b) × (both g m d.0 b ≡ true)) → ((p : ℕ) → place us v < place us p → both g m p a ≡ true → both g m p b ≡ true → place us p < place us a → place us p < place us b → (a ≡ b → ⊥) → both g m a b ≡ true) → both g m a b ≡ true
        go (inl e) (inl c) rest = absurd (ne (e ∙ sym c))
        go (inl e) (inr q) rest = rw e q.1
        go (inr q) (inl c) rest = rw c (both_alike n m k a d.0 ∙ q.1)
        go (inr q) (inr c) rest = rest d.0 la.later q.1 c.1 q.0 c.0 ne

    -- the marks are the fill
    pub working_all : (v w : ℕ) → m v w ≡ fill g us v w
    working_all v w = go (cases_Bool (m v w)) (cases_Bool (fill g us v w))
      where
        marked : fill g us v w ≡ true → m v w ≡ true
        marked e =
            let h : both g m v w ≡ true = filled_least g us s (λ x y. both g m x y ≡ true) (λ x y q. or_left (g x y) (m x y) q) (λ x a b i j p q ne. both_closed n x a b (omega arith) i j p q ne) v w (filled_fill g s us v w e) in
            elim (or_cases (g v w) (m v w) h) [ inl pipe ↦ absurd (both_ways (g v w) (fill_no_pipe g us s v w e) pipe) | inr t ↦ t ]

        go : (m v w ≡ true) ⊎ (m v w ≡ false) → (fill g us v w ≡ true) ⊎ (fill g us v w ≡ false) → m v w ≡ fill g us v w
        go (inl a) f = a ∙ sym (k.sound v w a)
        go (inr a) (inl b) = absurd (both_ways (m v w) a (marked b))
        go (inr a) (inr b) = a ∙ sym b
