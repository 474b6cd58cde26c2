-- From a junction with two later neighbours that are not joined to a ring.
use Rattle.std.proofs.Common.{◌≡◌, ℕ, zero, suc, ◌+◌, ◌-◌, ◌<◌, ◌≤◌, Bool, true, false, cond, leb, ◌⊎◌, sym, refl, ap, ◌∙◌, inl, inr, arith}
use Rattle.std.proofs.lemmas.Bool.{cases_eq, cases_lt, cases_Bool, cases_order, both_ways}
use Rattle.std.proofs.lemmas.Bool.Decides.{nat_tests}
use Rattle.ring.proofs.Rounds.{Round}

-- p 0 to p k is a path of pipes without shortcuts
pub record Path (g : ℕ → ℕ → Bool) (k : ℕ) (p : ℕ → ℕ) : Type 0 where
  pub step : (i j : ℕ) → j ≡ i + 1 → j ≤ k → g (p i) (p j) ≡ true
  pub apart : (i j : ℕ) → i + 1 < j → j ≤ k → g (p i) (p j) ≡ false
  pub once : (i j : ℕ) → i < j → j ≤ k → p i ≡ p j → ⊥

-- what a search gives: where a and b come before c in this order, a joined to c and b not, b has a later neighbour that a has not
abbrev pub Witness : (ℕ → ℕ → Bool) → (ℕ → ℕ) → Type 0
Witness g place = (a b c : ℕ) → place a < place b → place b < place c → g a c ≡ true → g b c ≡ false → (d : ℕ) × (place b < place d) × (g b d ≡ true) × (g a d ≡ false)

module _ (g : ℕ → ℕ → Bool) (place : ℕ → ℕ) where
  -- a path whose inner junctions have places up to m, and whose ends have places above m
  pub record Bridge (m k : ℕ) (p : ℕ → ℕ) : Type 0 where
    pub long : 2 ≤ k
    pub path : Path g k p
    pub inner : (i : ℕ) → 0 < i → i < k → place (p i) ≤ m
    pub first : m < place (p 0)
    pub last : m < place (p k)

abbrev turned : ℕ → (ℕ → ℕ) → ℕ → ℕ
turned k p i = p (k - i)

-- the path p 0 to p i, and then z
abbrev onto : ℕ → (ℕ → ℕ) → ℕ → ℕ → ℕ
onto i p z j = cond (leb j i) (p j) z

onto_path : (i : ℕ) (p : ℕ → ℕ) (z j : ℕ) → j ≤ i → onto i p z j ≡ p j
onto_path i p z j h = grind (arith, nat_tests)

onto_end : (i : ℕ) (p : ℕ → ℕ) (z j : ℕ) → i < j → onto i p z j ≡ z
onto_end i p z j h = grind (arith, nat_tests)

-- the least index from a on, up to k, that passes a test that k passes
least : (t : ℕ → Bool) (d a k : ℕ) → a + d ≡ k → t k ≡ true → (i : ℕ) × (a ≤ i) × (i ≤ k) × (t i ≡ true) × ((j : ℕ) → a ≤ j → j < i → t j ≡ false)
least t zero a k e h = (k, omega arith, omega arith, h, λ j x y. absurd (omega arith))
least t (suc d) a k e h = go (cases_Bool (t a)) (least t d (suc a) k (omega arith) h)
  where
    go : (t a ≡ true) ⊎ (t a ≡ false) → (i : ℕ) × (suc a ≤ i) × (i ≤ k) × (t i ≡ true) × ((j : ℕ) → suc a ≤ j → j < i → t j ≡ false) → (i : ℕ) × (a ≤ i) × (i ≤ k) × (t i ≡ true) × ((j : ℕ) → a ≤ j → j < i → t j ≡ false)
    go (inl yes') r = (a, omega arith, omega arith, yes', λ j x y. absurd (omega arith))
    go (inr no') r = (r.0, omega (arith, r.1), r.2, r.3, λ j x y. at j x y (cases_eq j a))
      where
        at : (j : ℕ) → a ≤ j → j < r.0 → (j ≡ a) ⊎ (j ≡ a → ⊥) → t j ≡ false
        at j x y (inl e') = ap t e' ∙ no'
        at j x y (inr ne) = r.4 j (omega arith) y

module _ (g : ℕ → ℕ → Bool) (alike : (v w : ℕ) → g v w ≡ g w v) (place : ℕ → ℕ) where
  path_turned : (k : ℕ) (p : ℕ → ℕ) → Path g k p → Path g k (turned k p)
  path_turned k p h = record {
    step = λ i j e l. alike _ _ ∙ h.step (k - j) (k - i) (omega arith) (omega arith);
    apart = λ i j l m. alike _ _ ∙ h.apart (k - j) (k - i) (omega arith) (omega arith);
    once = λ i j l m e. h.once (k - j) (k - i) (omega arith) (omega arith) (sym e);
  }

  bridge_turned : (m k : ℕ) (p : ℕ → ℕ) → Bridge g place m k p → Bridge g place m k (turned k p)
  bridge_turned m k p h =
      let z : k - k ≡ 0 = omega arith in
      let s : k - 0 ≡ k = omega arith in
      record {
        long = h.long;
        path = path_turned k p h.path;
        inner = λ i a b. h.inner (k - i) (omega arith) (omega arith);
        first = rw s h.last;
        last = rw z h.first;
      }

-- z is joined to p i and to none of p 1 to p (i - 1), and is none of them
pub record Reaches (g : ℕ → ℕ → Bool) (k : ℕ) (p : ℕ → ℕ) (z i : ℕ) : Type 0 where
  pub from : 2 ≤ i
  pub upto : i ≤ k
  pub joined : g (p i) z ≡ true
  pub none : (j : ℕ) → 1 ≤ j → j < i → g (p j) z ≡ false
  pub fresh : (j : ℕ) → j ≤ k → p j ≡ z → ⊥

module _ (g : ℕ → ℕ → Bool) (k : ℕ) (p : ℕ → ℕ) (path : Path g k p) (z i : ℕ) (r : Reaches g k p z i) where
  -- where z is joined to p 0 as well, a ring closes
  pub onto_round : g (p 0) z ≡ true → Round g (i + 2) (onto i p z)
  onto_round h = record {
    long = omega (arith, r.from);
    step = λ a b e l. step a b e l (cases_lt i b);
    close = λ j e. close j e;
    apart = λ a b l m n. apart a b l m n (cases_lt i b);
    once = λ a b l m e. once a b l m e (cases_lt i b);
  }
    where
      step : (a b : ℕ) → b ≡ a + 1 → b < i + 2 → (i < b) ⊎ (b ≤ i) → g (onto i p z a) (onto i p z b) ≡ true
      step a b e l (inl x) =
          let s : a ≡ i = omega arith in
          rw (onto_path i p z a (omega arith), onto_end i p z b x) (rw s r.joined)
      step a b e l (inr x) = rw (onto_path i p z a (omega arith), onto_path i p z b x) (path.step a b e (omega (arith, r.upto)))

      close : (j : ℕ) → j + 1 ≡ i + 2 → g (onto i p z 0) (onto i p z j) ≡ true
      close j e = rw (onto_path i p z 0 (omega arith), onto_end i p z j (omega arith)) h

      apart : (a b : ℕ) → a + 1 < b → b < i + 2 → b + 1 < i + 2 + a → (i < b) ⊎ (b ≤ i) → g (onto i p z a) (onto i p z b) ≡ false
      apart a b l m n (inl x) = rw (onto_path i p z a (omega arith), onto_end i p z b x) (r.none a (omega arith) (omega arith))
      apart a b l m n (inr x) = rw (onto_path i p z a (omega arith), onto_path i p z b x) (path.apart a b l (omega (arith, r.upto)))

      once : (a b : ℕ) → a < b → b < i + 2 → onto i p z a ≡ onto i p z b → (i < b) ⊎ (b ≤ i) → ⊥
      once a b l m e (inl x) = r.fresh a (omega (arith, r.upto)) (sym (onto_path i p z a (omega arith)) ∙ e ∙ onto_end i p z b x)
      once a b l m e (inr x) = path.once a b l (omega (arith, r.upto)) (sym (onto_path i p z a (omega arith)) ∙ e ∙ onto_path i p z b x)

  -- otherwise the path goes on to z
  pub onto_further : g (p 0) z ≡ false → Path g (i + 1) (onto i p z)
  onto_further h = record {
    step = λ a b e l. step a b e l (cases_lt i b);
    apart = λ a b l m. apart a b l m (cases_lt i b) (cases_eq a 0);
    once = λ a b l m e. once a b l m e (cases_lt i b);
  }
    where
      step : (a b : ℕ) → b ≡ a + 1 → b ≤ i + 1 → (i < b) ⊎ (b ≤ i) → g (onto i p z a) (onto i p z b) ≡ true
      step a b e l (inl x) =
          let s : a ≡ i = omega arith in
          rw (onto_path i p z a (omega arith), onto_end i p z b x) (rw s r.joined)
      step a b e l (inr x) = rw (onto_path i p z a (omega arith), onto_path i p z b x) (path.step a b e (omega (arith, r.upto)))

      apart : (a b : ℕ) → a + 1 < b → b ≤ i + 1 → (i < b) ⊎ (b ≤ i) → (a ≡ 0) ⊎ (a ≡ 0 → ⊥) → g (onto i p z a) (onto i p z b) ≡ false
      apart a b l m (inl x) (inl e) = rw (onto_path i p z a (omega arith), onto_end i p z b x) (rw e h)
      apart a b l m (inl x) (inr ne) = rw (onto_path i p z a (omega arith), onto_end i p z b x) (r.none a (omega arith) (omega arith))
      apart a b l m (inr x) c = rw (onto_path i p z a (omega arith), onto_path i p z b x) (path.apart a b l (omega (arith, r.upto)))

      once : (a b : ℕ) → a < b → b ≤ i + 1 → onto i p z a ≡ onto i p z b → (i < b) ⊎ (b ≤ i) → ⊥
      once a b l m e (inl x) = r.fresh a (omega (arith, r.upto)) (sym (onto_path i p z a (omega arith)) ∙ e ∙ onto_end i p z b x)
      once a b l m e (inr x) = path.once a b l (omega (arith, r.upto)) (sym (onto_path i p z a (omega arith)) ∙ e ∙ onto_path i p z b x)

-- some ring
abbrev pub SomeRound : (ℕ → ℕ → Bool) → Type 0
SomeRound g = (k : ℕ) × (r : ℕ → ℕ) × Round g k r

module _ (g : ℕ → ℕ → Bool) (alike : (v w : ℕ) → g v w ≡ g w v) (loose : (v : ℕ) → g v v ≡ false) (place : ℕ → ℕ) (witness : Witness g place) where
  -- a bridge whose last end is its lower one: it closes to a ring, or there is a bridge with a higher lower end
  raised : (m k : ℕ) (p : ℕ → ℕ) → Bridge g place m k p → place (p k) < place (p 0) → SomeRound g ⊎ ((j : ℕ) × (q : ℕ → ℕ) × Bridge g place (place (p k)) j q)
  raised m k p b low =
      let path = b.path in
      let far = path.apart 0 k (omega (arith, b.long)) (omega arith) in
      let d = witness (p 1) (p k) (p 0) (omega (arith, b.inner 1 (omega arith) (omega (arith, b.long)), b.last)) low (alike _ _ ∙ path.step 0 1 (omega arith) (omega (arith, b.long))) (alike _ _ ∙ far) in
      go d.0 d.1 d.2 d.3 far (least (λ j. g (p j) d.0) (k - 1) 1 k (omega (arith, b.long)) d.2)
    where
      go : (z : ℕ) → place (p k) < place z → g (p k) z ≡ true → g (p 1) z ≡ false → g (p 0) (p k) ≡ false → (i : ℕ) × (1 ≤ i) × (i ≤ k) × (g (p i) z ≡ true) × ((j : ℕ) → 1 ≤ j → j < i → g (p j) z ≡ false) → SomeRound g ⊎ ((j : ℕ) × (q : ℕ → ℕ) × Bridge g place (place (p k)) j q)
      go z high last first far l =
          let i : ℕ = l.0 in
          let two : 2 ≤ i = start (cases_eq i 1) in
          let r : Reaches g k p z i = record { from = two; upto = l.2; joined = l.3; none = l.4; fresh = λ j h e. fresh j h e (cases_eq j 0) (cases_eq j k) } in
          done i r (cases_Bool (g (p 0) z))
        where
          start : (l.0 ≡ 1) ⊎ (l.0 ≡ 1 → ⊥) → 2 ≤ l.0
          start (inl e) = absurd (both_ways _ first (sym (ap (λ j. g (p j) z) e) ∙ l.3))
          start (inr ne) = omega (arith, l.1)

          fresh : (j : ℕ) → j ≤ k → p j ≡ z → (j ≡ 0) ⊎ (j ≡ 0 → ⊥) → (j ≡ k) ⊎ (j ≡ k → ⊥) → ⊥
          fresh j h e (inl a) c = both_ways _ (alike _ _ ∙ far) (ap (g (p k)) (ap p (sym a) ∙ e) ∙ last)
          fresh j h e (inr a) (inl c) = both_ways _ (loose (p k)) (ap (g (p k)) (ap p (sym c) ∙ e) ∙ last)
          fresh j h e (inr a) (inr c) = let q : place (p j) ≡ place z = ap place e in omega (arith, b.inner j (omega arith) (omega arith), b.last)

          done : (i : ℕ) → Reaches g k p z i → (g (p 0) z ≡ true) ⊎ (g (p 0) z ≡ false) → SomeRound g ⊎ ((j : ℕ) × (q : ℕ → ℕ) × Bridge g place (place (p k)) j q)
          done i r (inl h) = inl (i + 2, onto i p z, onto_round g k p b.path z i r h)
          done i r (inr h) = inr (
            i + 1,
            onto i p z,
            record {
              long = omega (arith, r.from);
              path = onto_further g k p b.path z i r h;
              inner = λ j x y. rw (onto_path i p z j (omega arith)) (below j x (omega arith) (cases_eq j k));
              first = rw (onto_path i p z 0 (omega arith)) low;
              last = rw (onto_end i p z (i + 1) (omega arith)) high;
            },
          )
            where
              below : (j : ℕ) → 0 < j → j ≤ i → (j ≡ k) ⊎ (j ≡ k → ⊥) → place (p j) ≤ place (p k)
              below j x y (inl e) = let q : place (p j) ≡ place (p k) = ap (λ a. place (p a)) e in omega arith
              below j x y (inr ne) = omega (arith, b.inner j x (omega (arith, r.upto)), b.last)

  -- the two ends of a path have different places, and places go up to n
  module _ (n : ℕ) (bounded : (v w : ℕ) → g v w ≡ true → place v ≤ n) (distinct : (v w x y : ℕ) → g v x ≡ true → g w y ≡ true → place v ≡ place w → v ≡ w) where
    turned_low : (m k : ℕ) (p : ℕ → ℕ) → Bridge g place m k p → SomeRound g ⊎ ((m' : ℕ) × (m < m') × (j : ℕ) × (q : ℕ → ℕ) × Bridge g place m' j q)
    turned_low m k p b = go (cases_order (place (p k)) (place (p 0)))
      where
        out : (s : ℕ) (q : ℕ → ℕ) → Bridge g place m k q → q k ≡ s → SomeRound g ⊎ ((j : ℕ) × (r : ℕ → ℕ) × Bridge g place (place (q k)) j r) → SomeRound g ⊎ ((m' : ℕ) × (m < m') × (j : ℕ) × (r : ℕ → ℕ) × Bridge g place m' j r)
        out s q c e (inl r) = inl r
        out s q c e (inr r) = inr (place (q k), c.last, r.0, r.1, r.2)

        go : (place (p k) ≡ place (p 0)) ⊎ ((place (p k) < place (p 0)) ⊎ (place (p 0) < place (p k))) → SomeRound g ⊎ ((m' : ℕ) × (m < m') × (j : ℕ) × (q : ℕ → ℕ) × Bridge g place m' j q)
        go (inl e) = absurd (b.path.once 0 k (omega (arith, b.long)) (omega arith) (sym (distinct (p k) (p 0) (p (k - 1)) (p 1) (alike _ _ ∙ b.path.step (k - 1) k (omega (arith, b.long)) (omega arith)) (b.path.step 0 1 (omega arith) (omega (arith, b.long))) e)))
        go (inr (inl l)) = out (p k) p b refl (raised m k p b l)
        go (inr (inr l)) =
            let c = bridge_turned g alike place m k p b in
            let s : k - k ≡ 0 = omega arith in
            let t : k - 0 ≡ k = omega arith in
            out (p (k - k)) (turned k p) c refl (raised m k (turned k p) c (rw (s, t) l))

    grow : (fuel m k : ℕ) (p : ℕ → ℕ) → n ≤ fuel + m → Bridge g place m k p → SomeRound g
    grow zero m k p f b = absurd (omega (arith, b.first, bounded (p 0) (p 1) (b.path.step 0 1 (omega arith) (omega (arith, b.long)))))
    grow (suc fuel) m k p f b = go (turned_low m k p b) (λ m' j q. grow fuel m' j q)
      where
        go : SomeRound g ⊎ ((m' : ℕ) × (m < m') × (j : ℕ) × (q : ℕ → ℕ) × Bridge g place m' j q) → ((m' j : ℕ) (q : ℕ → ℕ) → n ≤ fuel + m' → Bridge g place m' j q → SomeRound g) → SomeRound g
        go (inl r) rest = r
        go (inr r) rest = rest r.0 r.2 r.3 (omega (arith, r.1)) r.4

    -- two later neighbours of v that are not joined lead to a ring
    pub round_from_later : (v x y : ℕ) → g v x ≡ true → g v y ≡ true → place v < place x → place v < place y → (x ≡ y → ⊥) → g x y ≡ false → SomeRound g
    round_from_later v x y a b l m ne f = grow n (place v) 2 three (omega arith) (record {
      long = omega arith;
      path = record { step = step; apart = apart; once = once };
      inner = λ i p q. let e : i ≡ 1 = omega arith in rw e (omega arith);
      first = l;
      last = m;
    })
      where
        three : ℕ → ℕ
        three zero = x
        three (suc zero) = v
        three (suc (suc i)) = y

        step : (i j : ℕ) → j ≡ i + 1 → j ≤ 2 → g (three i) (three j) ≡ true
        step zero zero e h = absurd (omega arith)
        step zero (suc zero) e h = alike x v ∙ a
        step zero (suc (suc j)) e h = absurd (omega arith)
        step (suc zero) zero e h = absurd (omega arith)
        step (suc zero) (suc zero) e h = absurd (omega arith)
        step (suc zero) (suc (suc j)) e h = b
        step (suc (suc i)) j e h = absurd (omega arith)

        apart : (i j : ℕ) → i + 1 < j → j ≤ 2 → g (three i) (three j) ≡ false
        apart zero zero e h = absurd (omega arith)
        apart zero (suc zero) e h = absurd (omega arith)
        apart zero (suc (suc j)) e h = f
        apart (suc i) j e h = absurd (omega arith)

        once : (i j : ℕ) → i < j → j ≤ 2 → three i ≡ three j → ⊥
        once zero zero e h q = absurd (omega arith)
        once zero (suc zero) e h q = both_ways _ (loose v) (ap (g v) (sym q) ∙ a)
        once zero (suc (suc j)) e h q = ne q
        once (suc zero) zero e h q = absurd (omega arith)
        once (suc zero) (suc zero) e h q = absurd (omega arith)
        once (suc zero) (suc (suc j)) e h q = both_ways _ (loose v) (ap (g v) q ∙ b)
        once (suc (suc i)) j e h q = absurd (omega arith)
