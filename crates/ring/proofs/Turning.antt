-- A ring turned to begin at its lowest junction, towards the lower of its neighbours.
use Rattle.std.proofs.Common.{◌≡◌, ℕ, zero, suc, ◌+◌, ◌-◌, ◌<◌, ◌≤◌, Bool, true, false, cond, eqb, ltb, ◌⊎◌, sym, refl, ap, ◌∙◌, ap₂, inl, inr, arith}
use Rattle.std.proofs.lemmas.Bool.{cases_eq, cases_lt, cases_order, lt-ltb, le-ltb, eq-eqb, ne_eqb}
use Rattle.ring.proofs.Rounds.{Round}

-- an index up to k at which f is least
pub lowest : (f : ℕ → ℕ) (k : ℕ) → (s : ℕ) × (s ≤ k) × ((j : ℕ) → j ≤ k → f s ≤ f j)
lowest f zero = (0, omega arith, λ j h. let e : j ≡ 0 = omega arith in rw e (omega arith))
lowest f (suc k) = go (lowest f k)
  where
    go : (s : ℕ) × (s ≤ k) × ((j : ℕ) → j ≤ k → f s ≤ f j) → (s : ℕ) × (s ≤ suc k) × ((j : ℕ) → j ≤ suc k → f s ≤ f j)
    go r = pick (cases_lt (f (suc k)) (f r.0))
      where
        keep : (f r.0 ≤ f (suc k)) → (j : ℕ) → j ≤ suc k → (j ≡ suc k) ⊎ (j ≡ suc k → ⊥) → f r.0 ≤ f j
        keep h j l (inl e) = rw e h
        keep h j l (inr ne) = r.2 j (omega arith)

        change : (f (suc k) < f r.0) → (j : ℕ) → j ≤ suc k → (j ≡ suc k) ⊎ (j ≡ suc k → ⊥) → f (suc k) ≤ f j
        change h j l (inl e) = rw e (omega arith)
        change h j l (inr ne) = omega (arith, r.2 j (omega arith))

        pick : (f (suc k) < f r.0) ⊎ (f r.0 ≤ f (suc k)) → (s : ℕ) × (s ≤ suc k) × ((j : ℕ) → j ≤ suc k → f s ≤ f j)
        pick (inl h) = (suc k, omega arith, λ j l. change h j l (cases_eq j (suc k)))
        pick (inr h) = (r.0, omega (arith, r.1), λ j l. keep h j l (cases_eq j (suc k)))

-- index i counted on from s, round k
abbrev turn : ℕ → ℕ → ℕ → ℕ
turn k s i = cond (ltb (i + s) k) (i + s) (i + s - k)

turn_on : (k s i : ℕ) → i + s < k → turn k s i ≡ i + s
turn_on k s i l = rw (lt-ltb (i + s) k l) refl

turn-over : (k s i : ℕ) → k ≤ i + s → turn k s i ≡ i + s - k
turn-over k s i l = rw (le-ltb (i + s) k l) refl

module _ (g : ℕ → ℕ → Bool) (alike : (v w : ℕ) → g v w ≡ g w v) (k : ℕ) (r : ℕ → ℕ) (h : Round g k r) where
  at : (s i x : ℕ) → turn k s i ≡ x → r (turn k s i) ≡ r x
  at s i x e = ap r e

  pub round_turned : (s : ℕ) → s < k → Round g k (λ i. r (turn k s i))
  round_turned s ls = record {
    long = h.long;
    step = λ i j e l. step i j e l (cases_lt (i + s) k) (cases_lt (j + s) k);
    close = λ j e. close j e (cases_eq s 0);
    apart = λ i j a b c. apart i j a b c (cases_lt (i + s) k) (cases_lt (j + s) k);
    once = λ i j a b e. once i j a b e (cases_lt (i + s) k) (cases_lt (j + s) k);
  }
    where
      step : (i j : ℕ) → j ≡ i + 1 → j < k → (i + s < k) ⊎ (k ≤ i + s) → (j + s < k) ⊎ (k ≤ j + s) → g (r (turn k s i)) (r (turn k s j)) ≡ true
      step i j e l (inl x) (inl y) = ap₂ g (ap r (turn_on k s i x)) (ap r (turn_on k s j y)) ∙ h.step (i + s) (j + s) (omega arith) y
      step i j e l (inl x) (inr y) =
          let z : j + s - k ≡ 0 = omega arith in
          ap₂ g (ap r (turn_on k s i x)) (ap r (turn-over k s j y ∙ z)) ∙ alike _ _ ∙ h.close (i + s) (omega arith)
      step i j e l (inr x) (inl y) = absurd (omega arith)
      step i j e l (inr x) (inr y) = ap₂ g (ap r (turn-over k s i x)) (ap r (turn-over k s j y)) ∙ h.step (i + s - k) (j + s - k) (omega arith) (omega arith)

      close : (j : ℕ) → j + 1 ≡ k → (s ≡ 0) ⊎ (s ≡ 0 → ⊥) → g (r (turn k s 0)) (r (turn k s j)) ≡ true
      close j e (inl z) =
          let a : 0 + s ≡ 0 = omega arith in
          let b : j + s ≡ j = omega arith in
          ap₂ g (ap r (turn_on k s 0 (omega arith) ∙ a)) (ap r (turn_on k s j (omega arith) ∙ b)) ∙ h.close j e
      close j e (inr ne) =
          let a : 0 + s ≡ s = omega arith in
          ap₂ g (ap r (turn_on k s 0 (omega arith) ∙ a)) (ap r (turn-over k s j (omega arith))) ∙ alike _ _ ∙ h.step (j + s - k) s (omega arith) ls

      apart : (i j : ℕ) → i + 1 < j → j < k → j + 1 < k + i → (i + s < k) ⊎ (k ≤ i + s) → (j + s < k) ⊎ (k ≤ j + s) → g (r (turn k s i)) (r (turn k s j)) ≡ false
      apart i j a b c (inl x) (inl y) = ap₂ g (ap r (turn_on k s i x)) (ap r (turn_on k s j y)) ∙ h.apart (i + s) (j + s) (omega arith) y (omega arith)
      apart i j a b c (inl x) (inr y) = ap₂ g (ap r (turn_on k s i x)) (ap r (turn-over k s j y)) ∙ alike _ _ ∙ h.apart (j + s - k) (i + s) (omega arith) x (omega arith)
      apart i j a b c (inr x) (inl y) = absurd (omega arith)
      apart i j a b c (inr x) (inr y) = ap₂ g (ap r (turn-over k s i x)) (ap r (turn-over k s j y)) ∙ h.apart (i + s - k) (j + s - k) (omega arith) (omega arith) (omega arith)

      once : (i j : ℕ) → i < j → j < k → r (turn k s i) ≡ r (turn k s j) → (i + s < k) ⊎ (k ≤ i + s) → (j + s < k) ⊎ (k ≤ j + s) → ⊥
      once i j a b e (inl x) (inl y) = h.once (i + s) (j + s) (omega arith) y (sym (ap r (turn_on k s i x)) ∙ e ∙ ap r (turn_on k s j y))
      once i j a b e (inl x) (inr y) = h.once (j + s - k) (i + s) (omega arith) x (sym (ap r (turn-over k s j y)) ∙ sym e ∙ ap r (turn_on k s i x))
      once i j a b e (inr x) (inl y) = absurd (omega arith)
      once i j a b e (inr x) (inr y) = h.once (i + s - k) (j + s - k) (omega arith) (omega arith) (sym (ap r (turn-over k s i x)) ∙ e ∙ ap r (turn-over k s j y))

-- the other way round, from the same junction
abbrev flip : ℕ → ℕ → ℕ
flip k i = cond (eqb i 0) 0 (k - i)

flip_first : (k i : ℕ) → i ≡ 0 → flip k i ≡ 0
flip_first k i e = rw (eq-eqb i 0 e) refl

flip_other : (k i : ℕ) → 0 < i → flip k i ≡ k - i
flip_other k i l = rw (ne_eqb i 0 (λ z. omega arith)) refl

module _ (g : ℕ → ℕ → Bool) (alike : (v w : ℕ) → g v w ≡ g w v) (k : ℕ) (r : ℕ → ℕ) (h : Round g k r) where
  pub round_flipped : Round g k (λ i. r (flip k i))
  round_flipped = record {
    long = h.long;
    step = λ i j e l. step i j e l (cases_eq i 0);
    close = λ j e. ap₂ g (ap r (flip_first k 0 refl)) (ap r (flip_other k j (omega (arith, h.long)))) ∙ h.step 0 (k - j) (omega arith) (omega (arith, h.long));
    apart = λ i j a b c. apart i j a b c (cases_eq i 0);
    once = λ i j a b e. once i j a b e (cases_eq i 0);
  }
    where
      step : (i j : ℕ) → j ≡ i + 1 → j < k → (i ≡ 0) ⊎ (i ≡ 0 → ⊥) → g (r (flip k i)) (r (flip k j)) ≡ true
      step i j e l (inl z) = ap₂ g (ap r (flip_first k i z)) (ap r (flip_other k j (omega arith))) ∙ h.close (k - j) (omega arith)
      step i j e l (inr ne) = ap₂ g (ap r (flip_other k i (omega arith))) (ap r (flip_other k j (omega arith))) ∙ alike _ _ ∙ h.step (k - j) (k - i) (omega arith) (omega arith)

      apart : (i j : ℕ) → i + 1 < j → j < k → j + 1 < k + i → (i ≡ 0) ⊎ (i ≡ 0 → ⊥) → g (r (flip k i)) (r (flip k j)) ≡ false
      apart i j a b c (inl z) = ap₂ g (ap r (flip_first k i z)) (ap r (flip_other k j (omega arith))) ∙ h.apart 0 (k - j) (omega arith) (omega arith) (omega arith)
      apart i j a b c (inr ne) = ap₂ g (ap r (flip_other k i (omega arith))) (ap r (flip_other k j (omega arith))) ∙ alike _ _ ∙ h.apart (k - j) (k - i) (omega arith) (omega arith) (omega arith)

      once : (i j : ℕ) → i < j → j < k → r (flip k i) ≡ r (flip k j) → (i ≡ 0) ⊎ (i ≡ 0 → ⊥) → ⊥
      once i j a b e (inl z) = h.once 0 (k - j) (omega arith) (omega arith) (sym (ap r (flip_first k i z)) ∙ e ∙ ap r (flip_other k j (omega arith)))
      once i j a b e (inr ne) = h.once (k - j) (k - i) (omega arith) (omega arith) (sym (ap r (flip_other k j (omega arith))) ∙ sym e ∙ ap r (flip_other k i (omega arith)))

-- a ring that begins at its lowest junction and goes on to the lower of its neighbours
pub record Directed (g : ℕ → ℕ → Bool) (k : ℕ) (r : ℕ → ℕ) : Type 0 where
  pub round : Round g k r
  pub lowest_first : (i : ℕ) → 0 < i → i < k → r 0 < r i
  pub towards : (i : ℕ) → suc i ≡ k → r 1 < r i

module _ (g : ℕ → ℕ → Bool) (alike : (v w : ℕ) → g v w ≡ g w v) where
  -- where the first is lowest, one of the two ways round will do
  choose_way : (k : ℕ) (r : ℕ → ℕ) → Round g k r → ((i : ℕ) → 0 < i → i < k → r 0 < r i) → (s : ℕ → ℕ) × Directed g k s
  choose_way k r h low = go (cases_order (r 1) (r (k - 1)))
    where
      back : (i : ℕ) → 0 < i → i < k → r (flip k 0) < r (flip k i)
      back i a b = rw (flip_other k i a, flip_first k 0 refl) (low (k - i) (omega arith) (omega arith))

      go : (r 1 ≡ r (k - 1)) ⊎ ((r 1 < r (k - 1)) ⊎ (r (k - 1) < r 1)) → (s : ℕ → ℕ) × Directed g k s
      go (inl e) = absurd (h.once 1 (k - 1) (omega (arith, h.long)) (omega (arith, h.long)) e)
      go (inr (inl l)) = (r, record { round = h; lowest_first = low; towards = λ i e. let f : i ≡ k - 1 = omega arith in rw f l })
      go (inr (inr l)) = (
        (λ i. r (flip k i)),
        record {
          round = round_flipped g alike k r h;
          lowest_first = back;
          towards = λ i e. let f : k - i ≡ 1 = omega arith in rw (flip_other k 1 (omega arith), flip_other k i (omega (arith, h.long)), f) l;
        },
      )

  pub directed : (k : ℕ) (r : ℕ → ℕ) → Round g k r → (s : ℕ → ℕ) × Directed g k s
  directed k r h = go (lowest r (k - 1))
    where
      go : (s : ℕ) × (s ≤ k - 1) × ((j : ℕ) → j ≤ k - 1 → r s ≤ r j) → (t : ℕ → ℕ) × Directed g k t
      go m =
          let ls : m.0 < k = omega (arith, m.1, h.long) in
          choose_way k (λ i. r (turn k m.0 i)) (round_turned g alike k r h m.0 ls) (λ i a b. low i a b ls (cases_lt (i + m.0) k))
        where
          begin : m.0 < k → r (turn k m.0 0) ≡ r m.0
          begin ls = let e : 0 + m.0 ≡ m.0 = omega arith in ap r (turn_on k m.0 0 (omega arith) ∙ e)

          differs : (x : ℕ) → x < k → (x ≡ m.0 → ⊥) → m.0 < k → r m.0 < r x
          differs x l ne ls = pick (cases_order (r m.0) (r x)) (cases_lt x m.0)
            where
              pick : (r m.0 ≡ r x) ⊎ ((r m.0 < r x) ⊎ (r x < r m.0)) → (x < m.0) ⊎ (m.0 ≤ x) → r m.0 < r x
              pick (inl e) (inl y) = absurd (h.once x m.0 y ls (sym e))
              pick (inl e) (inr y) = absurd (h.once m.0 x (omega arith) l e)
              pick (inr (inl y)) z = y
              pick (inr (inr y)) z = absurd (omega (arith, m.2 x (omega arith)))

          low : (i : ℕ) → 0 < i → i < k → m.0 < k → (i + m.0 < k) ⊎ (k ≤ i + m.0) → r (turn k m.0 0) < r (turn k m.0 i)
          low i a b ls (inl x) = rw (turn_on k m.0 i x, begin ls) (differs (i + m.0) x (omega arith) ls)
          low i a b ls (inr x) = rw (turn-over k m.0 i x, begin ls) (differs (i + m.0 - k) (omega arith) (omega arith) ls)
