-- From a junction of the queue that is joined to c, back to a: with v and c a ring.
use Rattle.std.proofs.Common.{◌≡◌, ℕ, zero, suc, ◌+◌, ◌-◌, ◌<◌, ◌≤◌, Bool, true, false, cond, not, ◌||◌, eqb, leb, ◌⊎◌, sym, refl, ap, ◌∙◌, ap₂, inl, inr, arith}
use Rattle.std.proofs.lemmas.Bool.{cases_eq, cases_lt, both_ways, eq-eqb, ne_eqb, le-leb, lt-leb, not_from_true}
use Rattle.std.proofs.lemmas.Bool.Decides.{nat_tests}
use Rattle.plan.specs.Plans.{Plan, Sound, count}
use Rattle.plan.proofs.Counts.{count-le, count_more}
use Rattle.ring.specs.Reach.{Open, Corner, Queue, back}
use Rattle.ring.proofs.Rounds.{Round}

-- where a test fails at two numbers, at most n - 2 pass
two_missing : (t : ℕ → Bool) (n x y : ℕ) → x < n → y < n → x < y → t x ≡ false → t y ≡ false → count t n + 2 ≤ n
two_missing t n x y lx ly l fx fy =
    let u : (ℕ → Bool) = λ i. eqb i x || t i in
    let w : (ℕ → Bool) = λ i. eqb i y || u i in
    let a : count u n ≡ count t n + 1 = count_more t u n x lx fx (grind (arith, nat_tests)) (λ v h ne. let e : eqb v x ≡ false = ne_eqb v x ne in rw e refl) in
    let b : count w n ≡ count u n + 1 = count_more u w n y ly (let e : eqb y x ≡ false = ne_eqb y x (λ z. omega arith) in rw e fy) (grind (arith, nat_tests)) (λ v h ne. let e : eqb v y ≡ false = ne_eqb v y ne in rw e refl) in
    omega (arith, count-le w n)

-- the ring around: v, the path back from index top of the queue, turned round, and c
abbrev pub ringed : ℕ → ℕ → (ℕ → ℕ) → (ℕ → ℕ) → ℕ → ℕ → ℕ → ℕ
ringed v c q m top d i = cond (eqb i 0) v (cond (leb i (d + 1)) (q (back q m top (d + 1 - i))) c)

pub ringed_path : (v c : ℕ) (q m : ℕ → ℕ) (top d i : ℕ) → 1 ≤ i → i ≤ d + 1 → ringed v c q m top d i ≡ q (back q m top (d + 1 - i))
ringed_path v c q m top d i lo hi = rw (ne_eqb i 0 (λ e. omega arith), le-leb i (d + 1) hi) refl

pub ringed_last : (v c : ℕ) (q m : ℕ → ℕ) (top d i : ℕ) → d + 1 < i → ringed v c q m top d i ≡ c
ringed_last v c q m top d i hi = rw (ne_eqb i 0 (λ e. omega arith), lt-leb i (d + 1) hi) refl

-- index top of the queue is the first whose junction is joined to c, and the front is d forerunners back
pub record Closes (p : Plan) (c : ℕ) (q m : ℕ → ℕ) (size top d : ℕ) : Type 0 where
  pub inside : top < size
  pub joined : p.joins (q top) c ≡ true
  pub first : (j : ℕ) → j < top → p.joins (q j) c ≡ false
  pub front : back q m top d ≡ 0
  pub before : (j : ℕ) → j < d → 0 < back q m top j

module _ (p : Plan) (sound : Sound p) (v a c size : ℕ) (q m : ℕ → ℕ) (corner : Corner p v a c) (h : Queue p v a size q m) (top d : ℕ) (k : Closes p c q m size top d) where
  abbrev b : ℕ → ℕ
  b j = back q m top j

  pub below : (j : ℕ) → j ≤ d → back q m top j < size
  below zero l = k.inside
  below (suc j) l =
      let r : b j < size = below j (omega arith) in
      omega (arith, h.before (b j) (k.before j (omega arith)) r)

  falls : (j : ℕ) → j < d → b (suc j) < b j
  falls j l = omega (arith, h.before (b j) (k.before j l) (below j (omega arith)), h.marked (b j) (below j (omega arith)))

  -- further back stands further in front
  further : (i n : ℕ) → i + suc n ≤ d → b (i + suc n) < b i
  further i zero l = let e : i + 1 ≡ suc i = omega arith in rw e (falls i (omega arith))
  further i (suc n) l =
      let e : i + suc (suc n) ≡ suc (i + suc n) = omega arith in
      let r : b (i + suc n) < b i = further i n (omega arith) in
      let f : b (suc (i + suc n)) < b (i + suc n) = falls (i + suc n) (omega arith) in
      rw e (omega arith)

  lower : (i j : ℕ) → i < j → j ≤ d → b j < b i
  lower i j l n = let e : i + suc (j - i - 1) ≡ j = omega arith in rw e at (further i (j - i - 1) (omega arith))

  -- the forerunner of the junction j back is the junction j + 1 back
  fore_joined : (j : ℕ) → j < d → p.joins (q (b (suc j))) (q (b j)) ≡ true
  fore_joined j l = h.joined (b j) (k.before j l) (below j (omega arith))

  fore_apart : (i j : ℕ) → j + 1 < i → i ≤ d → p.joins (q (b i)) (q (b j)) ≡ false
  fore_apart i j l n =
      let f : b i < b (suc j) = lower (suc j) i (omega arith) n in
      h.earliest (b j) (b i) (pos j (omega arith)) (below j (omega arith)) (fore j (omega arith) f)
    where
      pos : (j : ℕ) → j < d → 0 < b j
      pos j l = k.before j l

      fore : (j : ℕ) → j < d → b i < b (suc j) → b i + 1 < m (q (b j))
      fore j l f = omega arith

  top_is : b 0 ≡ top
  top_is = refl

  front_is : b d ≡ 0
  front_is = k.front

  deep : 1 ≤ d
  deep = go (cases_eq d 0)
    where
      go : (d ≡ 0) ⊎ (d ≡ 0 → ⊥) → 1 ≤ d
      go (inr ne) = omega arith
      go (inl e) =
          let z : top ≡ 0 = sym top_is ∙ ap b (sym e) ∙ front_is in
          absurd (both_ways _ corner.open' (sym (ap (λ x. p.joins x c) (ap q z ∙ h.first)) ∙ k.joined))

  abbrev r : ℕ → ℕ
  r i = ringed v c q m top d i

  r_first : r 0 ≡ v
  r_first = refl

  r_path : (i : ℕ) → 1 ≤ i → i ≤ d + 1 → r i ≡ q (b (d + 1 - i))
  r_path i lo hi = ringed_path v c q m top d i lo hi

  r_last : (i : ℕ) → d + 1 < i → r i ≡ c
  r_last i hi = ringed_last v c q m top d i hi

  -- the junctions of the path between a and c are open, and a is its front
  path_open : (i : ℕ) → 2 ≤ i → i ≤ d + 1 → Open p v (r i)
  path_open i lo hi = rw (r_path i (omega arith) hi) (h.free (b (d + 1 - i)) (pos (d + 1 - i) (omega arith)) (below (d + 1 - i) (omega arith)))
    where
      pos : (j : ℕ) → j < d → 0 < b j
      pos j l = k.before j l

  r_front : r 1 ≡ a
  r_front = let e : d + 1 - 1 ≡ d = omega arith in r_path 1 (omega arith) (omega arith) ∙ ap (λ x. q (b x)) e ∙ ap q front_is ∙ h.first

  pub ring_lowest : (i : ℕ) → 0 < i → i < d + 3 → v < r i
  ring_lowest i lo hi = go (cases_eq i 1) (cases_lt (d + 1) i)
    where
      go : (i ≡ 1) ⊎ (i ≡ 1 → ⊥) → (d + 1 < i) ⊎ (i ≤ d + 1) → v < r i
      go (inl e) c' = rw (e, r_front) corner.above
      go (inr ne) (inl l) = rw (r_last i l) (omega (arith, corner.above, corner.between))
      go (inr ne) (inr l) = (path_open i (omega arith) l).above

  pub ring_towards : (i : ℕ) → suc i ≡ d + 3 → r 1 < r i
  ring_towards i e = rw (r_front, r_last i (omega arith)) corner.between

  ring_step : (i j : ℕ) → j ≡ i + 1 → j < d + 3 → p.joins (r i) (r j) ≡ true
  ring_step i j e l = go (cases_eq i 0) (cases_lt (d + 1) j)
    where
      go : (i ≡ 0) ⊎ (i ≡ 0 → ⊥) → (d + 1 < j) ⊎ (j ≤ d + 1) → p.joins (r i) (r j) ≡ true
      go (inl z) x = let o : j ≡ 1 = omega arith in rw (z, o, r_front, r_first) corner.near
      go (inr ne) (inl x) =
          let s : i ≡ d + 1 = omega arith in
          let t : d + 1 - i ≡ 0 = omega arith in
          ap₂ p.joins (r_path i (omega arith) (omega arith) ∙ ap (λ y. q (b y)) t ∙ ap q top_is) (r_last j x) ∙ k.joined
      go (inr ne) (inr x) =
          let t : d + 1 - i ≡ suc (d + 1 - j) = omega arith in
          ap₂ p.joins (r_path i (omega arith) (omega arith) ∙ ap (λ y. q (b y)) t) (r_path j (omega arith) x) ∙ fore_joined (d + 1 - j) (omega arith)

  ring_apart : (i j : ℕ) → i + 1 < j → j < d + 3 → j + 1 < d + 3 + i → p.joins (r i) (r j) ≡ false
  ring_apart i j l n o = go (cases_eq i 0) (cases_lt (d + 1) j)
    where
      go : (i ≡ 0) ⊎ (i ≡ 0 → ⊥) → (d + 1 < j) ⊎ (j ≤ d + 1) → p.joins (r i) (r j) ≡ false
      go (inl z) (inl x) = absurd (omega arith)
      go (inl z) (inr x) = rw (z, r_first) (path_open j (omega arith) x).apart
      go (inr ne) (inl x) =
          let f : b (d + 1 - i) < b 0 = lower 0 (d + 1 - i) (omega arith) (omega arith) in
          ap₂ p.joins (r_path i (omega arith) (omega arith)) (r_last j x) ∙ k.first (b (d + 1 - i)) (omega (arith, top_is))
      go (inr ne) (inr x) = ap₂ p.joins (r_path i (omega arith) (omega arith)) (r_path j (omega arith) x) ∙ fore_apart (d + 1 - i) (d + 1 - j) (omega arith) (omega arith)

  ring_once : (i j : ℕ) → i < j → j < d + 3 → r i ≡ r j → ⊥
  ring_once i j l n e = go (cases_eq i 0) (cases_lt (d + 1) j)
    where
      go : (i ≡ 0) ⊎ (i ≡ 0 → ⊥) → (d + 1 < j) ⊎ (j ≤ d + 1) → ⊥
      go (inl z) x = let f : v ≡ r j = sym r_first ∙ ap r (sym z) ∙ e in omega (arith, ring_lowest j (omega arith) n)
      go (inr ne) (inl x) = last (cases_eq i 1) (e ∙ r_last j x)
        where
          last : (i ≡ 1) ⊎ (i ≡ 1 → ⊥) → r i ≡ c → ⊥
          last (inl o) f = let g : a ≡ c = sym r_front ∙ ap r (sym o) ∙ f in omega (arith, corner.between)
          last (inr o) f = both_ways _ (path_open i (omega arith) (omega arith)).apart (ap (p.joins v) f ∙ corner.far)
      go (inr ne) (inr x) =
          let f : b (d + 1 - j) < size = below (d + 1 - j) (omega arith) in
          h.once (b (d + 1 - i)) (b (d + 1 - j)) (lower (d + 1 - j) (d + 1 - i) (omega arith) (omega arith)) f (sym (r_path i (omega arith) (omega arith)) ∙ e ∙ r_path j (omega arith) x)

  pub ring_round : Round p.joins (d + 3) r
  ring_round = record {
    long = omega (arith, deep);
    step = ring_step;
    close = λ j e. ap₂ p.joins r_first (r_last j (omega arith)) ∙ corner.far;
    apart = ring_apart;
    once = ring_once;
  }

  -- v and c are not in the queue, so there is room for the whole ring
  unmarked_v : m v ≡ 0
  unmarked_v = go (cases_eq (m v) 0)
    where
      at : (i : ℕ) → i < size → q i ≡ v → (i ≡ 0) ⊎ (i ≡ 0 → ⊥) → ⊥
      at i x e (inl z) = let f : a ≡ v = sym h.first ∙ ap q (sym z) ∙ e in omega (arith, corner.above)
      at i x e (inr ne) = omega (arith, (h.free i (omega arith) x).above)

      go : (m v ≡ 0) ⊎ (m v ≡ 0 → ⊥) → m v ≡ 0
      go (inl e) = e
      go (inr ne) =
          let s = sound.inside v (sound.ends v a corner.near).0 in
          let l = h.listed v s.0 s.1 ne in
          absurd (at l.0 l.1 l.2 (cases_eq l.0 0))

  unmarked_c : m c ≡ 0
  unmarked_c = go (cases_eq (m c) 0)
    where
      at : (i : ℕ) → i < size → q i ≡ c → (i ≡ 0) ⊎ (i ≡ 0 → ⊥) → ⊥
      at i x e (inl z) = let f : a ≡ c = sym h.first ∙ ap q (sym z) ∙ e in omega (arith, corner.between)
      at i x e (inr ne) = both_ways _ (h.free i (omega arith) x).apart (ap (p.joins v) e ∙ corner.far)

      go : (m c ≡ 0) ⊎ (m c ≡ 0 → ⊥) → m c ≡ 0
      go (inl e) = e
      go (inr ne) =
          let s = sound.inside c (sound.ends v c corner.far).1 in
          let l = h.listed c s.0 s.1 ne in
          absurd (at l.0 l.1 l.2 (cases_eq l.0 0))

  depth_le : (j : ℕ) → j ≤ d → b j + j ≤ top
  depth_le zero l = omega arith
  depth_le (suc j) l = omega (arith, depth_le j (omega arith), falls j (omega arith))

  pub ring_fits : d + 3 ≤ p.size
  ring_fits =
      let s = sound.inside v (sound.ends v a corner.near).0 in
      let t = sound.inside c (sound.ends v c corner.far).1 in
      let two = two_missing (λ i. not (eqb (m (suc i)) 0)) p.size (v - 1) (c - 1) (omega (arith, s.0, s.1)) (omega (arith, t.0, t.1)) (omega (arith, s.0, corner.above, corner.between)) (missing v s.0 unmarked_v) (missing c t.0 unmarked_c) in
      omega (arith, two, h.counted, depth_le d (omega arith), k.inside)
    where
      missing : (x : ℕ) → 1 ≤ x → m x ≡ 0 → not (eqb (m (suc (x - 1))) 0) ≡ false
      missing x pos e = let f : suc (x - 1) ≡ x = omega arith in not_from_true _ (eq-eqb (m (suc (x - 1))) 0 (ap m f ∙ e))
