-- A junction's label stands for the places of its neighbours, and what that tells of an order by the rule.
use Rattle.std.proofs.Common.{◌≡◌, ℕ, zero, suc, ◌+◌, ◌-◌, ◌<◌, ◌≤◌, Bool, true, false, cond, not, ◌&&◌, ◌||◌, eqb, ◌⊎◌, List, [], ◌∷◌, ◌++◌, length, get_or, drop, fold, Ordering, Less, Greater, sym, refl, ap, ◌∙◌, inl, inr, arith}
use Rattle.std.proofs.lemmas.List.{append-nil, length-drop, get_or-drop}
use Rattle.std.proofs.lemmas.Bool.{both_ways, cases_Bool, cases_eq, cases_lt}
use Rattle.std.proofs.lemmas.Bool.Decides.{nat_tests}
use Rattle.std.specs.Ordering.{ordering_reverse}
use Rattle.label.specs.Laws.{Laws}
use Rattle.label.specs.Marks.{has}
use Rattle.label.specs.Fallen.{has_push}
use Rattle.plan.specs.Plans.{Plan, Sound}
use Rattle.plan.proofs.Orders.{order_of}
use Rattle.search.specs.Rule.{marks, label, outranks, Searched}
use Rattle.search.specs.Theorems.{LateNeighbour, LateNeighbours}
use Rattle.search.proofs.Marking.{folded_append}

module _ (joins : ℕ → ℕ → Bool) (v : ℕ) where
  -- one junction more at the front
  marks_joined : (q u : ℕ) (us : List ℕ) → joins u v ≡ true → marks joins v q (u ∷ us) ≡ marks joins v (suc q) us ++ q ∷ []
  marks_joined q u us h = ap (λ b. marks joins v (suc q) us ++ cond b (q ∷ []) []) h

  marks_apart : (q u : ℕ) (us : List ℕ) → joins u v ≡ false → marks joins v q (u ∷ us) ≡ marks joins v (suc q) us
  marks_apart q u us h = ap (λ b. marks joins v (suc q) us ++ cond b (q ∷ []) []) h ∙ append-nil (marks joins v (suc q) us)

  -- the marks are the places, from q on, of the neighbours
  pub mark_joined : (q x : ℕ) (us : List ℕ) → has (marks joins v q us) x ≡ true → (q ≤ x) × (x < q + length us) × (joins (get_or us (x - q) 0) v ≡ true)
  mark_joined q x [] h = absurd (both_ways false refl h)
  mark_joined q x (u ∷ us) h = go (cases_Bool (joins u v)) (cases_eq q x) (mark_joined (suc q) x us)
    where
      later : (suc q ≤ x) × (x < suc q + length us) × (joins (get_or us (x - suc q) 0) v ≡ true) → (q ≤ x) × (x < q + suc (length us)) × (joins (get_or (u ∷ us) (x - q) 0) v ≡ true)
      later r =
          let e : x - q ≡ suc (x - suc q) = omega (arith, r.0) in
          (omega (arith, r.0), omega (arith, r.1), rw e r.2)

      go : (joins u v ≡ true) ⊎ (joins u v ≡ false) → (q ≡ x) ⊎ (q ≡ x → ⊥) → (has (marks joins v (suc q) us) x ≡ true → (suc q ≤ x) × (x < suc q + length us) × (joins (get_or us (x - suc q) 0) v ≡ true)) → (q ≤ x) × (x < q + suc (length us)) × (joins (get_or (u ∷ us) (x - q) 0) v ≡ true)
      go (inl j) (inl e) rest =
          let z : x - q ≡ 0 = omega arith in
          (omega arith, omega arith, rw z j)
      go (inl j) (inr ne) rest =
          let k : (has (marks joins v (suc q) us) x || eqb q x) ≡ true = sym (has_push q x (marks joins v (suc q) us)) ∙ (ap (λ s. has s x) (sym (marks_joined q u us j)) ∙ h) in
          later (rest (grind (arith, nat_tests)))
      go (inr n) c rest = later (rest (ap (λ s. has s x) (sym (marks_apart q u us n)) ∙ h))

  pub joined_mark : (q i : ℕ) (us : List ℕ) → i < length us → joins (get_or us i 0) v ≡ true → has (marks joins v q us) (q + i) ≡ true
  joined_mark q i [] l j = absurd (omega arith)
  joined_mark q zero (u ∷ us) l j =
      ap (λ s. has s (q + 0)) (marks_joined q u us j) ∙ (has_push q (q + 0) (marks joins v (suc q) us) ∙ (grind (arith, nat_tests)))
  joined_mark q (suc i) (u ∷ us) l j =
      let e : suc q + i ≡ q + suc i = omega arith in
      go (cases_Bool (joins u v)) (rw e at (joined_mark (suc q) i us (omega arith) j))
    where
      go : (joins u v ≡ true) ⊎ (joins u v ≡ false) → has (marks joins v (suc q) us) (q + suc i) ≡ true → has (marks joins v q (u ∷ us)) (q + suc i) ≡ true
      go (inl k) later = ap (λ s. has s (q + suc i)) (marks_joined q u us k) ∙ (has_push q (q + suc i) (marks joins v (suc q) us) ∙ ap (λ b. b || eqb q (q + suc i)) later)
      go (inr k) later = ap (λ s. has s (q + suc i)) (marks_apart q u us k) ∙ later

module _ {L : Type 0} (blank : L) (raised : L → ℕ → L) (compared : L → L → Ordering) (stands : L → List ℕ → Type 0) (law : Laws blank raised compared stands) where
  pub marks_stand : (joins : ℕ → ℕ → Bool) (v q : ℕ) (us : List ℕ) → 1 ≤ q → q + length us ≤ 513 → stands (fold raised blank (marks joins v q us)) (marks joins v q us)
  marks_stand joins v q [] a b = law.empty
  marks_stand joins v q (u ∷ us) a b = go (cases_Bool (joins u v)) (marks_stand joins v (suc q) us (omega arith) (omega arith))
    where
      go : (joins u v ≡ true) ⊎ (joins u v ≡ false) → stands (fold raised blank (marks joins v (suc q) us)) (marks joins v (suc q) us) → stands (fold raised blank (marks joins v q (u ∷ us))) (marks joins v q (u ∷ us))
      go (inl j) rest =
          rw (marks_joined joins v q u us j, folded_append raised blank (marks joins v (suc q) us) (q ∷ []))
          (law.raises (fold raised blank (marks joins v (suc q) us)) (marks joins v (suc q) us) q (grind (arith, nat_tests)) rest (λ x h. (mark_joined joins v (suc q) x us h).0))
      go (inr j) rest = rw (marks_apart joins v q u us j) rest

  -- of two junctions of no higher place than b the one chosen has a late neighbour that the other has not, unless the other's are among its own
  module _ (p : Plan) (us : List ℕ) (sound : Sound p) (s : Searched blank raised compared p us) (a b c : ℕ) (ab : a < b) (bc : b < c) (cn : c < p.size) (ac : p.joins (get_or us a 0) (get_or us c 0) ≡ true) (bc-apart : p.joins (get_or us b 0) (get_or us c 0) ≡ false) where
    long : length us ≡ p.size
    long = (order_of p.size us s.order).long

    -- the marks of a junction when b was chosen
    early : ℕ → List ℕ
    early v = marks p.joins v (suc (suc b)) (drop (suc b) us)

    mark_of : (v x : ℕ) → has (early v) x ≡ true → (b < x - 1) × (x - 1 < p.size) × (suc (x - 1) ≡ x) × (p.joins (get_or us (x - 1) 0) v ≡ true)
    unfolding early
    mark_of v x h =
        let r : (suc (suc b) ≤ x) × (x < suc (suc b) + length (drop (suc b) us)) × (p.joins (get_or (drop (suc b) us) (x - suc (suc b)) 0) v ≡ true) = mark_joined p.joins v (suc (suc b)) x (drop (suc b) us) h in
        let e : suc b + (x - suc (suc b)) ≡ x - 1 = omega (arith, r.0) in
        let n : length (drop (suc b) us) ≡ length us - suc b = length-drop (suc b) us in
        let j : get_or (drop (suc b) us) (x - suc (suc b)) 0 ≡ get_or us (suc b + (x - suc (suc b))) 0 = get_or-drop (suc b) us (x - suc (suc b)) 0 in
        let i : get_or (drop (suc b) us) (x - suc (suc b)) 0 ≡ get_or us (x - 1) 0 = j ∙ ap (λ k. get_or us k 0) e in
        (omega (arith, r.0), omega (arith, r.0, r.1, n, long), omega (arith, r.0), ap (λ w. p.joins w v) (sym i) ∙ r.2)

    mark_at : (v d : ℕ) → b < d → d < p.size → p.joins (get_or us d 0) v ≡ true → has (early v) (suc d) ≡ true
    unfolding early
    mark_at v d l h j =
        let e : suc b + (d - suc b) ≡ d = omega arith in
        let k : get_or (drop (suc b) us) (d - suc b) 0 ≡ get_or us d 0 = get_or-drop (suc b) us (d - suc b) 0 ∙ ap (λ i. get_or us i 0) e in
        let m : has (marks p.joins v (suc (suc b)) (drop (suc b) us)) (suc (suc b) + (d - suc b)) ≡ true = joined_mark p.joins v (suc (suc b)) (d - suc b) (drop (suc b) us) (omega (arith, length-drop (suc b) us, long)) (ap (λ w. p.joins w v) k ∙ j) in
        let f : suc (suc b) + (d - suc b) ≡ suc d = omega arith in
        rw f at m

    stand : (v : ℕ) → stands (label blank raised p.joins us (suc b) v) (early v)
    unfolding early
    stand v = marks_stand p.joins v (suc (suc b)) (drop (suc b) us) (omega arith) (omega (arith, length-drop (suc b) us, long, sound.few))

    -- is d such a late neighbour?
    late : ℕ → Bool
    late d = p.joins (get_or us b 0) (get_or us d 0) && not (p.joins (get_or us a 0) (get_or us d 0))

    found : (n : ℕ) → n ≤ p.size → ((d : ℕ) × (b < d) × (d < p.size) × (late d ≡ true)) ⊎ ((d : ℕ) → b < d → d < n → late d ≡ false)
    found zero h = inr (λ d x y. absurd (omega arith))
    found (suc n) h = go (found n (omega arith)) (cases_Bool (late n)) (cases_lt b n)
      where
        go : ((d : ℕ) × (b < d) × (d < p.size) × (late d ≡ true)) ⊎ ((d : ℕ) → b < d → d < n → late d ≡ false) → (late n ≡ true) ⊎ (late n ≡ false) → (b < n) ⊎ (n ≤ b) → ((d : ℕ) × (b < d) × (d < p.size) × (late d ≡ true)) ⊎ ((d : ℕ) → b < d → d < suc n → late d ≡ false)
        go (inl r) x y = inl r
        go (inr none) (inl x) (inl y) = inl (n, y, omega arith, x)
        go (inr none) x (inr y) = inr (λ d u w. none d u (omega arith))
        go (inr none) (inr x) (inl y) = inr (λ d u w. pick d u w (cases_eq d n))
          where
            pick : (d : ℕ) → b < d → d < suc n → (d ≡ n) ⊎ (d ≡ n → ⊥) → late d ≡ false
            pick d u w (inl e) = ap late e ∙ x
            pick d u w (inr ne) = none d u (omega arith)

    -- without one, the marks of b would all be marks of a, which has c's besides
    none_absurd : ((d : ℕ) → b < d → d < p.size → late d ≡ false) → ⊥
    unfolding late
    none_absurd none =
        let less : compared (label blank raised p.joins us (suc b) (get_or us b 0)) (label blank raised p.joins us (suc b) (get_or us a 0)) ≡ Less
        = law.fewer (label blank raised p.joins us (suc b) (get_or us b 0)) (label blank raised p.joins us (suc b) (get_or us a 0)) (early (get_or us b 0)) (early (get_or us a 0)) (suc c) (stand (get_or us b 0)) (stand (get_or us a 0)) sub (mark_at (get_or us a 0) c bc cn (sound.alike (get_or us c 0) (get_or us a 0) ∙ ac)) (off (cases_Bool (has (early (get_or us b 0)) (suc c)))) in
        let turned : compared (label blank raised p.joins us (suc b) (get_or us a 0)) (label blank raised p.joins us (suc b) (get_or us b 0)) ≡ Greater = law.turns (label blank raised p.joins us (suc b) (get_or us b 0)) (label blank raised p.joins us (suc b) (get_or us a 0)) ∙ ap ordering_reverse less in
        let g : outranks (compared (label blank raised p.joins us (suc b) (get_or us a 0)) (label blank raised p.joins us (suc b) (get_or us b 0))) (get_or us b 0) (get_or us a 0) ≡ true = s.greatest b a ab (omega arith) in
        both_ways false refl (rw turned at g)
      where
        sub : (x : ℕ) → has (early (get_or us b 0)) x ≡ true → has (early (get_or us a 0)) x ≡ true
        sub x h =
            let r : (b < x - 1) × (x - 1 < p.size) × (suc (x - 1) ≡ x) × (p.joins (get_or us (x - 1) 0) (get_or us b 0) ≡ true) = mark_of (get_or us b 0) x h in
            let q : (p.joins (get_or us b 0) (get_or us (x - 1) 0) && not (p.joins (get_or us a 0) (get_or us (x - 1) 0))) ≡ false = none (x - 1) r.0 r.1 in
            let j : p.joins (get_or us b 0) (get_or us (x - 1) 0) ≡ true = sound.alike (get_or us b 0) (get_or us (x - 1) 0) ∙ r.3 in
            let k : p.joins (get_or us a 0) (get_or us (x - 1) 0) ≡ true = grind (arith, nat_tests) in
            let m : has (early (get_or us a 0)) (suc (x - 1)) ≡ true = mark_at (get_or us a 0) (x - 1) r.0 r.1 (sound.alike (get_or us (x - 1) 0) (get_or us a 0) ∙ k) in
            rw r.2 at m

        off : (has (early (get_or us b 0)) (suc c) ≡ true) ⊎ (has (early (get_or us b 0)) (suc c) ≡ false) → has (early (get_or us b 0)) (suc c) ≡ false
        off (inr h) = h
        off (inl h) =
            let r : (b < suc c - 1) × (suc c - 1 < p.size) × (suc (suc c - 1) ≡ suc c) × (p.joins (get_or us (suc c - 1) 0) (get_or us b 0) ≡ true) = mark_of (get_or us b 0) (suc c) h in
            let e : suc c - 1 ≡ c = omega arith in
            let j : p.joins (get_or us c 0) (get_or us b 0) ≡ true = rw e at r.3 in
            absurd (both_ways (p.joins (get_or us b 0) (get_or us c 0)) bc-apart (sound.alike (get_or us b 0) (get_or us c 0) ∙ j))

    pub late_neighbour_lem : LateNeighbour p us a b
    unfolding late
    late_neighbour_lem = go (found p.size (omega arith))
      where
        go : ((d : ℕ) × (b < d) × (d < p.size) × ((p.joins (get_or us b 0) (get_or us d 0) && not (p.joins (get_or us a 0) (get_or us d 0))) ≡ true)) ⊎ ((d : ℕ) → b < d → d < p.size → late d ≡ false) → LateNeighbour p us a b
        go (inl r) =
            record { place = r.0; above = r.1; inside = r.2; joined = grind (arith, nat_tests); apart = grind (arith, nat_tests) }
        go (inr none) = absurd (none_absurd none)

  pub late_neighbours_lem : LateNeighbours blank raised compared
  late_neighbours_lem p us sound s a b c ab bc cn x y = late_neighbour_lem p us sound s a b c ab bc cn x y
