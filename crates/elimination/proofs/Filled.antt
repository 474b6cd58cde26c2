-- The filled graph of an order: it is closed, and it is the least such graph.
use Rattle.std.proofs.Common.{◌≡◌, ℕ, suc, ◌<◌, Bool, true, false, not, ◌&&◌, ◌||◌, eqb, ◌⊎◌, List, [], ◌∷◌, sym, refl, ◌∙◌, inl, inr, arith}
use Rattle.std.proofs.lemmas.Bool.{cases_eq, cases_Bool, or_cases, or_left, or_right, or_from, eq-eqb, ne_eqb, both_ways}
use Rattle.std.proofs.lemmas.Bool.Decides.{nat_tests}
use Rattle.plan.specs.Orders.{place}
use Rattle.plan.proofs.Orders.{place_pos}
use Rattle.elimination.specs.Elimination.{new, eliminated, fill, filled}

-- no junction is joined to itself, and pairs are unordered
pub record Simple (g : ℕ → ℕ → Bool) : Type 0 where
  pub apart : (v : ℕ) → g v v ≡ false
  pub alike : (v w : ℕ) → g v w ≡ g w v

eqb_alike : (v w : ℕ) → eqb v w ≡ eqb w v
eqb_alike v w = grind (arith, nat_tests)

and_alike : (a b c d : Bool) → (a && b && c && d) ≡ (b && a && c && d)
and_alike true true c d = refl
and_alike true false c d = refl
and_alike false true c d = refl
and_alike false false c d = refl

pub new_alike : (g : ℕ → ℕ → Bool) (u v w : ℕ) → Simple g → new g u v w ≡ new g u w v
unfolding new
new_alike g u v w s = rw (s.alike v w, eqb_alike v w) (and_alike (g u v) (g u w) (not (eqb w v)) (not (g w v)))

-- what a new pair says
pub new_parts : (g : ℕ → ℕ → Bool) (u v w : ℕ) → new g u v w ≡ true → (g u v ≡ true) × (g u w ≡ true) × (v ≡ w → ⊥) × (g v w ≡ false)
unfolding new
new_parts g u v w h = grind (arith, nat_tests)

pub new_from : (g : ℕ → ℕ → Bool) (u v w : ℕ) → g u v ≡ true → g u w ≡ true → (v ≡ w → ⊥) → g v w ≡ false → new g u v w ≡ true
unfolding new
new_from g u v w a b c d = rw (a, b, d, ne_eqb v w c) refl

-- a junction without neighbours is in no new pair
pub new_lone : (g : ℕ → ℕ → Bool) (u v w : ℕ) → g u v ≡ false → new g u v w ≡ false
unfolding new
new_lone g u v w h = rw h refl

pub eliminated_away : (g : ℕ → ℕ → Bool) (u v w : ℕ) → (v ≡ u → ⊥) → (w ≡ u → ⊥) → eliminated g u v w ≡ (g v w || new g u v w)
unfolding eliminated
eliminated_away g u v w a b = rw (ne_eqb v u a, ne_eqb w u b) (grind (arith, nat_tests))

pub eliminated_gone : (g : ℕ → ℕ → Bool) (u w : ℕ) → eliminated g u u w ≡ false
unfolding eliminated
eliminated_gone g u w = grind (arith, nat_tests)

pub eliminated_parts : (g : ℕ → ℕ → Bool) (u v w : ℕ) → eliminated g u v w ≡ true → ((g v w ≡ true) ⊎ (new g u v w ≡ true)) × (v ≡ u → ⊥) × (w ≡ u → ⊥)
unfolding eliminated
eliminated_parts g u v w h =
    (or_cases (g v w) (new g u v w) (grind (arith, nat_tests)), grind (arith, nat_tests), grind (arith, nat_tests))

and-swap : (a b c : Bool) → (a && b && c) ≡ (a && c && b)
and-swap a true true = refl
and-swap true true false = refl
and-swap false true false = refl
and-swap true false true = refl
and-swap false false true = refl
and-swap a false false = refl

eliminated_apart : (g : ℕ → ℕ → Bool) (u v : ℕ) → g v v ≡ false → eliminated g u v v ≡ false
unfolding eliminated new
eliminated_apart g u v a = grind (arith, nat_tests)

eliminated_alike : (g : ℕ → ℕ → Bool) (u v w : ℕ) → Simple g → eliminated g u v w ≡ eliminated g u w v
unfolding eliminated
eliminated_alike g u v w s =
    rw (s.alike v w, new_alike g u v w s) (and-swap (g w v || new g u w v) (not (eqb v u)) (not (eqb w u)))

pub eliminated_simple : (g : ℕ → ℕ → Bool) (u : ℕ) → Simple g → Simple (eliminated g u)
eliminated_simple g u s =
    record { apart = λ v. eliminated_apart g u v (s.apart v); alike = λ v w. eliminated_alike g u v w s }

pub fill_alike : (g : ℕ → ℕ → Bool) (us : List ℕ) → Simple g → (v w : ℕ) → fill g us v w ≡ fill g us w v
unfolding fill
fill_alike g [] s v w = refl
fill_alike g (u ∷ us) s v w =
    rw (new_alike g u v w s, fill_alike (eliminated g u) us (eliminated_simple g u s) v w)

eliminated_lone : (g : ℕ → ℕ → Bool) (u : ℕ) → Simple g → (v : ℕ) → ((x : ℕ) → g v x ≡ false) → (x : ℕ) → eliminated g u v x ≡ false
unfolding eliminated new
eliminated_lone g u s v lone x =
    let a : g v x ≡ false = lone x in
    let b : g u v ≡ false = s.alike u v ∙ lone u in
    grind (arith, nat_tests)

-- a junction that no pipe joins is in no fill pair
pub fill_lone : (g : ℕ → ℕ → Bool) (us : List ℕ) → Simple g → (v w : ℕ) → ((x : ℕ) → g v x ≡ false) → fill g us v w ≡ false
unfolding fill
fill_lone g [] s v w lone = refl
fill_lone g (u ∷ us) s v w lone =
    or_from (new g u v w) (fill (eliminated g u) us v w)
    (new_lone g u v w (s.alike u v ∙ lone u))
    (fill_lone (eliminated g u) us (eliminated_simple g u s) v w (eliminated_lone g u s v lone))

new_apart : (g : ℕ → ℕ → Bool) (u v : ℕ) → new g u v v ≡ false
unfolding new
new_apart g u v = grind (arith, nat_tests)

-- no junction makes a fill pair with itself
pub fill_apart : (g : ℕ → ℕ → Bool) (us : List ℕ) (v : ℕ) → fill g us v v ≡ false
unfolding fill
fill_apart g [] v = refl
fill_apart g (u ∷ us) v =
    or_from (new g u v v) (fill (eliminated g u) us v v) (new_apart g u v) (fill_apart (eliminated g u) us v)

-- a fill pair is no pipe
pub fill_no_pipe : (g : ℕ → ℕ → Bool) (us : List ℕ) → Simple g → (v w : ℕ) → fill g us v w ≡ true → g v w ≡ false
unfolding fill
fill_no_pipe g [] s v w h = absurd (both_ways false refl h)
fill_no_pipe g (u ∷ us) s v w h =
    go (or_cases (new g u v w) (fill (eliminated g u) us v w) h) (fill_no_pipe (eliminated g u) us (eliminated_simple g u s) v w)
  where
    gone_left : fill (eliminated g u) us v w ≡ true → v ≡ u → ⊥
    gone_left f e =
        both_ways (fill (eliminated g u) us v w)
        (fill_lone (eliminated g u) us (eliminated_simple g u s) v w (λ x. rw e (eliminated_gone g u x)))
        f

    gone_right : fill (eliminated g u) us v w ≡ true → w ≡ u → ⊥
    gone_right f e =
        both_ways (fill (eliminated g u) us v w)
        (fill_alike (eliminated g u) us (eliminated_simple g u s) v w ∙ fill_lone (eliminated g u) us (eliminated_simple g u s) w v (λ x. rw e (eliminated_gone g u x)))
        f

    go : (new g u v w ≡ true) ⊎ (fill (eliminated g u) us v w ≡ true) → (fill (eliminated g u) us v w ≡ true → eliminated g u v w ≡ false) → g v w ≡ false
    go (inl n) rest = (new_parts g u v w n).3
    go (inr f) rest =
        let e : (g v w || new g u v w) ≡ false = sym (eliminated_away g u v w (gone_left f) (gone_right f)) ∙ rest f in
        grind arith

module _ (g : ℕ → ℕ → Bool) (s : Simple g) where
  pub filled_alike : (us : List ℕ) (v w : ℕ) → filled g us v w ≡ filled g us w v
  unfolding filled
  filled_alike us v w = rw (s.alike v w, fill_alike g us s v w)

  pub filled_pipe : (us : List ℕ) (v w : ℕ) → g v w ≡ true → filled g us v w ≡ true
  unfolding filled
  filled_pipe us v w h = or_left (g v w) (fill g us v w) h

  pub filled_fill : (us : List ℕ) (v w : ℕ) → fill g us v w ≡ true → filled g us v w ≡ true
  unfolding filled
  filled_fill us v w h = or_right (g v w) (fill g us v w) h

  pub filled_cases : (us : List ℕ) (v w : ℕ) → filled g us v w ≡ true → (g v w ≡ true) ⊎ (fill g us v w ≡ true)
  unfolding filled
  filled_cases us v w h = or_cases (g v w) (fill g us v w) h

  pub filled_new : (u : ℕ) (us : List ℕ) (v w : ℕ) → new g u v w ≡ true → filled g (u ∷ us) v w ≡ true
  unfolding fill
  filled_new u us v w h =
      filled_fill (u ∷ us) v w (or_left (new g u v w) (fill (eliminated g u) us v w) h)

  -- the first junction's neighbours are those by pipes
  pub filled_first : (u : ℕ) (us : List ℕ) (w : ℕ) → filled g (u ∷ us) u w ≡ g u w
  unfolding filled fill
  filled_first u us w =
      let a : new g u u w ≡ false = new_lone g u u w (s.apart u) in
      let b : fill (eliminated g u) us u w ≡ false = fill_lone (eliminated g u) us (eliminated_simple g u s) u w (eliminated_gone g u) in
      rw (a, b) (grind arith)

  -- elsewhere the filled graph is that of what is left once the first is eliminated
  pub filled_rest : (u : ℕ) (us : List ℕ) (v w : ℕ) → (v ≡ u → ⊥) → (w ≡ u → ⊥) → filled g (u ∷ us) v w ≡ filled (eliminated g u) us v w
  unfolding filled fill
  filled_rest u us v w a b = rw (eliminated_away g u v w a b) (grind arith)

place_here : (u : ℕ) (us : List ℕ) → place (u ∷ us) u ≡ 1
place_here u us = rw (eq-eqb u u refl)

place_there : (u : ℕ) (us : List ℕ) (v : ℕ) → (v ≡ u → ⊥) → place (u ∷ us) v ≡ suc (place us v)
place_there u us v ne = rw (ne_eqb u v (λ e. ne (sym e)))

-- a later place is not that of the first
later_apart : (u : ℕ) (us : List ℕ) (v w : ℕ) → place (u ∷ us) v < place (u ∷ us) w → w ≡ u → ⊥
later_apart u us v w h e =
    let one : place (u ∷ us) w ≡ 1 = rw e (place_here u us) in
    omega (arith, place_pos (u ∷ us) v)

-- closed: two later neighbours of a junction are joined
pub filled_closed : (g : ℕ → ℕ → Bool) (us : List ℕ) → Simple g → (v a b : ℕ) → filled g us v a ≡ true → filled g us v b ≡ true → place us v < place us a → place us v < place us b → (a ≡ b → ⊥) → filled g us a b ≡ true
filled_closed g [] s v a b h k p q ne = absurd (omega arith)
filled_closed g (u ∷ us) s v a b h k p q ne =
    go (cases_eq v u) (filled_closed (eliminated g u) us (eliminated_simple g u s) v a b)
  where
    a≢u : a ≡ u → ⊥
    a≢u = later_apart u us v a p

    b≢u : b ≡ u → ⊥
    b≢u = later_apart u us v b q

    here : g u a ≡ true → g u b ≡ true → filled g (u ∷ us) a b ≡ true
    here x y = elim (cases_Bool (g a b)) [ inl t ↦ filled_pipe g s (u ∷ us) a b t | inr f ↦ filled_new g s u us a b (new_from g u a b x y ne f) ]

    go : (v ≡ u) ⊎ (v ≡ u → ⊥) → (filled (eliminated g u) us v a ≡ true → filled (eliminated g u) us v b ≡ true → place us v < place us a → place us v < place us b → (a ≡ b → ⊥) → filled (eliminated g u) us a b ≡ true) → filled g (u ∷ us) a b ≡ true
    go (inl e) rest = here (sym (filled_first g s u us a) ∙ rw e at h) (sym (filled_first g s u us b) ∙ rw e at k)
    go (inr away) rest =
        filled_rest g s u us a b a≢u b≢u ∙
        rest (sym (filled_rest g s u us v a away a≢u) ∙ h) (sym (filled_rest g s u us v b away b≢u) ∙ k)
        (omega (arith, place_there u us v away, place_there u us a a≢u))
        (omega (arith, place_there u us v away, place_there u us b b≢u))
        ne

-- G is closed: two later neighbours of a junction are joined
abbrev pub Closed : List ℕ → (ℕ → ℕ → Type 0) → Type 0
Closed us G = (v a b : ℕ) → G v a → G v b → place us v < place us a → place us v < place us b → (a ≡ b → ⊥) → G a b

-- least: every closed G that has the pipes has the filled graph
pub filled_least : (g : ℕ → ℕ → Bool) (us : List ℕ) → Simple g → (G : ℕ → ℕ → Type 0) → ((v w : ℕ) → g v w ≡ true → G v w) → Closed us G → (v w : ℕ) → filled g us v w ≡ true → G v w
unfolding filled fill
filled_least g [] s G has closed v w h = has v w (elim (or_cases (g v w) false h) [ inl t ↦ t | inr f ↦ absurd (both_ways false refl f) ])
filled_least g (u ∷ us) s G has closed v w h =
    go (cases_eq v u) (cases_eq w u)
    (filled_least (eliminated g u) us (eliminated_simple g u s) (λ x y. G x y × (x ≡ u → ⊥) × (y ≡ u → ⊥)) has' closed' v w)
  where
    joined : (x y : ℕ) → new g u x y ≡ true → (x ≡ u → ⊥) → (y ≡ u → ⊥) → G x y
    joined x y n a b =
        let p : (g u x ≡ true) × (g u y ≡ true) × (x ≡ y → ⊥) × (g x y ≡ false) = new_parts g u x y n in
        closed u x y (has u x p.0) (has u y p.1)
        (omega (arith, place_here u us, place_there u us x a, place_pos us x))
        (omega (arith, place_here u us, place_there u us y b, place_pos us y))
        p.2

    has' : (x y : ℕ) → eliminated g u x y ≡ true → G x y × (x ≡ u → ⊥) × (y ≡ u → ⊥)
    has' x y e =
        let p : ((g x y ≡ true) ⊎ (new g u x y ≡ true)) × (x ≡ u → ⊥) × (y ≡ u → ⊥) = eliminated_parts g u x y e in
        let q : G x y = elim p.0 [ inl t ↦ has x y t | inr n ↦ joined x y n p.1 p.2 ] in
        (q, p.1, p.2)

    closed' : (x a b : ℕ) → G x a × (x ≡ u → ⊥) × (a ≡ u → ⊥) → G x b × (x ≡ u → ⊥) × (b ≡ u → ⊥) → place us x < place us a → place us x < place us b → (a ≡ b → ⊥) → G a b × (a ≡ u → ⊥) × (b ≡ u → ⊥)
    closed' x a b i j p q ne = (
      closed x a b i.0 j.0
          (omega (arith, place_there u us x i.1, place_there u us a i.2))
          (omega (arith, place_there u us x i.1, place_there u us b j.2))
          ne,
      i.2,
      j.2,
    )

    first : filled g (u ∷ us) v w ≡ true → v ≡ u → G v w
    first f e = has v w (rw e (sym (filled_first g s u us w) ∙ rw e at f))

    go : (v ≡ u) ⊎ (v ≡ u → ⊥) → (w ≡ u) ⊎ (w ≡ u → ⊥) → (filled (eliminated g u) us v w ≡ true → G v w × (v ≡ u → ⊥) × (w ≡ u → ⊥)) → G v w
    go (inl e) k rest = first h e
    go (inr a) (inl e) rest = has v w (rw e (s.alike v u ∙ sym (filled_first g s u us v) ∙ filled_alike g s (u ∷ us) u v ∙ rw e at h))
    go (inr a) (inr b) rest = (rest (sym (filled_rest g s u us v w a b) ∙ h)).0
