-- A walk over the neighbours below, past those that are shut.
use Rattle.std.proofs.Common.{◌≡◌, ℕ, ◌<◌, ◌≤◌, Bool, true, false, ◌⊎◌, List, [], ◌∷◌, Some, None, Option, ap, sym, subst, ◌∙◌, inl, inr, arith}
use Rattle.std.proofs.lemmas.Bool.{cases_eq, cases_lt}
use Rattle.std.specs.Fn.{CalledAt}
use Rattle.std.specs.Iterator.{Yields, FindsItem}
use Rattle.std.specs.List.{FoldsTo}
use denote.Param.Members.{Mut}
use denote.Ref.{Bor}
use Rattle.plan.specs.Plans.{Plan, Sound, NextNeighbour}
use Rattle.plan.specs.Walks.{Steps}
use Rattle.plan.specs.declared.number.Junction.{Junction}
use Rattle.plan.specs.declared.walk.Walk.{Walk}
use Rattle.plan.proofs.Walks.{Along, goes_along, meets_next}
use Rattle.isolation.specs.Layers.{through}
use Rattle.isolation.specs.Seen.{shut_hides_right, none_below, open_ends_show}

-- between w and last, v has no neighbour through the layer
pub record Scanned (p : Plan) (o : ℕ → Bool) (v w last : ℕ) : Type 0 where
  pub reached : w ≤ last
  pub none : (x : ℕ) → w < x → x ≤ last → (through p o).joins v x ≡ false

module _ (p : Plan) (o : ℕ → Bool) (v w last : ℕ) (seen : Scanned p o v w last) where
  before : (u : Junction) → NextNeighbour p v last (Some u) → (x : ℕ) → w < x → x < u.0 → (through p o).joins v x ≡ false
  before u h x a b = go (cases_lt last x)
    where
      go : (last < x) ⊎ (x ≤ last) → (through p o).joins v x ≡ false
      go (inl l) = none_below p o v x (h.2 x l b)
      go (inr l) = seen.none x a l

  scan_past_shut : (u : Junction) → NextNeighbour p v last (Some u) → o u.0 ≡ false → Scanned p o v w u.0
  scan_past_shut u h s = record { reached = omega (arith, h.0, seen.reached); none = λ x a b. go x a b (cases_eq x u.0) }
    where
      go : (x : ℕ) → w < x → x ≤ u.0 → (x ≡ u.0) ⊎ (x ≡ u.0 → ⊥) → (through p o).joins v x ≡ false
      go x a b (inl e) = shut_hides_right p o v x (ap o e ∙ s)
      go x a b (inr ne) = before u h x a (omega arith)

  scan_finds : Sound p → (u : Junction) → NextNeighbour p v last (Some u) → o v ≡ true → o u.0 ≡ true → NextNeighbour (through p o) v w (Some u)
  scan_finds s u h a b = (omega (arith, h.0, seen.reached), open_ends_show p o s v u.0 a b ∙ h.1, before u h)

  scan_ends : NextNeighbour p v last None → NextNeighbour (through p o) v w None
  scan_ends h u l = go (cases_lt last u)
    where
      go : (last < u) ⊎ (u ≤ last) → (through p o).joins v u ≡ false
      go (inl k) = none_below p o v u (h u k)
      go (inr k) = seen.none u l k

-- s has come past neighbours of v that are shut, and no others
record Past {A : Type 0} (meaning : A → Plan) (p : A) (o : ℕ → Bool) (v : Junction) (w : ℕ) (s : Walk A) : Type 0 where
  along : Along s.plan.now p s.of v
  scanned : Scanned (meaning p) o v.0 w s.last.0

module _ {A : Type 0} (meaning : A → Plan) (p : A) (o : ℕ → Bool) (v : Junction) (w : ℕ) where
  -- what a call of the walk's `next` does
  abbrev pub WalkSteps : Walk A → Option Junction → Walk A → Type 0
  WalkSteps s met t = Steps (meaning s.plan.now) s.of s.last met t.of t.last × (t.plan.now ≡ s.plan.now)

  past_goes_on : (s t : Walk A) (u : Junction) → o u.0 ≡ false → Past meaning p o v w s → WalkSteps s (Some u) t → Past meaning p o v w t
  past_goes_on s t u shut a y = record {
    along = goes_along meaning a.along y;
    scanned = rw y.0.stands (scan_past_shut (meaning p) o v.0 w s.last.0 a.scanned u (meets_next meaning a.along y) shut);
  }

  module _ {F : Type 0} (g : Mut F (Bor Junction × Unit {0}) Bool) (f : F) where
    past_all : ((u : Junction) (q : F) → CalledAt g f u false q → (q ≡ f) × (o u.0 ≡ false)) → (s t : Walk A) (xs : List Junction) (h : F) → Past meaning p o v w s → Yields WalkSteps s xs t → FoldsTo (λ p x q. CalledAt g p x false q) f xs h → Past meaning p o v w t × (h ≡ f)
    past_all quiet s t [] h a y c = (subst (λ x. Past meaning p o v w x) y a, sym c)
    past_all quiet s t (u ∷ xs) h a y c =
        let l = quiet u c.0 c.1 in
        past_all quiet y.0 t xs h (past_goes_on s y.0 u l.1 a y.1) y.2 (subst (λ q. FoldsTo (λ p x q. CalledAt g p x false q) q xs h) l.0 c.2)

    -- the first that is open
    pub first_open : Sound (meaning p) → o v.0 ≡ true → ((u : Junction) (q : F) → CalledAt g f u false q → (q ≡ f) × (o u.0 ≡ false)) → ((u : Junction) (q : F) → CalledAt g f u true q → o u.0 ≡ true) → (s t : Walk A) (r : Option Junction) → s.plan.now ≡ p → s.of ≡ v → s.last.0 ≡ w → FindsItem WalkSteps g s f r t → NextNeighbour (through (meaning p) o) v.0 w r
    first_open k here quiet tells s t None plan_is of_is last_is r =
        let a : Past meaning p o v w s = record { along = record { plan = plan_is; of = of_is }; scanned = record { reached = omega (arith, last_is); none = λ x i j. absurd (omega (arith, last_is)) } } in
        let e = past_all quiet s r.2.0 r.0 r.1 a r.2.1 r.3 in
        scan_ends (meaning p) o v.0 w r.2.0.last.0 e.0.scanned (meets_next meaning e.0.along r.2.2)
    first_open k here quiet tells s t (Some u) plan_is of_is last_is r =
        let a : Past meaning p o v w s = record { along = record { plan = plan_is; of = of_is }; scanned = record { reached = omega (arith, last_is); none = λ x i j. absurd (omega (arith, last_is)) } } in
        let e = past_all quiet s r.2.0 r.0 r.1 a r.2.1 r.3 in
        let b = tells u r.4.0 (subst (λ q. CalledAt g q u true r.4.0) e.1 r.4.1) in
        scan_finds (meaning p) o v.0 w r.2.0.last.0 e.0.scanned k u (meets_next meaning e.0.along r.2.2) here b
