-- A walk along the neighbours of v that are above it.
use Rattle.std.proofs.Common.{◌≡◌, ℕ, ◌+◌, ◌≤◌, List, [], ◌∷◌, length, Some, None, Option, sym, ap, subst, ◌∙◌, arith}
use Rattle.std.specs.Iterator.{Yields, Drains}
use Rattle.plan.specs.declared.number.Junction.{Junction}
use Rattle.plan.specs.declared.walk.Walk.{Walk}
use Rattle.plan.specs.Plans.{Plan, Sound}
use Rattle.plan.specs.Walks.{Steps}
use Rattle.plan.proofs.Walks.{Along, goes_along, meets_next}
use Rattle.image.specs.Writing.{uppers}
use Rattle.image.proofs.Stretches.{More, more}
use Rattle.image.proofs.Uppers.{uppers_none, uppers_end}

-- s has come past `passed` neighbours of v
pub record Past {A : Type 0} (meaning : A → Plan) (p : A) (v : Junction) (s : Walk A) (passed : ℕ) : Type 0 where
  pub along : Along s.plan.now p s.of v
  pub start : v.0 ≤ s.last.0
  pub few : s.last.0 ≤ (meaning p).size
  pub counted : passed ≡ uppers (meaning p) v.0 s.last.0

module _ {A : Type 0} (meaning : A → Plan) where
  -- what a call of the walk's `next` does
  abbrev pub WalkSteps : Walk A → Option Junction → Walk A → Type 0
  WalkSteps s met t = Steps (meaning s.plan.now) s.of s.last met t.of t.last × (t.plan.now ≡ s.plan.now)

  pub past_starts : (p : A) (v : Junction) (s : Walk A) → s.plan.now ≡ p → s.of ≡ v → s.last ≡ v → v.0 ≤ (meaning p).size → Past meaning p v s 0
  past_starts p v s plan_is of_is last_is l =
      record {
        along = record { plan = plan_is; of = of_is };
        start = omega (arith, ap (λ (u : Junction). u.0) last_is);
        few = omega (arith, ap (λ (u : Junction). u.0) last_is);
        counted = rw last_is (sym (uppers_none (meaning p) v.0));
      }

  module _ (p : A) (v : Junction) (s t : Walk A) (passed : ℕ) where
    pub past_meets : Sound (meaning p) → (u : Junction) → Past meaning p v s passed → WalkSteps s (Some u) t → More (meaning p) v.0 s.last.0 u.0
    past_meets k u h w = more (meaning p) k v.0 s.last.0 u h.start (meets_next meaning h.along w)

    pub past_goes_on : Sound (meaning p) → (u : Junction) → Past meaning p v s passed → WalkSteps s (Some u) t → Past meaning p v t (passed + 1)
    past_goes_on k u h w =
        let m : More (meaning p) v.0 s.last.0 u.0 = past_meets k u h w in
        let e = w.0.stands in
        record {
          along = goes_along meaning h.along w;
          start = rw e (omega (arith, m.above, h.start));
          few = rw e m.below;
          counted = rw e (omega (arith, m.one, h.counted));
        }

    pub past_ends : Past meaning p v s passed → WalkSteps s None t → passed ≡ uppers (meaning p) v.0 (meaning p).size
    past_ends h w = h.counted ∙ sym (uppers_end (meaning p) v.0 s.last.0 (meaning p).size h.few (meets_next meaning h.along w))

  -- past every neighbour that a run gave
  past_all : (p : A) (v : Junction) → Sound (meaning p) → (s t : Walk A) (passed : ℕ) (xs : List Junction) → Past meaning p v s passed → Yields WalkSteps s xs t → Past meaning p v t (passed + length xs)
  past_all p v k s t passed [] h y = let e : passed ≡ passed + 0 = omega arith in rw (← e) (subst (λ x. Past meaning p v x passed) y h)
  past_all p v k s t passed (x ∷ xs) h y =
      let e : (passed + 1) + length xs ≡ passed + length (x ∷ xs) = omega arith in
      rw e at (past_all p v k y.0 t (passed + 1) xs (past_goes_on p v s y.0 passed k x h y.1) y.2)

  -- a whole walk gives as many as there are above v
  pub walk_counted : (p : A) (v : Junction) → Sound (meaning p) → (s : Walk A) (xs : List Junction) → Past meaning p v s 0 → Drains WalkSteps s xs → length xs ≡ uppers (meaning p) v.0 (meaning p).size
  walk_counted p v k s xs h d =
      let e : 0 + length xs ≡ length xs = omega arith in
      past_ends p v d.1.0 d.0 (length xs) (rw e at (past_all p v k s d.1.0 0 xs h d.1.1)) d.1.2
